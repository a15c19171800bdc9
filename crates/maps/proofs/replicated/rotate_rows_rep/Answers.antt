-- `maps::replicated::rotate_rows_rep` meets its contract. Assumes nothing.
use Rattle.std.proofs.Common.{◌≡◌, Err, rules}
use Rattle.maps.specs.Laws.Tiling.{rows_are}
use Rattle.maps.specs.Laws.Blocks.{rows_no_room, rows_shifted}
use Rattle.maps.proofs.replicated.rotate_rows_rep.Goals as goal

pub returns-in_err-check_room : goal.returns-in_err-check_room
returns-in_err-check_room c =
    let t = c.check_tiles.ensures.accepted _ c.in_ok-check_tiles.was in
    let e : c.from_residual-in_err-check_room.result ≡ Err c.in_err-check_room.field-0.0 = search rules in
    rw e (rows_no_room _ _ _ _ _ t.none (rows_are t c.rows-d.ensures) c.if-k-lt1.false c.if-d-k.false c.check_room.ensures c.in_err-check_room.was)

pub returns : goal.returns
returns c =
    let t = c.check_tiles.ensures.accepted _ c.in_ok-check_tiles.was in
    rows_shifted _ _ _ _ _ t.none (rows_are t c.rows-d.ensures) c.if-k-lt1.false c.if-d-k.false c.check_room.ensures c.in_ok-check_room.was c.put_pair.ensures
