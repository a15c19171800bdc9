-- `maps::replicated::left_mul_rep` meets its contract. Assumes nothing.
use Rattle.std.proofs.Common.{◌≡◌, ◌*◌, ◌^◌, ◌∙◌, Err, length, length-take-le, rules}
use Rattle.maps.specs.Laws.Tiling.{rows_are, size_is}
use Rattle.maps.specs.Laws.Blocks.{left_no_room, left_written}
use Rattle.maps.proofs.replicated.left_mul_rep.Goals as goal

pub returns-in_err-check_room : goal.returns-in_err-check_room
returns-in_err-check_room c =
    let t = c.check_tiles.ensures.accepted _ c.in_ok-side.was in
    let size = c.if-b-size.false ∙ size_is t c.size.ensures in
    let e : c.from_residual-in_err-check_room.result ≡ Err c.in_err-check_room.field-0.0 = search rules in
    rw e (left_no_room c.args.slots _ _ _ _ t.none size (rw (rows_are t c.rows-d.ensures, size) at c.check_room.ensures) c.in_err-check_room.was)

pub returns : goal.returns
returns c =
    let t = c.check_tiles.ensures.accepted _ c.in_ok-side.was in
    let d = rows_are t c.rows-d.ensures in
    let size = c.if-b-size.false ∙ size_is t c.size.ensures in
    let total : c.rows-d.result * length c.args.b.now ≡ 2 ^ c.args.log_d * (2 ^ c.args.log_d * 2 ^ c.args.log_d) = rw (d, size) in
    let room = c.check_room.ensures.values_fit c.in_ok-check_room.was in
    rw (total, d)
    (left_written c.args.slots _ _ _ _ t.none size (rw (d, size) at c.check_room.ensures) c.in_ok-check_room.was (rw (d, size) at c.write_pairs.ensures) (rw (length-take-le _ _ room, t.log_is, d, size) at c.write_turned.ensures))
