-- `maps::replicated::tau_rep` meets its contract. Assumes nothing.
use Rattle.std.proofs.Common.{◌≡◌, Err, length-take-le, rules}
use Rattle.maps.specs.Laws.Tiling.{rows_are, size_is}
use Rattle.maps.specs.Laws.Blocks.{tau_no_room, tau_written}
use Rattle.maps.proofs.replicated.tau_rep.Goals as goal

pub returns-in_err-check_room : goal.returns-in_err-check_room
returns-in_err-check_room c =
    let t = c.check_tiles.ensures.accepted _ c.in_ok-side.was in
    let e : c.from_residual-in_err-check_room.result ≡ Err c.in_err-check_room.field-0.0 = search rules in
    rw e (tau_no_room c.args.slots _ t.none _ _ (rw (rows_are t c.rows-d.ensures, size_is t c.size-total.ensures) at c.check_room.ensures) c.in_err-check_room.was)

pub returns : goal.returns
returns c =
    let t = c.check_tiles.ensures.accepted _ c.in_ok-side.was in
    let d = rows_are t c.rows-d.ensures in
    let total = size_is t c.size-total.ensures in
    let room = c.check_room.ensures.values_fit c.in_ok-check_room.was in
    rw (d, total)
    (tau_written c.args.slots _ t.none _ _ (rw (d, total) at c.check_room.ensures) c.in_ok-check_room.was (rw d at c.write_pairs.ensures) (rw (length-take-le _ _ room, t.log_is, total) at c.write_masks.ensures))
