-- `maps::values::project` meets its contract. Assumes nothing.
use Rattle.std.proofs.Common.{◌≡◌, Err, length-take-le, rules}
use Rattle.maps.specs.Laws.Skewing.{ones_no_room, ones_written}
use Rattle.maps.proofs.values.project.Goals as goal

pub returns-in_err-check_room : goal.returns-in_err-check_room
returns-in_err-check_room c =
    let e : c.from_residual.result ≡ Err c.in_err-check_room.field-0.0 = search rules in
    rw e (ones_no_room _ _ _ _ c.check_room.ensures c.in_err-check_room.was)

pub returns : goal.returns
returns c = ones_written _ _ _ _ c.check_room.ensures c.in_ok-check_room.was c.put_pair.ensures (rw (length-take-le _ _ (c.check_room.ensures.values_fit c.in_ok-check_room.was)) at c.write_ones.ensures)
