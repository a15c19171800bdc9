-- `maps::replicated::write_turned` meets its contract. Assumes nothing.
use Rattle.std.proofs.Common.{◌*◌, ◌^◌}
use Rattle.ring.specs.Vectors.{Filling}
use Rattle.maps.specs.Steps.Rows.{row_value, turned_at}
use Rattle.maps.proofs.replicated.write_turned.Given as goal

abbrev pub invariant-loop-x : goal.invariant-loop-x
invariant-loop-x l = Filling (row_value (2 ^ l.side.log_d * 2 ^ l.side.log_d) (turned_at (2 ^ l.side.log_d) l.b)) l.fn.out l.out l.x
