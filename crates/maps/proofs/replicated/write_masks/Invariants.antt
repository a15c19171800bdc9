-- `maps::replicated::write_masks` meets its contract. Assumes nothing.
use Rattle.std.proofs.Common.{◌≡◌, ◌^◌}
use Rattle.ring.specs.Vectors.{Filling}
use Rattle.maps.specs.Steps.Rows.{row_value, mask}
use Rattle.maps.proofs.replicated.write_masks.Given as goal

abbrev pub invariant-loop-x : goal.invariant-loop-x
invariant-loop-x l = Filling (row_value l.d mask) l.fn.out l.out l.x × (l.d ≡ 2 ^ l.fn.side.log_d)
