-- `maps::values::write_skewed` meets its contract. Assumes nothing.
use Rattle.std.proofs.Common.{◌^◌}
use Rattle.ring.specs.Vectors.{Filling}
use Rattle.maps.specs.Steps.Values.{turns_rows, skewed_at}
use Rattle.maps.proofs.values.write_skewed.Given as goal

abbrev pub invariant-loop-t : goal.invariant-loop-t
invariant-loop-t l = Filling (skewed_at (turns_rows l.skew) (2 ^ l.side.log_d) l.b) l.fn.out l.out l.t
