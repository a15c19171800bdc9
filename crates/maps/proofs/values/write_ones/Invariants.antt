-- `maps::values::write_ones` meets its contract. Assumes nothing.
use Rattle.ring.specs.Vectors.{Filling}
use Rattle.maps.specs.Steps.Rows.{ones}
use Rattle.maps.proofs.values.write_ones.Given as goal

abbrev pub invariant-loop-t : goal.invariant-loop-t
invariant-loop-t l = Filling (ones l.n) l.fn.out l.out l.t
