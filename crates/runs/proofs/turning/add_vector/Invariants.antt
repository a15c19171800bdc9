-- `runs::turning::add_vector` meets its contract. Assumes nothing.
use Rattle.ring.specs.Vectors.{Filling}
use Rattle.runs.specs.Steps.Keyed.{vector_added}
use Rattle.runs.proofs.turning.add_vector.Given as goal

abbrev pub invariant-loop-s : goal.invariant-loop-s
invariant-loop-s l = Filling (vector_added l.vector l.fn.out) l.fn.out l.out l.s
