-- `runs::products::add_around` meets its contract. Assumes nothing.
use Rattle.std.proofs.Common.{◌-◌}
use Rattle.ring.specs.Vectors.{Filling}
use Rattle.runs.specs.Steps.Plain.{around_added}
use Rattle.runs.proofs.products.add_around.Given as goal

abbrev pub invariant-loop-s : goal.invariant-loop-s
invariant-loop-s l = Filling (around_added l.period l.from l.vector l.initial.part) l.initial.part l.part l.s

abbrev pub decreases-loop-s : goal.decreases-loop-s
decreases-loop-s l = l.n - l.s
