-- `linear_transformation::held::Held::of` meets its contract. Assumes nothing.
use Rattle.linear_transformation.proofs.Missings.{Holding}
use Rattle.linear_transformation.proofs.held.Held.of.Given as goal

abbrev pub invariant-loop-k : goal.invariant-loop-k
invariant-loop-k l = Holding l.held l.seen l.k-index
