-- `linear_transformation::sorted::Sorted::baby_step` meets its contract. Assumes nothing.
use Rattle.linear_transformation.specs.Plans.{width_of}
use Rattle.linear_transformation.proofs.Plannings.{Dividing}
use Rattle.linear_transformation.proofs.sorted.Sorted.baby_step.Given as goal

abbrev pub invariant-loop-diagonal : goal.invariant-loop-diagonal
invariant-loop-diagonal l = Dividing (width_of l.self.strategy) l.self.ds.now l.common l.diagonal-index
