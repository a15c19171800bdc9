-- `linear_transformation::sorted::Sorted::baby_step` meets its contract. Assumes nothing.
use Rattle.std.proofs.Common.{◌∙◌}
use Rattle.linear_transformation.proofs.Plannings.{dividing_more, dividing_one, dividing_done, step_max}
use Rattle.linear_transformation.proofs.Facts.{diagonals}
use Rattle.linear_transformation.proofs.sorted.Sorted.baby_step.Goals as goal

pub returns-then-common-eq1 : goal.returns-then-common-eq1
returns-then-common-eq1 c = dividing_one c.loop-diagonal.invariant (diagonals c.args.self.now) c.if-common-eq1.true

pub loop-diagonal-preserved : goal.loop-diagonal-preserved
loop-diagonal-preserved c = dividing_more c.loop-diagonal.invariant (diagonals c.args.self.now) c.loop-diagonal-test.true (rw c.width-width.ensures at c.gcd-common.ensures)

pub returns : goal.returns
returns c = dividing_done c.loop-diagonal.invariant (diagonals c.args.self.now) c.loop-diagonal-test.false (c.max.ensures ∙ step_max c.loop-diagonal.common)
