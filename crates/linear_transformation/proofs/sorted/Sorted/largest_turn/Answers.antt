-- `linear_transformation::sorted::Sorted::largest_turn` meets its contract. Assumes nothing.
use borrow.Author.Rules.{rules}
use Rattle.linear_transformation.proofs.Plannings.{going_first, going_on, run_inside, run_now}
use Rattle.linear_transformation.proofs.Keyings.{topping_none, topping_more, plan_giant}
use Rattle.linear_transformation.proofs.Facts.{diagonals, sizable}
use Rattle.linear_transformation.proofs.sorted.Sorted.largest_turn.Goals as goal

pub loop-run-init : goal.loop-run-init
loop-run-init c =
    let g = going_first (diagonals c.args.self.now) c.runs-run-items.ensures c.into_iter-run-iterator.ensures.into_iter_gives in
    (g.0, rw g.1 (topping_none _ _ _))

pub digit_at-requires : goal.digit_at-requires
digit_at-requires c = rw (c.steps-steps.ensures.0, c.steps-steps.ensures.1) (plan_giant (sizable c.args.self.now) (run_inside c.loop-run.invariant.0.2 c.in-Some.ensures.steps) (run_now c.loop-run.invariant.0.2 c.in-Some.ensures.steps))

pub loop-run-preserved : goal.loop-run-preserved
loop-run-preserved c = (going_on c.loop-run.invariant.0 c.in-Some.ensures.steps, topping_more c.loop-run.invariant.1 (sizable c.args.self.now) (run_inside c.loop-run.invariant.0.2 c.in-Some.ensures.steps) (run_now c.loop-run.invariant.0.2 c.in-Some.ensures.steps) (rw (c.steps-steps.ensures.0, c.steps-steps.ensures.1) at c.digit_at.ensures) c.magnitude.ensures (search rules))
