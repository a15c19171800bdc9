-- `linear_transformation::sorted::Sorted::mark_turns` meets its contract. Assumes nothing.
use borrow.Author.Rules.{rules}
use Rattle.linear_transformation.proofs.Plannings.{going_first, going_on, run_inside, run_now}
use Rattle.linear_transformation.proofs.Keyings.{leafing_none, leafing_more, plan_giant}
use Rattle.linear_transformation.proofs.Facts.{diagonals, sizable}
use Rattle.linear_transformation.proofs.sorted.Sorted.mark_turns.Goals as goal

pub loop-run-init : goal.loop-run-init
loop-run-init c =
    let g = going_first (diagonals c.args.self.now) c.runs-run-items.ensures c.into_iter-run-iterator.ensures.into_iter_gives in
    (g.0, rw g.1 (leafing_none _ _ _ _ c.requires.blank))

pub leaf_at-l-requires-clause-listed : goal.leaf_at-l-requires-clause-listed
leaf_at-l-requires-clause-listed c = rw (c.steps-steps.ensures.0, c.steps-steps.ensures.1) (plan_giant (sizable c.args.self.now) (run_inside c.loop-run.invariant.0.2 c.in-Some.ensures.steps) (run_now c.loop-run.invariant.0.2 c.in-Some.ensures.steps))

pub loop-run-preserved : goal.loop-run-preserved
loop-run-preserved c = (going_on c.loop-run.invariant.0 c.in-Some.ensures.steps, leafing_more c.loop-run.invariant.1 (sizable c.args.self.now) (run_inside c.loop-run.invariant.0.2 c.in-Some.ensures.steps) (run_now c.loop-run.invariant.0.2 c.in-Some.ensures.steps) c.requires.bits_bound (search rules) (search rules))
