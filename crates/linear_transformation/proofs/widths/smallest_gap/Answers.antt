-- `linear_transformation::widths::smallest_gap` meets its contract. Assumes nothing.
use Rattle.linear_transformation.proofs.Weighings.{pair_rises, narrowing_more, narrowing_done}
use Rattle.linear_transformation.proofs.widths.smallest_gap.Goals as goal

pub overflow_sub-pair : goal.overflow_sub-pair
overflow_sub-pair c = pair_rises c.requires.distinct _ _ _ c.loop-pair.invariant c.in-Some.is c.next.ensures.steps

pub loop-pair-preserved : goal.loop-pair-preserved
loop-pair-preserved c = narrowing_more c.requires.distinct _ _ _ c.loop-pair.invariant c.in-Some.is c.next.ensures.steps c.min-gap.ensures

pub returns : goal.returns
returns c = narrowing_done c.requires.distinct c.requires.in_bounds c.loop-pair.invariant c.in-None.ensures.steps.1.0
