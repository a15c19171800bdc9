-- `linear_transformation::widths::smallest_gap` meets its contract. Assumes nothing.
use Rattle.linear_transformation.proofs.Weighings.{Narrowing}
use Rattle.linear_transformation.proofs.widths.smallest_gap.Given as goal

abbrev pub invariant-loop-pair : goal.invariant-loop-pair
invariant-loop-pair l = Narrowing l.ds l.pair-iterator.rest.now l.pair-iterator.size l.gap
