-- `linear_transformation::widths::cheapest_multiple` meets its contract. Assumes nothing.
use Rattle.linear_transformation.proofs.Weighings.{Choosing}
use Rattle.linear_transformation.proofs.widths.cheapest_multiple.Given as goal

abbrev pub invariant-loop-width : goal.invariant-loop-width
invariant-loop-width l = Choosing l.slots l.ds l.gap l.stamps l.best l.least l.width
