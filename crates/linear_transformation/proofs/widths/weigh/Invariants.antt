-- `linear_transformation::widths::weigh` meets its contract. Assumes nothing.
use Rattle.linear_transformation.proofs.Weighings.{Weighing}
use Rattle.linear_transformation.proofs.widths.weigh.Given as goal

abbrev pub invariant-loop-k : goal.invariant-loop-k
invariant-loop-k l = Weighing l.ds l.width l.stamps l.babies l.giants l.edge l.k-index
