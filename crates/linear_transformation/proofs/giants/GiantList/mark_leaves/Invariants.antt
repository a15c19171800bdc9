-- `linear_transformation::giants::GiantList::mark_leaves` meets its contract. Assumes nothing.
use Rattle.linear_transformation.proofs.Listings.{Marking}
use Rattle.linear_transformation.proofs.giants.GiantList.mark_leaves.Given as goal

abbrev pub invariant-loop-giant : goal.invariant-loop-giant
invariant-loop-giant l = Marking l.self.steps.slots l.self.steps.step l.bits l.self.giants.now l.nodes l.giant-index
