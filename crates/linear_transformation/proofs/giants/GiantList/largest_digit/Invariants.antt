-- `linear_transformation::giants::GiantList::largest_digit` meets its contract. Assumes nothing.
use Rattle.linear_transformation.proofs.Listings.{Measuring}
use Rattle.linear_transformation.proofs.giants.GiantList.largest_digit.Given as goal

abbrev pub invariant-loop-giant : goal.invariant-loop-giant
invariant-loop-giant l = Measuring l.self.steps.slots l.self.steps.step l.self.giants.now l.x l.giant-index
