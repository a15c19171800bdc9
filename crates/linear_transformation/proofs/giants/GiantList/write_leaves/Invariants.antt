-- `linear_transformation::giants::GiantList::write_leaves` meets its contract. Assumes nothing.
use Rattle.linear_transformation.proofs.Listings.{LeafWriting}
use Rattle.linear_transformation.proofs.giants.GiantList.write_leaves.Given as goal

abbrev pub invariant-loop-t : goal.invariant-loop-t
invariant-loop-t l = LeafWriting l.self.steps.slots l.self.steps.step l.tree.bits l.self.giants.now l.initial.leaves l.leaves l.t
