-- `linear_transformation::giants::GiantList::mark_leaves` meets its contract. Assumes nothing.
use borrow.Author.Rules.{rules}
use Rattle.linear_transformation.proofs.Listings.{marking_more}
use Rattle.linear_transformation.proofs.giants.GiantList.mark_leaves.Goals as goal

pub loop-giant-preserved : goal.loop-giant-preserved
loop-giant-preserved c = search (marking_more, rules)
