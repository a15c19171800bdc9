-- `linear_transformation::giants::GiantList::largest_digit` meets its contract. Assumes nothing.
use borrow.Author.Rules.{rules}
use Rattle.linear_transformation.proofs.Listings.{measuring_none, measuring_more}
use Rattle.linear_transformation.proofs.giants.GiantList.largest_digit.Goals as goal

pub loop-giant-init : goal.loop-giant-init
loop-giant-init c = measuring_none _ _ _

pub loop-giant-preserved : goal.loop-giant-preserved
loop-giant-preserved c = search (measuring_more, rules)
