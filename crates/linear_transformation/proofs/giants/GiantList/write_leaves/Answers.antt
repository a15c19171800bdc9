-- `linear_transformation::giants::GiantList::write_leaves` meets its contract. Assumes nothing.
use borrow.Author.Rules.{rules}
use Rattle.linear_transformation.proofs.Listings.{leaves_none, leaves_more, leaves_done}
use Rattle.linear_transformation.proofs.giants.GiantList.write_leaves.Goals as goal

pub loop-t-init : goal.loop-t-init
loop-t-init c = leaves_none _ _ _ _ _

pub loop-t-preserved : goal.loop-t-preserved
loop-t-preserved c = search (leaves_more, rules)

pub returns : goal.returns
returns c = search (leaves_done, rules)
