-- `runs::tree::Tree::node_at` meets its contract. Assumes nothing.
use Rattle.runs.proofs.Pairing.{node_is}
use Rattle.runs.proofs.tree.Tree.node_at.Goals as goal

pub returns : goal.returns
returns c = node_is c.requires c.leaf_of.ensures
