-- `runs::tree::Tree::turn_of` meets its contract. Assumes nothing.
use Rattle.std.proofs.Common.{arith}
use Rattle.runs.proofs.Pairing.{turn_small}
use Rattle.runs.proofs.tree.Tree.turn_of.Goals as goal

pub overflow_cast-result : goal.overflow_cast-result
overflow_cast-result c = omega (arith, turn_small c.args.self.now c.requires c.tree_rotation.ensures c.unwrap.ensures)
