-- `linear_transformation::tree::Tree::write_levels` meets its contract. Assumes nothing.
use borrow.Author.Rules.{rules}
use native.Mathlib.Omega.{arith}
use Rattle.linear_transformation.proofs.Heaps.{level_low}
use Rattle.linear_transformation.proofs.Writing.{levelling_none, levelling_more}
use Rattle.linear_transformation.proofs.tree.Tree.write_levels.Goals as goal

pub loop-i-init : goal.loop-i-init
loop-i-init c = (levelling_none _ _ _ _ _)

pub overflow_cast-levels : goal.overflow_cast-levels
overflow_cast-levels c = omega (arith, c.level_size.ensures, level_low c.args.self.now.nodes.now c.loop-i.i c.args.self.now.low)

pub loop-i-preserved : goal.loop-i-preserved
loop-i-preserved c = search (levelling_more, rules)
