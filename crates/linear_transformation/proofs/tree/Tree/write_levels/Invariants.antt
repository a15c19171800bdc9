-- `linear_transformation::tree::Tree::write_levels` meets its contract. Assumes nothing.
use Rattle.linear_transformation.proofs.Writing.{Levelling}
use Rattle.linear_transformation.proofs.tree.Tree.write_levels.Given as goal

abbrev pub invariant-loop-i : goal.invariant-loop-i
invariant-loop-i l = Levelling l.self.steps.slots l.self.steps.step l.self.bits l.self.nodes.now l.initial.levels l.levels l.i
