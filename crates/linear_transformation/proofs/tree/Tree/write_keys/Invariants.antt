-- `linear_transformation::tree::Tree::write_keys` meets its contract. Assumes nothing.
use Rattle.linear_transformation.proofs.Writing.{KeyWriting}
use Rattle.linear_transformation.proofs.tree.Tree.write_keys.Given as goal

abbrev pub invariant-loop-i : goal.invariant-loop-i
invariant-loop-i l = KeyWriting l.self.steps.slots l.self.steps.step l.self.bits l.self.nodes.now l.at l.initial.out l.out l.to l.i
