-- `linear_transformation::tree::Tree::write_records` meets its contract. Assumes nothing.
use Rattle.linear_transformation.proofs.Recording.{Recorded}
use Rattle.linear_transformation.proofs.tree.Tree.write_records.Given as goal

abbrev pub invariant-loop-level : goal.invariant-loop-level
invariant-loop-level l = Recorded l.self.bits l.self.nodes.now l.initial.records l.records l.at l.level
