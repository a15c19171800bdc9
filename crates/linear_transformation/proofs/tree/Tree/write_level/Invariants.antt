-- `linear_transformation::tree::Tree::write_level` meets its contract. Assumes nothing.
use Rattle.std.specs.Prelude.{suc, ◌-◌, ◌^◌}
use Rattle.linear_transformation.proofs.Recording.{Pairing}
use Rattle.linear_transformation.proofs.tree.Tree.write_level.Given as goal

abbrev pub invariant-loop-k : goal.invariant-loop-k
invariant-loop-k l = Pairing l.self.nodes.now (2 ^ (l.self.bits - suc l.level)) l.at l.initial.records l.records l.to l.k
