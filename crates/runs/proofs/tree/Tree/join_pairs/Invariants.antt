-- `runs::tree::Tree::join_pairs` meets its contract. Assumes nothing.
use Rattle.std.proofs.Common.{◌*◌, ◌-◌, length}
use Rattle.runs.proofs.Joining.{Walking}
use Rattle.runs.proofs.tree.Tree.join_pairs.Given as goal

abbrev pub invariant-loop-q : goal.invariant-loop-q
invariant-loop-q l = Walking l.self (length l.initial.log) l.initial.nodes l.nodes l.initial.log l.log l.q l.at

abbrev pub decreases-loop-q : goal.decreases-loop-q
decreases-loop-q l = l.self.bits * length l.self.giants.now - l.at
