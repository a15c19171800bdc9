-- `linear_transformation::sorted::Sorted::mark_turns` meets its contract. Assumes nothing.
use Rattle.linear_transformation.specs.Plans.{width_of}
use Rattle.linear_transformation.proofs.Plannings.{Going}
use Rattle.linear_transformation.proofs.Keyings.{Leafing}
use Rattle.linear_transformation.proofs.sorted.Sorted.mark_turns.Given as goal

abbrev pub invariant-loop-run : goal.invariant-loop-run
invariant-loop-run l = Going (width_of l.self.strategy) l.self.ds.now l.run-iterator × Leafing l.self.slots (width_of l.self.strategy) l.bits l.self.ds.now l.nodes l.run-iterator.at
