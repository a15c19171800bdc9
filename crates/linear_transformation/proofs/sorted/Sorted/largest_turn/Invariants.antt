-- `linear_transformation::sorted::Sorted::largest_turn` meets its contract. Assumes nothing.
use Rattle.linear_transformation.specs.Plans.{width_of}
use Rattle.linear_transformation.proofs.Plannings.{Going}
use Rattle.linear_transformation.proofs.Keyings.{Topping}
use Rattle.linear_transformation.proofs.sorted.Sorted.largest_turn.Given as goal

abbrev pub invariant-loop-run : goal.invariant-loop-run
invariant-loop-run l = Going (width_of l.self.strategy) l.self.ds.now l.run-iterator × Topping l.self.slots (width_of l.self.strategy) l.self.ds.now l.x l.run-iterator.at
