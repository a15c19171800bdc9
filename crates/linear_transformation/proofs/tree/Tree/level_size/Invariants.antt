-- `linear_transformation::tree::Tree::level_size` meets its contract. Assumes nothing.
use Rattle.linear_transformation.proofs.Tallies.{Tally}
use Rattle.linear_transformation.proofs.Heaps.{has_odd}
use Rattle.linear_transformation.proofs.tree.Tree.level_size.Given as goal

abbrev pub invariant-loop-odd : goal.invariant-loop-odd
invariant-loop-odd l = Tally has_odd l.odd-items l.count l.odd-index
