-- `runs::nodes::Sums::make_part` meets its contract. Assumes nothing.
use Rattle.runs.proofs.GiantSums.{Running}
use Rattle.runs.proofs.nodes.Sums.make_part.Given as goal

abbrev pub invariant-loop-offset : goal.invariant-loop-offset
invariant-loop-offset l = Running l.self.parts.babies.now l.giant l.first l.n l.self.map.pairs.now l.self.map.values.now l.self.input.now l.self.cache.now l.slot l.size l.part l.table l.at l.offset-index
