-- `runs::nodes::Sums::make_nodes` meets its contract. Assumes nothing.
use Rattle.runs.proofs.GiantNodes.{Noding}
use Rattle.runs.proofs.nodes.Sums.make_nodes.Given as goal

abbrev pub invariant-loop-slot : goal.invariant-loop-slot
invariant-loop-slot l = Noding l.self.parts.babies.now l.self.parts.giants.now l.self.parts.cuts.now l.self.map.pairs.now l.self.map.values.now l.self.input.now l.self.cache.now l.initial.nodes l.nodes l.slot
