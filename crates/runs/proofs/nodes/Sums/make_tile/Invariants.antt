-- `runs::nodes::Sums::make_tile` meets its contract. Assumes nothing.
use Rattle.runs.proofs.GiantNodes.{Tiling}
use Rattle.runs.proofs.nodes.Sums.make_tile.Given as goal

abbrev pub invariant-loop-p : goal.invariant-loop-p
invariant-loop-p l = Tiling l.self.parts.babies.now l.self.parts.giants.now l.self.parts.cuts.now l.self.map.pairs.now l.self.map.values.now l.self.input.now l.self.cache.now l.slot l.size l.initial.nodes l.nodes l.values_at l.p
