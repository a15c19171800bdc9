-- `diagonals::map::Map::common_period` meets its contract. Assumes nothing.
use Rattle.diagonals.proofs.Folding.{Folding}
use Rattle.diagonals.proofs.map.Map.common_period.Given as goal

abbrev pub invariant-loop-len : goal.invariant-loop-len
invariant-loop-len l = Folding l.self.slots l.self.count l.self.pairs.now l.self.values.now l.period l.rest l.len-index
