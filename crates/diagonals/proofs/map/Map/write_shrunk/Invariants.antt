-- `diagonals::map::Map::write_shrunk` meets its contract. Assumes nothing.
use Rattle.diagonals.proofs.Shrinkage.{Shrinkage}
use Rattle.diagonals.proofs.map.Map.write_shrunk.Given as goal

abbrev pub invariant-loop-n : goal.invariant-loop-n
invariant-loop-n l = Shrinkage l.self.count l.self.pairs.now l.self.values.now l.period l.initial.pairs_out l.pairs_out l.initial.values_out l.values_out l.rest l.at l.n
