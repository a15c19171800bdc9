-- `diagonals::map::Map::write_rest` meets its contract. Assumes nothing.
use Rattle.std.proofs.Common.{◌+◌, ◌-◌, length}
use Rattle.diagonals.proofs.Turnings.{Turnings}
use Rattle.diagonals.proofs.map.Map.write_rest.Given as goal

abbrev pub invariant-loop-n : goal.invariant-loop-n
invariant-loop-n l = Turnings l.self.slots l.self.count l.first l.self.pairs.now l.self.values.now l.initial.pairs_out l.pairs_out l.initial.values_out l.values_out l.end l.at (l.self.count - length l.yielded) (l.first + length l.yielded)
