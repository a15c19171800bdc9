-- `diagonals::map::Map::entries` meets its contract. Assumes nothing.
use Rattle.std.proofs.Common.{arith}
use Rattle.diagonals.specs.Maps.{pair_room}
use Rattle.diagonals.specs.Laws.Maps.{formed_means}
use Rattle.diagonals.proofs.map.Map.entries.Goals as goal

pub first_pairs-requires : goal.first_pairs-requires
unfolding pair_room
first_pairs-requires c = omega (arith, (formed_means _ _ _ _ c.args.self.now.formed).pairs_inside)
