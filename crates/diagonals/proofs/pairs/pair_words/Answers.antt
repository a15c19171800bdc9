-- `diagonals::pairs::pair_words` meets its contract. Assumes nothing.
use Rattle.std.proofs.Common.{arith}
use Rattle.diagonals.specs.Maps.{pair_room}
use Rattle.diagonals.proofs.pairs.pair_words.Goals as goal

pub returns : goal.returns
unfolding pair_room
returns c = omega (arith)
