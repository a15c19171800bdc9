-- `diagonals::pairs::has_pairs` meets its contract. Assumes nothing.
use Rattle.diagonals.specs.Laws.Pairs.{room_halves}
use Rattle.diagonals.proofs.pairs.has_pairs.Goals as goal

pub returns : goal.returns
returns c = room_halves _ _
