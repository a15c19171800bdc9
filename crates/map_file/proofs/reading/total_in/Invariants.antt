-- `map_file::reading::total_in` meets its contract. Assumes nothing.
use Rattle.diagonals.specs.Maps.{pair_words}
use Rattle.diagonals.specs.Laws.Checking.{Checking}
use Rattle.map_file.specs.Files.{map_in}
use Rattle.map_file.proofs.reading.total_in.Given as goal

abbrev pub invariant-loop-pair : goal.invariant-loop-pair
invariant-loop-pair l = Checking l.slots l.count (pair_words (map_in l.bytes)) l.total l.next l.pair-index
