-- `diagonals::pairs::check_room` meets its contract. Assumes nothing.
use Rattle.std.proofs.Common.{arith}
use Rattle.diagonals.specs.Maps.{pair_room}
use Rattle.diagonals.specs.Laws.Calls.{room_no_pairs, room_no_values, room_there}
use Rattle.diagonals.proofs.pairs.check_room.Goals as goal
use Rattle.diagonals.proofs.pairs.check_room.Goals.{then-pairs-count-via-then-pairs-count, then-pairs-count-via-else-pairs-count+then-values-total}

pub returns-then-pairs-count : goal.returns-then-pairs-count
unfolding pair_room
returns-then-pairs-count c =
    elim c.then-pairs-count.branch [
      | then-pairs-count-via-then-pairs-count w ↦ room_no_pairs (omega arith)
      | then-pairs-count-via-else-pairs-count+then-values-total w ↦ room_no_values (omega arith)
    ]

pub returns : goal.returns
unfolding pair_room
returns c = room_there (omega arith) (omega arith)
