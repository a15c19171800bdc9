-- `maps::shrinking::write_lengths` meets its contract. Assumes nothing.
use Rattle.std.proofs.Common.{◌≤◌}
use Rattle.diagonals.specs.Maps.{offset_at}
use Rattle.maps.specs.Laws.Rows.{Pairing}
use Rattle.maps.proofs.shrinking.write_lengths.Given as goal

abbrev pub invariant-loop-i : goal.invariant-loop-i
invariant-loop-i l = Pairing (offset_at l.initial.pairs) l.p l.initial.pairs l.pairs l.i × (l.i ≤ l.count)
