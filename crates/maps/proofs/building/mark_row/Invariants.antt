-- `maps::building::mark_row` meets its contract. Assumes nothing.
use Rattle.std.proofs.Common.{◌≡◌}
use Rattle.maps.proofs.Walks.{MarkingRow}
use Rattle.maps.proofs.building.mark_row.Given as goal

abbrev pub invariant-loop-l : goal.invariant-loop-l
invariant-loop-l g l = let m = g.T.Summands in MarkingRow (m.summand l.map) (m.width l.map) l.slots l.t l.seen l.l × (l.l-end ≡ m.width l.map)
