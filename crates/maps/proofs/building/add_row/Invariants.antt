-- `maps::building::add_row` meets its contract. Assumes nothing.
use Rattle.std.proofs.Common.{◌≡◌}
use Rattle.maps.proofs.Walks.{SummingRow}
use Rattle.maps.proofs.building.add_row.Given as goal

abbrev pub invariant-loop-l : goal.invariant-loop-l
invariant-loop-l g l =
    let m = g.T.Summands in
    SummingRow (m.summand l.map) (m.width l.map) l.slots l.period l.t l.places l.initial.values l.values l.l × (l.l-end ≡ m.width l.map) × (l.period ≡ m.period l.map)
