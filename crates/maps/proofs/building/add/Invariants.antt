-- `maps::building::add` meets its contract. Assumes nothing.
use Rattle.std.proofs.Common.{◌≡◌}
use Rattle.ring.specs.Slots.{modulus}
use Rattle.maps.specs.Steps.Building.{Placed}
use Rattle.maps.proofs.building.add.Given as goal

abbrev pub invariant-loop-t : goal.invariant-loop-t
invariant-loop-t g l =
    let m = g.T.Summands in
    Placed modulus l.slots (m.period l.map) (m.summand l.map) (m.width l.map) l.places l.t l.initial.values l.values × (l.t-end ≡ m.period l.map)
