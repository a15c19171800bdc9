-- `maps::building::mark` meets its contract. Assumes nothing.
use Rattle.std.proofs.Common.{◌≡◌}
use Rattle.diagonals.specs.Building.{MarksOf}
use Rattle.maps.specs.Steps.Building.{rows_upto}
use Rattle.maps.proofs.building.mark.Given as goal

abbrev pub invariant-loop-t : goal.invariant-loop-t
invariant-loop-t g l = let m = g.T.Summands in MarksOf l.slots (rows_upto (m.summand l.map) (m.width l.map) l.t) l.seen × (l.t-end ≡ m.period l.map)
