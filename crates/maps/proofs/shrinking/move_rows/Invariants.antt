-- `maps::shrinking::move_rows` meets its contract. Assumes nothing.
use Rattle.std.proofs.Common.{◌*◌, ◌≤◌}
use Rattle.ring.specs.Vectors.{Filling}
use Rattle.maps.specs.Steps.Shrinking.{moved_at}
use Rattle.maps.proofs.shrinking.move_rows.Given as goal

abbrev pub invariant-loop-i : goal.invariant-loop-i
invariant-loop-i l = Filling (moved_at l.period l.p l.initial.values) l.initial.values l.values (l.i * l.p) × (l.i ≤ l.count)
