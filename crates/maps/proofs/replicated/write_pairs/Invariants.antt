-- `maps::replicated::write_pairs` meets its contract. Assumes nothing.
use Rattle.std.proofs.Common.{◌*◌, ◌≤◌}
use Rattle.maps.specs.Laws.Rows.{Pairing}
use Rattle.maps.proofs.replicated.write_pairs.Given as goal

abbrev pub invariant-loop-i : goal.invariant-loop-i
invariant-loop-i l = Pairing (λ j. j * l.d) l.len l.initial.pairs l.pairs l.i × (l.i ≤ l.d)
