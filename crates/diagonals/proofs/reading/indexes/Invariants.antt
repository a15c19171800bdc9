-- `diagonals::reading::indexes` meets its contract: the loop keeps `Filling`. Assumes nothing.
use Rattle.ring.specs.Vectors.{Filling}
use Rattle.diagonals.specs.Maps.{offset_at}
use Rattle.diagonals.proofs.reading.indexes.Given as goal

abbrev pub invariant-loop-i : goal.invariant-loop-i
invariant-loop-i l = Filling (offset_at l.pairs) l.initial.out l.out l.i
