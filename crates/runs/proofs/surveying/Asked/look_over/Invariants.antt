-- `runs::surveying::Asked::look_over` meets its contract. Assumes nothing.
use Rattle.ring.specs.Vectors.{Filling}
use Rattle.diagonals.specs.Maps.{offset_at}
use Rattle.runs.proofs.surveying.Asked.look_over.Given as goal

abbrev pub invariant-loop-i : goal.invariant-loop-i
invariant-loop-i l = Filling (offset_at l.self.map.pairs.now) l.initial.offsets l.offsets l.i
