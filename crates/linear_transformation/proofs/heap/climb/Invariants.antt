-- `linear_transformation::heap::climb` meets its contract. Assumes nothing.
use Rattle.linear_transformation.proofs.Heaps.{Climbs}
use Rattle.linear_transformation.proofs.heap.climb.Given as goal

abbrev pub invariant-loop-h : goal.invariant-loop-h
invariant-loop-h l = Climbs l.size l.initial.nodes l.nodes l.h

abbrev pub decreases-loop-h : goal.decreases-loop-h
decreases-loop-h l = l.h
