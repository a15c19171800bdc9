-- `ring::count_marks` meets its contract. Assumes nothing.
use Rattle.std.proofs.Common.{min}
use Rattle.ring.specs.Marks.{marks}
use Rattle.ring.proofs.Counting.{Counting}
use Rattle.ring.proofs.count_marks.Given as goal

abbrev pub invariant-loop-marked : goal.invariant-loop-marked
invariant-loop-marked l = Counting (marks l.seen) (min l.n 65536) l.count l.marked-index
