-- `runs::giants::turn_giants` meets its contract. Assumes nothing.
use Rattle.std.proofs.Common.{length}
use Rattle.runs.specs.Steps.Giants.{turn_at}
use Rattle.runs.proofs.Joining.{Switching}
use Rattle.runs.proofs.giants.turn_giants.Given as goal

abbrev pub invariant-loop-p : goal.invariant-loop-p
invariant-loop-p l = Switching (turn_at l.giants l.start) l.slots (length l.fn.log) l.initial.nodes l.nodes l.p
