-- `ring::copy_into` meets its contract. Assumes nothing.
use Rattle.ring.proofs.Copying.{Copying}
use Rattle.ring.proofs.copy_into.Given as goal

abbrev pub invariant-loop-at : goal.invariant-loop-at
invariant-loop-at g l = Copying l.src l.fn.out l.out l.at
