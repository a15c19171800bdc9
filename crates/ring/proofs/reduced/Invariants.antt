-- `ring::reduced` meets its contract. The invariant: p is a period that divides the one given. The measure is p.
-- Assumes nothing.
use Prim.Native.Nat.{◌∣◌}
use Rattle.ring.specs.Periods.{IsPeriod}
use Rattle.ring.proofs.reduced.Given as goal

abbrev pub invariant-loop-p : goal.invariant-loop-p
invariant-loop-p l = IsPeriod l.v l.p × (l.p ∣ l.period)

abbrev pub decreases-loop-p : goal.decreases-loop-p
decreases-loop-p l = l.p
