-- `ring::stripped` meets its contract. The invariant: what is left divides the whole, and keeps each divisor that has none in common with f.
-- The measure is what is left. Assumes nothing.
use Rattle.std.proofs.Common.{◌≡◌, ℕ}
use Prim.Native.Nat.{◌∣◌}
use Rattle.ring.specs.Divisors.{gcd_of}
use Rattle.ring.proofs.stripped.Given as goal

abbrev pub invariant-loop-rest : goal.invariant-loop-rest
invariant-loop-rest l = (l.rest ∣ l.whole) × ((k : ℕ) → gcd_of k l.f ≡ 1 → k ∣ l.whole → k ∣ l.rest)

abbrev pub decreases-loop-rest : goal.decreases-loop-rest
decreases-loop-rest l = l.rest
