-- `ring::agrees` meets its contract. The invariant: what is passed repeats with q. The measure is what is left up to p.
-- Assumes nothing.
use Rattle.std.proofs.Common.{◌≡◌, ℕ, ◌%◌, ◌<◌, ◌≤◌, get_or}
use Rattle.ring.proofs.agrees.Given as goal

abbrev pub invariant-loop-t : goal.invariant-loop-t
invariant-loop-t l = (l.q ≤ l.t) × ((k : ℕ) → k < l.t → get_or l.v k 0 ≡ get_or l.v (k % l.q) 0)
