-- Document 01, "Periods": the smallest p dividing the length with v[t] = v[t mod p] for all t.
-- Assumes nothing.
use Rattle.std.specs.Prelude.{◌≡◌, ℕ, ◌%◌, ◌<◌, ◌≤◌, Bool, ◌&&◌, List, length, nat_eq, slice_index}
use Rattle.std.specs.Int.{◌∣◌}
use Rattle.ring.specs.Searches.{least, every}
use Rattle.ring.specs.Divisors.{divides}

-- v[t] = v[t mod p] for each t < n
unfoldable pub repeats : List ℕ → ℕ → ℕ → Bool
repeats v p n = every (λ t. nat_eq (slice_index v t) (slice_index v (t % p))) n

-- p divides the length, and the vector repeats with p
unfoldable pub is_period : List ℕ → ℕ → Bool
is_period v p = divides p (length v) && repeats v p (length v)

-- the smallest p ≥ 1 that divides the length and with which the vector repeats
unfoldable pub min_period : List ℕ → ℕ
min_period v = least (is_period v) (length v)

-- the meaning of the test: there are elements, p divides their number, and each is the one at its place mod p
pub record IsPeriod (v : List ℕ) (p : ℕ) : Type 0 where
  pub some : 1 ≤ length v
  pub divides : p ∣ length v
  pub repeats : (t : ℕ) → t < length v → slice_index v t ≡ slice_index v (t % p)
