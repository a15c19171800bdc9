-- What the private steps of `min_period` ask and ensure.
-- Assumes nothing.
use Rattle.std.specs.Prelude.{◌≡◌, ℕ, ◌*◌, ◌≤◌, List, ◌≢◌}
use Rattle.std.specs.Int.{◌∣◌}
use Rattle.ring.specs.Divisors.{gcd_of}
use Rattle.ring.specs.Periods.{IsPeriod}

-- the period with f divided out while the quotient is a period
pub record Reduced (v : List ℕ) (period f r : ℕ) : Type 0 where
  pub still : IsPeriod v r
  pub divides : r ∣ period
  pub done : (k : ℕ) → IsPeriod v k → r ≢ k * f

pub record Divided (whole f : ℕ) : Type 0 where
  pub positive : 1 ≤ whole
  pub factor : 2 ≤ f

-- the factors f divided out: what has none of f's factors still divides
pub record Stripped (whole f r : ℕ) : Type 0 where
  pub divides : r ∣ whole
  pub kept : (k : ℕ) → gcd_of k f ≡ 1 → k ∣ whole → k ∣ r
  pub clean : f ∣ r → ⊥
