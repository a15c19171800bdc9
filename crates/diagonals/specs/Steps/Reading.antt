-- What the steps of testing and reading a map ask and ensure.
-- Assumes nothing.
use Rattle.std.specs.Prelude.{◌≡◌, ℕ, ◌<◌, ◌≤◌, Bool, false, List}
use Rattle.std.specs.Int.{◌∣◌}
use Rattle.ring.specs.Refusals.{no_period}
use Rattle.diagonals.specs.Maps.{offset_at}

pub record Divisor (slots p : ℕ) : Type 0 where
  pub some : 1 ≤ p
  pub divides : p ∣ slots

-- `is_no_period`, with what its answer no tells the caller
pub record NoPeriod (slots len : ℕ) (r : Bool) : Type 0 where
  pub answer : r ≡ no_period slots len
  pub divisor : r ≡ false → Divisor slots len

-- the first pair whose offset is not below k
pub record Placed (count : ℕ) (pairs : List ℕ) (k index : ℕ) : Type 0 where
  pub inside : index ≤ count
  pub before : (j : ℕ) → j < index → offset_at pairs j < k
  pub here : index < count → k ≤ offset_at pairs index
