-- The greatest common divisor and the least common multiple, by what they mean.
-- Assumes nothing.
use Rattle.std.specs.Prelude.{ℕ, ◌+◌, ◌*◌, ◌%◌, Bool, ◌&&◌, List, [], ◌∷◌, ◌==◌}
use Rattle.ring.specs.Searches.{least, greatest}

-- d divides n
abbrev pub divides : ℕ → ℕ → Bool
divides d n = n % d == 0

-- the largest d of 1..=a+b that divides a and b (0 for a = b = 0)
unfoldable pub gcd_of : ℕ → ℕ → ℕ
gcd_of a b = greatest (λ d. divides d a && divides d b) (a + b)

-- the smallest m of 1..=a*b that a and b divide (0 for a = 0 or b = 0)
unfoldable pub lcm_of : ℕ → ℕ → ℕ
lcm_of a b = least (λ m. divides a m && divides b m) (a * b)

-- the smallest common multiple of all numbers of a list; 1 of none
abbrev pub lcm_all : List ℕ → ℕ
lcm_all [] = 1
lcm_all (x ∷ xs) = lcm_of x (lcm_all xs)

-- the greatest common divisor of all numbers of a list; 0 of none
abbrev pub gcd_all : List ℕ → ℕ
gcd_all [] = 0
gcd_all (x ∷ xs) = gcd_of x (gcd_all xs)
