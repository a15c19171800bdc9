-- Document 01, "Shrink": all diagonals at the lcm of their smallest periods.
-- Assumes nothing.
use Rattle.std.specs.Prelude.{ℕ, List, map}
use Rattle.ring.specs.Vectors.{tabulate}
use Rattle.ring.specs.Divisors.{lcm_all}
use Rattle.ring.specs.Periods.{min_period}
use Rattle.diagonals.specs.Maps.{Diagonal}
use Rattle.diagonals.specs.Products.{cell}

-- the least common multiple of the smallest periods
unfoldable pub common_period : List Diagonal → ℕ
common_period ds = lcm_all (map (λ d. min_period d.values) ds)

-- a diagonal stored at period p
abbrev pub at_period : ℕ → Diagonal → Diagonal
at_period p d = record { offset = d.offset; values = tabulate p (cell d.values) }

unfoldable pub shrunk : List Diagonal → List Diagonal
shrunk ds = map (at_period (common_period ds)) ds
