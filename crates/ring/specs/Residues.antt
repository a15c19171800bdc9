-- Document 01, "Ring and residues": the least non-negative residue.
-- Assumes nothing.
use Rattle.std.specs.Prelude.{ℕ, zero, suc, ◌-◌, ◌%◌, Bool, List, ℤ, pos, negsuc, nat_eq}
use Rattle.ring.specs.Lists.{some}
use Rattle.ring.specs.Searches.{below}

-- the least non-negative residue of z modulo m, for m at least 1; modulo 0 it is 0.
-- negsuc n is -(n + 1), which is m - 1 - n % m and a multiple of m
abbrev pub residue_of : ℤ → ℕ → ℕ
residue_of z zero = 0
residue_of (pos n) (suc m) = n % suc m
residue_of (negsuc n) (suc m) = m - n % suc m

-- ---- indexes modulo slots

-- an index of the list has the residue k
unfoldable pub named : ℕ → List ℤ → ℕ → Bool
named slots indexes k = some (λ z. nat_eq (residue_of z slots) k) indexes

-- the diagonals that a list of indexes names: rising, distinct
unfoldable pub diagonals_of : ℕ → List ℤ → List ℕ
diagonals_of slots indexes = below (named slots indexes) slots
