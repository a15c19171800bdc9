-- Document 01, "The part taken" and "Ring and residues": sums and products of slots.
-- Assumes nothing.
use Rattle.std.specs.Prelude.{ℕ, ◌+◌, ◌*◌, ◌%◌, ◌^◌}

-- the modulus of all slot arithmetic
abbrev pub modulus : ℕ
modulus = 2 ^ 64

-- a sum modulo m, for any m; modulo 0 it is the sum itself
unfoldable pub addm : ℕ → ℕ → ℕ → ℕ
addm m a b = (a + b) % m

-- a product modulo m, for any m; modulo 0 it is the product itself
unfoldable pub mulm : ℕ → ℕ → ℕ → ℕ
mulm m a b = a * b % m
