-- Diagonals of one stored length, by offset and value: their words, and what the steps that write them ensure.
-- Assumes nothing.
use Rattle.std.specs.Prelude.{ℕ, ◌+◌, ◌*◌, ◌/◌, ◌%◌, cond, List, ◌==◌, nat_lt, slice_index}
use Rattle.ring.specs.Vectors.{tabulate}
use Rattle.diagonals.specs.Maps.{Diagonal, pair_words}
use Rattle.diagonals.specs.SlotMaps.{zero_map}

-- n diagonals of p values
abbrev pub rows : ℕ → ℕ → (ℕ → ℕ) → (ℕ → ℕ → ℕ) → List Diagonal
rows n p o v = tabulate n (λ i. record { offset = o i; values = tabulate p (v i) })

-- their pairs
unfoldable pub row_pairs : (ℕ → ℕ) → ℕ → ℕ → List ℕ
row_pairs o p n = pair_words (zero_map p (tabulate n o))

-- the x-th of their values, back to back
abbrev pub row_value : ℕ → (ℕ → ℕ → ℕ) → ℕ → ℕ
row_value p v x = v (x / p) (x % p)

-- ---- values

-- `tau_rep`: the mask of column c
abbrev pub mask : ℕ → ℕ → ℕ
mask c x = cond (x == c) 1 0

-- 1 below n, 0 from there on
abbrev pub ones : ℕ → ℕ → ℕ
ones n t = cond (nat_lt t n) 1 0

-- where `left_mul_rep` reads value t of diagonal j: entry (r, (r + j) mod d) for r = t / d
abbrev pub turned_place : ℕ → ℕ → ℕ → ℕ
turned_place d j t = t / d * d + (t / d + j) % d

abbrev pub turned_at : ℕ → List ℕ → ℕ → ℕ → ℕ
turned_at d b j t = slice_index b (turned_place d j t)
