-- Document 01, "Map store" and "Plain run": a diagonal at a slot, the matrix of a map, Halevi and Shoup's product.
-- Assumes nothing.
use Rattle.std.specs.Prelude.{ℕ, ◌+◌, ◌-◌, ◌%◌, Bool, false, cond, ◌||◌, List, [], ◌∷◌, length, ◌==◌, slice_index}
use Rattle.ring.specs.Slots.{mulm}
use Rattle.ring.specs.Lists.{sum_by}
use Rattle.ring.specs.Vectors.{tabulate}
use Rattle.diagonals.specs.Maps.{Diagonal}

-- one period of values read at slot i: values[i mod length]; 0 of no values
abbrev pub cell : List ℕ → ℕ → ℕ
cell values i = slice_index values (i % length values)

-- the values stored for offset k; none where it is absent
abbrev pub stretch : List Diagonal → ℕ → List ℕ
stretch [] k = []
stretch (d ∷ ds) k = cond (d.offset == k) d.values (stretch ds k)

-- some diagonal has offset k
abbrev pub stored : List Diagonal → ℕ → Bool
stored [] k = false
stored (d ∷ ds) k = d.offset == k || stored ds k

-- the matrix that a map stands for: M[i][(i + k) mod slots] = diagonal_k[i], and 0 where no diagonal is stored
unfoldable pub matrix : ℕ → List Diagonal → ℕ → ℕ → ℕ
matrix slots ds i j = cell (stretch ds ((j + (slots - i)) % slots)) i

-- diagonal_k[i] · input[(i + k) mod slots]
abbrev pub term : ℕ → ℕ → List ℕ → ℕ → Diagonal → ℕ
term m slots input i d = mulm m (cell d.values i) (slice_index input ((i + d.offset) % slots))

-- Halevi and Shoup's product modulo m, at slot i: the sum over the stored diagonals
unfoldable pub product : ℕ → ℕ → List Diagonal → List ℕ → ℕ → ℕ
product m slots ds input i = sum_by m (term m slots input i) ds

-- a row of n entries times the vector, modulo m; `product_is_matrix` says that the product is that of the matrix's rows
abbrev pub dot : ℕ → ℕ → (ℕ → ℕ) → List ℕ → ℕ
dot m n row input = sum_by m (λ j. mulm m (row j) (slice_index input j)) (tabulate n (λ j. j))
