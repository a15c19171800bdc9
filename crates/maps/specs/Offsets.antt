-- Document 01, "Matrix maps": the offsets of each matrix map, by its JKLS formula, as indexes modulo slots, and how many
-- diagonals it has.
-- Assumes nothing.
use Rattle.std.specs.Prelude.{◌≡◌, ℕ, ◌+◌, ◌-◌, ◌*◌, ◌%◌, Bool, cond, List, [], ◌∷◌, ◌++◌, length, ℤ, pos, ◌-ℤ◌, ◌==◌, nat_le, nat_lt}
use Rattle.ring.specs.Vectors.{tabulate}
use Rattle.diagonals.specs.Maps.{Diagonal, pair_room, pair_words, value_words}
use Rattle.maps.specs.declared.rules.Rule.{Rule}
use Rattle.maps.specs.declared.rules.Rule.TheVariants.{Sigma, Tau, Transpose, RotateRows, RotateCols, RowsUpper, RowsLower, ColsLeft, ColsRight, RowsLeft, RowsRight}
use Rattle.maps.specs.declared.rules.Product.{Product}
use Rattle.maps.specs.declared.rules.Product.TheVariants.{RightMul, LeftMul, RightJkls, LeftJkls}

-- the multiples j·step with 0 ≤ j < d
unfoldable pub forward : ℕ → ℕ → List ℤ
forward d step = tabulate d (λ j. pos (j * step))

-- the multiples j·step with -d < j < d
unfoldable pub around : ℕ → ℕ → List ℤ
around d step = tabulate (2 * d - 1) (λ j. pos (j * step) -ℤ pos ((d - 1) * step))

-- a shift by k of d rows or columns: k·step, where one stays inside, and (k - d)·step, where one goes round
unfoldable pub kept : ℕ → ℕ → ℕ → List ℤ
kept d step k = cond (nat_lt k d) (pos (k * step) ∷ []) []

unfoldable pub wrapped : ℕ → ℕ → ℕ → List ℤ
wrapped d step k = cond (nat_le 1 k) ((pos (k * step) -ℤ pos (d * step)) ∷ []) []

unfoldable pub turned : ℕ → ℕ → ℕ → List ℤ
turned d step k = kept d step k ++ wrapped d step k

-- the maps that read one entry or none
unfoldable pub rule_indexes : Rule → ℕ → List ℤ
rule_indexes Sigma d = around d 1
rule_indexes Tau d = around d d
rule_indexes Transpose d = around d (d - 1)
rule_indexes (RotateRows k) d = turned d d (k % d)
rule_indexes (RotateCols k) d = turned d 1 (k % d)
rule_indexes (RowsUpper k) d = kept d d k
rule_indexes (RowsLower k) d = wrapped d d k
rule_indexes (ColsLeft k) d = kept d 1 k
rule_indexes (ColsRight k) d = wrapped d 1 k
rule_indexes (RowsLeft k) d = cond (nat_lt k d) (turned d d k) []
rule_indexes (RowsRight k) d = cond (nat_le 1 k) (turned d d k) []

-- the products by public matrices
unfoldable pub product_indexes : Product → ℕ → List ℤ
product_indexes RightMul d = around d 1
product_indexes LeftMul d = around d d
product_indexes RightJkls d = around d 1
product_indexes LeftJkls d = around d d

-- ---- how many diagonals

-- one matrix fills the slots, so that d rows further on is the same slot
abbrev pub full : ℕ → ℕ → Bool
full slots d = slots == d * d

-- of rows or columns that a shift keeps inside, or takes round
abbrev pub kept_count : ℕ → ℕ → ℕ
kept_count d k = cond (nat_lt k d) 1 0

abbrev pub wrapped_count : ℕ → ℕ
wrapped_count k = cond (nat_le 1 k) 1 0

-- of steps by rows, which are d where one matrix fills the slots, and of rotated rows, which is then one
abbrev pub rows_count : ℕ → ℕ → ℕ
rows_count slots d = cond (full slots d) d (2 * d - 1)

abbrev pub turned_count : ℕ → ℕ → ℕ → ℕ
turned_count slots d k = cond (full slots d) 1 (kept_count d k + wrapped_count k)

unfoldable pub rule_count : ℕ → ℕ → Rule → ℕ
rule_count slots d Sigma = 2 * d - 1
rule_count slots d Tau = rows_count slots d
rule_count slots d Transpose = 2 * d - 1
rule_count slots d (RotateRows k) = turned_count slots d (k % d)
rule_count slots d (RotateCols k) = kept_count d (k % d) + wrapped_count (k % d)
rule_count slots d (RowsUpper k) = kept_count d k
rule_count slots d (RowsLower k) = wrapped_count k
rule_count slots d (ColsLeft k) = kept_count d k
rule_count slots d (ColsRight k) = wrapped_count k
rule_count slots d (RowsLeft k) = cond (nat_lt k d) (turned_count slots d k) 0
rule_count slots d (RowsRight k) = cond (nat_le 1 k) (turned_count slots d k) 0

unfoldable pub product_count : ℕ → ℕ → Product → ℕ
product_count slots d RightMul = 2 * d - 1
product_count slots d LeftMul = rows_count slots d
product_count slots d RightJkls = 2 * d - 1
product_count slots d LeftJkls = rows_count slots d

-- a map of n diagonals of m values, and the words that it takes
pub record Sized (ds : List Diagonal) (n m : ℕ) : Type 0 where
  pub count : length ds ≡ n
  pub pairs : length (pair_words ds) ≡ pair_room n
  pub values : length (value_words ds) ≡ n * m
