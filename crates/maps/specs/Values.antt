-- Document 01, "Matrix maps": skewed values, products by slot vectors, projections.
-- Assumes nothing.
use Rattle.std.specs.Prelude.{ℕ, ◌+◌, ◌*◌, ◌%◌, Bool, true, false, cond, List, [], ◌∷◌, length, ℤ, ◌==◌, nat_lt}
use Rattle.ring.specs.Vectors.{tabulate}
use Rattle.ring.specs.Rotations.{rotated}
use Rattle.diagonals.specs.Maps.{Diagonal}
use Rattle.maps.specs.Entries.{Entry, entry_of, slot_of, entry_at}

-- `tau_values` (rows skewed) and `sigma_values` (columns skewed): entry (r, c) of matrix slot s is
-- b(s, (r + c) mod d, c), or b(s, r, (r + c) mod d)
abbrev pub skewed : Bool → ℕ → Entry → Entry
skewed true d e = record { row = (e.row + e.col) % d; col = e.col }
skewed false d e = record { row = e.row; col = (e.row + e.col) % d }

unfoldable pub skewed_values : Bool → ℕ → ℕ → List ℕ → List ℕ
skewed_values rows d count b = tabulate (count * (d * d)) (λ t. entry_at d b (slot_of d t) (skewed rows d (entry_of d t)))

-- one diagonal at offset 0
abbrev pub on_diagonal : List ℕ → List Diagonal
on_diagonal values = record { offset = 0; values = values } ∷ []

-- `slot_product`: the values rotated
unfoldable pub slot_product : List ℕ → ℤ → List Diagonal
slot_product values rotation = on_diagonal (rotated values rotation (length values))

-- `first_row`, stored at d², and `first_col`, stored at d: 1 where the entry is in row or column 0
unfoldable pub first_row : ℕ → List Diagonal
first_row d = on_diagonal (tabulate (d * d) (λ t. cond (nat_lt t d) 1 0))

unfoldable pub first_col : ℕ → List Diagonal
first_col d = on_diagonal (tabulate d (λ t. cond (t == 0) 1 0))
