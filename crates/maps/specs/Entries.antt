-- Document 01, "Matrix maps": matrices of d by d entries in slots. A matrix slot is d² slots, row after row; matrix slot s
-- of `count` public matrices has the matrix s mod count.
-- Assumes nothing.
use Rattle.std.specs.Prelude.{ℕ, ◌+◌, ◌*◌, ◌/◌, ◌%◌, ◌<◌, List, slice_index}

-- an entry of a matrix
pub record Entry : Type 0 where
  pub row : ℕ
  pub col : ℕ

-- an entry of a d by d matrix
pub record InMatrix (d : ℕ) (e : Entry) : Type 0 where
  pub row_low : e.row < d
  pub col_low : e.col < d

-- where it stands in its matrix slot
abbrev pub place : ℕ → Entry → ℕ
place d e = e.row * d + e.col

-- the entry and the matrix slot of slot t
abbrev pub entry_of : ℕ → ℕ → Entry
entry_of d t = record { row = t / d % d; col = t % d }

abbrev pub slot_of : ℕ → ℕ → ℕ
slot_of d t = t / (d * d)

-- entry e of matrix slot s of a vector
abbrev pub entry_at : ℕ → List ℕ → ℕ → Entry → ℕ
entry_at d v s e = slice_index v (s * (d * d) + place d e)

-- entry e of the public matrix of matrix slot s, of `count` matrices row after row
abbrev pub public_at : ℕ → ℕ → List ℕ → ℕ → Entry → ℕ
public_at d count b s e = entry_at d b (s % count) e
