-- Document 01, "Matrix maps": the products by public matrices, by their formulas in 002 and JKLS.
-- Assumes nothing.
use Rattle.std.specs.Prelude.{ℕ, ◌+◌, ◌*◌, ◌/◌, ◌%◌, cond, List, ◌==◌}
use Rattle.ring.specs.Slots.{mulm}
use Rattle.ring.specs.Lists.{sum_by, join}
use Rattle.ring.specs.Vectors.{tabulate}
use Rattle.diagonals.specs.Maps.{Diagonal}
use Rattle.diagonals.specs.SlotMaps.{Term, slot_map}
use Rattle.maps.specs.declared.rules.Product.{Product}
use Rattle.maps.specs.declared.rules.Product.TheVariants.{RightMul, LeftMul, RightJkls, LeftJkls}
use Rattle.maps.specs.Entries.{Entry, place, entry_of, slot_of, entry_at, public_at}

abbrev at : ℕ → ℕ → Entry
at r c = record { row = r; col = c }

-- the l-th summand of output (r, c): an entry of the input times an entry of the public matrix
pub record Factors : Type 0 where
  pub input : Entry
  pub public : Entry

unfoldable pub factors : Product → ℕ → ℕ → ℕ → ℕ → Factors
factors RightMul d r c l = record { input = at r l; public = at l c }
factors LeftMul d r c l = record { input = at l c; public = at r l }
factors RightJkls d r c l = record { input = at r ((c + l) % d); public = at ((r + c + l) % d) c }
factors LeftJkls d r c l = record { input = at ((r + l) % d) c; public = at r ((r + c + l) % d) }

-- the stored period, fixed by the structure: d for the right product of one matrix, count·d² otherwise
unfoldable pub period_of : Product → ℕ → ℕ → ℕ
period_of RightMul d count = cond (count == 1) d (count * (d * d))
period_of LeftMul d count = count * (d * d)
period_of RightJkls d count = count * (d * d)
period_of LeftJkls d count = count * (d * d)

-- the term of the l-th summand of output t
abbrev pub sum_term : Product → ℕ → ℕ → List ℕ → ℕ → ℕ → Term
sum_term p d count b t l =
    let f = factors p d (entry_of d t).row (entry_of d t).col l in
    record { i = t; j = slot_of d t * (d * d) + place d f.input; w = public_at d count b (slot_of d t) f.public }

-- those of output t
abbrev pub output_terms : Product → ℕ → ℕ → List ℕ → ℕ → List Term
output_terms p d count b t = tabulate d (sum_term p d count b t)

-- every diagonal offset that a summand reaches is stored, zero or not, at the period
unfoldable pub product_map : ℕ → ℕ → ℕ → ℕ → Product → List ℕ → List Diagonal
product_map m slots d count p b = slot_map m slots (period_of p d count) (join (output_terms p d count b) (tabulate (period_of p d count) (λ t. t)))

-- the formula modulo m, for entry e of matrix slot s: the sum of the d products
abbrev pub summand : ℕ → Product → ℕ → ℕ → List ℕ → List ℕ → ℕ → Entry → ℕ → ℕ
summand m p d count b input s e l =
    mulm m (public_at d count b s (factors p d e.row e.col l).public) (entry_at d input s (factors p d e.row e.col l).input)

abbrev pub formula : ℕ → Product → ℕ → ℕ → List ℕ → List ℕ → ℕ → Entry → ℕ
formula m p d count b input s e = sum_by m (summand m p d count b input s e) (tabulate d (λ l. l))

-- `left_mul_rep` of one public matrix: a diagonal at each j·d, its entry at (r, c) b(r, (r + j) mod d), stored at d²
unfoldable pub left_mul_rep : ℕ → List ℕ → List Diagonal
left_mul_rep d b =
    tabulate d (λ j. record { offset = j * d; values = tabulate (d * d) (λ t. public_at d 1 b 0 (at (t / d) ((t / d + j) % d))) })
