-- Document 01, "Best width": among the multiples of the smallest gap, below slots, those of least cost; the largest of
-- these.
-- Assumes nothing.
use Rattle.std.specs.Prelude.{ℕ, ◌*◌, ◌-◌, max, Bool, not, ◌&&◌, ◌||◌, List, [], ◌∷◌, leb, ltb, eqb, length}
use Rattle.ring.specs.Divisors.{divides}
use Rattle.ring.specs.Searches.{least, greatest, every, below}
use Rattle.linear_transformation.specs.Plans.{baby_of, giants}
use Rattle.ring.specs.Lists.{some, among}

-- the gaps between neighbours
abbrev pub gaps : List ℕ → List ℕ
gaps [] = []
gaps (x ∷ []) = []
gaps (x ∷ y ∷ zs) = (y - x) ∷ gaps (y ∷ zs)

-- the smallest of them
unfoldable pub smallest_gap : ℕ → List ℕ → ℕ
smallest_gap slots diagonals = least (λ g. among g (gaps diagonals)) slots

-- the babies of the diagonals, 0 only if one has it
unfoldable pub own_babies : ℕ → ℕ → List ℕ → List ℕ
own_babies slots width diagonals = below (λ b. some (λ k. eqb (baby_of width k) b) diagonals) slots

-- 2·max(distinct babies, distinct giants)
unfoldable pub cost : ℕ → List ℕ → ℕ → ℕ
cost slots diagonals width =
    2 * max (length (own_babies slots width diagonals)) (length (giants slots width diagonals))

-- a width that is looked at: a multiple of the smallest gap, below slots
unfoldable pub candidate : ℕ → List ℕ → ℕ → Bool
candidate slots diagonals width = ltb 0 width && ltb width slots && divides (smallest_gap slots diagonals) width

-- no candidate is cheaper
unfoldable pub cheapest : ℕ → List ℕ → ℕ → Bool
cheapest slots diagonals width =
    every (λ v. not (candidate slots diagonals v) || leb (cost slots diagonals width) (cost slots diagonals v)) slots

-- the largest of the cheapest candidates; for one or no diagonal 1
unfoldable pub best_width : ℕ → List ℕ → ℕ
best_width slots [] = 1
best_width slots (k ∷ []) = 1
best_width slots (k ∷ l ∷ ks) =
    let ds = k ∷ l ∷ ks in
    greatest (λ w. candidate slots ds w && cheapest slots ds w) slots
