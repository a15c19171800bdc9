-- Laws of Halevi and Shoup's product over the first diagonals of a map: none, and one more.
-- Assumes nothing.
use Rattle.std.specs.Prelude.{◌≡◌, ℕ, ◌+◌, List, [], ◌∷◌, ◌++◌, refl}
use Rattle.std.proofs.Common.{ap, ◌∙◌, add-zero}
use Rattle.std.proofs.Math.Nat.{add-mod-mod}
use Rattle.ring.specs.Slots.{addm}
use Rattle.ring.specs.Laws.Lists.{sum_by_append}
use Rattle.diagonals.specs.Maps.{Diagonal, diagonal_at, view}
use Rattle.diagonals.specs.Products.{term, product}
use Rattle.diagonals.specs.Laws.Maps.{view_more}

-- one diagonal more adds its term
pub product_snoc : (m slots : ℕ) (ds : List Diagonal) (d : Diagonal) (input : List ℕ) (s : ℕ) → product m slots (ds ++ (d ∷ [])) input s ≡ addm m (product m slots ds input s) (term m slots input s d)
unfolding product addm
product_snoc m slots ds d input s = sum_by_append m (term m slots input s) ds (d ∷ []) ∙ simp (add-zero, add-mod-mod)

pub product_none : (m slots : ℕ) (pairs values input : List ℕ) (s : ℕ) → product m slots (view 0 pairs values) input s ≡ 0
unfolding product view
product_none m slots pairs values input s = refl

pub product_more : (m slots : ℕ) (pairs values input : List ℕ) (i s : ℕ) → product m slots (view (i + 1) pairs values) input s ≡ addm m (product m slots (view i pairs values) input s) (term m slots input s (diagonal_at pairs values i))
product_more m slots pairs values input i s =
    ap (λ (ds : List Diagonal). product m slots ds input s) (view_more i pairs values)
    ∙ product_snoc m slots (view i pairs values) (diagonal_at pairs values i) input s
