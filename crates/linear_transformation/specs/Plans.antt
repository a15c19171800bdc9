-- Document 01, "Plan": diagonals, babies, giants, the index, and the plan's words.
-- Assumes nothing. The babies are those before the closure of "Keys", which changes nothing else.
use Rattle.std.specs.Prelude.{ℕ, ◌+◌, ◌-◌, ◌%◌, ◌<◌, ◌||◌, List, [], ◌∷◌, ◌++◌, eqb, length}
use Rattle.ring.specs.Lists.{join, some, Each, Rising}
use Rattle.ring.specs.Searches.{only, below}
use Rattle.linear_transformation.specs.declared.LinearTransformationStrategy.{LinearTransformationStrategy}
use Rattle.linear_transformation.specs.declared.LinearTransformationStrategy.TheVariants.{Bsgs, BsgsPowersOfTwo, Direct}

-- ---- diagonals

-- distinct diagonals: rising, below slots
pub record Distinct (slots : ℕ) (ds : List ℕ) : Type 0 where
  pub rises : Rising ds
  pub low : Each (λ k. k < slots) ds

-- what a plan is made of: distinct diagonals, and a width that is not 0
pub record Planned (slots width : ℕ) (ks : List ℕ) : Type 0 where
  pub rises : Rising ks
  pub low : Each (λ k. k < slots) ks
  pub positive : 0 < width

-- ---- babies and giants

-- the width of a strategy. `Direct` has width 1: every baby is k mod 1 = 0 and every giant is k, which is document 01's
-- "babies [0], one giant per diagonal"
abbrev pub width_of : LinearTransformationStrategy → ℕ
width_of (Bsgs giant) = giant
width_of (BsgsPowersOfTwo giant) = giant
width_of Direct = 1

-- the baby and the giant of diagonal k
unfoldable pub baby_of : ℕ → ℕ → ℕ
baby_of width k = k % width

unfoldable pub giant_of : ℕ → ℕ → ℕ
giant_of width k = k - baby_of width k

-- the babies of the diagonals: rising, distinct, always with 0
unfoldable pub babies : ℕ → ℕ → List ℕ → List ℕ
babies slots width diagonals = below (λ b. eqb b 0 || some (λ k. eqb (baby_of width k) b) diagonals) slots

-- their giants: rising, distinct
unfoldable pub giants : ℕ → ℕ → List ℕ → List ℕ
giants slots width diagonals = below (λ g. some (λ k. eqb (giant_of width k) g) diagonals) slots

-- ---- the index

-- the babies of giant g, in the order of the diagonals
unfoldable pub babies_at : ℕ → List ℕ → ℕ → List ℕ
babies_at width diagonals g = join (λ k. only (eqb (giant_of width k) g) (baby_of width k)) diagonals

-- each giant's babies, giant after giant
unfoldable pub plan_index : ℕ → ℕ → List ℕ → List ℕ
plan_index slots width diagonals = join (babies_at width diagonals) (giants slots width diagonals)

-- the pair (start, length) of each list f g, where the lists of the giants stand one after the other from start on
abbrev pub cuts : (ℕ → List ℕ) → ℕ → List ℕ → List (ℕ × ℕ)
cuts f start [] = []
cuts f start (g ∷ gs) = (start, length (f g)) ∷ cuts f (start + length (f g)) gs

-- each giant's pair into the index
unfoldable pub plan_pairs : ℕ → ℕ → List ℕ → List (ℕ × ℕ)
plan_pairs slots width diagonals = cuts (babies_at width diagonals) 0 (giants slots width diagonals)

-- the plan's words over its babies bs: babies, giants, pairs, index, back to back
unfoldable pub words_with : List ℕ → ℕ → ℕ → List ℕ → List ℕ
words_with bs slots width diagonals =
    bs
    ++ giants slots width diagonals
    ++ join (λ c. c.0 ∷ c.1 ∷ []) (plan_pairs slots width diagonals)
    ++ plan_index slots width diagonals
