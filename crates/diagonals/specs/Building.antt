-- What the builders of maps share, here and in the crate of the matrix maps: a map of zeros at marked offsets, to which
-- terms are added one after the other. A reader need not believe these.
-- Assumes nothing.
use Rattle.std.specs.Prelude.{◌≡◌, ℕ, ◌*◌, ◌/◌, ◌%◌, ◌<◌, ◌≤◌, Bool, List, length, slice_index}
use Rattle.ring.specs.Lists.{sum_by}
use Rattle.ring.specs.Vectors.{filled}
use Rattle.ring.specs.Searches.{below}
use Rattle.ring.specs.Marks.{marks}
use Rattle.diagonals.specs.SlotMaps.{Term, rank, reached, weight}

-- the diagonals of the terms, and no others, are marked
pub record MarksOf (slots : ℕ) (ts : List Term) (seen : List Bool) : Type 0 where
  pub size : length seen ≡ 65536
  pub marked : (k : ℕ) → marks seen k ≡ reached slots ts k

-- each diagonal of the terms has its place
pub record PlacesOf (slots : ℕ) (ts : List Term) (places : List ℕ) : Type 0 where
  pub placed : (k : ℕ) → k < slots → slice_index places k ≡ rank (reached slots ts) k

-- what the terms add to the x-th of the values of the diagonals ks
abbrev pub sum_at : ℕ → ℕ → ℕ → List ℕ → List Term → ℕ → ℕ
sum_at m slots period ks ts x = sum_by m (weight slots (slice_index ks (x / period)) (x % period)) ts

-- of the diagonals of all terms, the values hold what the terms ts add, and then what old holds
pub record SumsOf (m slots period : ℕ) (all ts : List Term) (old values : List ℕ) : Type 0 where
  pub so_far : values ≡ filled (sum_at m slots period (below (reached slots all) slots) ts) (rank (reached slots all) slots * period) old
  pub len : length values ≡ length old
  pub room : rank (reached slots all) slots * period ≤ length old
