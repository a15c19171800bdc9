-- What the private steps of `optimal_bsgs_giant_step` ask and ensure.
-- Assumes nothing.
use Rattle.std.specs.Prelude.{ℕ, ◌*◌, ◌≤◌, ◌<◌, ◌≡◌, true, List, length, get_or}
use Rattle.ring.specs.Lists.{among}
use Rattle.ring.specs.Refusals.{Range}
use Rattle.linear_transformation.specs.Widths.{gaps, cost}
use Rattle.linear_transformation.specs.Plans.{Distinct}

-- g is a gap, and no gap is smaller
pub record Narrowest (ds : List ℕ) (g : ℕ) : Type 0 where
  pub positive : 1 ≤ g
  pub there : among g (gaps ds) ≡ true
  pub smallest : (h : ℕ) → among h (gaps ds) ≡ true → g ≤ h

-- what a width is chosen for: two or more diagonals and their smallest gap
pub record Choice (slots : ℕ) (ds : List ℕ) (gap : ℕ) : Type 0 where
  pub range : Range slots
  pub distinct : Distinct slots ds
  pub several : 2 ≤ length ds
  pub narrowest : Narrowest ds gap

-- before the walk of a width no baby has its stamp
pub record Fresh (width : ℕ) (stamps : List ℕ) : Type 0 where
  pub size : length stamps ≡ 65536
  pub low : (b : ℕ) → get_or stamps b 0 < width

-- half the cost of a width; no stamp is above the width
pub record Weighed (ds : List ℕ) (width : ℕ) (stamps : List ℕ) (r : ℕ) : Type 0 where
  pub half : cost 65536 ds width ≡ 2 * r
  pub size : length stamps ≡ 65536
  pub low : (b : ℕ) → get_or stamps b 0 ≤ width
