-- What the private steps of the calls about a plan's babies, keys and switches ask and ensure.
-- Assumes nothing.
use Rattle.std.specs.Prelude.{ℕ, ◌*◌, ◌≤◌, ◌≡◌, Bool, false, List, map, ℤ, pos, length}
use Rattle.ring.specs.Searches.{below}
use Rattle.ring.specs.Marks.{marks}
use Rattle.ring.specs.Refusals.{Range}
use Rattle.linear_transformation.specs.declared.LinearTransformationStrategy.{LinearTransformationStrategy}
use Rattle.linear_transformation.specs.declared.LinearTransformationStrategy.TheVariants.{BsgsPowersOfTwo}
use Rattle.linear_transformation.specs.Strategies.{width_outside}
use Rattle.linear_transformation.specs.Plans.{width_of, giants, Planned}
use Rattle.linear_transformation.specs.Closures.{closure, nonzeros}
use Rattle.linear_transformation.specs.Schedules.{baby_step, baby_multiples, plan_babies, giant_switches}
use Rattle.linear_transformation.specs.Steps.Tables.{Bounded}

-- ---- diagonals

-- sorted diagonals and an accepted width; sorted diagonals and an accepted strategy
pub record Sizable (slots width : ℕ) (ds : List ℕ) : Type 0 where
  pub slots_in_fact : Range slots
  pub width_in : Range width
  pub planned : Planned slots width ds

pub record Accepted (slots : ℕ) (strategy : LinearTransformationStrategy) (ds : List ℕ) : Type 0 where
  pub slots_in_fact : Range slots
  pub width_in : width_outside strategy ≡ false
  pub planned : Planned slots (width_of strategy) ds

-- ---- babies

-- the babies bs are k·step for each marked k, and no k from n on is marked
pub record BabyTable (bs : List ℕ) (seen : List Bool) (n step : ℕ) : Type 0 where
  pub bounded : Bounded seen n
  pub range : Range step
  pub are : map (λ k. k * step) (below (marks seen) n) ≡ bs

-- the same with the babies of the closure
pub record ClosureTable (slots width : ℕ) (ds : List ℕ) (seen : List Bool) (n step : ℕ) : Type 0 where
  pub table : BabyTable (plan_babies slots (BsgsPowersOfTwo width) ds) seen n step
  pub step_is : step ≡ baby_step slots width ds
  pub closure_is : below (marks seen) n ≡ closure 16 (baby_multiples slots width ds)

-- ---- giants

-- the plan's giants, as a list of rotations
abbrev pub giants_of : ℕ → List ℕ → List ℤ
giants_of width ds = map pos (giants 65536 width ds)

-- ---- switches

pub record Switches (slots : ℕ) (strategy : LinearTransformationStrategy) (ds : List ℕ) (r : ℕ) : Type 0 where
  pub are : r ≡ giant_switches slots strategy ds
  pub few : r ≤ 65536

pub record BabySwitches (slots : ℕ) (strategy : LinearTransformationStrategy) (ds : List ℕ) (r : ℕ) : Type 0 where
  pub are : r ≡ length (nonzeros (plan_babies slots strategy ds))
  pub few : r ≤ 65536
