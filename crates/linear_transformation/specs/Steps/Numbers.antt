-- What the private steps that are about numbers alone ask and ensure.
-- Assumes nothing.
use Rattle.std.specs.Prelude.{ℕ, ◌≤◌, ◌≡◌, Result, Ok}
use Rattle.ring.specs.declared.refusal.Refusal.{Refusal}
use Rattle.ring.specs.Refusals.{first_refusal, Range}
use Rattle.ring.specs.Answers.{judged}
use Rattle.linear_transformation.specs.declared.rotations.BsgsRotations.{BsgsRotations}
use Rattle.linear_transformation.specs.declared.rotations.BsgsRotations.TheVariants.{PerRotation, PowersOfTwo}
use Rattle.linear_transformation.specs.Listed.{step_refusals}

-- the numbers of `PowersOfTwo` are in range
abbrev pub StepsInside : BsgsRotations → Type 0
StepsInside PerRotation = Unit {0}
StepsInside (PowersOfTwo baby_step giant_step slots) = Range baby_step × (Range giant_step × Range slots)

pub record StepsJudged (rotations : BsgsRotations) (r : Result Unit Refusal) : Type 0 where
  pub answer : r ≡ judged (first_refusal (step_refusals rotations))
  pub inside : r ≡ Ok tt → StepsInside rotations

-- slots and the giant step are in range
pub record Stepped (slots step : ℕ) : Type 0 where
  pub positive : 1 ≤ step
  pub some : 1 ≤ slots
  pub small : slots ≤ 65536
  pub low : step ≤ 65536
