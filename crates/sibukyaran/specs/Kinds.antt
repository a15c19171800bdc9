-- Strategies and rotations as C's numbers: a kind, and the numbers of that kind. A kind that there is not has no width and
-- no steps, so that refusal 3 is about it.
-- Assumes nothing.
use Rattle.std.specs.Prelude.{ℕ, zero, suc}
use Rattle.linear_transformation.specs.declared.LinearTransformationStrategy.{LinearTransformationStrategy}
use Rattle.linear_transformation.specs.declared.LinearTransformationStrategy.TheVariants.{Bsgs, BsgsPowersOfTwo, Direct}
use Rattle.linear_transformation.specs.declared.rotations.BsgsRotations.{BsgsRotations}
use Rattle.linear_transformation.specs.declared.rotations.BsgsRotations.TheVariants.{PerRotation, PowersOfTwo}

abbrev pub strategy_of : ℕ → ℕ → LinearTransformationStrategy
strategy_of zero width = Bsgs width
strategy_of (suc zero) width = BsgsPowersOfTwo width
strategy_of (suc (suc zero)) width = Direct
strategy_of (suc (suc (suc k))) width = Bsgs 0

abbrev pub rotations_of : ℕ → ℕ → ℕ → ℕ → BsgsRotations
rotations_of zero baby_step giant_step slots = PerRotation
rotations_of (suc zero) baby_step giant_step slots = PowersOfTwo baby_step giant_step slots
rotations_of (suc (suc k)) baby_step giant_step slots = PowersOfTwo 0 0 slots
