-- How a strategy rotates.
-- Assumes nothing.
use Rattle.std.specs.Prelude.{Bool, true, false}
use Rattle.linear_transformation.specs.declared.LinearTransformationStrategy.{LinearTransformationStrategy}
use Rattle.linear_transformation.specs.declared.LinearTransformationStrategy.TheVariants.{Bsgs, BsgsPowersOfTwo, Direct}

-- each rotation has its own key
unfoldable pub turns_each : LinearTransformationStrategy → Bool
turns_each (Bsgs width) = true
turns_each (BsgsPowersOfTwo width) = false
turns_each Direct = true
