-- Document 01, "Strategies": the width of a strategy, which refusal 3 is about.
-- Assumes nothing.
use Rattle.std.specs.Prelude.{Bool, false}
use Rattle.ring.specs.Refusals.{outside}
use Rattle.linear_transformation.specs.declared.LinearTransformationStrategy.{LinearTransformationStrategy}
use Rattle.linear_transformation.specs.declared.LinearTransformationStrategy.TheVariants.{Bsgs, BsgsPowersOfTwo, Direct}

-- the giant step is below 1 or above 65,536; `Direct` has none
abbrev pub width_outside : LinearTransformationStrategy → Bool
width_outside (Bsgs giant) = outside giant
width_outside (BsgsPowersOfTwo giant) = outside giant
width_outside Direct = false
