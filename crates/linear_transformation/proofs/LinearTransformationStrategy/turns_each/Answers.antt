-- `linear_transformation::LinearTransformationStrategy::turns_each` meets its contract. Assumes nothing.
use Rattle.linear_transformation.proofs.Strategies.{each_else}
use Rattle.linear_transformation.proofs.LinearTransformationStrategy.turns_each.Goals as goal
use Rattle.linear_transformation.proofs.LinearTransformationStrategy.turns_each.Goals.{in-BsgsPowersOfTwo, in_default}
use Rattle.linear_transformation.specs.Steps.Strategies.{turns_each}

pub returns : goal.returns
unfolding turns_each
returns c = elim c.match-matches.branch [ in-BsgsPowersOfTwo w ↦ rw (w.matches-is, w.in-BsgsPowersOfTwo.is) | in_default w ↦ rw (w.matches-is, each_else c.args.self w.in_default.not-BsgsPowersOfTwo) ]
