-- `linear_transformation::steps::Steps::level_rotation` meets its contract. Assumes nothing.
use Rattle.linear_transformation.proofs.Writing.{rotation_from}
use Rattle.linear_transformation.proofs.steps.Steps.level_rotation.Goals as goal

pub returns : goal.returns
returns c = rotation_from _ _ _ _ c.level_digit.ensures.is c.rotation.ensures
