-- `linear_transformation::sorted::Sorted::keys_planted` meets its contract. Assumes nothing.
use Rattle.linear_transformation.proofs.Planting.{blank}
use Rattle.linear_transformation.proofs.sorted.Sorted.keys_planted.Goals as goal

pub plant-requires : goal.plant-requires
plant-requires c = blank
