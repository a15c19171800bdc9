-- `linear_transformation::giants::GiantList::pairs` meets its contract. Assumes nothing.
use Rattle.linear_transformation.proofs.Planting.{blank}
use Rattle.linear_transformation.proofs.Growth.{switches_of_tree}
use Rattle.linear_transformation.proofs.giants.GiantList.pairs.Goals as goal

pub plant-requires : goal.plant-requires
plant-requires c = blank

pub returns : goal.returns
returns c = switches_of_tree c.plant.ensures c.size.ensures
