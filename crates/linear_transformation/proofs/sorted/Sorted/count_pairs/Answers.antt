-- `linear_transformation::sorted::Sorted::count_pairs` meets its contract. Assumes nothing.
use Rattle.std.proofs.Common.{refl}
use Rattle.linear_transformation.proofs.Facts.{sizable}
use Rattle.linear_transformation.proofs.Planting.{blank}
use Rattle.linear_transformation.proofs.KeyAnswers.{pairs_counted, powers_switches}
use Rattle.linear_transformation.proofs.Strategies.{powers}
use Rattle.linear_transformation.proofs.sorted.Sorted.count_pairs.Goals as goal

pub plant-requires : goal.plant-requires
plant-requires c = blank

pub returns : goal.returns
returns c = powers_switches (powers c.requires refl) (pairs_counted (sizable c.args.self.now) c.plant.ensures.planted c.size.ensures)
