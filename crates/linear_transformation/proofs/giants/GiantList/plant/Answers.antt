-- `linear_transformation::giants::GiantList::plant` meets its contract. Assumes nothing.
use Rattle.std.proofs.Common.{refl}
use Rattle.linear_transformation.proofs.Planting.{planted}
use Rattle.linear_transformation.proofs.giants.GiantList.plant.Goals as goal

pub returns : goal.returns
returns c = record { step_is = refl; slots_is = refl; planted = planted c.largest_digit.ensures c.bits_for-bits.ensures c.mark_leaves.ensures c.power.ensures c.climb.ensures }
