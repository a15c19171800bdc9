-- `linear_transformation::sorted::Sorted::plant` meets its contract. Assumes nothing.
use Rattle.linear_transformation.proofs.Planting.{planted}
use Rattle.linear_transformation.proofs.sorted.Sorted.plant.Goals as goal

pub returns : goal.returns
returns c = record { step_is = c.steps.ensures.0; slots_is = c.steps.ensures.1; planted = planted c.largest_turn.ensures c.bits_for-bits.ensures c.mark_turns.ensures c.power.ensures c.climb.ensures }
