-- `linear_transformation::keys::baby_step` meets its contract. Assumes nothing.
use Rattle.linear_transformation.specs.Plans.{width_of}
use Rattle.linear_transformation.specs.Schedules.{baby_step}
use Rattle.linear_transformation.proofs.Facts.{accepted}
use Rattle.linear_transformation.proofs.Keyings.{part_step}
use Rattle.linear_transformation.proofs.KeyAnswers.{count_later}
use Rattle.linear_transformation.proofs.keys.baby_step.Goals as goal

pub returns : goal.returns
returns c =
    let a = accepted c.sort-sorted.result in
    count_later c.sort-sorted.ensures (λ n s ds. baby_step n (width_of s) ds) (part_step a.slots_in_fact a.planned c.baby_step.ensures)
