-- `linear_transformation::keys::plan_key_switches` meets its contract. Assumes nothing.
use Rattle.linear_transformation.specs.Schedules.{plan_switches}
use Rattle.linear_transformation.proofs.KeyAnswers.{count_later}
use Rattle.linear_transformation.proofs.keys.plan_key_switches.Goals as goal

pub returns : goal.returns
unfolding plan_switches
returns c = count_later c.sort-sorted.ensures plan_switches (rw (c.baby_switches.ensures.are, c.giant_switches.ensures.are))
