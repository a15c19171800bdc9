-- `runs::caching::turn_of` meets its contract. Assumes nothing.
use Rattle.runs.proofs.Babies.{turn_some}
use Rattle.runs.proofs.caching.turn_of.Goals as goal

pub returns-in-Some : goal.returns-in-Some
returns-in-Some c = turn_some c.args.baby c.ilog2.result c.args.powers c.in-Some.p c.in-Some.is c.requires c.ilog2.ensures.power_le c.ilog2.ensures.next_power_gt
