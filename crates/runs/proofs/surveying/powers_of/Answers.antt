-- `runs::surveying::powers_of` meets its contract. Assumes nothing.
use Rattle.std.proofs.Common.{sym}
use Rattle.runs.proofs.LookingOver.{powers_else}
use Rattle.runs.proofs.surveying.powers_of.Goals as goal

pub returns-in_default : goal.returns-in_default
returns-in_default c = sym (powers_else c.args.strategy c.args.step c.args.bits c.in_default.not-BsgsPowersOfTwo)
