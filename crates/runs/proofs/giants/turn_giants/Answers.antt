-- `runs::giants::turn_giants` meets its contract. Assumes nothing.
use Rattle.std.proofs.Common.{arith}
use Rattle.runs.proofs.Joining.{switching_none, turns_length, turn_asked, turns_more, turns_done}
use Rattle.runs.proofs.giants.turn_giants.Goals as goal

pub loop-p-init : goal.loop-p-init
loop-p-init c = switching_none _ _ _ _

pub rotate_at-requires : goal.rotate_at-requires
rotate_at-requires c = turn_asked c.requires c.loop-p.invariant (omega (arith, turns_length c.requires))

pub loop-p-preserved : goal.loop-p-preserved
loop-p-preserved c = turns_more c.requires c.loop-p.invariant (omega (arith, turns_length c.requires)) c.rotate_at.ensures

pub returns : goal.returns
returns c = turns_done c.requires c.loop-p.invariant (omega (arith, c.loop-p-test.false, turns_length c.requires)) c.copy_into.ensures
