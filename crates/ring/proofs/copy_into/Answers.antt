-- `ring::copy_into` meets its contract. Assumes nothing.
use Rattle.ring.proofs.Copying.{copying_none, copying_more, copying_done}
use Rattle.ring.proofs.copy_into.Goals as goal

pub loop-at-init : goal.loop-at-init
loop-at-init g c = copying_none c.requires

pub loop-at-preserved : goal.loop-at-preserved
loop-at-preserved g c = copying_more c.requires c.loop-at.invariant c.loop-at-test.true c.index-src-at.is

pub returns : goal.returns
returns g c = copying_done c.requires c.loop-at.invariant c.loop-at-test.false
