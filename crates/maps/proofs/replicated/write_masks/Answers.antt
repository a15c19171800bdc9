-- `maps::replicated::write_masks` meets its contract. Assumes nothing.
use Rattle.std.proofs.Common.{rules}
use Rattle.ring.specs.Laws.Vectors.{filling_none, filling_more, filling_done}
use Rattle.maps.specs.Laws.Skewing.{as_number}
use Rattle.maps.proofs.replicated.write_masks.Goals as goal

pub loop-x-init : goal.loop-x-init
loop-x-init c = (filling_none _ _, c.rows-d.ensures)

pub loop-x-preserved : goal.loop-x-preserved
loop-x-preserved c = (filling_more c.loop-x.invariant.0 (search rules) (as_number _), c.loop-x.invariant.1)

pub returns : goal.returns
returns c = let v = c.loop-x.invariant in rw v.1 at (filling_done v.0 (search rules))
