-- `maps::values::write_ones` meets its contract. Assumes nothing.
use Rattle.std.proofs.Common.{rules}
use Rattle.ring.specs.Laws.Vectors.{filling_none, filling_more, filling_done}
use Rattle.maps.specs.Laws.Skewing.{as_number}
use Rattle.maps.proofs.values.write_ones.Goals as goal

pub loop-t-init : goal.loop-t-init
loop-t-init c = filling_none _ _

pub loop-t-preserved : goal.loop-t-preserved
loop-t-preserved c = filling_more c.loop-t.invariant (search rules) (as_number _)

pub returns : goal.returns
returns c = filling_done c.loop-t.invariant (search rules)
