-- `runs::products::add_around` meets its contract. Assumes nothing.
use Rattle.std.proofs.Common.{rules}
use Rattle.ring.specs.Laws.Vectors.{filling_none, filling_done}
use Rattle.runs.proofs.Arounds.{around_more}
use Rattle.runs.proofs.products.add_around.Goals as goal

pub loop-s-init : goal.loop-s-init
loop-s-init c = filling_none _ _

pub loop-s-preserved : goal.loop-s-preserved
loop-s-preserved c = around_more c.requires c.loop-s.invariant c.loop-s-test.true c.min-run.ensures c.multiply_add_into.ensures

pub returns : goal.returns
returns c = filling_done c.loop-s.invariant (search rules)
