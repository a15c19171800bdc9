-- `ring::multiply_add` meets its contract: the loop keeps `Filling`. Assumes nothing.
use Rattle.std.proofs.Common.{le_refl, rules}
use Rattle.ring.specs.Slots.{addm, mulm}
use Rattle.ring.specs.Laws.Vectors.{filling_none, filling_more, filling_rest, filling_done}
use Rattle.ring.proofs.multiply_add.Goals as goal

pub loop-i-init : goal.loop-i-init
loop-i-init c = filling_none _ _

pub loop-i-preserved : goal.loop-i-preserved
unfolding addm mulm
loop-i-preserved c = filling_more c.loop-i.invariant (search rules) (rw (c.wrapping_mul.ensures, filling_rest c.loop-i.invariant c.loop-i.i 0 (le_refl _)))

pub returns : goal.returns
returns c = filling_done c.loop-i.invariant (search rules)
