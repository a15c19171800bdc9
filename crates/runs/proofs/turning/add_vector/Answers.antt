-- `runs::turning::add_vector` meets its contract. Assumes nothing.
use Rattle.std.proofs.Common.{le_refl, rules}
use Rattle.ring.specs.Slots.{addm}
use Rattle.ring.specs.Laws.Vectors.{filling_none, filling_more, filling_rest, filling_done}
use Rattle.runs.proofs.turning.add_vector.Goals as goal

pub loop-s-init : goal.loop-s-init
loop-s-init c = filling_none _ _

pub loop-s-preserved : goal.loop-s-preserved
unfolding addm
loop-s-preserved c = filling_more c.loop-s.invariant (search rules) (rw (filling_rest c.loop-s.invariant c.loop-s.s 0 (le_refl _)))

pub returns : goal.returns
returns c = filling_done c.loop-s.invariant (search rules)
