-- `linear_transformation::heap::level_digit` meets its contract. Assumes nothing.
use Rattle.linear_transformation.proofs.Signs.{level_top, level_other}
use Rattle.linear_transformation.proofs.heap.level_digit.Goals as goal

pub returns-then-i-bits : goal.returns-then-i-bits
returns-then-i-bits c = level_top _ _ _ c.requires.0 c.requires.1 c.power-p.ensures c.if-i-bits.true

pub returns : goal.returns
returns c = level_other _ _ _ c.requires.0 c.requires.1 c.power-p.ensures c.if-i-bits.false
