-- `ring::lcm` meets its contract. Assumes nothing.
use Rattle.std.proofs.Common.{arith}
use Rattle.ring.specs.Laws.Divisors.{gcd_pos, lcm_is}
use Rattle.ring.proofs.lcm.Goals as goal

pub nonzero_div-result : goal.nonzero_div-result
nonzero_div-result c = rw c.gcd-g.ensures (gcd_pos _ _ (omega (arith, c.requires.a_range.low)))

pub returns : goal.returns
returns c = rw (c.gcd-g.ensures, lcm_is _ _ c.requires.a_range.low c.requires.b_range.low)
