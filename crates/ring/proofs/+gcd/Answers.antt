-- The proof of the cycle of calls {gcd}: Euclid's step.
-- Assumes nothing.
use Rattle.std.proofs.Common.{sym, ◌∙◌}
use Rattle.ring.specs.Laws.Divisors.{gcd_zero, euclid}
use Rattle.ring.proofs.+gcd.Goals as goal

pub returns-then-b-eq0 : goal.returns-then-b-eq0
returns-then-b-eq0 t c = rw (c.if-b-eq0.true, gcd_zero)

pub returns-else-b-eq0 : goal.returns-else-b-eq0
returns-else-b-eq0 t c = c.gcd.ensures ∙ sym (euclid _ _)
