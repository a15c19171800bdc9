-- `ring::smallest_period` meets its contract, by the steps of the record `Left`. The measure is what f lacks to 65537.
-- Assumes nothing.
use Rattle.std.proofs.Common.{◌-◌}
use Rattle.ring.proofs.Factors.{Left}
use Rattle.ring.proofs.smallest_period.Given as goal

abbrev pub invariant-loop-f : goal.invariant-loop-f
invariant-loop-f l = Left l.v l.period l.rest l.f

abbrev pub decreases-loop-f : goal.decreases-loop-f
decreases-loop-f l = 65537 - l.f
