-- `ring::smallest_period` meets its contract, by the steps of the record `Left`. The measure is what f lacks to 65537.
-- Assumes nothing.
use native.Mathlib.Nat.{dvd_of_mod-eq-zero}
use Rattle.ring.proofs.Factors.{left_start, in_reach, left_factor, left_none, left_done, left_last}
use Rattle.ring.proofs.smallest_period.Goals as goal
use Rattle.ring.proofs.smallest_period.Goals.{else-rest-f-eq0, then-rest-f-eq0}

pub loop-f-init : goal.loop-f-init
loop-f-init c = left_start _ c.requires.low c.requires.high

pub loop-f-preserved : goal.loop-f-preserved
loop-f-preserved c =
    let i = c.loop-f.invariant in
    let l = in_reach i c.loop-f-test.true in
    let n = c.requires.low in
    elim c.if-rest-f-eq0.branch [ then-rest-f-eq0 w ↦ rw (w.period-is, w.rest-is) (left_factor n i l (dvd_of_mod-eq-zero c.loop-f.f w.if-rest-f-eq0.true) w.reduced-period.ensures w.stripped-rest.ensures) | else-rest-f-eq0 w ↦ rw (w.period-is, w.rest-is) (left_none n i l w.if-rest-f-eq0.false) ]

pub returns-then-rest-gt1 : goal.returns-then-rest-gt1
returns-then-rest-gt1 c = left_last c.requires.low c.loop-f.invariant c.loop-f-test.false c.if-rest-gt1.true c.reduced-period-then-rest-gt1.ensures

pub returns-else-rest-gt1 : goal.returns-else-rest-gt1
returns-else-rest-gt1 c = left_done c.requires.low c.loop-f.invariant c.if-rest-gt1.false
