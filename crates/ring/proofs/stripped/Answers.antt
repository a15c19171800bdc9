-- `ring::stripped` meets its contract. The invariant: what is left divides the whole, and keeps each divisor that has none in common with f.
-- The measure is what is left. Assumes nothing.
use native.Mathlib.Nat.{dvd_trans, div-lt_self, pos_of_dvd_of_pos, dvd_of_mod-eq-zero, mod-eq-zero_of_dvd, div-mul_cancel}
use Rattle.ring.specs.Laws.Divisors.{quotient_dvd, coprime}
use Rattle.std.proofs.Common.{◌/◌}
use Rattle.ring.proofs.stripped.Goals as goal

pub loop-rest-smaller : goal.loop-rest-smaller
loop-rest-smaller c = div-lt_self (pos_of_dvd_of_pos c.loop-rest.invariant.0 c.requires.positive) c.requires.factor

pub loop-rest-preserved : goal.loop-rest-preserved
loop-rest-preserved c =
    let a = c.loop-rest in
    let f = c.args.f in
    let d = dvd_of_mod-eq-zero f c.loop-rest-test.true in
    (dvd_trans _ (quotient_dvd a.rest f d) a.invariant.0, λ k e h. coprime k f (a.rest / f) e (rw (div-mul_cancel f d) (a.invariant.1 k e h)))

pub returns : goal.returns
returns c =
    let i = c.loop-rest.invariant in
    record { divides = i.0; kept = i.1; clean = λ h. c.loop-rest-test.false (mod-eq-zero_of_dvd c.args.f h) }
