-- `ring::reduced` meets its contract. The invariant: p is a period that divides the one given. The measure is p.
-- Assumes nothing.
use Rattle.std.proofs.Common.{sym, ◌∙◌}
use native.Mathlib.Nat.{dvd_refl, dvd_trans, div-lt_self, pos_of_dvd_of_pos, dvd_of_mod-eq-zero}
use Rattle.ring.specs.Laws.Divisors.{quotient_dvd}
use Rattle.ring.specs.Laws.Periods.{positive, within, refine, not_refined}
use Rattle.ring.proofs.reduced.Goals as goal

pub loop-p-init : goal.loop-p-init
loop-p-init c = (c.requires.period, dvd_refl _)

pub agrees-requires : goal.agrees-requires
agrees-requires c =
    let i = c.loop-p.invariant.0 in
    let d = dvd_of_mod-eq-zero c.args.f c.loop-p-test.true in
    record { le_q = pos_of_dvd_of_pos (quotient_dvd _ _ d) (positive i); p_in_bounds = within i }

pub returns-then-not-agrees : goal.returns-then-not-agrees
returns-then-not-agrees c =
    let i = c.loop-p.invariant in
    record { still = i.0; divides = i.1; done = λ k h e. not_refined _ k c.requires.le_f i.0 (sym c.agrees.ensures ∙ c.if-not-agrees.true) h e }

pub loop-p-smaller : goal.loop-p-smaller
loop-p-smaller c = div-lt_self (positive c.loop-p.invariant.0) c.requires.le_f

pub loop-p-preserved : goal.loop-p-preserved
loop-p-preserved c =
    let d = quotient_dvd c.loop-p.p _ (dvd_of_mod-eq-zero c.args.f c.loop-p-test.true) in
    (refine _ c.loop-p.invariant.0 d (sym c.agrees.ensures ∙ c.if-not-agrees.false), dvd_trans _ d c.loop-p.invariant.1)
