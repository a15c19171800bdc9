-- `ring::agrees` meets its contract. The invariant: what is passed repeats with q. The measure is what is left up to p.
-- Assumes nothing.
use Rattle.std.proofs.Common.{◌-◌, sym, ◌∙◌, mod-eq_of_lt, arith, below_more}
use Rattle.ring.specs.Laws.Searches.{by_false}
use Rattle.ring.specs.Laws.Periods.{back, repeats_at, repeats_all}
use Rattle.ring.proofs.agrees.Goals as goal

pub loop-t-init : goal.loop-t-init
loop-t-init c = (omega arith, λ k l. rw (mod-eq_of_lt l))

pub returns-then-v-t : goal.returns-then-v-t
returns-then-v-t c =
    let r = c.args in
    let t = c.loop-t.t in
    let b = back r.v.now r.q t c.loop-t.invariant.0 (c.loop-t.invariant.1 (t - r.q) (omega arith)) in
    sym (by_false (λ h. c.if-v-t.true (repeats_at _ r.q r.p h t c.loop-t-test.true ∙ sym b)))

pub loop-t-preserved : goal.loop-t-preserved
loop-t-preserved c =
    let r = c.args in
    let t = c.loop-t.t in
    let b = back r.v.now r.q t c.loop-t.invariant.0 (c.loop-t.invariant.1 (t - r.q) (omega arith)) in
    (omega arith, below_more _ _ c.loop-t.invariant.1 (c.if-v-t.false ∙ b))

pub returns : goal.returns
returns c =
    let r = c.args in
    sym (repeats_all _ r.q r.p (λ k l. c.loop-t.invariant.1 k (omega arith)))
