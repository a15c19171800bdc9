-- `runs::surveying::Asked::look_over` meets its contract. Assumes nothing.
use Rattle.std.proofs.Common.{Err, rules, ◌≡◌, sym, ◌∙◌, arith}
use Rattle.ring.specs.Laws.Vectors.{filling_none, filling_more}
use Rattle.runs.proofs.Entries.{entries_length, entry_at}
use Rattle.runs.proofs.LookingOver.{needs_refused, survey_done}
use Rattle.runs.proofs.surveying.Asked.look_over.Goals as goal

pub loop-i-init : goal.loop-i-init
loop-i-init c = filling_none _ _

pub bounds-offsets-i : goal.bounds-offsets-i
bounds-offsets-i c = omega (arith, c.loop-i.invariant.len, c.requires, (entry_at _ _ c.entries-offset-items.ensures c.loop-i-test.true).low)

pub loop-i-preserved : goal.loop-i-preserved
loop-i-preserved c =
    let t = entry_at _ _ c.entries-offset-items.ensures c.loop-i-test.true in
    filling_more c.loop-i.invariant (omega (arith, c.loop-i.invariant.len, c.requires, t.low)) t.offset_is

pub returns-in_err-needs : goal.returns-in_err-needs
returns-in_err-needs c =
    let e : c.from_residual.result ≡ Err c.in_err-needs.field-0.0 = search rules in
    rw e (needs_refused c.args.self.now (sym c.is_width_outside.ensures ∙ c.if-is_width_outside.false) c.if-self.false c.loop-i.invariant (omega (arith, entries_length _ _ c.entries-offset-items.ensures)) c.plan_needs.ensures c.in_err-needs.was)

pub returns : goal.returns
returns c =
    rw c.powers_of.ensures (survey_done c.args.self.now (sym c.is_width_outside.ensures ∙ c.if-is_width_outside.false) c.if-self.false c.loop-i.invariant (omega (arith, entries_length _ _ c.entries-offset-items.ensures)) c.plan_needs.ensures c.in_ok-needs.was)
