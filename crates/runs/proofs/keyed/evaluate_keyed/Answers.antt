-- `runs::keyed::evaluate_keyed` meets its contract: `run_keyed` writes the plan, and `plan_records` reads its giants there.
-- Assumes nothing.
use Rattle.std.proofs.Common.{Err, rules, ◌≡◌, ◌∙◌, sym}
use Rattle.runs.proofs.Recording.{as_left, keyed_of, refused_recorded, records_given, keyed_recorded}
use Rattle.runs.proofs.keyed.evaluate_keyed.Goals as goal

pub returns-in_err-progress : goal.returns-in_err-progress
returns-in_err-progress c =
    let e : c.from_residual-in_err-progress.result ≡ Err c.in_err-progress.field-0.0 = search rules in
    rw (e ∙ sym c.in_err-progress.was)
    (as_left (keyed_of c.in_ok-map.map c.in_ok-map.ensures (refused_recorded _ c.args.n c.args.records.now c.run_keyed.ensures.run c.in_err-progress.was)) (search rules) (search rules) (search rules) (search rules) (search rules))

pub unwrap-requires : goal.unwrap-requires
unwrap-requires c =
    records_given _ c.args.n c.args.records.now c.run_keyed.ensures.run c.in_ok-progress.was c.plan_records.new.records c.plan_records.result c.in_ok-map.ensures.slots_is (search rules) c.plan_records.ensures

pub returns : goal.returns
returns c =
    rw (sym c.in_ok-progress.was)
    (as_left (keyed_of c.in_ok-map.map c.in_ok-map.ensures (keyed_recorded _ c.args.n c.args.records.now c.run_keyed.ensures.run c.in_ok-progress.was c.plan_records.new.records c.plan_records.result c.in_ok-map.ensures.slots_is (search rules) c.plan_records.ensures)) (search rules) (search rules) (search rules) (search rules) (search rules))
