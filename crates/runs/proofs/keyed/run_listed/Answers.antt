-- `runs::keyed::run_listed` meets its contract. Assumes nothing.
use Rattle.std.proofs.Common.{Err, rules, ◌≡◌}
use Rattle.runs.proofs.KeyedRunning.{survey_refused, sizes, taken, survey_is, room_refused, ready, offsets_told, accepted_run}
use Rattle.runs.proofs.keyed.run_listed.Goals as goal

pub returns-in_err-survey-clause-run : goal.returns-in_err-survey-clause-run
returns-in_err-survey-clause-run c =
    let e : c.from_residual.result ≡ Err c.in_err-survey.field-0.0 = search rules in
    rw e (survey_refused c.args.asked.now c.look_over.ensures c.args.n c.args.room c.args.words.now c.in_err-survey.was)

pub check_room-requires : goal.check_room-requires
check_room-requires c = sizes c.args.asked.now c.look_over.ensures c.in_ok-survey.was

pub returns-in_err-check_room-clause-run : goal.returns-in_err-check_room-clause-run
returns-in_err-check_room-clause-run c =
    let e : c.from_residual-in_err-check_room.result ≡ Err c.in_err-check_room.field-0.0 = search rules in
    rw e (room_refused c.args.asked.now c.look_over.ensures c.in_ok-survey.was c.args.n c.args.room c.args.words.now c.check_room.ensures c.in_err-check_room.was)

pub invariant_of-run : goal.invariant_of-run
invariant_of-run c =
    let t = taken c.args.asked.now c.look_over.ensures c.in_ok-survey.was in
    record { width = t.width; whole = t.whole; survey_is = survey_is c.args.asked.now c.look_over.ensures c.in_ok-survey.was }

pub carry_out-requires-clause-ready : goal.carry_out-requires-clause-ready
carry_out-requires-clause-ready c = ready _ c.look_over.ensures c.in_ok-survey.was c.args.n c.args.room c.args.words.now c.check_room.ensures c.in_ok-check_room.was

pub carry_out-requires-clause-offsets_value : goal.carry_out-requires-clause-offsets_value
carry_out-requires-clause-offsets_value c = offsets_told c.args.asked.now c.look_over.ensures c.in_ok-survey.was

pub returns-clause-run : goal.returns-clause-run
returns-clause-run c = accepted_run _ c.look_over.ensures c.in_ok-survey.was c.args.n c.args.room c.args.words.now c.check_room.ensures c.in_ok-check_room.was c.carry_out.ensures.left c.progress.ensures
