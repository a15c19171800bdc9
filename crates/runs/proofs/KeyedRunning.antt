-- The keyed run of an accepted map: its refusals, and what an accepted call asks of its parts and leaves.
-- Assumes nothing.
use Rattle.std.proofs.Common.{◌≡◌, ℕ, ◌+◌, ◌-◌, ◌*◌, ◌≤◌, Bool, false, List, length, take, drop, sym, refl, ap, ◌∙◌, arith, take_at, ltb-false}
use Rattle.ring.specs.Lists.{Each}
use Rattle.ring.specs.declared.refusal.Refusal.{Refusal}
use Rattle.ring.specs.Refusals.{first_refusal}
use Rattle.ring.specs.Answers.{judged}
use Rattle.std.specs.Prelude.{None, Some, Result, Ok, Err, IsOk}
use Rattle.ring.specs.Vectors.{in_front}
use Rattle.ring.specs.Laws.Refusals.{first_later, none_holds, still_refused}
use Rattle.ring.specs.Laws.Answers.{when_ok, when_refused}
use Rattle.ring.specs.Laws.Vectors.{length_in_front}
use Rattle.diagonals.specs.Laws.Calls.{judged_none, judged_some}
use Rattle.diagonals.specs.Laws.Maps.{length_view}
use Rattle.linear_transformation.specs.declared.plan.PlanSizes.{PlanSizes}
use Rattle.linear_transformation.specs.declared.records.PairRecord.{PairRecord}
use Rattle.linear_transformation.specs.Schedules.{plan_babies, plan_words}
use Rattle.linear_transformation.specs.Stored.{StoredPlanWritten}
use Rattle.linear_transformation.specs.Laws.Plans.{width_positive, words_length}
use Rattle.runs.specs.declared.keyed.Progress.{Progress}
use Rattle.runs.specs.declared.run.Run.{Run}
use Rattle.runs.specs.declared.surveying.Asked.{Asked}
use Rattle.runs.specs.declared.surveying.Survey.{Survey}
use Rattle.runs.specs.declared.surveying.Words.{Words}
use Rattle.runs.specs.Keyed.{keyed_room, keyed_progress, keyed_left}
use Rattle.runs.specs.Laws.NodeRuns.{map_planned}
use Rattle.runs.specs.Steps.Surveys.{stored_in, offsets_in, survey_refusals, survey_refusal, takes, Taken, SurveyedOf, Sized, survey_room}
use Rattle.runs.specs.Steps.Ready.{with_records, AcceptedLeft, progress_by, run_refusal, CoreRun}
use Rattle.runs.specs.Steps.Runs.{Ready, RunAsked}
use Rattle.runs.proofs.Machining.{RunLeft}
use Rattle.runs.proofs.Entries.{map_range, map_formed}
use Rattle.runs.proofs.LookingOver.{offsets_many, offsets_distinct}
use Rattle.runs.proofs.PlanWriting.{plan_given, plan_written}
use Rattle.runs.proofs.Running.{holding, sized}

-- ---- an accepted run

module _ {r : Run} {w : Words} (d : Ready r w) {offsets : List ℕ} (o : offsets ≡ offsets_in r.asked.map) {plan' : List ℕ} {q : Result PlanSizes Refusal} (p : StoredPlanWritten r.asked.map.slots r.asked.strategy offsets w.plan.now plan' q) where
  abbrev words_of_plan : List ℕ
  words_of_plan = plan_words r.asked.map.slots r.asked.strategy (offsets_in r.asked.map)

  pub ready_planned : IsOk q
  ready_planned = plan_given r.asked.strategy (map_range r.asked.map) r.width (offsets_distinct r.asked.map) d.plan_room (rw o at p)

  plan_is : plan' ≡ in_front words_of_plan w.plan.now
  plan_is = plan_written r.asked.strategy (map_range r.asked.map) r.width (offsets_distinct r.asked.map) d.plan_room (rw o at p)

  pub plan_asked : RunAsked r (holding w plan' w.cache.now w.nodes.now w.log.now w.out.now)
  plan_asked =
      record {
        written = record {
          old_plan = w.plan.now;
          plan_is = plan_is;
          plan_room = rw (plan_is, length_in_front words_of_plan w.plan.now d.plan_room) d.plan_room;
          cache_room = d.cache_room;
          nodes_room = d.nodes_room;
        };
        log_room = d.log_room;
        out_room = d.out_room;
      }

  pub all_left : (n : ℕ) {w₁ : Words} → RunLeft r n (holding w plan' w.cache.now w.nodes.now w.log.now w.out.now) w₁ → AcceptedLeft r n w w₁
  unfolding keyed_left
  all_left n l = record { left = λ records. rw (l.plan_is, plan_is, l.cache_is, l.nodes_are, l.log_is, l.out_is) }

-- ---- refusals, and the accepted call

-- a refusal, whatever records are lent
refused : (a : Asked) (n room : ℕ) (w : Words) (e : Refusal) → ((records : List PairRecord) → length records ≡ room → run_refusal a.map.slots a.strategy (stored_in a.map) a.input.now a.held.now (with_records w records) ≡ Some e) → CoreRun a n room w w (Err e)
refused a n room w e q = record { run = λ records l. record { answer = rw (q records l) refl; words = rw (q records l) refl } }

module _ (a : Asked) {before after : List ℕ} {s : Result Survey Refusal} (look : SurveyedOf a before after s) where
  abbrev slots : ℕ
  slots = a.map.slots

  abbrev ks : List ℕ
  ks = offsets_in a.map

  abbrev tests : List (Bool × Refusal)
  tests = survey_refusals slots ks a.input.now a.strategy a.held.now

  abbrev room_for : Words → List PairRecord → List (Bool × Refusal)
  room_for w records = keyed_room slots a.strategy (stored_in a.map) (with_records w records)

  -- a refusal of the survey
  pub survey_refused : (n room : ℕ) (w : Words) {e : Refusal} → s ≡ Err e → CoreRun a n room w w (Err e)
  survey_refused n room w {e} h = refused a n room w e (λ records l. still_refused tests (room_for w records) (when_refused _ _ e (sym h ∙ look.answer)))

  module _ {survey : Survey} (z : s ≡ Ok survey) where
    none : survey_refusal slots ks a.input.now a.strategy a.held.now ≡ None
    none = (when_ok _ _ survey (sym z ∙ look.answer)).0

    pub taken : Taken slots a.input.now a.strategy
    taken = look.taken none

    pub survey_is : survey ≡ takes slots a.strategy ks a.map.count
    survey_is = (when_ok _ _ survey (sym z ∙ look.answer)).1

    pub sizes : Sized survey slots
    sizes = sized a.map a.strategy survey_is

    many : length (stored_in a.map) ≡ a.map.count
    many = length_view a.map.count a.map.pairs.now a.map.values.now

    pub offsets_told : take a.map.count after ≡ ks
    unfolding in_front
    offsets_told = rw (look.listed none) (take_at ks (drop (length ks) before) a.map.count (offsets_many a.map))

    module _ (n room : ℕ) (w : Words) where
      -- the room that the survey asks for is document 01's
      room_is : (records : List PairRecord) → length records ≡ room → first_refusal (survey_room survey slots room w) ≡ run_refusal slots a.strategy (stored_in a.map) a.input.now a.held.now (with_records w records)
      unfolding takes
      room_is records l = rw (survey_is, many, ← l) (rw many at (sym (first_later tests (room_for w records) none)))

      module _ {q : Result Unit Refusal} (j : q ≡ judged (first_refusal (survey_room survey slots room w))) where
        -- no room
        pub room_refused : {e : Refusal} → q ≡ Err e → CoreRun a n room w w (Err e)
        room_refused {e} h = refused a n room w e (λ records l. sym (room_is records l) ∙ judged_some j h)

        module _ (y : q ≡ Ok tt) where
          roomy : Each (λ c. c.0 ≡ false) (survey_room survey slots room w)
          roomy = none_holds (survey_room survey slots room w) (judged_none j y)

          plan_fits : length (plan_words slots a.strategy ks) ≤ length w.plan.now
          unfolding takes plan_words
          plan_fits =
              let p = map_planned (map_formed a.map) (map_range a.map).low a.strategy (width_positive a.strategy taken.width) in
              omega (
                arith,
                words_length p (plan_babies slots a.strategy ks),
                ap (λ (x : Survey). x.babies) survey_is,
                ap (λ (x : Survey). x.giants) survey_is,
                ap (λ (x : Survey). x.diagonals) survey_is,
                offsets_many a.map,
                ltb-false (length w.plan.now) (survey.babies + 3 * survey.giants + survey.diagonals) roomy.0,
              )

-- the run
module _ (r : Run) {before after : List ℕ} {s : Result Survey Refusal} (look : SurveyedOf r.asked before after s) (z : s ≡ Ok r.survey) (n room : ℕ) (w : Words) {q : Result Unit Refusal} (j : q ≡ judged (first_refusal (survey_room r.survey r.asked.map.slots room w))) (y : q ≡ Ok tt) where
  pub ready : Ready r w
  ready =
      let c = roomy r.asked look z n room w j y in
      record {
        plan_room = plan_fits r.asked look z n room w j y;
        cache_room = ltb-false (length w.cache.now) ((r.survey.babies - 1) * r.asked.map.slots) c.1.1.0;
        nodes_room = ltb-false (length w.nodes.now) (r.survey.giants * r.asked.map.slots) c.1.1.1.0;
        log_room = ltb-false (length w.log.now) r.survey.switches c.1.1.1.1.0;
        out_room = ltb-false (length w.out.now) r.asked.map.slots c.1.1.1.1.1.0;
      }

  answer_is : progress_by r.survey n ≡ keyed_progress r.asked.map.slots r.asked.strategy (stored_in r.asked.map) n
  unfolding keyed_progress takes
  answer_is = rw (r.survey_is, length_view r.asked.map.count r.asked.map.pairs.now r.asked.map.values.now) refl

  pub accepted_run : {w' : Words} {p : Progress} → AcceptedLeft r n w w' → p ≡ progress_by r.survey n → CoreRun r.asked n room w w' (Ok p)
  accepted_run {w'} v x =
      record { run = λ records l. let e = sym (room_is r.asked look z n room w records l) ∙ judged_none j y in record { answer = ap Ok (x ∙ answer_is) ∙ rw e refl; words = rw e (v.left records) } }
