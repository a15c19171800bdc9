-- The keyed run with its pair records: what `plan_records` leaves, from the plan that the run wrote, is what document 01 says
-- of the records.
--     keyed_recorded   the run but for its records, and the records of its plan's giants, are the whole run
-- Assumes nothing.
use Rattle.std.proofs.Common.{◌≡◌, ℕ, ◌≤◌, Bool, false, not, eqb, ltb, List, [], ◌∷◌, ◌++◌, length, take, drop, sym, refl, ap, ◌∙◌, subst, ltb-false, le-ltb}
use Rattle.ring.specs.declared.refusal.Refusal.{Refusal}
use Rattle.ring.specs.declared.refusal.Refusal.TheVariants.{OutOfRange, Length, Key, Room}
use Rattle.ring.specs.Refusals.{first_refusal, outside}
use Rattle.std.specs.Prelude.{Option, None, Result, Ok, Err, IsOk}
use Rattle.ring.specs.Vectors.{in_front}
use Rattle.ring.specs.Laws.Refusals.{on_accept_accepted, none_holds}
use Rattle.ring.specs.Laws.Answers.{when_ok, when_refused}
use Rattle.diagonals.specs.declared.map.Map.{Map}
use Rattle.diagonals.specs.Maps.{Diagonal, view}
use Rattle.diagonals.specs.Calls.{SameParts}
use Rattle.diagonals.specs.Laws.Calls.{same_outside, same_formed}
use Rattle.linear_transformation.specs.declared.LinearTransformationStrategy.{LinearTransformationStrategy}
use Rattle.linear_transformation.specs.declared.LinearTransformationStrategy.TheVariants.{Bsgs, BsgsPowersOfTwo, Direct}
use Rattle.linear_transformation.specs.declared.records.PairRecord.{PairRecord}
use Rattle.linear_transformation.specs.declared.rotations.TreeSizes.{TreeSizes}
use Rattle.linear_transformation.specs.Strategies.{width_outside}
use Rattle.linear_transformation.specs.Schedules.{plan_giants}
use Rattle.linear_transformation.specs.Stored.{is_missing, pair_count, plan_records, stored_refusals, PlanRecordsWritten}
use Rattle.linear_transformation.specs.Laws.Records.{giants_offsets, records_again, count_again}
use Rattle.runs.specs.declared.keyed.Progress.{Progress}
use Rattle.runs.specs.declared.surveying.Asked.{Asked}
use Rattle.runs.specs.declared.surveying.Words.{Words}
use Rattle.runs.specs.Keyed.{Lent, lent, keyed_room, keyed_refusal, keyed_progress, keyed_left, KeyedRun}
use Rattle.runs.specs.Plans.{map_keys}
use Rattle.runs.specs.Laws.PlanWords.{giants_read}
use Rattle.runs.specs.Steps.Surveys.{stored_in, offsets_in}
use Rattle.runs.specs.Steps.Ready.{with_records, run_refusal, RunDone, DoneOf, run_records, CoreRun}
use Rattle.runs.proofs.Accepted.{given}

-- over a plan's giants, the plan's records
module _ (slots : ℕ) (ks : List ℕ) (old new : List PairRecord) (t : Result (Option TreeSizes) Refusal) (o : outside slots ≡ false) where
  tree_fits : (width : ℕ) → width_outside (BsgsPowersOfTwo width) ≡ false → pair_count slots (BsgsPowersOfTwo width) ks ≤ length old
      → first_refusal (stored_refusals slots (BsgsPowersOfTwo width) (plan_giants slots (BsgsPowersOfTwo width) ks) ++ (ltb (length old) (pair_count slots (BsgsPowersOfTwo width) (plan_giants slots (BsgsPowersOfTwo width) ks)), Room) ∷ []) ≡ None
  tree_fits width w room =
      let s = BsgsPowersOfTwo width in
      rw (o, giants_offsets slots s ks, w, count_again slots s ks, le-ltb (length old) (pair_count slots s ks) room) refl

  giants_given : (s : LinearTransformationStrategy) → width_outside s ≡ false → pair_count slots s ks ≤ length old → PlanRecordsWritten slots s (plan_giants slots s ks) old new t → IsOk t
  giants_given (Bsgs width) w room p = rw p.0 refl
  giants_given (BsgsPowersOfTwo width) w room p = given _ _ p.answer (tree_fits width w room)
  giants_given Direct w room p = rw p.0 refl

  giants_written : (s : LinearTransformationStrategy) → width_outside s ≡ false → pair_count slots s ks ≤ length old → PlanRecordsWritten slots s (plan_giants slots s ks) old new t → new ≡ in_front (plan_records slots s ks) old
  unfolding in_front plan_records
  giants_written (Bsgs width) w room p = p.1
  giants_written (BsgsPowersOfTwo width) w room p =
      p.records_are
      ∙ on_accept_accepted _ _ _ (tree_fits width w room)
      ∙ ap (λ (rs : List PairRecord). in_front rs old) (records_again slots (BsgsPowersOfTwo width) ks)
  giants_written Direct w room p = p.1

-- what is left in the lent words, by what a struct of them holds at last
pub as_left : {slots count : ℕ} {pairs values input : List ℕ} {strategy : LinearTransformationStrategy} {held : List ℕ} {n : ℕ} {old : Lent} {records : List PairRecord} {plan plan' cache cache' nodes nodes' log log' out out' : List ℕ} {r : Result Progress Refusal}
    → KeyedRun slots count pairs values input strategy held n old (lent plan records cache nodes log out) r → plan' ≡ plan → cache' ≡ cache → nodes' ≡ nodes → log' ≡ log → out' ≡ out
    → KeyedRun slots count pairs values input strategy held n old (lent plan' records cache' nodes' log' out') r
as_left k p c n l o = rw (p, c, n, l, o) k

-- the run of an accepted map, by the parts that the call lent
module _ {slots count : ℕ} {pairs values : List ℕ} (m : Map) (e : SameParts slots count pairs values m.slots m.count m.pairs.now m.values.now) where
  abbrev ds : List Diagonal
  ds = view count pairs values

  refusal_is : (strategy : LinearTransformationStrategy) (input held : List ℕ) (words : Lent) → run_refusal m.slots strategy (stored_in m) input held words ≡ keyed_refusal slots count pairs values input strategy held words
  refusal_is strategy input held words = rw (same_outside e m.in_range, same_formed e m.formed, e.slots_is, e.count_is, e.pairs_is, e.values_is) refl

  pub keyed_of : {strategy : LinearTransformationStrategy} {input held : List ℕ} {n : ℕ} {old new : Lent} {r : Result Progress Refusal} → RunDone m.slots strategy (stored_in m) input held n old new r → KeyedRun slots count pairs values input strategy held n old new r
  keyed_of {strategy} {input} {held} {n} {old} d =
      record {
        answer = d.answer ∙ rw (refusal_is strategy input held old, e.slots_is, e.count_is, e.pairs_is, e.values_is) refl;
        words = d.words ∙ rw (refusal_is strategy input held old, e.slots_is, e.count_is, e.pairs_is, e.values_is) refl;
      }

module _ (a : Asked) (n : ℕ) where
  abbrev slots : ℕ
  slots = a.map.slots

  abbrev strategy : LinearTransformationStrategy
  strategy = a.strategy

  abbrev ks : List ℕ
  ks = offsets_in a.map

  -- what an accepted run tells of its width and its records
  fit : (old : Lent) → run_refusal slots strategy (stored_in a.map) a.input.now a.held.now old ≡ None → (width_outside strategy ≡ false) × (pair_count slots strategy ks ≤ length old.records)
  fit old e =
      let tests : List (Bool × Refusal) =
      (width_outside strategy, OutOfRange)
      ∷ (not (eqb (length a.input.now) slots), Length)
      ∷ (is_missing a.held.now (map_keys slots strategy (stored_in a.map)), Key)
      ∷ keyed_room slots strategy (stored_in a.map) old in
      let c = none_holds tests e in
      (c.0, ltb-false _ _ c.1.1.1.1.0)

  module _ (records : List PairRecord) {before after : Words} {r : Result Progress Refusal} (c : CoreRun a n (length records) before after r) where
    abbrev old : Lent
    old = with_records before records

    abbrev refusal : Option Refusal
    refusal = run_refusal slots strategy (stored_in a.map) a.input.now a.held.now old

    core : DoneOf a n old (with_records after (run_records a old)) r
    core = c.run records refl

    -- with the records that it says
    with_these : (records' : List PairRecord) → records' ≡ run_records a old → DoneOf a n old (with_records after records') r
    with_these records' e = subst (λ (l : List PairRecord). DoneOf a n old (with_records after l) r) (sym e) core

    pub refused_recorded : {e : Refusal} → r ≡ Err e → DoneOf a n old (with_records after records) r
    refused_recorded {e} h = with_these records (rw (when_refused refusal _ e (sym h ∙ core.answer)) refl)

    module _ {p : Progress} (h : r ≡ Ok p) where
      accepted : (refusal ≡ None) × (p ≡ keyed_progress slots strategy (stored_in a.map) n)
      accepted = when_ok refusal _ p (sym h ∙ core.answer)

      plan_read : take p.giants (drop p.babies after.plan.now) ≡ plan_giants slots strategy ks
      unfolding keyed_progress keyed_left
      plan_read = rw accepted.1 (giants_read slots strategy ks after.plan.now before.plan.now (ap (λ (l : Lent). l.plan) (core.words ∙ on_accept_accepted _ _ _ accepted.0)))

      module _ (records' : List PairRecord) (t : Result (Option TreeSizes) Refusal) {slots' : ℕ} (s : slots ≡ slots') {read : List ℕ} (same : read ≡ after.plan.now) (w : PlanRecordsWritten slots' strategy (take p.giants (drop p.babies read)) records records' t) where
        over_giants : PlanRecordsWritten slots strategy (plan_giants slots strategy ks) records records' t
        over_giants =
            subst (λ (g : List ℕ). PlanRecordsWritten slots strategy g records records' t) (ap (λ (v : List ℕ). take p.giants (drop p.babies v)) same ∙ plan_read)
            (subst (λ (x : ℕ). PlanRecordsWritten x strategy (take p.giants (drop p.babies read)) records records' t) (sym s) w)

        pub records_given : IsOk t
        records_given = let f = fit old accepted.0 in giants_given slots ks records records' t a.map.in_range strategy f.0 f.1 over_giants

        pub keyed_recorded : DoneOf a n old (with_records after records') r
        keyed_recorded = let f = fit old accepted.0 in with_these records' (giants_written slots ks records records' t a.map.in_range strategy f.0 f.1 over_giants ∙ sym (on_accept_accepted refusal _ _ accepted.0))
