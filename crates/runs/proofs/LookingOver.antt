-- The survey before a run: each refusal, the offsets listed, and what the plan needs.
-- Assumes nothing.
use Rattle.std.specs.Prelude.{Option, None, Some, Result, Ok, Err}
use Rattle.std.proofs.Common.{◌≡◌, ℕ, false, List, length, take, drop, sym, refl, ap, ◌∙◌, take_at, eq-eqb}
use Rattle.ring.specs.declared.refusal.Refusal.{Refusal}
use Rattle.ring.specs.Vectors.{tabulate, in_front, Filling}
use Rattle.ring.specs.Laws.Refusals.{not_outside}
use Rattle.ring.specs.Laws.Answers.{when_ok, when_refused}
use Rattle.ring.specs.Laws.Vectors.{length_tabulate, filled_front}
use Rattle.diagonals.specs.declared.map.Map.{Map}
use Rattle.diagonals.specs.Maps.{offset_at}
use Rattle.diagonals.specs.Laws.Maps.{offsets_view}
use Rattle.diagonals.specs.Laws.Words.{formed_view}
use Rattle.linear_transformation.specs.declared.LinearTransformationStrategy.{LinearTransformationStrategy}
use Rattle.linear_transformation.specs.declared.LinearTransformationStrategy.TheVariants.{Bsgs, BsgsPowersOfTwo, Direct}
use Rattle.linear_transformation.specs.declared.stored.Needs.{Needs}
use Rattle.linear_transformation.specs.Strategies.{width_outside}
use Rattle.linear_transformation.specs.Plans.{Distinct}
use Rattle.linear_transformation.specs.Stored.{needs_refusal, needs_of, plan_needs}
use Rattle.linear_transformation.specs.Laws.Stored.{distinct_rise}
use Rattle.runs.specs.declared.surveying.Asked.{Asked}
use Rattle.runs.specs.declared.surveying.Survey.{Survey}
use Rattle.runs.specs.Laws.Plans.{map_distinct}
use Rattle.runs.specs.Steps.Surveys.{stored_in, offsets_in, powers_by, survey_refusal, takes, SurveyedOf}
use Rattle.runs.proofs.Entries.{map_range, map_formed}

-- the survey that a plan's needs become
abbrev pub survey_from : LinearTransformationStrategy → ℕ → Needs → Survey
survey_from strategy count n =
    record { diagonals = count; babies = n.babies; giants = n.giants; pairs = n.pairs; switches = n.switches; powers = powers_by strategy n.step n.bits }

needs_surveyed : (slots : ℕ) (strategy : LinearTransformationStrategy) (ks : List ℕ) (count : ℕ) → survey_from strategy count (needs_of slots strategy ks) ≡ takes slots strategy ks count
unfolding takes
needs_surveyed slots strategy ks count = refl

-- a strategy that is not by powers of two
pub powers_else : (strategy : LinearTransformationStrategy) (step bits : ℕ) → ((width : ℕ) → strategy ≡ BsgsPowersOfTwo width → ⊥) → powers_by strategy step bits ≡ None
powers_else (Bsgs width) step bits h = refl
powers_else (BsgsPowersOfTwo width) step bits h = absurd (h width refl)
powers_else Direct step bits h = refl

-- the offsets of an accepted map
module _ (m : Map) where
  pub offsets_are : offsets_in m ≡ tabulate m.count (offset_at m.pairs.now)
  offsets_are = offsets_view m.count m.pairs.now m.values.now

  pub offsets_many : length (offsets_in m) ≡ m.count
  offsets_many = ap length offsets_are ∙ length_tabulate m.count (offset_at m.pairs.now)

  pub offsets_distinct : Distinct m.slots (offsets_in m)
  offsets_distinct = map_distinct m.slots (map_range m).low (stored_in m) (formed_view m.slots m.count m.pairs.now m.values.now (map_formed m))

module _ (a : Asked) where
  abbrev slots : ℕ
  slots = a.map.slots

  abbrev ks : List ℕ
  ks = offsets_in a.map

  abbrev refusal : Option Refusal
  refusal = survey_refusal slots ks a.input.now a.strategy a.held.now

  pub refused_by : {e : Refusal} {old new : List ℕ} → refusal ≡ Some e → length new ≡ length old → SurveyedOf a old new (Err e)
  refused_by s l = record { answer = rw s refl; taken = λ z. no_none (sym s ∙ z); listed = λ z. no_none (sym s ∙ z); len = l }
    where
      no_none : {X : Type 0} {e : Refusal} → Some e ≡ None → X
      no_none q = cc

  module _ (w : width_outside a.strategy ≡ false) (i : length a.input.now ≡ slots) {old mid : List ℕ} {n : ℕ} (f : Filling (offset_at a.map.pairs.now) old mid n) (all : n ≡ a.map.count) where
    mid_is : mid ≡ in_front ks old
    mid_is = f.so_far ∙ rw all (filled_front (offset_at a.map.pairs.now) a.map.count old) ∙ ap (λ (x : List ℕ). in_front x old) (sym (offsets_are a.map))

    front : take a.map.count mid ≡ ks
    unfolding in_front
    front = rw mid_is (take_at ks (drop (length ks) old) a.map.count (offsets_many a.map))

    survey_needs : refusal ≡ needs_refusal slots a.strategy ks a.held.now
    survey_needs = let r = map_range a.map in rw (not_outside slots r.low r.high, distinct_rise slots ks (offsets_distinct a.map), w, eq-eqb (length a.input.now) slots i) refl

    module _ {v : Result Needs Refusal} (p : v ≡ plan_needs (needs_refusal slots a.strategy (take a.map.count mid) a.held.now) slots a.strategy (take a.map.count mid)) where
      pub needs_refused : {e : Refusal} → v ≡ Err e → SurveyedOf a old mid (Err e)
      unfolding plan_needs
      needs_refused {e} q =
          let s : needs_refusal slots a.strategy ks a.held.now ≡ Some e = rw (← front) (when_refused _ _ e (sym q ∙ p)) in
          refused_by (survey_needs ∙ s) f.len

      pub survey_done : {u : Needs} → v ≡ Ok u → SurveyedOf a old mid (Ok (survey_from a.strategy a.map.count u))
      unfolding plan_needs
      survey_done {u} q =
          let s = when_ok _ _ u (sym q ∙ p) in
          let none : refusal ≡ None = survey_needs ∙ rw (← front) s.0 in
          let u_is : u ≡ needs_of slots a.strategy ks = rw (← front) s.1 in
          record {
            answer = ap (λ (x : Needs). Ok (survey_from a.strategy a.map.count x)) u_is ∙ ap Ok (needs_surveyed slots a.strategy ks a.map.count) ∙ rw none refl;
            taken = λ z. record { width = w; whole = i };
            listed = λ z. mid_is;
            len = f.len;
          }
