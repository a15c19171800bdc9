-- The calls about stored offsets: the walk that tests them, refusals, plans and trees.
-- Assumes nothing.
use Prim.Native.Nat.{ℕ, zero, suc, ◌+◌, ◌≤◌, ◌<◌}
use mathlib.Core.Path.{◌≡◌, refl, sym, ap, ◌∙◌, subst}
use mathlib.Core.Bool.{Bool, true, false, true≢false}
use Rattle.std.proofs.Common.{◌&&◌, MatchBool}
use mathlib.Core.List.{List, [], ◌∷◌, ◌++◌}
use native.Mathlib.Omega.{arith}
use native.Mathlib.Numerals.{add-one}
use borrow.Author.Tests.{lt-ltb, le-ltb, ltb-true, leb-true}
use lib.Dec.{ltb, leb}
use lib.ListN.{length, get_or}
use Rattle.ring.specs.Vectors.{in_front}
use Rattle.std.specs.Prelude.{Option, None, Some, Result, Ok, Err}
use Rattle.ring.specs.declared.refusal.Refusal.{Refusal}
use Rattle.ring.specs.declared.refusal.Refusal.TheVariants.{Room}
use Rattle.ring.specs.Refusals.{first_refusal, outside}
use Rattle.ring.specs.Laws.Searches.{first, second, every_all, every_at, every_fails}
use Rattle.ring.specs.Laws.Refusals.{first_later, still_refused}
use Rattle.linear_transformation.specs.declared.LinearTransformationStrategy.{LinearTransformationStrategy}
use Rattle.linear_transformation.specs.declared.LinearTransformationStrategy.TheVariants.{Bsgs, BsgsPowersOfTwo, Direct}
use Rattle.linear_transformation.specs.declared.plan.PlanSizes.{PlanSizes}
use Rattle.linear_transformation.specs.declared.records.PairRecord.{PairRecord}
use Rattle.linear_transformation.specs.declared.rotations.TreeSizes.{TreeSizes}
use Rattle.linear_transformation.specs.Strategies.{width_outside}
use Rattle.linear_transformation.specs.Plans.{width_of}
use Rattle.linear_transformation.specs.Trees.{Tree, tree_records, tree_switches}
use Rattle.linear_transformation.specs.Schedules.{plan_babies, plan_words, plan_tree}
use Rattle.linear_transformation.specs.Stored.{least_at, offset_fits, offsets_rise, stored_refusals, pair_count, stored_plan_refusal, StoredPlanWritten, PlanRecordsWritten}
use Rattle.linear_transformation.specs.declared.sorted.Sorted.{Sorted}
use Rattle.linear_transformation.specs.declared.tree.Tree.{Tree as Standing}
use Rattle.linear_transformation.specs.Steps.Plans.{DiagonalsAccepted, WordsWritten}
use Rattle.linear_transformation.specs.Steps.Trees.{Planted, TreeOf, heap_switches}
use Rattle.linear_transformation.specs.Steps.Keys.{Sizable, Accepted, giants_of}
use Rattle.linear_transformation.specs.Steps.Records.{heap_records}
use Rattle.linear_transformation.specs.Laws.Plans.{width_positive}
use Rattle.linear_transformation.specs.Laws.Stored.{neighbours_rise, places_each, rise_distinct, distinct_rise}
use Rattle.linear_transformation.specs.Laws.Tables.{agree}
use Rattle.linear_transformation.proofs.Growth.{sizes, records_refused}
use Rattle.linear_transformation.proofs.PlanAnswers.{in_range_lem, words_same}
use Rattle.linear_transformation.proofs.KeyAnswers.{plan_tree_lem}
use Rattle.linear_transformation.proofs.Strategies.{powers}
use Rattle.linear_transformation.proofs.Facts.{sizable}
use Rattle.linear_transformation.specs.Steps.Strategies.{turns_each}

-- ---- rising offsets

module _ (slots : ℕ) (ks : List ℕ) where
  -- the test of an offset and the next one
  abbrev pub next_fits : ℕ → ℕ → Bool
  next_fits a b = ltb a b && ltb b slots

  failing : (k : ℕ) → (next_fits (get_or ks k 0) (get_or ks (suc k) 0) ≡ false) → offset_fits slots ks (suc k) ≡ false
  failing k e = by (offset_fits slots ks (suc k)) refl
    where
      by : (b : Bool) → offset_fits slots ks (suc k) ≡ b → offset_fits slots ks (suc k) ≡ false
      by false q = q
      by true q =
          absurd (true≢false (sym (rw (lt-ltb (get_or ks k 0) (get_or ks (suc k) 0) (omega (arith, leb-true (suc (get_or ks k 0)) (get_or ks (suc k) 0) (first (leb (least_at ks (suc k)) (get_or ks (suc k) 0)) _ q))), second (leb (least_at ks (suc k)) (get_or ks (suc k) 0)) _ q) refl) ∙ e))

  pub none_rises : length ks ≤ 0 → true ≡ offsets_rise slots ks
  unfolding offsets_rise
  none_rises l = sym (every_all (offset_fits slots ks) (length ks) (λ t h. absurd (omega arith)))

  module _ {x : ℕ} (n : 0 < length ks) (q : x ≡ get_or ks 0 0) where
    pub first_outside : slots ≤ x → ltb x slots ≡ offsets_rise slots ks
    unfolding offsets_rise
    first_outside h = agree (λ y. absurd (omega (arith, h, ltb-true x slots y))) (λ y. lt-ltb x slots (omega (arith, q, ltb-true (get_or ks 0 0) slots (second (leb 0 (get_or ks 0 0)) _ (every_at (offset_fits slots ks) (length ks) y 0 n)))))

    -- the first is below slots, and each next one is above it and below slots
    low_at : x < slots → ((k d : ℕ) → k + 1 < length ks → true ≡ next_fits (get_or ks k d) (get_or ks (k + 1) d)) → (t : ℕ) → t < length ks → get_or ks t 0 < slots
    low_at l h zero m = omega (arith, l, q)
    low_at l h (suc t) m = ltb-true _ _ (ap (λ j. ltb (get_or ks j 0) slots) (sym (add-one t)) ∙ second _ _ (sym (h t 0 (omega (arith, m)))))

    pub next_decides : {r : Bool} → x < slots
        → MatchBool r ((k d : ℕ) → k + 1 < length ks → true ≡ next_fits (get_or ks k d) (get_or ks (k + 1) d)) ((k : ℕ) × (k + 1 < length ks) × ((d : ℕ) → false ≡ next_fits (get_or ks k d) (get_or ks (k + 1) d)))
        → r ≡ offsets_rise slots ks
    unfolding offsets_rise
    next_decides {r = true} l h =
        sym (distinct_rise slots ks (record {
          rises = neighbours_rise ks (λ t m. ltb-true _ _ (ap (λ j. ltb (get_or ks t 0) (get_or ks j 0)) (sym (add-one t)) ∙ first _ _ (sym (h t 0 (omega (arith, m))))));
          low = places_each (λ k. k < slots) ks (low_at l h);
        }))
    next_decides {r = false} l (k, m, e) = sym (every_fails (offset_fits slots ks) (length ks) (suc k) (omega (arith, m)) (failing k (ap (λ j. next_fits (get_or ks k 0) (get_or ks j 0)) (sym (add-one k)) ∙ sym (e 0))))

-- ---- refusals

module _ {slots : ℕ} {s : LinearTransformationStrategy} {ks : List ℕ} where
  pub stored_accepted : outside slots ≡ false → offsets_rise slots ks ≡ true → width_outside s ≡ false → Accepted slots s ks
  stored_accepted e f g =
      let d = rise_distinct slots ks f in
      record { slots_in_fact = in_range_lem e; width_in = g; planned = record { rises = d.rises; low = d.low; positive = width_positive s g } }

-- ---- plans

module _ {slots : ℕ} {s : LinearTransformationStrategy} {ks : List ℕ} {old : List ℕ} where
  pub stored_plan_refused : {x : Refusal} → first_refusal (stored_refusals slots s ks) ≡ Some x → StoredPlanWritten slots s ks old old (Err x)
  stored_plan_refused n =
      let q = still_refused (stored_refusals slots s ks) ((ltb (length old) (length (plan_words slots s ks)), Room) ∷ []) n in
      record { answer = rw q; words = rw q }

  pub stored_plan_written : {n : ℕ} {t : LinearTransformationStrategy} {js new : List ℕ} {a : Result PlanSizes Refusal} → DiagonalsAccepted (stored_refusals slots s ks) slots s ks n t js
      → WordsWritten (plan_babies n t js) n (width_of t) js old new a → StoredPlanWritten slots s ks old new a
  unfolding plan_words
  stored_plan_written k v =
      let w = words_same k v in
      let q : stored_plan_refusal slots s ks old ≡ first_refusal ((ltb (length old) (length (plan_words slots s ks)), Room) ∷ []) = first_later (stored_refusals slots s ks) ((ltb (length old) (length (plan_words slots s ks)), Room) ∷ []) k.none in
      record { answer = rw q w.answer; words = rw q w.words }

-- ---- the records of a plan's tree

module _ {slots width : ℕ} {ds : List ℕ} (z : Sizable slots width ds) {heap : List Bool} {bits count : ℕ} (p : Planted slots width (giants_of width ds) heap bits) (c : count ≡ heap_switches bits heap bits) where
  count_is : count ≡ tree_switches (plan_tree slots width ds)
  count_is = (sizes p c).switches ∙ ap tree_switches (plan_tree_lem z)

  pub records_room : length (heap_records bits heap) ≡ count
  unfolding tree_switches
  records_room = sym ((sizes p c).switches ∙ ap length (sym (sizes p c).records_are))

  module _ (ps : List PairRecord) (n : first_refusal (stored_refusals slots (BsgsPowersOfTwo width) ds) ≡ None) where
    later : first_refusal (stored_refusals slots (BsgsPowersOfTwo width) ds ++ (ltb (length ps) (pair_count slots (BsgsPowersOfTwo width) ds), Room) ∷ []) ≡ first_refusal ((ltb (length ps) count, Room) ∷ [])
    unfolding pair_count
    later = rw count_is (first_later (stored_refusals slots (BsgsPowersOfTwo width) ds) ((ltb (length ps) (tree_switches (plan_tree slots width ds)), Room) ∷ []) n)

    pub powers_short : length ps < count → PlanRecordsWritten slots (BsgsPowersOfTwo width) ds ps ps (Err Room)
    powers_short l = records_refused (later ∙ rw (lt-ltb _ _ l)) ps

    pub powers_told : {ps' : List PairRecord} → count ≤ length ps → ps' ≡ in_front (heap_records bits heap) ps → PlanRecordsWritten slots (BsgsPowersOfTwo width) ds ps ps' (Ok (Some (record { bits = bits; pairs = count })))
    powers_told l q =
        let none : first_refusal (stored_refusals slots (BsgsPowersOfTwo width) ds ++ (ltb (length ps) (pair_count slots (BsgsPowersOfTwo width) ds), Room) ∷ []) ≡ None = rw (later, le-ltb _ _ l) in
        let t = sizes p c in
        record {
          answer = rw (none, t.bits ∙ ap (λ (x : Tree). x.bits) (plan_tree_lem z), count_is) refl;
          records_are = rw none (q ∙ ap (λ (rs : List PairRecord). in_front rs ps) (t.records_are ∙ ap tree_records (plan_tree_lem z)));
        }

-- by the strategy
pub plan_refused : (slots : ℕ) (s : LinearTransformationStrategy) (gs : List ℕ) (ps : List PairRecord) {x : Refusal} → turns_each s ≡ false → first_refusal (stored_refusals slots s gs) ≡ Some x → PlanRecordsWritten slots s gs ps ps (Err x)
unfolding turns_each
plan_refused slots (Bsgs w) gs ps e h = absurd (true≢false e)
plan_refused slots (BsgsPowersOfTwo w) gs ps e h = records_refused (still_refused (stored_refusals slots (BsgsPowersOfTwo w) gs) ((ltb (length ps) (pair_count slots (BsgsPowersOfTwo w) gs), Room) ∷ []) h) ps
plan_refused slots Direct gs ps e h = absurd (true≢false e)

module _ {slots : ℕ} {s : LinearTransformationStrategy} {gs : List ℕ} (x : Sorted) (k : DiagonalsAccepted (stored_refusals slots s gs) slots s gs x.slots x.strategy x.ds.now) (e : turns_each s ≡ false) {t : Standing} (p : TreeOf x.slots (width_of x.strategy) (giants_of (width_of x.strategy) x.ds.now) t) {count : ℕ} (c : count ≡ heap_switches t.bits t.nodes.now t.bits) where
  powers_are : x.strategy ≡ BsgsPowersOfTwo (width_of x.strategy)
  powers_are = powers (rw k.strategy_is e) refl

  none_here : first_refusal (stored_refusals x.slots (BsgsPowersOfTwo (width_of x.strategy)) x.ds.now) ≡ None
  none_here = subst (λ (q : LinearTransformationStrategy). first_refusal (stored_refusals x.slots q x.ds.now) ≡ None) powers_are (rw (k.slots_is, k.strategy_is, k.diagonals_are) k.none)

  told_there : {ps ps' : List PairRecord} {r : Result (Option TreeSizes) Refusal} → PlanRecordsWritten x.slots (BsgsPowersOfTwo (width_of x.strategy)) x.ds.now ps ps' r → PlanRecordsWritten slots s gs ps ps' r
  told_there {ps} {ps'} {r} w =
      let v : PlanRecordsWritten x.slots x.strategy x.ds.now ps ps' r = subst (λ (q : LinearTransformationStrategy). PlanRecordsWritten x.slots q x.ds.now ps ps' r) (sym powers_are) w in
      rw (k.slots_is, k.strategy_is, k.diagonals_are) at v

  pub plan_short : (ps : List PairRecord) → length ps < count → PlanRecordsWritten slots s gs ps ps (Err Room)
  plan_short ps l = told_there (powers_short (sizable x) p.planted c ps none_here l)

  pub plan_room : length (heap_records t.bits t.nodes.now) ≡ count
  plan_room = records_room (sizable x) p.planted c

  pub plan_told : (ps : List PairRecord) {ps' : List PairRecord} → count ≤ length ps → ps' ≡ in_front (heap_records t.bits t.nodes.now) ps → PlanRecordsWritten slots s gs ps ps' (Ok (Some (record { bits = t.bits; pairs = count })))
  plan_told ps l q = told_there (powers_told (sizable x) p.planted c ps none_here l q)

-- where each rotation has its own key, nothing is written
pub each_written : (slots : ℕ) (s : LinearTransformationStrategy) (gs : List ℕ) (ps : List PairRecord) → turns_each s ≡ true → PlanRecordsWritten slots s gs ps ps (Ok None)
unfolding turns_each
each_written slots (Bsgs w) gs ps e = (refl, refl)
each_written slots (BsgsPowersOfTwo w) gs ps e = absurd (true≢false (sym e))
each_written slots Direct gs ps e = (refl, refl)
