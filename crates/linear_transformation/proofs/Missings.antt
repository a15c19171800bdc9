-- The table of held keys, whether a plan's key is not in it, and the numbers of a plan.
-- Assumes nothing.
use Prim.Native.Nat.{ℕ, zero, suc, ◌+◌, ◌≤◌, ◌<◌}
use mathlib.Core.Path.{◌≡◌, refl, sym, ap, ◌∙◌}
use mathlib.Core.Logic.{⊎_elim}
use mathlib.Core.Bool.{Bool, true, false, not, ◌||◌, true≢false}
use mathlib.Core.List.{List, [], ◌∷◌}
use native.Mathlib.Nat.{suc-ne-zero}
use native.Mathlib.Omega.{arith}
use borrow.Author.Tests.{eqb-true, ne_eqb, le-ltb}
use lib.Dec.{eqb, ltb}
use lib.ListN.{length, take, drop}
use lib.Seq.{take_at}
use Rattle.ring.specs.Lists.{some, among, Each}
use Rattle.ring.specs.Marks.{marks}
use Rattle.ring.specs.Vectors.{in_front}
use Rattle.ring.specs.Refusals.{first_refusal}
use Rattle.std.specs.Prelude.{None, Some, Result, Ok, Err}
use Rattle.ring.specs.declared.refusal.Refusal.{Refusal}
use Rattle.ring.specs.declared.refusal.Refusal.TheVariants.{Key, Room}
use Rattle.ring.specs.Laws.Answers.{same_value}
use Rattle.ring.specs.Laws.Refusals.{first_later, still_refused}
use Rattle.ring.specs.Laws.Lists.{each_then}
use Rattle.ring.specs.Laws.Searches.{both, first, second}
use Rattle.ring.specs.Laws.Members.{one_of, left, right, among_left, among_right, among_split, among_some, below_among, each_among}
use Rattle.linear_transformation.specs.declared.LinearTransformationStrategy.{LinearTransformationStrategy}
use Rattle.linear_transformation.specs.declared.LinearTransformationStrategy.TheVariants.{BsgsPowersOfTwo}
use Rattle.linear_transformation.specs.declared.stored.Needs.{Needs}
use Rattle.linear_transformation.specs.Plans.{baby_of, giant_of, babies, giants, width_of}
use Rattle.linear_transformation.specs.Closures.{nonzeros}
use Rattle.linear_transformation.specs.Schedules.{plan_babies, keys_per_rotation, plan_keys, giant_switches, plan_switches}
use Rattle.linear_transformation.specs.Calls.{ListWritten}
use Rattle.linear_transformation.specs.Stored.{stored_refusals, is_missing, pair_count, step_of, bits_for, needs_refusal, plan_needs}
use Rattle.linear_transformation.specs.Steps.Plans.{Diagonals, StepIs, DiagonalsAccepted}
use Rattle.linear_transformation.specs.Steps.Keys.{Sizable, Accepted, BabySwitches, giants_of}
use Rattle.linear_transformation.specs.Steps.Trees.{Planted, heap_switches}
use Rattle.linear_transformation.specs.Trees.{Tree}
use Rattle.linear_transformation.specs.Steps.Strategies.{turns_each}
use Rattle.linear_transformation.specs.Steps.Stored.{HeldMarked, turn_lacked, turns_lacked, Lacking, keys_refusal}
use Rattle.linear_transformation.specs.Laws.Plans.{baby_le, giant_le, babies_have, giants_have}
use Rattle.linear_transformation.specs.Laws.Runs.{some_member, giants_bound, babies_bound}
use Rattle.linear_transformation.specs.Laws.CommonDivisors.{baby_step_bound}
use Rattle.linear_transformation.specs.Laws.Tables.{agree}
use Rattle.linear_transformation.specs.Laws.Stored.{keys_low, power_keys_few, babies_switched}
use Rattle.linear_transformation.proofs.Keyings.{width_range}
use Rattle.linear_transformation.proofs.Strategies.{Own, powers}
use Rattle.linear_transformation.proofs.Growth.{sizes}
use Rattle.linear_transformation.proofs.KeyAnswers.{plan_tree_lem, pairs_counted}

-- ---- the held list

-- the first t held numbers are marked
pub record Holding (held : List ℕ) (seen : List Bool) (t : ℕ) : Type 0 where
  pub room : t ≤ length held
  pub so_far : HeldMarked (take t held) seen

-- ---- the keys where each rotation has its own

no_zero : (xs : List ℕ) → among 0 (nonzeros xs) ≡ false
no_zero [] = refl
no_zero (zero ∷ xs) = no_zero xs
no_zero (suc x ∷ xs) = rw (ne_eqb (suc x) 0 (suc-ne-zero x)) (rw (ne_eqb (suc x) 0 (suc-ne-zero x)) (no_zero xs))

nonzero_same : (k : ℕ) (xs : List ℕ) → among (suc k) (nonzeros xs) ≡ among (suc k) xs
nonzero_same k [] = refl
nonzero_same k (zero ∷ xs) = rw (ne_eqb 0 (suc k) (λ e. suc-ne-zero k (sym e))) (nonzero_same k xs)
nonzero_same k (suc x ∷ xs) = rw (ne_eqb (suc x) 0 (suc-ne-zero x)) (ap (λ (b : Bool). eqb (suc x) (suc k) || b) (nonzero_same k xs))

among_nonzero : (k : ℕ) (xs : List ℕ) → not (eqb k 0) ≡ true → among k xs ≡ true → among k (nonzeros xs) ≡ true
among_nonzero zero xs n h = absurd (true≢false (sym n))
among_nonzero (suc k) xs n h = nonzero_same k xs ∙ h

nonzero_among : (k : ℕ) (xs : List ℕ) → among k (nonzeros xs) ≡ true → (not (eqb k 0) ≡ true) × (among k xs ≡ true)
nonzero_among zero xs h = absurd (true≢false (sym h ∙ no_zero xs))
nonzero_among (suc k) xs h = (rw (ne_eqb (suc k) 0 (suc-ne-zero k)), sym (nonzero_same k xs) ∙ h)

module _ {width : ℕ} {ds : List ℕ} (g : Diagonals width ds) {seen : List Bool} {held : List ℕ} (m : HeldMarked held seen) where
  abbrev turns : List ℕ
  turns = keys_per_rotation (babies 65536 width ds) (giants 65536 width ds)

  unheld : (k : ℕ) → k < 65536 → turn_lacked seen k ≡ true → (not (eqb k 0) ≡ true) × (not (among k held) ≡ true)
  unheld k l h = (first (not (eqb k 0)) _ h, ap not (sym (m.are k l)) ∙ second (not (eqb k 0)) _ h)

  lacked : (k : ℕ) → k < 65536 → not (eqb k 0) ≡ true → not (among k held) ≡ true → turn_lacked seen k ≡ true
  lacked k l n h = both n (ap not (m.are k l) ∙ h)

  low : (k : ℕ) → among k ds ≡ true → k < 65536
  low k h = each_among (λ k. k < 65536) ds g.planned.low k h

  lacked_missing : some (turns_lacked width seen) ds ≡ true → is_missing held turns ≡ true
  unfolding is_missing
  lacked_missing h = by (some_member (turns_lacked width seen) ds h)
    where
      by : (k : ℕ) × ((among k ds ≡ true) × (turns_lacked width seen k ≡ true)) → some (λ k. not (among k held)) turns ≡ true
      by (k, (a, e)) =
          ⊎_elim
          (λ u. let r = unheld (baby_of width k) (omega (arith, baby_le width k, low k a)) u in among_some (λ k. not (among k held)) turns (baby_of width k) (among_left (baby_of width k) (nonzeros (babies 65536 width ds)) (nonzeros (giants 65536 width ds)) (among_nonzero (baby_of width k) (babies 65536 width ds) r.0 (babies_have g.planned k a))) r.1)
          (λ u. let r = unheld (giant_of width k) (omega (arith, giant_le width k, low k a)) u in among_some (λ k. not (among k held)) turns (giant_of width k) (among_right (giant_of width k) (nonzeros (babies 65536 width ds)) (nonzeros (giants 65536 width ds)) (among_nonzero (giant_of width k) (giants 65536 width ds) r.0 (giants_have g.planned k a))) r.1)
          (one_of (turn_lacked seen (baby_of width k)) (turn_lacked seen (giant_of width k)) e)

  missing_lacked : is_missing held turns ≡ true → some (turns_lacked width seen) ds ≡ true
  unfolding is_missing babies giants
  missing_lacked h = by (some_member (λ k. not (among k held)) turns h)
    where
      by : (k : ℕ) × ((among k turns ≡ true) × (not (among k held) ≡ true)) → some (turns_lacked width seen) ds ≡ true
      by (k, (a, u)) = ⊎_elim from_baby from_giant (among_split k (nonzeros (babies 65536 width ds)) (nonzeros (giants 65536 width ds)) a)
        where
          from_baby : among k (nonzeros (babies 65536 width ds)) ≡ true → some (turns_lacked width seen) ds ≡ true
          from_baby a =
              let n = nonzero_among k (babies 65536 width ds) a in
              let b = below_among k (λ b. eqb b 0 || some (λ j. eqb (baby_of width j) b) ds) 65536 n.1 in
              let t = some_member (λ j. eqb (baby_of width j) k) ds (⊎_elim (λ z. absurd (true≢false (sym n.0 ∙ ap not z))) (λ s. s) (one_of (eqb k 0) _ b.1)) in
              let e : baby_of width t.0 ≡ k = eqb-true (baby_of width t.0) k t.1.1 in
              among_some (turns_lacked width seen) ds t.0 t.1.0 (left {a = turn_lacked seen (baby_of width t.0)} _ (rw e (lacked k b.0 n.0 u)))

          from_giant : among k (nonzeros (giants 65536 width ds)) ≡ true → some (turns_lacked width seen) ds ≡ true
          from_giant a =
              let n = nonzero_among k (giants 65536 width ds) a in
              let b = below_among k (λ g. some (λ j. eqb (giant_of width j) g) ds) 65536 n.1 in
              let t = some_member (λ j. eqb (giant_of width j) k) ds b.1 in
              let e : giant_of width t.0 ≡ k = eqb-true (giant_of width t.0) k t.1.1 in
              among_some (turns_lacked width seen) ds t.0 t.1.0 (right (turn_lacked seen (baby_of width t.0)) (rw e (lacked k b.0 n.0 u)))

pub turns_lacking : {width : ℕ} {ds : List ℕ} {seen : List Bool} {r : Bool} → Diagonals width ds → r ≡ some (turns_lacked width seen) ds → Lacking (keys_per_rotation (babies 65536 width ds) (giants 65536 width ds)) seen r
turns_lacking g e = record { are = λ held m. e ∙ agree (lacked_missing g m) (missing_lacked g m) }

-- ---- the keys of a list

unmarked_missing : (keys : List ℕ) {seen : List Bool} {held : List ℕ} → Each (λ k. k < 65536) keys → HeldMarked held seen → some (λ k. not (marks seen k)) keys ≡ some (λ k. not (among k held)) keys
unmarked_missing [] l m = refl
unmarked_missing (k ∷ keys) l m = rw (m.are k l.0, unmarked_missing keys l.1 m)

pub listed_lacking : {keys : List ℕ} {seen : List Bool} {r : Bool} → Each (λ k. k < 65536) keys → r ≡ some (λ k. not (marks seen k)) keys → Lacking keys seen r
unfolding is_missing
listed_lacking {keys} l e = record { are = λ held m. e ∙ unmarked_missing keys l m }

-- ---- the keys with powers of two

module _ {slots : ℕ} {s : LinearTransformationStrategy} {ds : List ℕ} (x : Accepted slots s ds) (p : turns_each s ≡ false) {old new : List ℕ} (l : length old ≡ 32) {a : Result ℕ Refusal} (w : ListWritten [] (plan_keys slots s ds) old new a) where
  keys_few : length (plan_keys slots s ds) ≤ 32
  keys_few = rw (powers p refl) (power_keys_few slots (width_of s) ds (width_range s x.width_in).low x.slots_in_fact.high)

  keys_fit : first_refusal ((ltb (length old) (length (plan_keys slots s ds)), Room) ∷ []) ≡ None
  keys_fit = rw (le-ltb (length old) (length (plan_keys slots s ds)) (omega (arith, keys_few)))

  pub keys_answer : a ≡ Ok (length (plan_keys slots s ds))
  keys_answer = w.answer ∙ rw keys_fit

  keys_words : new ≡ in_front (plan_keys slots s ds) old
  keys_words = w.words ∙ rw keys_fit

  module _ {count : ℕ} (q : a ≡ Ok count) where
    count_is : count ≡ length (plan_keys slots s ds)
    count_is = same_value (sym q ∙ keys_answer)

    list_is : take count new ≡ plan_keys slots s ds
    unfolding in_front
    list_is = ap (take count) keys_words ∙ take_at (plan_keys slots s ds) (drop (length (plan_keys slots s ds)) old) count (sym count_is)

    pub powers_listed : Each (λ k. k < 65536) (take count new)
    powers_listed = rw list_is (each_then (λ k h. omega (arith, x.slots_in_fact.high)) (plan_keys slots s ds) (keys_low slots s ds x.slots_in_fact.low))

    pub powers_lacking : {seen : List Bool} {r : Bool} → Lacking (take count new) seen r → Lacking (plan_keys slots s ds) seen r
    powers_lacking m = rw list_is at m

-- where each rotation has its own key
pub lacks_each : {slots : ℕ} {s : LinearTransformationStrategy} {ds : List ℕ} {seen : List Bool} {r : Bool} → Accepted slots s ds → Own s slots ds
    → Lacking (keys_per_rotation (babies 65536 (width_of s) ds) (giants 65536 (width_of s) ds)) seen r → Lacking (plan_keys slots s ds) seen r
lacks_each a o m = rw (o.keys_are, ← babies_bound a.planned 65536 a.slots_in_fact.high a.slots_in_fact.low, ← giants_bound a.planned 65536 a.slots_in_fact.high) m

-- ---- the numbers of a plan

-- b of the planted tree
bits_planted : {slots width : ℕ} {ds : List ℕ} {heap : List Bool} {bits count : ℕ} → Sizable slots width ds → Planted slots width (giants_of width ds) heap bits → count ≡ heap_switches bits heap bits → bits ≡ bits_for slots (BsgsPowersOfTwo width) ds
unfolding bits_for
bits_planted z p c = (sizes p c).bits ∙ ap (λ (t : Tree). t.bits) (plan_tree_lem z)

step_bound : {slots width step : ℕ} {ds : List ℕ} → Sizable slots width ds → StepIs width ds step → step ≡ step_of slots (BsgsPowersOfTwo width) ds
unfolding step_of
step_bound z i = i.is ∙ baby_step_bound z.planned 65536 z.slots_in_fact.high z.slots_in_fact.low

module _ {slots : ℕ} {s : LinearTransformationStrategy} {ds : List ℕ} (a : Accepted slots s ds) {made count : ℕ} (b : BabySwitches slots s ds made) (c : count ≡ length (giants 65536 (width_of s) ds)) where
  babies_made : made + 1 ≡ length (plan_babies slots s ds)
  babies_made = omega (arith, b.are, babies_switched slots ds a.slots_in_fact.low s)

  giants_made : count ≡ length (giants slots (width_of s) ds)
  giants_made = c ∙ ap length (giants_bound a.planned 65536 a.slots_in_fact.high)

  pub needs_are : {turns pairs step bits : ℕ} → turns ≡ giant_switches slots s ds → pairs ≡ pair_count slots s ds → step ≡ step_of slots s ds → bits ≡ bits_for slots s ds
      → Ok (record { babies = made + 1; giants = count; pairs = pairs; switches = made + turns; step = step; bits = bits }) ≡ plan_needs None slots s ds
  unfolding plan_needs plan_switches
  needs_are t p q o = rw (babies_made, giants_made, p, q, o, b.are, t) refl

  pub turn_needs_are : Own s slots ds → {turns : ℕ} → turns ≡ length (nonzeros (giants 65536 (width_of s) ds))
      → Ok (record { babies = made + 1; giants = count; pairs = 0; switches = made + turns; step = 0; bits = 0 }) ≡ plan_needs None slots s ds
  turn_needs_are o t =
      needs_are
      (t ∙ ap (λ (gs : List ℕ). length (nonzeros gs)) (giants_bound a.planned 65536 a.slots_in_fact.high) ∙ sym o.switches_are)
      (sym o.no_pairs) (sym o.no_step) (sym o.no_bits)

  pub power_needs_are : turns_each s ≡ false → {heap : List Bool} {bits pairs step : ℕ} → Planted slots (width_of s) (giants_of (width_of s) ds) heap bits → pairs ≡ heap_switches bits heap bits → StepIs (width_of s) ds step
      → Ok (record { babies = made + 1; giants = count; pairs = pairs; switches = made + pairs; step = step; bits = bits }) ≡ plan_needs None slots s ds
  unfolding pair_count giant_switches
  power_needs_are h p k i =
      let e = powers h refl in
      let z : Sizable slots (width_of s) ds = record { slots_in_fact = a.slots_in_fact; width_in = width_range s a.width_in; planned = a.planned } in
      needs_are (rw e (pairs_counted z p k).are) (rw e (pairs_counted z p k).are) (rw e (step_bound z i)) (rw e (bits_planted z p k))

-- ---- the call

module _ (slots : ℕ) (s : LinearTransformationStrategy) (ks : List ℕ) {held : List ℕ} {seen : List Bool} {b : Bool} (m : HeldMarked held seen) (l : Lacking (plan_keys slots s ks) seen b) where
  pub keys_missing : b ≡ true → Err Key ≡ plan_needs (keys_refusal slots s ks held) slots s ks
  unfolding plan_needs
  keys_missing h = rw (sym (l.are held m) ∙ h)

  pub keys_held : {a : Result Needs Refusal} → b ≡ false → a ≡ plan_needs None slots s ks → a ≡ plan_needs (keys_refusal slots s ks held) slots s ks
  keys_held h q = rw (sym (l.are held m) ∙ h) q

module _ (slots : ℕ) (s : LinearTransformationStrategy) (ks held : List ℕ) where
  pub needs_refused : {x : Refusal} → first_refusal (stored_refusals slots s ks) ≡ Some x → Err x ≡ plan_needs (needs_refusal slots s ks held) slots s ks
  unfolding plan_needs
  needs_refused n = rw (still_refused (stored_refusals slots s ks) ((is_missing held (plan_keys slots s ks), Key) ∷ []) n)

  pub needs_told : {n : ℕ} {t : LinearTransformationStrategy} {js : List ℕ} {a : Result Needs Refusal} → DiagonalsAccepted (stored_refusals slots s ks) slots s ks n t js
      → a ≡ plan_needs (keys_refusal n t js held) n t js → a ≡ plan_needs (needs_refusal slots s ks held) slots s ks
  unfolding plan_needs
  needs_told k q = rw (first_later (stored_refusals slots s ks) ((is_missing held (plan_keys slots s ks), Key) ∷ []) k.none) (rw (k.slots_is, k.strategy_is, k.diagonals_are) at q)
