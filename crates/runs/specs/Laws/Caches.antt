-- Laws of the cache: after the baby switches it holds the input rotated by each baby of the plan.
-- Assumes nothing.
use Rattle.std.specs.Prelude.{◌≡◌, ℕ, zero, suc, ◌+◌, ◌-◌, ◌*◌, ◌/◌, ◌^◌, ◌<◌, ◌≤◌, true, ◌⊎◌, List, [], ◌∷◌, map, length, pos, slice_index, slice_index_or}
use Rattle.std.proofs.Common.{sym, ◌∙◌, inl, inr, not-suc-le-zero, zero-mul, eq-or-lt_of_le, mul-div_cancel, mul-le-mul_right, suc-mul, pow_pos}
use Rattle.std.proofs.Math.Path.{ap}
use Rattle.std.proofs.Math.Nat.{sub_self, dvd_refl}
use Rattle.std.proofs.Math.Decide.{ℕ_discrete}
use native.Mathlib.Omega.{arith}
use Rattle.ring.specs.Lists.{Rising, among}
use Rattle.ring.specs.Vectors.{tabulate}
use Rattle.ring.specs.Rotations.{rotated}
use Rattle.ring.specs.Laws.Lists.{each_at, each_tabulate}
use Rattle.ring.specs.Laws.Members.{among_each}
use Rattle.ring.specs.Laws.Rotations.{length_rotated, rotated_none, rotated_rotated}
use Rattle.ring.specs.Laws.Searches.{lt_or_ge}
use Rattle.ring.specs.Laws.Vectors.{tabulate_snoc}
use Rattle.linear_transformation.specs.declared.LinearTransformationStrategy.{LinearTransformationStrategy}
use Rattle.linear_transformation.specs.declared.LinearTransformationStrategy.TheVariants.{Bsgs, BsgsPowersOfTwo, Direct}
use Rattle.linear_transformation.specs.Closures.{top_bit, cleared, closure, nonzeros}
use Rattle.linear_transformation.specs.Laws.Closures.{Closed, top_low, closure_closed}
use Rattle.linear_transformation.specs.Laws.Runs.{rising_at, among_map, among_mapped}
use Rattle.linear_transformation.specs.Schedules.{baby_step, baby_multiples, plan_babies}
use Rattle.runs.specs.Switches.{place_of, source_of, baby_schedule}
use Rattle.runs.specs.Machines.{State, vector_at, put_vector, turned, source_vector, switched, switched_all}
use Rattle.runs.specs.Laws.Places.{Inside, vector_same, vector_other}
use Rattle.runs.specs.Laws.Schedules.{place_found, nonzeros_rise, among_nonzeros, step_positive, plan_babies_rise, plan_babies_zero, plan_babies_front}
use Rattle.runs.specs.Laws.PassSchedules.{nonzeros_positive, nonzeros_each, top_turn, making, turn_of, baby_schedule_lem}
use Rattle.runs.specs.Laws.Switching.{Fits, switches_kept, switched_append}

-- ---- turns

-- turned by a, then by b
pub turned_turned : (slots : ℕ) (v : List ℕ) → length v ≡ slots → 0 < slots → (a b : ℕ) → turned slots (turned slots v a) b ≡ turned slots v (a + b)
turned_turned slots v len s a b = rotated_rotated v (omega arith) (pos a) (pos b) slots slots s (rw len (dvd_refl slots))

pub turned_none : (slots : ℕ) (v : List ℕ) → length v ≡ slots → turned slots v 0 ≡ v
turned_none slots v len = ap (rotated v (pos 0)) (sym len) ∙ rotated_none v

-- the turn of a baby v: not 0, no more than v, and what it leaves is a baby
pub record Turns (bs : List ℕ) (turn : ℕ → ℕ) (v : ℕ) : Type 0 where
  pub some : 1 ≤ turn v
  pub within : turn v ≤ v
  pub left : among (v - turn v) bs ≡ true

own_turns : (bs : List ℕ) → among 0 bs ≡ true → (v : ℕ) → 1 ≤ v → Turns bs (λ v. v) v
own_turns bs z v l = record { some = l; within = omega arith; left = rw (sub_self v) z }

module _ (step : ℕ) (s : 1 ≤ step) (cs : List ℕ) (closed : Closed cs) (z : among 0 (map (λ k. k * step) cs) ≡ true) where
  -- a multiple with its top bit cleared is there
  cleared_there : (k : ℕ) → among k cs ≡ true → Dec (cleared k ≡ 0) → among (cleared k * step) (map (λ k. k * step) cs) ≡ true
  cleared_there k a (yes e) = rw (e, zero-mul step) z
  cleared_there k a (no n) = among_map (λ k. k * step) (cleared k) cs (closed k a (omega arith))

  back : (k : ℕ) → 1 ≤ k → cleared k * step + 2 ^ top_bit k * step ≡ k * step
  unfolding cleared
  back k i =
      let e : k - 2 ^ top_bit k + 2 ^ top_bit k ≡ k = omega (arith, top_low k i) in
      let d : (k - 2 ^ top_bit k) * step + 2 ^ top_bit k * step ≡ (k - 2 ^ top_bit k + 2 ^ top_bit k) * step = omega arith in
      d ∙ ap (λ (x : ℕ). x * step) e

  multiple_turns : (k : ℕ) → among k cs ≡ true → 1 ≤ k → Turns (map (λ k. k * step) cs) (top_turn step) (k * step)
  multiple_turns k a i =
      let q : k * step / step ≡ k = mul-div_cancel k s in
      let r : k * step - 2 ^ top_bit k * step ≡ cleared k * step = omega (arith, back k i) in
      record {
        some = rw q (omega (arith, mul-le-mul_right {m = 1} {n = 2 ^ top_bit k} step (pow_pos (top_bit k))));
        within = rw q (omega (arith, back k i));
        left = rw (q, r) (cleared_there k a (ℕ_discrete (cleared k) 0));
      }

  top_turns : (v : ℕ) → among v (map (λ k. k * step) cs) ≡ true → 1 ≤ v → Turns (map (λ k. k * step) cs) (top_turn step) v
  top_turns v a l =
      let x = among_mapped (λ k. k * step) v cs a in
      rw (← x.1.1) (multiple_turns x.0 x.1.0 (some x.0 x.1.1))
    where
      some : (k : ℕ) → k * step ≡ v → 1 ≤ k
      some zero e = omega (arith, zero-mul step)
      some (suc k) e = omega arith

powers_turn : (slots width : ℕ) (ks : List ℕ) → let bs = plan_babies slots (BsgsPowersOfTwo width) ks in among 0 bs ≡ true → (v : ℕ) → among v bs ≡ true → 1 ≤ v → Turns bs (top_turn (baby_step slots width ks)) v
unfolding plan_babies
powers_turn slots width ks z v a l =
    let ms = baby_multiples slots width ks in
    top_turns (baby_step slots width ks) (step_positive slots width ks) (closure 16 ms) (closure_closed 16 ms) z v a l

-- every baby of a plan that is not 0 has such a turn
pub plan_turns : (slots : ℕ) → 0 < slots → slots ≤ 65536 → (strategy : LinearTransformationStrategy) (ks : List ℕ) (v : ℕ) → among v (plan_babies slots strategy ks) ≡ true → 1 ≤ v → Turns (plan_babies slots strategy ks) (turn_of slots strategy ks) v
plan_turns slots p low (Bsgs width) ks v a l = own_turns (plan_babies slots (Bsgs width) ks) (plan_babies_zero slots low p (Bsgs width) ks) v l
plan_turns slots p low (BsgsPowersOfTwo width) ks v a l = powers_turn slots width ks (plan_babies_zero slots low p (BsgsPowersOfTwo width) ks) v a l
plan_turns slots p low Direct ks v a l = own_turns (plan_babies slots Direct ks) (plan_babies_zero slots low p Direct ks) v l

-- ---- the cache

module _ (slots : ℕ) (input bs : List ℕ) where
  -- the first n vectors of the cache are the input rotated by the first n babies that are not 0
  abbrev pub Holds : List ℕ → ℕ → Type 0
  Holds cache n = (q : ℕ) → q < n → vector_at slots cache q ≡ turned slots input (slice_index (nonzeros bs) q)

  -- then the source of a baby among them is the input rotated by it
  source_held : length input ≡ slots → (cache : List ℕ) (n : ℕ) → Holds cache n → (u : ℕ) → among u bs ≡ true → (1 ≤ u → place_of u (nonzeros bs) < n) → source_vector slots input cache (source_of bs u) ≡ turned slots input u
  source_held len cache n holds zero a l = sym (turned_none slots input len)
  source_held len cache n holds (suc u) a l =
      let i : 1 ≤ suc u = omega arith in
      holds (place_of (suc u) (nonzeros bs)) (l i) ∙ ap (turned slots input) (place_found (suc u) (nonzeros bs) (among_nonzeros (suc u) bs a i)).there

-- a smaller element stands before
place_before : (xs : List ℕ) → Rising xs → (u p : ℕ) → among u xs ≡ true → p < length xs → u < slice_index xs p → place_of u xs < p
place_before xs r u p a l h = by (lt_or_ge (place_of u xs) p)
  where
    q : place_of u xs < length xs
    q = (place_found u xs a).within

    e : slice_index_or xs (place_of u xs) 0 ≡ u
    e = (place_found u xs a).there

    later : (p ≡ place_of u xs) ⊎ (p < place_of u xs) → ⊥
    later (inl i) = omega (arith, ap (λ (x : ℕ). slice_index xs x) i, e)
    later (inr i) = omega (arith, rising_at xs 0 r p (place_of u xs) i q, e)

    by : (place_of u xs < p) ⊎ (p ≤ place_of u xs) → place_of u xs < p
    by (inl i) = i
    by (inr i) = absurd (later (eq-or-lt_of_le i))

module _
    (m slots : ℕ)
    (input : List ℕ)
    (len : length input ≡ slots)
    (s : 0 < slots)
    (bs : List ℕ)
    (rises : Rising bs)
    (turn : ℕ → ℕ)
    (turns : (v : ℕ) → among v bs ≡ true → 1 ≤ v → Turns bs turn v)
    (st : State)
    (room : length (nonzeros bs) * slots ≤ length st.cache)
  where
    abbrev after : ℕ → State
    after p = switched_all m slots input st (tabulate p (making bs turn))

    after_more : (p : ℕ) → (after (suc p)).cache ≡ put_vector slots (after p).cache p (turned slots (source_vector slots input (after p).cache (source_of bs (slice_index (nonzeros bs) p - turn (slice_index (nonzeros bs) p)))) (turn (slice_index (nonzeros bs) p)))
    unfolding switched
    after_more p =
        ap (λ (x : State). x.cache)
        (ap (switched_all m slots input st) (tabulate_snoc p (making bs turn)) ∙ switched_append m slots input st (tabulate p (making bs turn)) (making bs turn p ∷ []))

    fit : (p : ℕ) → p < length (nonzeros bs) → p * slots + slots ≤ length st.cache
    fit p l = let e : suc p * slots ≤ length (nonzeros bs) * slots = mul-le-mul_right slots l in omega (arith, suc-mul p slots, e)

    after_length : (p : ℕ) → p ≤ length (nonzeros bs) → length (after p).cache ≡ length st.cache
    after_length p l =
        (switches_kept m slots input st (tabulate p (making bs turn))
        (each_tabulate (Fits slots (length st.cache) (length st.nodes)) p (making bs turn) (λ q h. fit q (omega arith)))
        ).cache_length

    -- the vector that switch p makes
    turned_there : (p : ℕ) → p < length (nonzeros bs) → Holds slots input bs (after p).cache p → turned slots (source_vector slots input (after p).cache (source_of bs (slice_index (nonzeros bs) p - turn (slice_index (nonzeros bs) p)))) (turn (slice_index (nonzeros bs) p)) ≡ turned slots input (slice_index (nonzeros bs) p)
    turned_there p l holds =
        let nz = nonzeros bs in
        let v = slice_index_or nz p 0 in
        let u = v - turn v in
        let a : among v bs ≡ true = each_at (λ k. among k bs ≡ true) nz 0 (nonzeros_each (λ k. among k bs ≡ true) bs (among_each (λ k. among k bs ≡ true) bs (λ k h. h))) p l in
        let t = turns v a (each_at (λ k. 1 ≤ k) nz 0 (nonzeros_positive bs) p l) in
        let src : source_vector slots input (after p).cache (source_of bs u) ≡ turned slots input u = source_held slots input bs len (after p).cache p holds u t.left (λ i. place_before nz (nonzeros_rise bs rises) u p (among_nonzeros u bs t.left i) l (omega (arith, t.some, t.within))) in
        ap (λ (x : List ℕ). turned slots x (turn v)) src
        ∙ turned_turned slots input len s u (turn v)
        ∙ ap (turned slots input) (omega (arith, t.within))

    held : (p : ℕ) → p ≤ length (nonzeros bs) → Holds slots input bs (after p).cache p
    held zero l q h = absurd (not-suc-le-zero h)
    held (suc p) l q h = ap (λ (x : List ℕ). vector_at slots x q) (after_more p) ∙ by (held p (omega arith)) (ℕ_discrete q p)
      where
        cache : List ℕ
        cache = (after p).cache

        v : ℕ
        v = slice_index (nonzeros bs) p

        new : List ℕ
        new = turned slots (source_vector slots input cache (source_of bs (v - turn v))) (turn v)

        long : length new ≡ slots
        long = length_rotated (source_vector slots input cache (source_of bs (v - turn v))) (pos (turn v)) slots

        inside : (q : ℕ) → q < suc p → Inside slots cache q
        inside q i = record { room = omega (arith, fit q (omega arith), after_length p (omega arith)) }

        by : Holds slots input bs cache p → Dec (q ≡ p) → vector_at slots (put_vector slots cache p new) q ≡ turned slots input (slice_index (nonzeros bs) q)
        by ih (yes e) = rw e (vector_same slots new long (inside p (omega arith)) ∙ turned_there p l ih)
        by ih (no n) = vector_other slots new long (inside p (omega arith)) q n (inside q h) ∙ ih q (omega arith)

    all_held : (k : ℕ) → among k bs ≡ true → source_vector slots input (after (length (nonzeros bs))).cache (source_of bs k) ≡ turned slots input k
    all_held k a =
        let nz = nonzeros bs in
        source_held slots input bs len (after (length nz)).cache (length nz) (held (length nz) (omega arith)) k a (λ i. (place_found k nz (among_nonzeros k bs a i)).within)

-- as many vectors as babies but 0
pub cache_room : (slots : ℕ) → 0 < slots → slots ≤ 65536 → (strategy : LinearTransformationStrategy) (ks : List ℕ) → length (plan_babies slots strategy ks) - 1 ≡ length (nonzeros (plan_babies slots strategy ks))
cache_room slots p low strategy ks = omega (arith, ap length (plan_babies_front slots low p strategy ks))

-- after the baby switches the source of every baby of the plan is the input rotated by it
pub cache_holds : (m slots : ℕ) (input : List ℕ) → length input ≡ slots → 0 < slots → slots ≤ 65536 → (strategy : LinearTransformationStrategy) (ks : List ℕ) (st : State)
    → (length (plan_babies slots strategy ks) - 1) * slots ≤ length st.cache
    → (k : ℕ) → among k (plan_babies slots strategy ks) ≡ true
    → source_vector slots input (switched_all m slots input st (baby_schedule slots strategy ks)).cache (source_of (plan_babies slots strategy ks) k) ≡ turned slots input k
cache_holds m slots input len s low strategy ks st room k a =
    let bs = plan_babies slots strategy ks in
    rw (baby_schedule_lem slots strategy ks)
    (all_held m slots input len s bs (plan_babies_rise slots strategy ks) (turn_of slots strategy ks) (plan_turns slots s low strategy ks) st (rw (← cache_room slots s low strategy ks) room) k a)
