-- Laws of the schedule with powers of two: the passes make the babies that are not 0 in rising order, each from what its top
-- bit leaves; and how many switches a schedule has.
-- Assumes nothing.
use Rattle.std.specs.Prelude.{◌≡◌, ℕ, zero, suc, ◌-◌, ◌*◌, ◌/◌, ◌^◌, ◌<◌, ◌≤◌, Bool, true, false, List, [], ◌∷◌, ◌++◌, map, length, ◌==◌, nat_eq, slice_index, slice_index_or, refl}
use Rattle.std.proofs.Common.{sym, ◌∙◌, map-id, append-nil, suc-ne-zero, zero-mul, mul_comm, mul-div_cancel, mul-lt-mul_of_pos_right, arith, ne_eqb, length-append}
use Rattle.std.proofs.Math.Path.{ap}
use Rattle.std.proofs.lemmas.Simd.{map-map}
use Rattle.std.proofs.lemmas.List.{map-append, length-map}
use Rattle.std.proofs.Math.Nat.{mul-sub, sub_self}
use Rattle.std.proofs.Math.ListN.{get_or-map}
use Rattle.ring.specs.Lists.{join, some, Each, Rising}
use Rattle.ring.specs.Searches.{greatest, only, below}
use Rattle.ring.specs.Vectors.{tabulate}
use Rattle.ring.specs.Laws.Lists.{each_both, rising_map, join_append, join_cong}
use Rattle.ring.specs.Laws.Members.{among_each, groups}
use Rattle.ring.specs.Laws.Vectors.{length_tabulate, tabulate_snoc, tabulate_cong}
use Rattle.ring.specs.Laws.Refusals.{either}
use Rattle.linear_transformation.specs.declared.LinearTransformationStrategy.{LinearTransformationStrategy}
use Rattle.linear_transformation.specs.declared.LinearTransformationStrategy.TheVariants.{Bsgs, BsgsPowersOfTwo, Direct}
use Rattle.linear_transformation.specs.Plans.{giants}
use Rattle.linear_transformation.specs.Closures.{top_bit, closure, targets, move, pass_of, passes, nonzeros}
use Rattle.linear_transformation.specs.Trees.{Level, tree_switches}
use Rattle.linear_transformation.specs.Schedules.{baby_step, baby_multiples, plan_babies, plan_tree, giant_switches, plan_switches}
use Rattle.linear_transformation.specs.Laws.Closures.{top_high, top_within, closure_low, closure_rising}
use Rattle.linear_transformation.specs.Laws.Passes.{target_is}
use Rattle.linear_transformation.specs.Laws.Turns.{nonzeros_times}
use Rattle.runs.specs.Switches.{place_of, from_input, source_of, Switch, baby, giant, moved, pass_babies, plan_passes, baby_schedule, own_babies, joined, level_switches, giant_schedule, schedule}
use Rattle.runs.specs.Laws.Schedules.{place_own, map_places, own_schedule, nonzeros_rise, step_positive, plan_babies_rise}

-- ---- lists one after the other

join_join : {A B C : Type 0} (f : B → List C) (g : A → List B) (xs : List A) → join f (join g xs) ≡ join (λ x. join f (g x)) xs
join_join f g [] = refl
join_join {C} f g (x ∷ xs) = join_append f (g x) (join g xs) ∙ ap (λ (t : List C). join f (g x) ++ t) (join_join f g xs)

map_join : {A B C : Type 0} (f : B → C) (g : A → List B) (xs : List A) → join (λ x. map f (g x)) xs ≡ map f (join g xs)
map_join f g [] = refl
map_join {C} f g (x ∷ xs) = ap (λ (t : List C). map f (g x) ++ t) (map_join f g xs) ∙ sym (map-append f (g x) (join g xs))

pub map_each_same : {B : Type 0} (f g : ℕ → B) (xs : List ℕ) → Each (λ x. f x ≡ g x) xs → map f xs ≡ map g xs
map_each_same f g [] h = refl
map_each_same f g (x ∷ xs) h = cc (h.0, map_each_same f g xs h.1)

-- where a number that fails the test adds nothing, all numbers add what those that pass do
join_below : (f : ℕ → List ℕ) (p : ℕ → Bool) → ((i : ℕ) → p i ≡ false → f i ≡ []) → (n : ℕ) → join f (below p n) ≡ join f (tabulate n (λ i. i))
unfolding below
join_below f p h zero = refl
join_below f p h (suc n) =
    join_append f (below p n) (only (p n) n)
    ∙ rw (join_below f p h n, by (p n) refl) (sym (ap (join f) (tabulate_snoc n (λ i. i)) ∙ join_append f (tabulate n (λ i. i)) (n ∷ [])))
  where
    by : (b : Bool) → p n ≡ b → join f (only b n) ≡ f n ++ []
    by true e = refl
    by false e = sym (append-nil (f n) ∙ h n e)

-- ---- the targets of all passes, one after the other

top_zero : top_bit 0 ≡ 0
unfolding top_bit greatest
top_zero = refl

-- the top bit does not fall
top_climbs : (j k : ℕ) → j < k → top_bit j ≤ top_bit k
top_climbs zero k l = omega (arith, top_zero)
top_climbs (suc j) k l = omega (arith, top_within (suc j) (omega arith) (suc (top_bit k)) (omega (arith, top_high k (omega arith))))

abbrev group : List ℕ → ℕ → List ℕ
group ks i = join (λ k. only (top_bit k == i) k) ks

group_none : (ks : List ℕ) (i : ℕ) → some (λ k. nat_eq (top_bit k) i) ks ≡ false → group ks i ≡ []
group_none [] i e = refl
group_none (k ∷ ks) i e = let b = either (top_bit k == i) (some (λ k. nat_eq (top_bit k) i) ks) e in rw b.0 (group_none ks i b.1)

targets_group : (cs : List ℕ) (i : ℕ) → targets cs i ≡ group (nonzeros cs) i
unfolding targets
targets_group [] i = refl
targets_group (zero ∷ cs) i = targets_group cs i
targets_group (suc k ∷ cs) i = rw (ne_eqb (suc k) 0 (suc-ne-zero k)) (ap (λ (t : List ℕ). only (top_bit (suc k) == i) (suc k) ++ t) (targets_group cs i))

pub nonzeros_positive : (xs : List ℕ) → Each (λ k. 1 ≤ k) (nonzeros xs)
nonzeros_positive [] = tt
nonzeros_positive (zero ∷ xs) = nonzeros_positive xs
nonzeros_positive (suc x ∷ xs) = rw (ne_eqb (suc x) 0 (suc-ne-zero x)) (omega arith, nonzeros_positive xs)

pub nonzeros_each : (P : ℕ → Type 0) (xs : List ℕ) → Each P xs → Each P (nonzeros xs)
nonzeros_each P [] h = tt
nonzeros_each P (zero ∷ xs) h = nonzeros_each P xs h.1
nonzeros_each P (suc x ∷ xs) h = rw (ne_eqb (suc x) 0 (suc-ne-zero x)) (h.0, nonzeros_each P xs h.1)

-- they are the numbers that are not 0
pub targets_all : (b : ℕ) (cs : List ℕ) → Rising cs → Each (λ k. k < 2 ^ b) cs → join (targets cs) (tabulate b (λ i. i)) ≡ nonzeros cs
targets_all b cs r l =
    let nz = nonzeros cs in
    join_cong (targets cs) (group nz) (targets_group cs) (tabulate b (λ i. i))
    ∙ sym (join_below (group nz) (λ i. some (λ k. nat_eq (top_bit k) i) nz) (group_none nz) b)
    ∙ groups top_bit top_climbs (λ k. k) b nz (nonzeros_rise cs r)
    (each_both (λ k p h. top_within k p b h) nz (nonzeros_positive cs) (nonzeros_each (λ k. k < 2 ^ b) cs l))
    ∙ map-id nz

-- ---- the passes of a plan

-- the rotation that makes baby v: the top bit of its multiple
abbrev pub top_turn : ℕ → ℕ → ℕ
top_turn step v = 2 ^ top_bit (v / step) * step

module _ (bs : List ℕ) (step : ℕ) where
  -- the switch that makes k times the step in pass i
  abbrev made : ℕ → ℕ → Switch
  made i k = baby (place_of (k * step) (nonzeros bs)) (source_of bs ((k - 2 ^ i) * step)) (2 ^ i * step)

  one_pass : (i : ℕ) (ks : List ℕ) → join (λ p. map (moved bs p.rotation) p.moves) (pass_of step i ks) ≡ map (made i) ks
  one_pass i [] = refl
  one_pass i (k ∷ ks) = append-nil (map (moved bs (2 ^ i * step)) (map (move step i) (k ∷ ks))) ∙ map-map (moved bs (2 ^ i * step)) (move step i) (k ∷ ks)

  pass_targets : (cs : List ℕ) (i : ℕ) → map (made i) (targets cs i) ≡ map (λ k. made (top_bit k) k) (targets cs i)
  pass_targets cs i =
      map_each_same (made i) (λ k. made (top_bit k) k) (targets cs i)
      (among_each (λ k. made i k ≡ made (top_bit k) k) (targets cs i) (λ k a. rw (target_is cs i k a).topped))

  passes_made : (b : ℕ) (cs : List ℕ) → Rising cs → Each (λ k. k < 2 ^ b) cs → pass_babies bs (passes b step cs) ≡ map (λ k. made (top_bit k) k) (nonzeros cs)
  unfolding passes
  passes_made b cs r l =
      join_join (λ p. map (moved bs p.rotation) p.moves) (λ i. pass_of step i (targets cs i)) (tabulate b (λ i. i))
      ∙ join_cong (λ i. join (λ p. map (moved bs p.rotation) p.moves) (pass_of step i (targets cs i))) (λ i. map (λ k. made (top_bit k) k) (targets cs i)) (λ i. one_pass i (targets cs i) ∙ pass_targets cs i) (tabulate b (λ i. i))
      ∙ map_join (λ k. made (top_bit k) k) (targets cs) (tabulate b (λ i. i))
      ∙ ap (map (λ k. made (top_bit k) k)) (targets_all b cs r l)

-- the switch that makes the p-th baby v that is not 0, at place p: from what its turn leaves of it, by the turn
abbrev pub making : List ℕ → (ℕ → ℕ) → ℕ → Switch
making bs turn p = baby p (source_of bs (slice_index (nonzeros bs) p - turn (slice_index (nonzeros bs) p))) (turn (slice_index (nonzeros bs) p))

module _ (step : ℕ) (s : 1 ≤ step) (cs : List ℕ) (r : Rising cs) where
  abbrev times : List ℕ
  times = map (λ k. k * step) cs

  multiples : nonzeros times ≡ map (λ k. k * step) (nonzeros cs)
  multiples = nonzeros_times step cs s

  multiple : (p : ℕ) → slice_index (nonzeros times) p ≡ slice_index (nonzeros cs) p * step
  multiple p =
      ap (λ (t : List ℕ). slice_index t p) multiples
      ∙ ap (slice_index_or (map (λ k. k * step) (nonzeros cs)) p) (sym (zero-mul step))
      ∙ get_or-map (λ k. k * step) (nonzeros cs) p 0

  made_there : (p : ℕ) → p < length (nonzeros times) → made times step (top_bit (slice_index (nonzeros cs) p)) (slice_index (nonzeros cs) p) ≡ making times (top_turn step) p
  made_there p l =
      let k = slice_index_or (nonzeros cs) p 0 in
      let here : place_of (k * step) (nonzeros times) ≡ p = ap (λ (x : ℕ). place_of x (nonzeros times)) (sym (multiple p)) ∙ place_own (nonzeros times) (nonzeros_rise times (rising_map (λ k. k * step) (λ x y h. mul-lt-mul_of_pos_right h s) cs r)) p l in
      let left : (k - 2 ^ top_bit k) * step ≡ k * step - 2 ^ top_bit k * step = rw (mul_comm (k - 2 ^ top_bit k) step, mul-sub, mul_comm step k, mul_comm step (2 ^ top_bit k)) in
      rw (multiple p, here, mul-div_cancel k s, left)

  passes_table : (b : ℕ) → Each (λ k. k < 2 ^ b) cs → pass_babies times (passes b step cs) ≡ tabulate (length (nonzeros times)) (making times (top_turn step))
  passes_table b l =
      let nz = nonzeros cs in
      let len : length nz ≡ length (nonzeros times) = sym (ap length multiples ∙ length-map nz (λ k. k * step)) in
      passes_made times step b cs r l
      ∙ map_places (λ k. made times step (top_bit k) k) nz
      ∙ ap (λ (n : ℕ). tabulate n (λ p. made times step (top_bit (slice_index nz p)) (slice_index nz p))) len
      ∙ tabulate_cong (length (nonzeros times)) (λ p. made times step (top_bit (slice_index nz p)) (slice_index nz p)) (making times (top_turn step)) made_there

-- the passes make the babies that are not 0 in rising order, each by its top bit
pub pass_schedule : (slots width : ℕ) (ks : List ℕ) → let bs = plan_babies slots (BsgsPowersOfTwo width) ks in pass_babies bs (plan_passes slots width ks) ≡ tabulate (length (nonzeros bs)) (making bs (top_turn (baby_step slots width ks)))
unfolding plan_babies plan_passes
pass_schedule slots width ks =
    let ms = baby_multiples slots width ks in
    passes_table (baby_step slots width ks) (step_positive slots width ks) (closure 16 ms) (closure_rising 16 ms) 16 (closure_low 16 ms)

-- the turn of a baby: its own rotation, or with powers of two its top bit
abbrev pub turn_of : ℕ → LinearTransformationStrategy → List ℕ → ℕ → ℕ
turn_of slots (Bsgs width) ks v = v
turn_of slots (BsgsPowersOfTwo width) ks v = top_turn (baby_step slots width ks) v
turn_of slots Direct ks v = v

own_making : (bs : List ℕ) → Rising bs → own_babies bs ≡ tabulate (length (nonzeros bs)) (making bs (λ v. v))
own_making bs r =
    own_schedule bs r
    ∙ tabulate_cong (length (nonzeros bs)) (λ p. baby p from_input (slice_index (nonzeros bs) p)) (making bs (λ v. v)) (λ p l. rw (sub_self (slice_index (nonzeros bs) p)))

-- the baby switches of every strategy
pub baby_schedule_lem : (slots : ℕ) (strategy : LinearTransformationStrategy) (ks : List ℕ) → let bs = plan_babies slots strategy ks in baby_schedule slots strategy ks ≡ tabulate (length (nonzeros bs)) (making bs (turn_of slots strategy ks))
unfolding baby_schedule
baby_schedule_lem slots (Bsgs width) ks = own_making (plan_babies slots (Bsgs width) ks) (plan_babies_rise slots (Bsgs width) ks)
baby_schedule_lem slots (BsgsPowersOfTwo width) ks = pass_schedule slots width ks
baby_schedule_lem slots Direct ks = own_making (plan_babies slots Direct ks) (plan_babies_rise slots Direct ks)

-- ---- how many switches

pub baby_count : (slots : ℕ) (strategy : LinearTransformationStrategy) (ks : List ℕ) → length (baby_schedule slots strategy ks) ≡ length (nonzeros (plan_babies slots strategy ks))
baby_count slots strategy ks =
    let bs = plan_babies slots strategy ks in
    ap length (baby_schedule_lem slots strategy ks) ∙ length_tabulate (length (nonzeros bs)) (making bs (turn_of slots strategy ks))

level_count : (leaves : List ℕ) (i : ℕ) (ls : List Level) → length (level_switches leaves i ls) ≡ length (join (λ l. l.pairs) ls)
level_count leaves i [] = refl
level_count leaves i (l ∷ ls) =
    omega (
      arith,
      length-append (map (joined leaves i l.rotation.0) l.pairs) (level_switches leaves (suc i) ls),
      length-map l.pairs (joined leaves i l.rotation.0),
      length-append l.pairs (join (λ l. l.pairs) ls),
      level_count leaves (suc i) ls,
    )

pub giant_count : (slots : ℕ) (strategy : LinearTransformationStrategy) (ks : List ℕ) → length (giant_schedule slots strategy ks) ≡ giant_switches slots strategy ks
unfolding giant_schedule giant_switches tree_switches
giant_count slots (Bsgs width) ks = let gs = giants slots width ks in length-map (nonzeros gs) (λ g. giant (place_of g gs) g)
giant_count slots (BsgsPowersOfTwo width) ks = let t = plan_tree slots width ks in level_count t.leaves 0 t.levels
giant_count slots Direct ks = let gs = giants slots 1 ks in length-map (nonzeros gs) (λ g. giant (place_of g gs) g)

-- as many as the plan says
pub schedule_count : (slots : ℕ) (strategy : LinearTransformationStrategy) (ks : List ℕ) → length (schedule slots strategy ks) ≡ plan_switches slots strategy ks
unfolding plan_switches
schedule_count slots strategy ks =
    omega (arith, length-append (baby_schedule slots strategy ks) (giant_schedule slots strategy ks), baby_count slots strategy ks, giant_count slots strategy ks)
