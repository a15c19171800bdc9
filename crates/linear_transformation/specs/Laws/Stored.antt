-- Laws of the plans of stored maps: what rising offsets are, how low and how few the keys are, and how many words, pairs and
-- babies there are.
-- Assumes nothing.
use Rattle.std.specs.Prelude.{ℕ, zero, suc, ◌*◌, ◌/◌, ◌%◌, ◌^◌, ◌≤◌, ◌<◌, ◌≡◌, true, List, [], ◌∷◌, map, leb, pos, ◌*ℤ◌, length, get_or}
use Rattle.std.proofs.Common.{sym, true≢false, suc-ne-zero, zero-mul, le_refl, le_antisymm, div-add-mod', arith, leb-true, ltb-true, le-leb, lt-ltb, ne_eqb, length-append}
use Rattle.std.proofs.Math.Nat.{zero-div, mul-le-mul_right}
use Rattle.std.proofs.lemmas.List.{length-map}
use Rattle.ring.specs.Lists.{join, Each, Rising, among}
use Rattle.ring.specs.Searches.{below}
use Rattle.ring.specs.Laws.Searches.{both, first, second, every_at, every_all}
use Rattle.ring.specs.Laws.Lists.{each_then, each_at, each_append, each_map, each_tabulate}
use Rattle.ring.specs.Laws.Below.{below_le, below_passes}
use Rattle.ring.specs.Laws.Members.{each_among, among_head, among_rest, among_left}
use Rattle.ring.specs.Laws.Vectors.{length_tabulate}
use Rattle.ring.specs.Laws.Residues.{residue_lt}
use Rattle.linear_transformation.specs.declared.LinearTransformationStrategy.{LinearTransformationStrategy}
use Rattle.linear_transformation.specs.declared.LinearTransformationStrategy.TheVariants.{Bsgs, BsgsPowersOfTwo, Direct}
use Rattle.linear_transformation.specs.declared.digits.Rot.{Rot}
use Rattle.linear_transformation.specs.Plans.{Distinct, babies, giants}
use Rattle.linear_transformation.specs.Closures.{cleared, closure, targets, pass_rotations, nonzeros, non_empty}
use Rattle.linear_transformation.specs.Digits.{Giant, bits_of, level_digit, level_rotation}
use Rattle.linear_transformation.specs.declared.records.PairRecord.{PairRecord}
use Rattle.linear_transformation.specs.Trees.{leaves_of, Level, levels_of, tree_of, pairs_at, keyed, tree_keys}
use Rattle.linear_transformation.specs.Schedules.{baby_step, baby_multiples, plan_babies, plan_tree, keys_per_rotation, plan_keys, plan_rots, giant_digits}
use Rattle.linear_transformation.specs.Stored.{least_at, offset_fits, offsets_rise}
use Rattle.linear_transformation.specs.Laws.Plans.{babies_rise, babies_below, babies_zero, giants_below, giants_multiple}
use Rattle.linear_transformation.specs.Laws.Closures.{top_low, cleared_lower, positive, closure_has, closure_least, babies_rising}
use Rattle.linear_transformation.specs.Laws.Passes.{target_is, rotations_are}
use Rattle.linear_transformation.specs.Laws.Bits.{at_most_16}
use Rattle.linear_transformation.specs.Laws.Switches.{one_zero}
use Rattle.linear_transformation.specs.Laws.Runs.{rising_at, among_map}
use Rattle.linear_transformation.specs.Laws.CommonDivisors.{or_else_some}
use Rattle.ring.specs.Divisors.{gcd_all}

-- ---- rising offsets

-- each is above the one before it
pub neighbours_rise : (ks : List ℕ) → ((t : ℕ) → suc t < length ks → get_or ks t 0 < get_or ks (suc t) 0) → Rising ks
neighbours_rise [] h = tt
neighbours_rise (x ∷ []) h = (tt, tt)
neighbours_rise (x ∷ y ∷ ys) h =
    let r = neighbours_rise (y ∷ ys) (λ t l. h (suc t) (omega arith)) in
    let a : x < y = h 0 (omega arith) in
    ((a, each_then (λ z l. omega arith) ys r.0), r)

pub places_each : (P : ℕ → Type 0) (ks : List ℕ) → ((t : ℕ) → t < length ks → P (get_or ks t 0)) → Each P ks
places_each P [] h = tt
places_each P (k ∷ ks) h = (h 0 (omega arith), places_each P ks (λ t l. h (suc t) (omega arith)))

pub rise_distinct : (slots : ℕ) (ks : List ℕ) → offsets_rise slots ks ≡ true → Distinct slots ks
unfolding offsets_rise
rise_distinct slots ks e =
    let fits : (t : ℕ) → t < length ks → offset_fits slots ks t ≡ true = every_at (offset_fits slots ks) (length ks) e in
    record {
      rises = neighbours_rise ks (λ t l. leb-true (suc (get_or ks t 0)) (get_or ks (suc t) 0) (first _ _ (fits (suc t) l)));
      low = places_each (λ k. k < slots) ks (λ t l. ltb-true (get_or ks t 0) slots (second (leb (least_at ks t) (get_or ks t 0)) _ (fits t l)));
    }

least_low : (ks : List ℕ) → Rising ks → (t : ℕ) → t < length ks → least_at ks t ≤ get_or ks t 0
least_low ks r zero l = omega arith
least_low ks r (suc t) l = rising_at ks 0 r t (suc t) (le_refl (suc t)) l

pub distinct_rise : (slots : ℕ) (ks : List ℕ) → Distinct slots ks → offsets_rise slots ks ≡ true
unfolding offsets_rise
distinct_rise slots ks d =
    every_all (offset_fits slots ks) (length ks)
    (λ t l. both (le-leb (least_at ks t) (get_or ks t 0) (least_low ks d.rises t l)) (lt-ltb (get_or ks t 0) slots (each_at (λ k. k < slots) ks 0 d.low t l)))

-- ---- the tree

module _ (slots width : ℕ) (ks : List ℕ) where
  giants_each : (gs : List ℕ) → Each (λ g. g < slots) gs → Each (λ g. g % width ≡ 0) gs → Each (Giant slots width) (map (λ g. record { 0 = g }) gs)
  giants_each [] l m = tt
  giants_each (g ∷ gs) l m = (record { reduced = l.0; multiple = m.0 }, giants_each gs l.1 m.1)

  -- b is at most 16
  pub tree_bits_low : 0 < width → slots ≤ 65536 → (plan_tree slots width ks).bits ≤ 16
  unfolding plan_tree tree_of
  tree_bits_low w l = at_most_16 slots width w l (plan_rots slots width ks) (giants_each (giants slots width ks) (giants_below slots width ks) (giants_multiple slots width ks))

  tree_height : length (plan_tree slots width ks).levels ≡ (plan_tree slots width ks).bits
  unfolding plan_tree tree_of levels_of
  tree_height = length_tabulate _ _

-- ---- babies

pub nonzeros_few : (xs : List ℕ) → length (nonzeros xs) ≤ length xs
nonzeros_few [] = le_refl 0
nonzeros_few (zero ∷ xs) = omega (arith, nonzeros_few xs)
nonzeros_few (suc x ∷ xs) = rw (ne_eqb (suc x) 0 (suc-ne-zero x)) (omega (arith, nonzeros_few xs))

zero_lost : (xs : List ℕ) → among 0 xs ≡ true → suc (length (nonzeros xs)) ≤ length xs
zero_lost [] h = absurd (true≢false (sym h))
zero_lost (zero ∷ xs) h = omega (arith, nonzeros_few xs)
zero_lost (suc x ∷ xs) h = rw (ne_eqb (suc x) 0 (suc-ne-zero x)) (omega (arith, zero_lost xs (among_rest (suc x) xs 0 (suc-ne-zero x) h)))

module _ (slots : ℕ) (ks : List ℕ) (l : 0 < slots) where
  module _ (width : ℕ) where
    step_positive : 1 ≤ baby_step slots width ks
    unfolding baby_step
    step_positive = or_else_some (gcd_all (babies slots width ks))

    multiples_zero : among 0 (baby_multiples slots width ks) ≡ true
    unfolding baby_multiples
    multiples_zero =
        rw (zero-div (baby_step slots width ks)) at (among_map (λ b. b / baby_step slots width ks) 0 (babies slots width ks) (babies_zero slots width ks l))

    closure_zero : among 0 (closure 16 (baby_multiples slots width ks)) ≡ true
    closure_zero = closure_has 16 (baby_multiples slots width ks) 0 (omega arith) (among_left 0 (baby_multiples slots width ks) _ multiples_zero)

    closed_zero : among 0 (map (λ k. k * baby_step slots width ks) (closure 16 (baby_multiples slots width ks))) ≡ true
    closed_zero = rw (zero-mul (baby_step slots width ks)) at (among_map (λ k. k * baby_step slots width ks) 0 (closure 16 (baby_multiples slots width ks)) closure_zero)

  zero_there : (s : LinearTransformationStrategy) → among 0 (plan_babies slots s ks) ≡ true
  unfolding plan_babies
  zero_there (Bsgs w) = babies_zero slots w ks l
  zero_there (BsgsPowersOfTwo w) = closed_zero w
  zero_there Direct = babies_zero slots 1 ks l

  rising_there : (s : LinearTransformationStrategy) → Rising (plan_babies slots s ks)
  unfolding plan_babies
  rising_there (Bsgs w) = babies_rise slots w ks
  rising_there (BsgsPowersOfTwo w) = babies_rising 16 (baby_step slots w ks) (baby_multiples slots w ks) (step_positive w)
  rising_there Direct = babies_rise slots 1 ks

  -- 0 is one of them, and each of the others asks for a switch
  pub babies_switched : (s : LinearTransformationStrategy) → length (plan_babies slots s ks) ≡ suc (length (nonzeros (plan_babies slots s ks)))
  babies_switched s = le_antisymm (one_zero (plan_babies slots s ks) (rising_there s)) (zero_lost (plan_babies slots s ks) (zero_there s))

-- ---- keys are low

each_join : {A : Type 0} (P : ℕ → Type 0) (f : A → List ℕ) (xs : List A) → Each (λ x. Each P (f x)) xs → Each P (join f xs)
each_join P f [] h = tt
each_join P f (x ∷ xs) h = each_append P (f x) (join f xs) h.0 (each_join P f xs h.1)

nonzeros_each : (P : ℕ → Type 0) (xs : List ℕ) → Each P xs → Each P (nonzeros xs)
nonzeros_each P [] h = tt
nonzeros_each P (zero ∷ xs) h = nonzeros_each P xs h.1
nonzeros_each P (suc x ∷ xs) h = rw (ne_eqb (suc x) 0 (suc-ne-zero x)) (h.0, nonzeros_each P xs h.1)

keyed_each : (P : ℕ → Type 0) (rot : Rot) (ps : List PairRecord) → P rot.0 → Each P (keyed rot ps)
keyed_each P rot [] h = tt
keyed_each P rot (p ∷ ps) h = (h, tt)

pub some_target : (ts : List ℕ) → non_empty ts ≡ true → (k : ℕ) × (among k ts ≡ true)
some_target [] h = absurd (true≢false (sym h))
some_target (t ∷ ts) h = (t, among_head t ts)

-- the rotation of a pass is at most the baby that it makes
pass_low : (n step : ℕ) (cs : List ℕ) → Each (λ k. k * step < n) cs → (i : ℕ) → non_empty (targets cs i) ≡ true → 2 ^ i * step < n
pass_low n step cs h i e =
    let r = some_target (targets cs i) e in
    let t = target_is cs i r.0 r.1 in
    let l : 2 ^ i ≤ r.0 = rw t.topped at (top_low r.0 t.nonzero) in
    omega (arith, mul-le-mul_right step l, each_among (λ k. k * step < n) cs h r.0 t.among_cached)

passes_low : (n step : ℕ) (cs : List ℕ) → Each (λ k. k * step < n) cs → Each (λ k. k < n) (pass_rotations 16 step cs)
passes_low n step cs h =
    rw (rotations_are step cs 16)
    (each_map (λ k. k < n) (λ i. 2 ^ i * step) (below (λ i. non_empty (targets cs i)) 16)
    (each_then (λ i e. pass_low n step cs h i e) (below (λ i. non_empty (targets cs i)) 16) (below_passes (λ i. non_empty (targets cs i)) 16)))

times_low : (step n : ℕ) (bs : List ℕ) → Each (λ b. b < n) bs → Each (λ k. k * step < n) (map (λ b. b / step) bs)
times_low step n bs h = each_map (λ k. k * step < n) (λ b. b / step) bs (each_then (λ b l. omega (arith, div-add-mod' b step)) bs h)

rotation_low : (slots step b i : ℕ) → 0 < slots → (level_rotation slots step b i).0 < slots
unfolding level_rotation
rotation_low slots step b i l = residue_lt ((level_digit b i).0 *ℤ pos step) slots l

levels_low : (slots step b : ℕ) (leaves : List ℕ) → 0 < slots → Each (λ (v : Level). v.rotation.0 < slots) (levels_of slots step b leaves)
unfolding levels_of
levels_low slots step b leaves l =
    each_tabulate (λ (v : Level). v.rotation.0 < slots) b (λ i. record { rotation = level_rotation slots step b i; pairs = pairs_at b leaves i }) (λ i m. rotation_low slots step b i l)

module _ (slots width : ℕ) (ks : List ℕ) where
  closure_times : Each (λ k. k * baby_step slots width ks < slots) (closure 16 (baby_multiples slots width ks))
  unfolding baby_multiples
  closure_times =
      closure_least 16 (baby_multiples slots width ks) (λ k. k * baby_step slots width ks < slots)
      (λ k h q. let l : cleared k ≤ k = omega (arith, cleared_lower k (positive k q)) in omega (arith, mul-le-mul_right (baby_step slots width ks) l))
      (times_low (baby_step slots width ks) slots (babies slots width ks) (babies_below slots width ks))

  own_low : Each (λ k. k < slots) (keys_per_rotation (babies slots width ks) (giants slots width ks))
  own_low =
      each_append (λ k. k < slots) (nonzeros (babies slots width ks)) (nonzeros (giants slots width ks))
      (nonzeros_each (λ k. k < slots) (babies slots width ks) (babies_below slots width ks))
      (nonzeros_each (λ k. k < slots) (giants slots width ks) (giants_below slots width ks))

  tree_rotations : 0 < slots → Each (λ (v : Level). v.rotation.0 < slots) (plan_tree slots width ks).levels
  unfolding plan_tree tree_of
  tree_rotations l = levels_low slots width (bits_of (giant_digits slots width ks)) (leaves_of (giant_digits slots width ks)) l

  tree_low : 0 < slots → Each (λ k. k < slots) (tree_keys (plan_tree slots width ks))
  unfolding tree_keys
  tree_low l =
      each_join (λ k. k < slots) (λ (v : Level). keyed v.rotation v.pairs) (plan_tree slots width ks).levels
      (each_then (λ (v : Level) h. keyed_each (λ k. k < slots) v.rotation v.pairs h) (plan_tree slots width ks).levels (tree_rotations l))

-- every key of a plan is a rotation below slots
pub keys_low : (slots : ℕ) (s : LinearTransformationStrategy) (ks : List ℕ) → 0 < slots → Each (λ k. k < slots) (plan_keys slots s ks)
unfolding plan_keys
keys_low slots (Bsgs w) ks l = own_low slots w ks
keys_low slots (BsgsPowersOfTwo w) ks l =
    each_append (λ k. k < slots) (pass_rotations 16 (baby_step slots w ks) (closure 16 (baby_multiples slots w ks))) (tree_keys (plan_tree slots w ks))
    (passes_low slots (baby_step slots w ks) (closure 16 (baby_multiples slots w ks)) (closure_times slots w ks))
    (tree_low slots w ks l)
keys_low slots Direct ks l = own_low slots 1 ks

-- ---- keys are few

keyed_one : (rot : Rot) (ps : List PairRecord) → length (keyed rot ps) ≤ 1
keyed_one rot [] = omega arith
keyed_one rot (p ∷ ps) = le_refl 1

-- at most one a level
pub keyed_few : (ls : List Level) → length (join (λ l. keyed l.rotation l.pairs) ls) ≤ length ls
keyed_few [] = le_refl 0
keyed_few (l ∷ ls) = omega (arith, length-append (keyed l.rotation l.pairs) (join (λ l. keyed l.rotation l.pairs) ls), keyed_one l.rotation l.pairs, keyed_few ls)

rotations_few : (step : ℕ) (cs : List ℕ) → length (pass_rotations 16 step cs) ≤ 16
rotations_few step cs = rw (rotations_are step cs 16, length-map) (below_le (λ i. non_empty (targets cs i)) 16)

-- at most 16 passes and 16 levels
pub power_keys_few : (slots width : ℕ) (ks : List ℕ) → 0 < width → slots ≤ 65536 → length (plan_keys slots (BsgsPowersOfTwo width) ks) ≤ 32
unfolding plan_keys tree_keys
power_keys_few slots width ks w l =
    omega (
      arith,
      length-append (pass_rotations 16 (baby_step slots width ks) (closure 16 (baby_multiples slots width ks))) (tree_keys (plan_tree slots width ks)),
      rotations_few (baby_step slots width ks) (closure 16 (baby_multiples slots width ks)),
      keyed_few (plan_tree slots width ks).levels,
      tree_height slots width ks,
      tree_bits_low slots width ks w l,
    )
