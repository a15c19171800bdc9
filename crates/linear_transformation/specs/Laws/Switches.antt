-- With no gap among the baby multiples and none among the giants' digits, powers of two cost at most b switches more than
-- a key for each rotation.
-- Assumes nothing.
use Prim.Native.Nat.{ℕ, zero, suc, ◌+◌, ◌*◌, ◌/◌, ◌≤◌, ◌<◌, ◌∣◌, zero-le}
use Rattle.std.specs.Prelude.{◌≡◌, refl, Bool, false, not, eqb, pos, nat_abs}
use Rattle.std.proofs.Math.Path.{sym, ap}
use Rattle.std.proofs.Common.{◌∙◌, subst, true≢false, ⊎_elim, suc-ne-zero, arith, ne_eqb, eqb-true, le→leb}
use Rattle.std.proofs.Math.Bool.{true}
use mathlib.Core.List.Memᴰ
use mathlib.Core.List.{List, [], ◌∷◌, ◌++◌, map, map-map, map-id, Memᴰ}
use Rattle.std.proofs.Math.Nat.{dvd_trans, one-dvd, div-mul_cancel, zero-div}
use Rattle.std.proofs.Math.Decide.{ℕ_discrete}
use Rattle.std.proofs.Math.ListN.{length, length-map}
use Rattle.ring.specs.Lists.{Each, Rising, among}
use Rattle.ring.specs.Divisors.{gcd_of, gcd_all}
use Rattle.ring.specs.Searches.{or_else, only}
use Rattle.ring.specs.Laws.Divisors.{is_gcd}
use Rattle.ring.specs.Laws.Lists.{each_then, each_both, each_map}
use Rattle.linear_transformation.specs.declared.digits.Rot.{Rot}
use Rattle.linear_transformation.specs.declared.LinearTransformationStrategy.TheVariants.{Bsgs, BsgsPowersOfTwo}
use Rattle.linear_transformation.specs.Plans.{babies, giants, Planned}
use Rattle.linear_transformation.specs.Closures.{cleared, closure, baby_closure, nonzeros}
use Rattle.linear_transformation.specs.Trees.{tree_of, tree_switches}
use Rattle.linear_transformation.specs.Schedules.{baby_step, baby_multiples, plan_babies, plan_rots, giant_digits, plan_tree, giant_switches, plan_switches, NoGap, NoGaps}
use Rattle.ring.specs.Laws.Members.{one_of, right, among_head, among_rest, among_join, among_joined, only_yes, only_among, each_among, among_each}
use Rattle.linear_transformation.specs.Laws.Plans.{babies_rise, babies_below, babies_zero, giants_rise, giants_below, giants_multiple}
use Rattle.linear_transformation.specs.Laws.Closures.{positive, cleared_lower, closure_least, babies_rising}
use Rattle.linear_transformation.specs.Digits.{Giant}
use Rattle.linear_transformation.specs.Listed.{list_tree}
use Rattle.linear_transformation.specs.Laws.Trees.{rots_list}
use Rattle.linear_transformation.specs.Laws.Gaps.{switches_few}

-- a plan's tree is that of its giants, listed
pub plan_tree_lem : (slots width : ℕ) (ks : List ℕ) → plan_tree slots width ks ≡ list_tree slots width (map pos (giants slots width ks))
unfolding plan_tree
plan_tree_lem slots width ks = ap (tree_of slots width) (sym (rots_list slots (giants slots width ks) (giants_below slots width ks)))

-- ---- rising lists

-- a rising list whose members are members of another is no longer than it
pub rising_length : (xs ys : List ℕ) → Rising xs → Rising ys → ((k : ℕ) → among k xs ≡ true → among k ys ≡ true) → length xs ≤ length ys
rising_length [] ys r q f = zero-le
rising_length (x ∷ xs) [] r q f = absurd (true≢false (sym (f x (among_head x xs))))
rising_length (x ∷ xs) (y ∷ ys) r q f = by (rising_length xs ys r.1 q.1) (rising_length (x ∷ xs) ys r q.1) (ℕ_discrete y x)
  where
    by : (((k : ℕ) → among k xs ≡ true → among k ys ≡ true) → length xs ≤ length ys) → (((k : ℕ) → among k (x ∷ xs) ≡ true → among k ys ≡ true) → suc (length xs) ≤ length ys) → Dec (y ≡ x) → suc (length xs) ≤ suc (length ys)
    by one two (yes e) = omega (arith, one (λ k h. let l : x < k = each_among (λ j. x < j) xs r.0 k h in among_rest y ys k (λ i. omega arith) (f k (right (eqb x k) h))))
    by one two (no n) =
        let l : y < x = each_among (λ j. y < j) ys q.0 x (among_rest y ys x n (f x (among_head x xs))) in
        omega (arith, two (λ k h. among_rest y ys k (λ i. let m : x ≤ k = each_among (λ j. x ≤ j) (x ∷ xs) (omega arith, each_then (λ j p. omega arith) xs r.0) k h in omega arith) (f k h)))

-- ---- the numbers that are not 0

nonzero_among : (k : ℕ) (xs : List ℕ) → among k (nonzeros xs) ≡ true → (among k xs ≡ true) × (1 ≤ k)
nonzero_among k xs h =
    let r = among_joined k (λ j. only (not (eqb j 0)) j) xs h in
    let o = only_yes k (not (eqb r.0 0)) r.0 r.1.1 in
    let e : k ≡ r.0 = o.1 in
    (rw e r.1.0, some r.0 k e o.0)
  where
    some : (j k : ℕ) → k ≡ j → not (eqb j 0) ≡ true → 1 ≤ k
    some zero k e q = absurd (true≢false (sym q))
    some (suc j) k e q = omega arith

among_nonzero : (k : ℕ) (xs : List ℕ) → among k xs ≡ true → 1 ≤ k → among k (nonzeros xs) ≡ true
among_nonzero k xs h l = among_join k (λ j. only (not (eqb j 0)) j) k xs h (only_among k (not (eqb k 0)) (rw (ne_eqb k 0 (λ e. omega arith))))

nonzeros_rise : (xs : List ℕ) → Rising xs → Rising (nonzeros xs)
nonzeros_rise [] r = tt
nonzeros_rise (x ∷ xs) r = by (nonzeros_rise xs r.1) (not (eqb x 0))
  where
    by : Rising (nonzeros xs) → (t : Bool) → Rising (only t x ++ nonzeros xs)
    by ih true = (among_each (λ k. x < k) (nonzeros xs) (λ k h. each_among (λ k. x < k) xs r.0 k (nonzero_among k xs h).0), ih)
    by ih false = ih

all_nonzero : (xs : List ℕ) → Each (λ k. 1 ≤ k) xs → nonzeros xs ≡ xs
all_nonzero [] h = refl
all_nonzero (x ∷ xs) h = rw (ne_eqb x 0 (λ e. omega (arith, h.0))) (ap (λ (ys : List ℕ). x ∷ ys) (all_nonzero xs h.1))

-- 0 is at most once in a rising list
pub one_zero : (xs : List ℕ) → Rising xs → length xs ≤ suc (length (nonzeros xs))
one_zero [] r = zero-le
one_zero (zero ∷ xs) r = rw (all_nonzero xs (each_then (λ k l. l) xs r.0)) (omega arith)
one_zero (suc x ∷ xs) r = rw (ne_eqb (suc x) 0 (suc-ne-zero x), all_nonzero xs (each_then (λ k l. omega arith) xs r.0)) (omega arith)

-- ---- members of an image

mapped : (f : ℕ → ℕ) (xs : List ℕ) (k : ℕ) → among k (map f xs) ≡ true → (x : ℕ) × ((among x xs ≡ true) × (f x ≡ k))
mapped f [] k h = absurd (true≢false (sym h))
mapped f (x ∷ xs) k h = ⊎_elim (λ a. (x, (among_head x xs, eqb-true (f x) k a))) (λ a. let r = mapped f xs k a in (r.0, (right (eqb x r.0) r.1.0, r.1.1))) (one_of (eqb (f x) k) _ h)

among_map : (f : ℕ → ℕ) (xs : List ℕ) (x : ℕ) → among x xs ≡ true → among (f x) (map f xs) ≡ true
among_map f [] x h = absurd (true≢false (sym h))
among_map f (y ∷ ys) x h = ⊎_elim (λ a. let e : y ≡ x = eqb-true y x a in rw e (among_head (f x) (map f ys))) (λ a. right (eqb (f y) (f x)) (among_map f ys x a)) (one_of (eqb y x) _ h)

-- ---- natural numbers without a gap

mem_pos : (k : ℕ) (xs : List ℕ) → among k xs ≡ true → Memᴰ (pos k) (map pos xs)
mem_pos k [] h = absurd (true≢false (sym h))
mem_pos k (x ∷ xs) h = ⊎_elim (λ a. Memᴰ.head (ap pos (sym (eqb-true x k a)))) (λ a. Memᴰ.tail (mem_pos k xs a)) (one_of (eqb x k) _ h)

pos_mem : (k : ℕ) (xs : List ℕ) → Memᴰ (pos k) (map pos xs) → among k xs ≡ true
pos_mem k [] m = absurd (Memᴰ.not-nil m)
pos_mem k (x ∷ xs) m = ⊎_elim (λ (e : pos k ≡ pos x). let d : k ≡ x = ap nat_abs e in subst (λ (y : ℕ). among y (x ∷ xs) ≡ true) (sym d) (among_head x xs)) (λ t. right (eqb x k) (pos_mem k xs t)) (Memᴰ.cases_cons m)

between : (ks : List ℕ) → NoGap (map pos ks) → (x y z : ℕ) → among x ks ≡ true → among y ks ≡ true → x ≤ z → z ≤ y → among z ks ≡ true
between ks gap x y z a b l h = pos_mem z ks (gap (pos x) (pos y) (pos z) (mem_pos x ks a) (mem_pos y ks b) (record { le = le→leb x z l }) (record { le = le→leb z y h }))

-- ---- the baby step

-- the greatest common divisor of a list divides each of its numbers
pub gcd_all_divides : (xs : List ℕ) → Each (λ x. gcd_all xs ∣ x) xs
gcd_all_divides [] = tt
gcd_all_divides (x ∷ xs) =
    let g = is_gcd x (gcd_all xs) in
    (g.left, each_then (λ y d. dvd_trans (gcd_of x (gcd_all xs)) g.right d) xs (gcd_all_divides xs))

or_else_divides : (g : ℕ) (xs : List ℕ) → Each (λ x. g ∣ x) xs → Each (λ x. or_else g 1 ∣ x) xs
or_else_divides zero xs h = each_then (λ x d. one-dvd x) xs h
or_else_divides (suc g) xs h = h

or_else_positive : (g : ℕ) → 1 ≤ or_else g 1
or_else_positive zero = omega arith
or_else_positive (suc g) = omega arith

module _ (slots width : ℕ) (ks : List ℕ) where
  step_positive : 1 ≤ baby_step slots width ks
  unfolding baby_step
  step_positive = or_else_positive (gcd_all (babies slots width ks))

  -- it divides every baby
  pub step_divides : Each (λ b. baby_step slots width ks ∣ b) (babies slots width ks)
  unfolding baby_step
  step_divides = or_else_divides (gcd_all (babies slots width ks)) (babies slots width ks) (gcd_all_divides (babies slots width ks))

  -- with no gap the closure adds nothing
  closed : NoGap (map pos (baby_multiples slots width ks)) → Each (λ k. among k (baby_multiples slots width ks) ≡ true) (closure 16 (baby_multiples slots width ks))
  unfolding baby_multiples
  closed gap =
      let ms = baby_multiples slots width ks in
      closure_least 16 ms (λ k. among k ms ≡ true)
      (λ k h q. between ms gap 0 k (cleared k) (zero_there k h) h zero-le (omega (arith, cleared_lower k (positive k q))))
      (among_each (λ k. among k ms ≡ true) ms (λ k h. h))
    where
      zero_there : (k : ℕ) → among k (map (λ b. b / baby_step slots width ks) (babies slots width ks)) ≡ true → among 0 (map (λ b. b / baby_step slots width ks) (babies slots width ks)) ≡ true
      zero_there k h =
          let r = mapped (λ b. b / baby_step slots width ks) (babies slots width ks) k h in
          let l : r.0 < slots = each_among (λ b. b < slots) (babies slots width ks) (babies_below slots width ks) r.0 r.1.0 in
          let z : 0 / baby_step slots width ks ≡ 0 = zero-div (baby_step slots width ks) in
          rw z at (among_map (λ b. b / baby_step slots width ks) (babies slots width ks) 0 (babies_zero slots width ks (omega arith)))

  -- so the closure has no babies but those before it
  babies_within : NoGap (map pos (baby_multiples slots width ks)) → (k : ℕ) → among k (baby_closure 16 (baby_step slots width ks) (baby_multiples slots width ks)) ≡ true → among k (babies slots width ks) ≡ true
  unfolding baby_multiples
  babies_within gap k h =
      let s = baby_step slots width ks in
      let a = mapped (λ j. j * s) (closure 16 (baby_multiples slots width ks)) k h in
      let m = each_among (λ j. among j (baby_multiples slots width ks) ≡ true) (closure 16 (baby_multiples slots width ks)) (closed gap) a.0 a.1.0 in
      let b = mapped (λ b. b / s) (babies slots width ks) a.0 m in
      let d : s ∣ b.0 = each_among (λ b. s ∣ b) (babies slots width ks) step_divides b.0 b.1.0 in
      let e : b.0 ≡ k = sym (div-mul_cancel s d) ∙ ap (λ (x : ℕ). x * s) b.1.1 ∙ a.1.1 in
      rw (← e) b.1.0

  babies_fewer : NoGap (map pos (baby_multiples slots width ks)) → length (nonzeros (plan_babies slots (BsgsPowersOfTwo width) ks)) ≤ length (nonzeros (plan_babies slots (Bsgs width) ks))
  unfolding plan_babies
  babies_fewer gap =
      let cs = baby_closure 16 (baby_step slots width ks) (baby_multiples slots width ks) in
      let bs = babies slots width ks in
      rising_length (nonzeros cs) (nonzeros bs) (nonzeros_rise cs (babies_rising 16 (baby_step slots width ks) (baby_multiples slots width ks) step_positive)) (nonzeros_rise bs (babies_rise slots width ks))
      (λ k h. let r = nonzero_among k cs h in among_nonzero k bs (babies_within gap k r.0) r.1)

-- ---- the giants

module _ {slots width : ℕ} {ks : List ℕ} (p : Planned slots width ks) where
  abbrev rots : List Rot
  rots = plan_rots slots width ks

  are_giants : Each (Giant slots width) rots
  are_giants = each_map (Giant slots width) (λ g. record { 0 = g }) (giants slots width ks) (each_both (λ g l m. record { reduced = l; multiple = m }) (giants slots width ks) (giants_below slots width ks) (giants_multiple slots width ks))

  giants_rising : Rising (map (λ (g : Rot). g.0) rots)
  giants_rising = rw (map-map (λ (g : Rot). g.0) (λ g. record { 0 = g }) (giants slots width ks) ∙ map-id (giants slots width ks)) (giants_rise slots width ks)

  giants_fewer : NoGap (map (λ d. d.0) (giant_digits slots width ks)) → tree_switches (plan_tree slots width ks) ≤ length (nonzeros (giants slots width ks)) + (plan_tree slots width ks).bits
  unfolding plan_tree tree_of
  giants_fewer gap =
      let n : length rots ≡ length (giants slots width ks) = length-map (giants slots width ks) (λ g. record { 0 = g }) in
      omega (arith, switches_few slots width rots gap p.positive are_giants giants_rising, one_zero (giants slots width ks) (giants_rise slots width ks))

  -- without a gap at most b switches more
  pub switches_bound : NoGaps slots width ks → plan_switches slots (BsgsPowersOfTwo width) ks ≤ plan_switches slots (Bsgs width) ks + (plan_tree slots width ks).bits
  unfolding plan_switches giant_switches
  switches_bound gaps = omega (arith, babies_fewer slots width ks gaps.multiples, giants_fewer gaps.digits)
