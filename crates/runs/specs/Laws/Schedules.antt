-- Laws of the schedule: the place of an element of a rising list, the babies of a plan, and the switches of babies and giants
-- as tables over their places.
-- Assumes nothing.
use Rattle.std.specs.Prelude.{◌≡◌, ℕ, zero, suc, ◌+◌, ◌-◌, ◌*◌, ◌/◌, ◌^◌, ◌<◌, ◌≤◌, true, not, List, [], ◌∷◌, map, length, drop, ◌==◌, slice_index, slice_index_or, refl}
use Rattle.std.specs.Int.{◌∣◌}
use Rattle.std.proofs.Common.{sym, ap, ◌∙◌, true≢false, not-suc-le-zero, le_of_suc-le-suc, suc-ne-zero, div-mul-le_self, mul-le-mul_right, arith, eq-eqb, ne_eqb, length-drop, get_or-drop}
use Rattle.std.proofs.Math.Nat.{div-le_self, div-mul_cancel}
use Rattle.std.proofs.Math.Decide.{ℕ_discrete}
use Rattle.ring.specs.Lists.{Each, Rising, among}
use Rattle.ring.specs.Divisors.{gcd_all}
use Rattle.ring.specs.Searches.{or_else, only}
use Rattle.ring.specs.Vectors.{tabulate}
use Rattle.ring.specs.Laws.Lists.{each_at, each_then, each_map}
use Rattle.ring.specs.Laws.Members.{among_rest, among_join, only_among, each_among}
use Rattle.ring.specs.Laws.Vectors.{tabulate_get_or, map_tabulate, tabulate_cong}
use Rattle.linear_transformation.specs.declared.LinearTransformationStrategy.{LinearTransformationStrategy}
use Rattle.linear_transformation.specs.declared.LinearTransformationStrategy.TheVariants.{Bsgs, BsgsPowersOfTwo, Direct}
use Rattle.linear_transformation.specs.Plans.{width_of, babies}
use Rattle.linear_transformation.specs.Closures.{cleared, closure, nonzeros}
use Rattle.linear_transformation.specs.Schedules.{baby_step, baby_multiples, plan_babies}
use Rattle.linear_transformation.specs.Laws.Plans.{babies_rise, babies_below, babies_zero}
use Rattle.linear_transformation.specs.Laws.Closures.{positive, cleared_lower, closure_listed, closure_least, babies_rising}
use Rattle.linear_transformation.specs.Laws.Runs.{among_map}
use Rattle.linear_transformation.specs.Laws.Switches.{step_divides}
use Rattle.runs.specs.Switches.{place_of, from_input, baby, giant, own_babies, own_giants}

-- ---- the place of an element

-- in a rising list the place of the p-th is p
pub place_own : (xs : List ℕ) → Rising xs → (p : ℕ) → p < length xs → place_of (slice_index xs p) xs ≡ p
place_own [] r p l = absurd (not-suc-le-zero l)
place_own (x ∷ xs) r zero l = rw (eq-eqb x x refl)
place_own (x ∷ xs) r (suc p) l =
    let m : p < length xs = le_of_suc-le-suc l in
    let h : x < slice_index_or xs p 0 = each_at (λ y. x < y) xs 0 r.0 p m in
    rw (ne_eqb x (slice_index xs p) (λ e. omega arith)) (ap suc (place_own xs r.1 p m))

-- a member's place is inside the list, and the member stands there
pub record Stands (k : ℕ) (xs : List ℕ) : Type 0 where
  pub within : place_of k xs < length xs
  pub there : slice_index_or xs (place_of k xs) 0 ≡ k

pub place_found : (k : ℕ) (xs : List ℕ) → among k xs ≡ true → Stands k xs
place_found k [] h = absurd (true≢false (sym h))
place_found k (x ∷ xs) h = by (ℕ_discrete x k) (place_found k xs)
  where
    by : Dec (x ≡ k) → (among k xs ≡ true → Stands k xs) → Stands k (x ∷ xs)
    by (yes e) ih = record { within = rw (eq-eqb x k e) (omega arith); there = rw (eq-eqb x k e) e }
    by (no n) ih =
        let s = ih (among_rest x xs k n h) in
        record { within = rw (ne_eqb x k n) (omega (arith, s.within)); there = rw (ne_eqb x k n) s.there }

-- a list mapped, as a table over places
pub map_places : {A : Type 0} (f : ℕ → A) (xs : List ℕ) → map f xs ≡ tabulate (length xs) (λ p. f (slice_index xs p))
map_places f xs = ap (map f) (tabulate_get_or xs 0) ∙ map_tabulate f (length xs) (λ p. slice_index xs p)

-- ---- the numbers of a rising list that are not 0

pub nonzeros_all : (xs : List ℕ) → Each (λ k. 1 ≤ k) xs → nonzeros xs ≡ xs
nonzeros_all [] h = refl
nonzeros_all (x ∷ xs) h = rw (ne_eqb x 0 (λ e. omega (arith, h.0))) (ap (λ (ys : List ℕ). x ∷ ys) (nonzeros_all xs h.1))

-- they are the list behind its first z elements, with z at most 1
pub nonzeros_drop : (xs : List ℕ) → Rising xs → nonzeros xs ≡ drop (length xs - length (nonzeros xs)) xs
nonzeros_drop [] r = refl
nonzeros_drop (zero ∷ xs) r =
    let e : nonzeros xs ≡ xs = nonzeros_all xs r.0 in
    let z : suc (length xs) - length xs ≡ 1 = omega arith in
    rw (e, z)
nonzeros_drop (suc x ∷ xs) r =
    let e : nonzeros xs ≡ xs = nonzeros_all xs (each_then (λ k l. omega arith) xs r.0) in
    let z : suc (length xs) - suc (length xs) ≡ 0 = omega arith in
    rw (ne_eqb (suc x) 0 (suc-ne-zero x), e, z)

-- with 0 among them, the list is 0 and those
pub nonzeros_front : (xs : List ℕ) → Rising xs → among 0 xs ≡ true → xs ≡ 0 ∷ nonzeros xs
nonzeros_front [] r h = absurd (true≢false (sym h))
nonzeros_front (zero ∷ xs) r h = ap (λ (ys : List ℕ). 0 ∷ ys) (sym (nonzeros_all xs r.0))
nonzeros_front (suc x ∷ xs) r h =
    absurd (not-suc-le-zero (each_among (λ y. suc x < y) xs r.0 0 (among_rest (suc x) xs 0 (suc-ne-zero x) h)))

rising_drop : (n : ℕ) (xs : List ℕ) → Rising xs → Rising (drop n xs)
rising_drop zero xs r = r
rising_drop (suc n) [] r = tt
rising_drop (suc n) (x ∷ xs) r = rising_drop n xs r.1

pub nonzeros_rise : (xs : List ℕ) → Rising xs → Rising (nonzeros xs)
nonzeros_rise xs r = rw (nonzeros_drop xs r) (rising_drop (length xs - length (nonzeros xs)) xs r)

pub among_nonzeros : (k : ℕ) (xs : List ℕ) → among k xs ≡ true → 1 ≤ k → among k (nonzeros xs) ≡ true
among_nonzeros k xs h l = among_join k (λ j. only (not (j == 0)) j) k xs h (only_among k (not (k == 0)) (rw (ne_eqb k 0 (λ e. omega arith))))

-- ---- the babies of a plan

pub step_positive : (slots width : ℕ) (ks : List ℕ) → 1 ≤ baby_step slots width ks
unfolding baby_step
step_positive slots width ks = by (gcd_all (babies slots width ks))
  where
    by : (g : ℕ) → 1 ≤ or_else g 1
    by zero = omega arith
    by (suc g) = omega arith

pub plan_babies_rise : (slots : ℕ) (s : LinearTransformationStrategy) (ks : List ℕ) → Rising (plan_babies slots s ks)
unfolding plan_babies
plan_babies_rise slots (Bsgs width) ks = babies_rise slots width ks
plan_babies_rise slots (BsgsPowersOfTwo width) ks = babies_rising 16 (baby_step slots width ks) (baby_multiples slots width ks) (step_positive slots width ks)
plan_babies_rise slots Direct ks = babies_rise slots 1 ks

module _ (slots : ℕ) (low : slots ≤ 65536) where
  multiples_low : (width : ℕ) (ks : List ℕ) → Each (λ k. k < 2 ^ 16) (baby_multiples slots width ks)
  unfolding baby_multiples
  multiples_low width ks =
      each_map (λ k. k < 65536) (λ b. b / baby_step slots width ks) (babies slots width ks)
      (each_then (λ b l. omega (arith, div-le_self b (baby_step slots width ks))) (babies slots width ks) (babies_below slots width ks))

  closure_has_babies : (width : ℕ) (ks : List ℕ) (b : ℕ) → among b (babies slots width ks) ≡ true → among b (plan_babies slots (BsgsPowersOfTwo width) ks) ≡ true
  unfolding plan_babies baby_multiples
  closure_has_babies width ks b h =
      let step = baby_step slots width ks in
      let bs = babies slots width ks in
      let cs = closure 16 (baby_multiples slots width ks) in
      let m : among (b / step) (baby_multiples slots width ks) ≡ true = among_map (λ b. b / step) b bs h in
      let c : among (b / step) cs ≡ true = each_among (λ k. among k cs ≡ true) (baby_multiples slots width ks) (closure_listed 16 (baby_multiples slots width ks) (multiples_low width ks)) (b / step) m in
      let e : b / step * step ≡ b = div-mul_cancel step (each_among (λ b. step ∣ b) bs (step_divides slots width ks) b h) in
      rw e at (among_map (λ k. k * step) (b / step) cs c)

  -- the babies of the diagonals are babies of the plan
  pub plan_babies_have : (s : LinearTransformationStrategy) (ks : List ℕ) (b : ℕ) → among b (babies slots (width_of s) ks) ≡ true → among b (plan_babies slots s ks) ≡ true
  unfolding plan_babies
  plan_babies_have (Bsgs width) ks b h = h
  plan_babies_have (BsgsPowersOfTwo width) ks b h = closure_has_babies width ks b h
  plan_babies_have Direct ks b h = h

  pub plan_babies_zero : 0 < slots → (s : LinearTransformationStrategy) (ks : List ℕ) → among 0 (plan_babies slots s ks) ≡ true
  plan_babies_zero p s ks = plan_babies_have s ks 0 (babies_zero slots (width_of s) ks p)

  -- 0 first, then those that are not 0
  pub plan_babies_front : 0 < slots → (s : LinearTransformationStrategy) (ks : List ℕ) → plan_babies slots s ks ≡ 0 ∷ nonzeros (plan_babies slots s ks)
  plan_babies_front p s ks = nonzeros_front (plan_babies slots s ks) (plan_babies_rise slots s ks) (plan_babies_zero p s ks)

-- each is below slots
pub plan_babies_low : (slots : ℕ) (s : LinearTransformationStrategy) (ks : List ℕ) → Each (λ b. b < slots) (plan_babies slots s ks)
unfolding plan_babies baby_multiples
plan_babies_low slots (Bsgs width) ks = babies_below slots width ks
plan_babies_low slots (BsgsPowersOfTwo width) ks =
    let step = baby_step slots width ks in
    let bs = babies slots width ks in
    each_map (λ b. b < slots) (λ k. k * step) (closure 16 (baby_multiples slots width ks))
    (closure_least 16 (baby_multiples slots width ks) (λ k. k * step < slots)
    (λ k h q. let l : cleared k < k = cleared_lower k (positive k q) in omega (arith, mul-le-mul_right {m = cleared k} {n = k} step (omega arith)))
    (each_map (λ k. k * step < slots) (λ b. b / step) bs (each_then (λ b l. omega (arith, div-mul-le_self b step)) bs (babies_below slots width ks))))
plan_babies_low slots Direct ks = babies_below slots 1 ks

-- ---- switches where each rotation has its own key

-- the p-th baby that is not 0 goes from the input to place p
pub own_schedule : (bs : List ℕ) → Rising bs → own_babies bs ≡ tabulate (length (nonzeros bs)) (λ p. baby p from_input (slice_index (nonzeros bs) p))
own_schedule bs r =
    let nz = nonzeros bs in
    map_places (λ k. baby (place_of k nz) from_input k) nz
    ∙ tabulate_cong (length nz) _ _ (λ p l. ap (λ (x : ℕ). baby x from_input (slice_index nz p)) (place_own nz (nonzeros_rise bs r) p l))

-- the giants that are not 0 turn at their places, which begin at z: 1 where 0 is a giant, else 0
pub own_giants_lem : (gs : List ℕ) → Rising gs → let z = length gs - length (nonzeros gs) in own_giants gs ≡ tabulate (length (nonzeros gs)) (λ p. giant (z + p) (slice_index gs (z + p)))
own_giants_lem gs r =
    let nz = nonzeros gs in
    let z = length gs - length nz in
    map_places (λ g. giant (place_of g gs) g) nz
    ∙ tabulate_cong (length nz) (λ p. giant (place_of (slice_index nz p) gs) (slice_index nz p)) (λ p. giant (z + p) (slice_index gs (z + p)))
    (λ p l.
    let e : slice_index_or nz p 0 ≡ slice_index_or gs (z + p) 0 = ap (λ (t : List ℕ). slice_index t p) (nonzeros_drop gs r) ∙ get_or-drop z gs p 0 in
    rw (e, place_own gs r (z + p) (omega (arith, ap length (nonzeros_drop gs r) ∙ length-drop z gs))))
