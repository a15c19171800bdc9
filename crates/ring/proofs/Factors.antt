-- The search for the smallest period by the primes of the length: what is left holds every prime by which the period is too large.
-- Assumes nothing.
use Rattle.std.proofs.Common.{◌≡◌, ℕ, ◌+◌, ◌*◌, ◌/◌, ◌%◌, ◌<◌, ◌≤◌, List, length, get_or, sym, ap, ◌∙◌, ⊎_elim, le_trans, le_refl, lt_of_le_of_lt, mul-le-mul_right, mul_assoc, mul-le-mul, eq-or-lt_of_le, mul-one, le-mul_of_pos_right, arith}
use Prim.Native.Nat.{◌∣◌}
use native.Mathlib.Nat.{le_of_dvd, le-suc, mod-le, mod-mod_of_dvd, mul-div_cancel', div-mul_cancel, dvd_refl, dvd_trans, dvd-mul_left, dvd-mul_right, mod-eq-zero_of_dvd, pos_of_dvd_of_pos, eq-one_of_dvd-one}
use Rattle.ring.specs.Divisors.{gcd_of}
use Rattle.ring.specs.Periods.{min_period, IsPeriod}
use Rattle.ring.specs.Steps.{Reduced, Stripped}
use Rattle.ring.specs.Laws.Searches.{lt_or_ge}
use Rattle.ring.specs.Laws.Divisors.{is_gcd, gcd_pos, quotient_dvd}
use Rattle.ring.specs.Laws.Periods.{min_is, min_divides, period_length}

-- ---- numbers

-- no divisor of n lies in 2..f
abbrev Rough : ℕ → ℕ → Type 0
Rough f n = (d : ℕ) → 2 ≤ d → d < f → d ∣ n → ⊥

-- the smallest divisor f of n has none in common with k, unless it divides k
rough_gcd : (k f n : ℕ) → 2 ≤ f → f ∣ n → Rough f n → (f ∣ k → ⊥) → gcd_of k f ≡ 1
rough_gcd k f n o d r x =
    let g = is_gcd k f in
    let p = gcd_pos k f (omega arith) in
    ⊎_elim
    (λ (e : gcd_of k f ≡ f). absurd (x (rw e at g.left)))
    (λ (l : gcd_of k f < f). ⊎_elim (λ (e : 1 ≡ gcd_of k f). sym e) (λ (q : 1 < gcd_of k f). absurd (r (gcd_of k f) q l (dvd_trans (gcd_of k f) g.right d))) (eq-or-lt_of_le p))
    (eq-or-lt_of_le (le_of_dvd (omega arith) g.right))

-- below f * f such an n has no divisor but 1 and n
rough_prime : (f n k : ℕ) → n < f * f → Rough f n → k ∣ n → 1 < k → k < n → ⊥
rough_prime f n k h r d o l =
    let e = div-mul_cancel k d in
    ⊎_elim
    (λ (a : k < f). r k o a d)
    (λ (a : f ≤ k).
    ⊎_elim
    (λ (b : n / k < f). ⊎_elim (λ (c : 1 < n / k). r (n / k) c b (quotient_dvd n k d)) (λ (c : n / k ≤ 1). omega (arith, e, mul-le-mul_right k c)) (lt_or_ge 1 (n / k)))
    (λ (b : f ≤ n / k). omega (arith, e, mul-le-mul b a))
    (lt_or_ge (n / k) f))
    (lt_or_ge k f)

rough_more : (f n : ℕ) → Rough f n → (f ∣ n → ⊥) → Rough (f + 1) n
rough_more f n r x d o l h = ⊎_elim (λ (a : d < f). r d o a h) (λ (a : f ≤ d). let e : d ≡ f = omega arith in x (rw e at h)) (lt_or_ge d f)

-- ---- periods

-- a multiple of a period is one, where it divides the length
multiple : {v : List ℕ} {p : ℕ} (x : ℕ) → IsPeriod v p → p ∣ x → x ∣ length v → IsPeriod v x
multiple {v} {p} x h d e =
    record {
      some = h.some;
      divides = e;
      repeats = λ t l. h.repeats t l ∙ sym (h.repeats (t % x) (lt_of_le_of_lt (mod-le t x) l) ∙ ap (λ (y : ℕ). get_or v y 0) (mod-mod_of_dvd p t d));
    }

-- where the search stands: `rest` has no divisor below f, and what the period is too large by divides it
pub record Left (v : List ℕ) (period rest f : ℕ) : Type 0 where
  pub still : IsPeriod v period
  pub positive : 1 ≤ rest
  pub small : rest ≤ 65536
  pub factor : 2 ≤ f
  pub low : f ≤ 65537
  pub excess : (k : ℕ) → period ≡ min_period v * k → k ∣ rest
  pub rough : (d : ℕ) → 2 ≤ d → d < f → d ∣ rest → ⊥

pub left_start : (v : List ℕ) → 1 ≤ length v → length v ≤ 65536 → Left v (length v) (length v) 2
left_start v o s =
    record {
      still = period_length v o;
      positive = o;
      small = s;
      factor = le_refl 2;
      low = omega arith;
      excess = λ k e. rw e (dvd-mul_left k (min_period v));
      rough = λ d a b c. omega arith;
    }

pub in_reach : {v : List ℕ} {period rest f : ℕ} → Left v period rest f → f * f ≤ rest → f ≤ 65536
in_reach {f} h l = omega (arith, h.small, le-mul_of_pos_right f (le_trans (le-suc 1) h.factor))

module _ {v : List ℕ} (n : 0 < length v) where
  -- what the period is still too large by divides what is left
  excess_after : {period rest f : ℕ} (r k : ℕ) → Left v period rest f → r ∣ period → r ≡ min_period v * k → k ∣ rest
  excess_after {period} r k h d e =
      let c = period / r in
      let q : period ≡ min_period v * (k * c) = sym (mul-div_cancel' r d) ∙ ap (λ (x : ℕ). x * c) e ∙ mul_assoc (min_period v) k c in
      dvd_trans k (dvd-mul_right k c) (h.excess (k * c) q)

  -- and f does not divide it once the period is reduced by f
  reduced_by : {period f : ℕ} (r k : ℕ) → Reduced v period f r → r ≡ min_period v * k → f ∣ k → ⊥
  reduced_by {f} r k h e d =
      let m = min_period v in
      let x = m * (k / f) in
      let q : r ≡ x * f = e ∙ ap (λ (y : ℕ). m * y) (sym (div-mul_cancel f d)) ∙ sym (mul_assoc m (k / f) f) in
      let i : x ∣ r = rw q (dvd-mul_right x f) in
      h.done x (multiple x (min_is v n) (dvd-mul_right m (k / f)) (dvd_trans x i h.still.divides)) q

  pub left_factor : {period rest f r s : ℕ} → Left v period rest f → f ≤ 65536 → f ∣ rest → Reduced v period f r → Stripped rest f s → Left v r s (f + 1)
  left_factor {rest} {f} {r} {s} h l d a b =
      record {
        still = a.still;
        positive = pos_of_dvd_of_pos b.divides h.positive;
        small = le_trans (le_of_dvd h.positive b.divides) h.small;
        factor = omega (arith, h.factor);
        low = omega arith;
        excess = λ k e. b.kept k (rough_gcd k f rest h.factor d h.rough (reduced_by r k a e)) (excess_after r k h a.divides e);
        rough = rough_more f s (λ x o c y. h.rough x o c (dvd_trans x y b.divides)) b.clean;
      }

  pub left_none : {period rest f : ℕ} → Left v period rest f → f ≤ 65536 → (rest % f ≡ 0 → ⊥) → Left v period rest (f + 1)
  left_none {rest} {f} h l x =
      record {
        still = h.still;
        positive = h.positive;
        small = h.small;
        factor = omega (arith, h.factor);
        low = omega arith;
        excess = h.excess;
        rough = rough_more f rest h.rough (λ d. x (mod-eq-zero_of_dvd f d));
      }

  -- a period is the smallest where it is too large by 1
  by_one : (p : ℕ) → IsPeriod v p → ((k : ℕ) → p ≡ min_period v * k → k ≡ 1) → p ≡ min_period v
  by_one p h f =
      let q = mul-div_cancel' (min_period v) (min_divides v n p h) in
      let e = f (p / min_period v) (sym q) in
      sym q ∙ ap (λ (y : ℕ). min_period v * y) e ∙ mul-one (min_period v)

  -- nothing is left
  pub left_done : {period rest f : ℕ} → Left v period rest f → rest ≤ 1 → period ≡ min_period v
  left_done {period} {rest} h l =
      let e : rest ≡ 1 = omega (arith, h.positive) in
      by_one period h.still (λ k q. eq-one_of_dvd-one (rw e at (h.excess k q)))

  -- a prime is left
  pub left_last : {period rest f r : ℕ} → Left v period rest f → rest < f * f → 1 < rest → Reduced v period rest r → r ≡ min_period v
  left_last {period} {rest} {f} {r} h s o a =
      by_one r a.still
      (λ k q.
      let d = excess_after r k h a.divides q in
      ⊎_elim
      (λ (e : k ≡ rest). absurd (reduced_by r k a q (rw e (dvd_refl rest))))
      (λ (l : k < rest). ⊎_elim (λ (c : 1 < k). absurd (rough_prime f rest k s h.rough d c l)) (λ (c : k ≤ 1). omega (arith, pos_of_dvd_of_pos d h.positive)) (lt_or_ge 1 k))
      (eq-or-lt_of_le (le_of_dvd h.positive d)))
