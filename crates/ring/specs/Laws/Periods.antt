-- Periods of a list: the list read around is a sequence that a period shifts onto itself, so periods are closed under the greatest common divisor.
-- The smallest period: it is one, it is at most every other, and it divides every other, and every shift that leaves the list read around as it is.
-- Assumes nothing.
use Rattle.std.specs.Prelude.{◌≡◌, ℕ, zero, suc, ◌+◌, ◌-◌, ◌*◌, ◌/◌, ◌%◌, ◌<◌, ◌≤◌, true, false, List, length, ◌≢◌, slice_index}
use Rattle.std.specs.Int.{◌∣◌}
use Rattle.std.proofs.Common.{sym, ap, ◌∙◌, true≢false, suc-mul, mod-lt, mod-eq_of_lt, le_refl, le_antisymm, mul-div_cancel, lt_of_le_of_lt, arith, eq-eqb, eqb-true}
use Rattle.std.proofs.Math.Nat.{mod-le, mod-eq-sub-mod, mod-mod_of_dvd, mod-add-div', add-mod_right, dvd_refl, dvd_trans, le_of_dvd, pos_of_dvd_of_pos, lt_of_not-le}
use Rattle.ring.specs.Searches.{least}
use Rattle.ring.specs.Divisors.{divides, gcd_of}
use Rattle.ring.specs.Periods.{repeats, is_period, min_period, IsPeriod}
use Rattle.ring.specs.Laws.Searches.{Found, both, first, second, every_at, every_all, least_found}
use Rattle.ring.specs.Laws.Divisors.{divides_yes, divides_dvd, is_gcd, closed}

-- ---- the test and its meaning

pub repeats_at : (v : List ℕ) (p n : ℕ) → repeats v p n ≡ true → (t : ℕ) → t < n → slice_index v t ≡ slice_index v (t % p)
unfolding repeats
repeats_at v p n h t l = eqb-true _ _ (every_at _ n h t l)

pub repeats_all : (v : List ℕ) (p n : ℕ) → ((t : ℕ) → t < n → slice_index v t ≡ slice_index v (t % p)) → repeats v p n ≡ true
unfolding repeats
repeats_all v p n f = every_all _ n (λ t l. eq-eqb _ _ (f t l))

-- one period back
pub back : (v : List ℕ) (q t : ℕ) → q ≤ t → slice_index v (t - q) ≡ slice_index v ((t - q) % q) → slice_index v (t - q) ≡ slice_index v (t % q)
back v q t l h = rw (mod-eq-sub-mod l) h

pub positive : {v : List ℕ} {p : ℕ} → IsPeriod v p → 1 ≤ p
positive h = pos_of_dvd_of_pos h.divides h.some

pub within : {v : List ℕ} {p : ℕ} → IsPeriod v p → p ≤ length v
within h = le_of_dvd h.some h.divides

pub passes : {v : List ℕ} {p : ℕ} → IsPeriod v p → is_period v p ≡ true
unfolding is_period
passes {v} {p} h = both (divides_yes p (length v) h.divides) (repeats_all v p (length v) h.repeats)

pub passed : (v : List ℕ) (p : ℕ) → 1 ≤ length v → is_period v p ≡ true → IsPeriod v p
unfolding is_period
passed v p n h =
    let a = first (divides p (length v)) (repeats v p (length v)) h in
    let b = second (divides p (length v)) (repeats v p (length v)) h in
    record { some = n; divides = divides_dvd p (length v) a; repeats = repeats_at v p (length v) b }

-- a divisor q of a period p is a period where the list repeats with q up to p
pub refine : {v : List ℕ} {p : ℕ} (q : ℕ) → IsPeriod v p → q ∣ p → repeats v q p ≡ true → IsPeriod v q
refine {v} {p} q h d r =
    record {
      some = h.some;
      divides = dvd_trans q d h.divides;
      repeats = λ t l. h.repeats t l ∙ repeats_at v q p r (t % p) (mod-lt t (positive h)) ∙ ap (λ (x : ℕ). slice_index v x) (mod-mod_of_dvd q t d);
    }

-- where the list does not repeat with p / f up to p, no period is p / f
pub not_refined : {v : List ℕ} {p : ℕ} (f k : ℕ) → 2 ≤ f → IsPeriod v p → repeats v (p / f) p ≡ false → IsPeriod v k → p ≢ k * f
not_refined {v} {p} f k o h n i e =
    let q : p / f ≡ k = rw e (mul-div_cancel k (omega arith)) in
    let y : repeats v (p / f) p ≡ true = rw q (repeats_all v k p (λ t l. i.repeats t (omega (arith, within h)))) in
    true≢false (sym y ∙ n)

-- ---- sequences that a shift leaves as they are

module _ (u : ℕ → ℕ) where
  abbrev pub Shift : ℕ → Type 0
  Shift x = (t : ℕ) → u (t + x) ≡ u t

  shift_mul : (x : ℕ) → Shift x → (j t : ℕ) → u (t + j * x) ≡ u t
  shift_mul x h zero t = let e : t + 0 * x ≡ t = omega arith in rw e
  shift_mul x h (suc j) t =
      let e : t + suc j * x ≡ t + j * x + x = omega (arith, suc-mul j x) in
      rw e (h (t + j * x) ∙ shift_mul x h j t)

  shift_mod : (a b : ℕ) → Shift a → Shift b → Shift (a % b)
  shift_mod a b h k t =
      let e : t + a % b + a / b * b ≡ t + a = omega (arith, mod-add-div' a b) in
      sym (shift_mul b k (a / b) (t + a % b)) ∙ ap u e ∙ h t

-- ---- the list read around

module _ (v : List ℕ) (n : 0 < length v) where
  abbrev pub around : ℕ → ℕ
  around t = slice_index v (t % length v)

  around_mod : (p : ℕ) → IsPeriod v p → (t : ℕ) → around t ≡ slice_index v (t % p)
  around_mod p h t = h.repeats (t % length v) (mod-lt t n) ∙ ap (λ (x : ℕ). slice_index v x) (mod-mod_of_dvd p t h.divides)

  -- read modulo a multiple of a period
  pub around_multiple : (p q : ℕ) → IsPeriod v p → p ∣ q → (t : ℕ) → around (t % q) ≡ around t
  around_multiple p q h d t =
      around_mod p h (t % q) ∙ ap (λ (x : ℕ). slice_index v x) (mod-mod_of_dvd p t d) ∙ sym (around_mod p h t)

  shifts : (p : ℕ) → IsPeriod v p → Shift around p
  shifts p h t = around_mod p h (t + p) ∙ ap (λ (x : ℕ). slice_index v x) (add-mod_right t p) ∙ sym (around_mod p h t)

  -- within the list, around is the list
  inside : (t : ℕ) → t < length v → around t ≡ slice_index v t
  inside t l = ap (λ (x : ℕ). slice_index v x) (mod-eq_of_lt l)

  by_shift : (p : ℕ) → p ∣ length v → Shift around p → IsPeriod v p
  by_shift p d h =
      record {
        some = n;
        divides = d;
        repeats = λ t l.
            sym (inside t l)
            ∙ ap around (sym (mod-add-div' t p))
            ∙ shift_mul around p h (t / p) (t % p)
            ∙ inside (t % p) (lt_of_le_of_lt (mod-le t p) l);
      }

  -- (c) with p and q their greatest common divisor is a period
  pub period_gcd : (p q : ℕ) → IsPeriod v p → IsPeriod v q → IsPeriod v (gcd_of p q)
  period_gcd p q h k =
      by_shift (gcd_of p q) (dvd_trans (gcd_of p q) (is_gcd p q).left h.divides)
      (closed (Shift around) (shift_mod around) p q (shifts p h) (shifts q k))

  -- the length is a period
  pub period_length : IsPeriod v (length v)
  period_length =
      record { some = n; divides = dvd_refl _; repeats = λ t l. ap (λ (x : ℕ). slice_index v x) (sym (mod-eq_of_lt l)) }

  -- ---- the smallest period

  found : Found (is_period v) (length v) (least (is_period v) (length v))
  found = least_found (is_period v) (length v) (length v) n (le_refl _) (passes period_length)

  -- (a) it is a period
  pub min_is : IsPeriod v (min_period v)
  unfolding min_period
  min_is = passed v (least (is_period v) (length v)) n found.yes

  -- (b) it is at most every period
  pub min_least : (p : ℕ) → IsPeriod v p → min_period v ≤ p
  unfolding min_period
  min_least p h = omega (arith, lt_of_not-le {n = suc p} (λ l. found.below p (positive h) l (passes h)))

  -- and divides every period
  pub min_divides : (p : ℕ) → IsPeriod v p → min_period v ∣ p
  min_divides p h =
      let m = min_period v in
      let k = is_gcd m p in
      let e : gcd_of m p ≡ m = le_antisymm (le_of_dvd (positive min_is) k.left) (min_least (gcd_of m p) (period_gcd m p min_is h)) in
      rw e at k.right

  -- and every number that shifts the list read around onto itself, whether it divides the length or not
  pub min_shift : (p : ℕ) → Shift around p → min_period v ∣ p
  min_shift p h =
      let k = is_gcd p (length v) in
      dvd_trans (min_period v)
      (min_divides (gcd_of p (length v)) (by_shift (gcd_of p (length v)) k.right (closed (Shift around) (shift_mod around) p (length v) h (shifts (length v) period_length))))
      k.left
