-- Laws of b: it is the least number from 1 whose range holds all digits, and at most 16 for the digits of giants.
-- Assumes nothing.
use Rattle.std.specs.Prelude.{ℕ, zero, suc, ◌+◌, ◌-◌, ◌%◌, ◌^◌, ◌≤◌, ◌<◌, ◌≡◌, refl, true, ◌&&◌, ◌≢◌, List, [], ◌∷◌, map, leb, ltb, ℤ, pos, negsuc, neg_ℤ}
use Rattle.std.proofs.Common.{sym, ◌∙◌, not-suc-le-zero, le_trans, lt_of_le_of_lt, lt_of_not-le, le_refl, le_antisymm, le-mul_of_pos_right, div-le_self, mul-le-mul_left, arith, lt-ltb, ltb-true, pow_pos}
use Rattle.std.proofs.Math.Bool.{and-true}
use Rattle.std.proofs.Math.Nat.{le-max_left, le-max_right, mod-one}
use Rattle.std.proofs.Math.Decide.{ℕ_discrete}
use Rattle.std.proofs.Math.Dec.{leb-suc-suc}
use Rattle.std.specs.Int.Signed.{mag, le_z, lt_z}
use Rattle.ring.specs.Lists.{Each}
use Rattle.ring.specs.Laws.Searches.{Found, least_found, first, second, both}
use Rattle.linear_transformation.specs.declared.digits.Rot.{Rot}
use Rattle.linear_transformation.specs.declared.digits.Digit.{Digit}
use Rattle.linear_transformation.specs.Digits.{digit, within, all_within, largest, bits_of, Giant}
use Rattle.linear_transformation.specs.Laws.Closures.{above}
use Rattle.linear_transformation.specs.Laws.Digits.{Shape, low, high, shape}

-- ---- the range of b

range : (h : ℕ) (z : ℤ) → 0 < h → (le_z (neg_ℤ (pos h)) z && lt_z z (pos h)) ≡ ltb (mag z) h
range zero z p = absurd (not-suc-le-zero p)
range (suc k) (pos n) p = refl
range (suc k) (negsuc n) p = and-true (leb n k) ∙ sym (leb-suc-suc n k)

-- the digits in the range of c + 1 are those whose magnitude is below 2^c
pub within_is : (c : ℕ) (d : Digit) → within (suc c) d ≡ ltb (mag d.0) (2 ^ c)
unfolding within
within_is c d = rw (less c) (range (2 ^ c) d.0 (pow_pos c))
  where
    less : (c : ℕ) → suc c - 1 ≡ c
    less c = omega arith

pub all_small : (c : ℕ) (ds : List Digit) → all_within (suc c) ds ≡ true → Each (λ d. mag d.0 < 2 ^ c) ds
unfolding all_within
all_small c [] h = tt
all_small c (d ∷ ds) h = (ltb-true (mag d.0) (2 ^ c) (sym (within_is c d) ∙ first _ _ h), all_small c ds (second (within (suc c) d) _ h))

pub small_all : (c : ℕ) (ds : List Digit) → Each (λ d. mag d.0 < 2 ^ c) ds → all_within (suc c) ds ≡ true
unfolding all_within
small_all c [] h = refl
small_all c (d ∷ ds) h = both (within_is c d ∙ lt-ltb (mag d.0) (2 ^ c) h.0) (small_all c ds h.1)

-- ---- b

below_largest : (n : ℕ) (ds : List Digit) → largest ds ≤ n → Each (λ d. mag d.0 < 2 ^ n) ds
unfolding largest
below_largest n [] l = tt
below_largest n (d ∷ ds) l =
    (lt_of_le_of_lt (le_trans (le-max_left (mag d.0) (largest ds)) l) (above n), below_largest n ds (le_trans (le-max_right (mag d.0) (largest ds)) l))

module _ (ds : List Digit) where
  found : Found (λ b. all_within b ds) (suc (largest ds)) (bits_of ds)
  unfolding bits_of
  found = least_found (λ b. all_within b ds) (suc (largest ds)) (suc (largest ds)) (omega arith) (le_refl _) (small_all (largest ds) ds (below_largest (largest ds) ds (le_refl _)))

  pub bits_positive : 1 ≤ bits_of ds
  bits_positive = found.positive

  pub bits_fit : all_within (bits_of ds) ds ≡ true
  bits_fit = found.yes

  pub bits_least : (b : ℕ) → 1 ≤ b → all_within b ds ≡ true → bits_of ds ≤ b
  bits_least b l h = omega (arith, lt_of_not-le {n = suc b} (λ k. found.below b l k h))

  -- the magnitudes are below 2^(b-1)
  pub bits_small : (c : ℕ) → bits_of ds ≡ suc c → Each (λ d. mag d.0 < 2 ^ c) ds
  bits_small c e = all_small c ds (rw (← e) bits_fit)

-- of no digits b is 1
pub bits_none : bits_of [] ≡ 1
unfolding all_within
bits_none = le_antisymm (bits_least [] 1 (le_refl 1) refl) (bits_positive [])

-- ---- at most 16

small_by : (slots step rot : ℕ) {z : ℤ} → 0 < step → slots ≤ 65536 → rot < slots → Shape slots step rot z → Dec (slots % step ≡ 0) → mag z < 2 ^ 15
small_by slots step rot s k l (low j e x) (yes d) = omega (arith, x d, div-le_self slots step)
small_by slots step rot s k l (low j e x) (no n) =
    let two : 2 ≤ step = omega (arith, one) in
    omega (arith, mul-le-mul_left j two)
  where
    one : step ≢ 1
    one q = n (rw q (mod-one slots))
small_by slots step rot s k l (high j m e p x) d = omega (arith, le-mul_of_pos_right (j + suc m) s)

module _ (slots step : ℕ) (s : 0 < step) (k : slots ≤ 65536) where
  pub digit_small : (g : Rot) → Giant slots step g → mag (digit slots step g).0 < 2 ^ 15
  digit_small g a = small_by slots step g.0 s k a.reduced (shape slots step g s a) (ℕ_discrete _ _)

  digits_small : (giants : List Rot) → Each (Giant slots step) giants → Each (λ d. mag d.0 < 2 ^ 15) (map (digit slots step) giants)
  digits_small [] a = tt
  digits_small (g ∷ gs) a = (digit_small g a.0, digits_small gs a.1)

  pub at_most_16 : (giants : List Rot) → Each (Giant slots step) giants → bits_of (map (digit slots step) giants) ≤ 16
  at_most_16 giants a = bits_least (map (digit slots step) giants) 16 (omega arith) (small_all 15 (map (digit slots step) giants) (digits_small giants a))
