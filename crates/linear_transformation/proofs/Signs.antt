-- Small signed numbers in the code's words.
-- Assumes nothing.
use Prim.Native.Nat.{ℕ, zero, suc, ◌+◌, ◌*◌, ◌^◌, ◌≤◌, ◌<◌}
use mathlib.Core.Path.{◌≡◌, refl, ap, ◌∙◌}
use native.Mathlib.Nat.{mul-le-mul, le_trans}
use native.Mathlib.Omega.{arith}
use borrow.Author.Tests.{eq-eqb, ne_eqb, lt-ltb, le-ltb}
use Rattle.std.specs.Prelude.{max, ◌⊎◌, ◌≢◌}
use Rattle.std.specs.Ordering.{ord_max, nat_cmp}
use Rattle.std.proofs.Common.{inl, inr, ⊎_elim}
use Rattle.std.proofs.Math.Decide.{ℕ_discrete}
use Rattle.ring.specs.Laws.Searches.{lt_or_ge}
use lib.Pow.{pow_mono}
use lib.IntN.{ℤ, pos, negsuc, neg_ℤ, ◌-ℤ◌, ◌*ℤ◌}
use lib.Signed.{mag}
use mir.Syntax.{w64}
use mir.Val.{SFits, of_z, to_z}
use mir.ValLaws.{to_z-of_z}
use Rattle.linear_transformation.specs.Digits.{level_digit}
use Rattle.linear_transformation.specs.Steps.Trees.{LevelDigit}
use Rattle.linear_transformation.specs.Laws.Digits.{minus}

pub small_fits : (z : ℤ) → mag z ≤ 65536 → SFits w64 z
small_fits z h = record { sfits = omega arith }

pub small_is : (z : ℤ) → mag z ≤ 65536 → to_z w64 (of_z w64 z) ≡ z
small_is z h = to_z-of_z w64 z (small_fits z h)

pub natural_is : (n : ℕ) → n ≤ 65536 → to_z w64 n ≡ pos n
natural_is n h = small_is (pos n) h

mag_neg : (n : ℕ) → mag (neg_ℤ (pos n)) ≤ n
mag_neg zero = omega arith
mag_neg (suc n) = omega arith

-- a product of small numbers
product : (z : ℤ) (s : ℕ) → mag z ≤ 65536 → s ≤ 65536 → mag (z *ℤ pos s) ≤ 65537 * 65536
product (pos n) s h l = let m : n ≤ 65537 = omega arith in mul-le-mul m l
product (negsuc n) s h l = let k : suc n ≤ 65537 = omega arith in let m : suc n * s ≤ 65537 * 65536 = mul-le-mul k l in le_trans (mag_neg (suc n * s)) m

-- ---- a level's digit

zero_minus : (p : ℕ) → pos 0 -ℤ pos p ≡ neg_ℤ (pos p)
zero_minus zero = refl
zero_minus (suc p) = minus 0 (suc p) (omega arith) ∙ ap negsuc (omega arith)

module _ (b i p : ℕ) (z : b ≤ 16) (l : i < b) (q : p ≡ 2 ^ i) where
  pub power_low : p ≤ 65536
  power_low = omega (arith, pow_mono {i = i} {j = 16} (omega arith))

  opposite : pos 0 -ℤ to_z w64 p ≡ neg_ℤ (pos p)
  opposite = rw (natural_is p power_low) (zero_minus p)

  opposite_low : mag (neg_ℤ (pos p)) ≤ 65536
  opposite_low = omega (arith, mag_neg p, power_low)

  pub level_top : i + 1 ≡ b → LevelDigit b i (record { 0 = to_z w64 (of_z w64 (pos 0 -ℤ to_z w64 p)) })
  unfolding level_digit
  level_top e =
      let f : to_z w64 (of_z w64 (pos 0 -ℤ to_z w64 p)) ≡ neg_ℤ (pos p) = rw opposite (small_is (neg_ℤ (pos p)) opposite_low) in
      record { is = rw (eq-eqb (suc i) b (omega arith), ← q) (ap (λ (y : ℤ). record { 0 = y }) f); small = rw f opposite_low }

  pub level_other : (i + 1 ≡ b → ⊥) → LevelDigit b i (record { 0 = to_z w64 p })
  unfolding level_digit
  level_other n =
      let f : to_z w64 p ≡ pos p = natural_is p power_low in
      record { is = rw (ne_eqb (suc i) b (λ e. n (omega arith)), ← q) (ap (λ (y : ℤ). record { 0 = y }) f); small = rw f power_low }

-- the larger of two numbers, as the library's `max` compares them
pub max_is : (a b : ℕ) → ord_max nat_cmp a b ≡ max a b
max_is a b =
    ⊎_elim
    (λ (h : b < a). let e : a ≡ max a b = omega arith in rw (lt-ltb b a h) e)
    (λ (h : a ≤ b). let e : b ≡ max a b = omega arith in ⊎_elim (λ (q : b ≡ a). rw (le-ltb b a h, eq-eqb b a q) e) (λ (q : b ≢ a). rw (le-ltb b a h, ne_eqb b a q) e) (equal b a (ℕ_discrete b a)))
    (lt_or_ge b a)
  where
    equal : (x y : ℕ) → Dec (x ≡ y) → (x ≡ y) ⊎ (x ≢ y)
    equal x y (yes q) = inl q
    equal x y (no q) = inr q
