-- The refusals of lists of babies, and what acceptance tells.
-- Assumes nothing.
use Prim.Native.Nat.{ℕ, zero, suc, ◌^◌, ◌<◌}
use mathlib.Core.Path.{◌≡◌, refl, ap}
use mathlib.Core.Bool.{Bool, true, false, ◌||◌, true≢false}
use mathlib.Core.List.{List, [], ◌∷◌}
use native.Mathlib.Nat.{not-suc-le-zero, le_of_suc-le-suc}
use native.Mathlib.Omega.{arith}
use borrow.Author.Tests.{ltb-false}
use lib.IntN.{ℤ, pos, negsuc, nat_abs}
use lib.Signed.{mag, non_neg}
use lib.Dec.{T}
use lib.ListN.{length, get_or}
use mir.Syntax.{w64}
use mir.Val.{Fits, of_z, to_z}
use mir.ValLaws.{to_z-of_z}
use borrow.Author.Rules.{sfits_of}
use Rattle.ring.specs.Lists.{Each, some}
use Rattle.std.specs.Prelude.{Result, Ok}
use Rattle.std.specs.List.{list_any}
use Rattle.ring.specs.declared.refusal.Refusal.{Refusal}
use Rattle.ring.specs.declared.refusal.Refusal.TheVariants.{Baby}
use Rattle.ring.specs.Refusals.{first_refusal, Range}
use Rattle.ring.specs.Laws.Refusals.{either, first_later}
use Rattle.linear_transformation.specs.Steps.Numbers.{StepsInside, StepsJudged}
use Rattle.linear_transformation.specs.declared.rotations.BsgsRotations.{BsgsRotations}
use Rattle.linear_transformation.specs.declared.rotations.BsgsRotations.TheVariants.{PerRotation, PowersOfTwo}
use Rattle.linear_transformation.specs.Listed.{step_refusals, baby_refusals, baby_step_of, no_baby}
use Rattle.ring.specs.Laws.Members.{left, right}
use Rattle.linear_transformation.specs.Steps.Babies.{Small}
use Rattle.linear_transformation.proofs.Judgings.{none_of}

-- ---- the babies

module _ {A : Type 0} (p : A → Bool) where
  pub some_here : (xs : List A) (t : ℕ) (d : A) → t < length xs → p (get_or xs t d) ≡ true → some p xs ≡ true
  some_here [] t d l e = absurd (not-suc-le-zero l)
  some_here (x ∷ xs) zero d l e = left (some p xs) e
  some_here (x ∷ xs) (suc t) d l e = right (p x) (some_here xs t d (le_of_suc-le-suc l) e)

  pub each_false : (xs : List A) → some p xs ≡ false → Each (λ x. p x ≡ false) xs
  each_false [] e = tt
  each_false (x ∷ xs) e = let b = either (p x) (some p xs) e in (b.0, each_false xs b.1)

-- the library's `any`
pub any_some : {A : Type 0} (p : A → Bool) (xs : List A) → list_any p xs ≡ some p xs
any_some p [] = refl
any_some p (x ∷ xs) = ap (λ b. p x || b) (any_some p xs)

-- ---- the list

range_of : (rotations : BsgsRotations) → StepsInside rotations → Range (baby_step_of rotations)
range_of PerRotation h = record { low = omega arith; high = omega arith }
range_of (PowersOfTwo baby_step giant_step slots) h = h.0

module _ {rotations : BsgsRotations} (bs : List ℤ) {r : Result Unit Refusal} (j : StepsJudged rotations r) where
  module _ (h : r ≡ Ok tt) {step : ℕ} (s : step ≡ baby_step_of rotations) where
    later : first_refusal (baby_refusals rotations bs) ≡ first_refusal ((some (λ z. no_baby z step) bs, Baby) ∷ [])
    later = rw s (first_later (step_refusals rotations) ((some (λ z. no_baby z (baby_step_of rotations)) bs, Baby) ∷ []) (none_of j.answer h))

-- a small number as the code reads it
pub word_is : (z : ℤ) → Small z → nat_abs (to_z w64 (of_z w64 z)) ≡ nat_abs z
word_is (pos n) s = let l : mag (pos n) < 2 ^ 63 = omega (arith, ltb-false 65535 n s.high) in ap nat_abs (to_z-of_z w64 (pos n) (sfits_of l))
word_is (negsuc n) s = absurd (true≢false s.low)

-- it may be cast
pub may_cast : (z : ℤ) → Small z → T (non_neg z) × Fits w64 (nat_abs z)
may_cast (pos n) s = (tt, record { fits = omega (arith, ltb-false 65535 n s.high) })
may_cast (negsuc n) s = absurd (true≢false s.low)
