-- Laws of leaves that rest on the weight of the top bit, which is negative: the bits of a leaf make its digit, and the level
-- rotations of these bits make the giant's rotation. They stand here, and not with the other laws of `specs/Laws/Leaves`, so
-- that a wrong weight (must-fail/definitions.edit) is refused by a proof.
-- Assumes nothing.
use Prim.Native.Nat.{ℕ, zero, suc, ◌+◌, ◌*◌, ◌-◌, ◌^◌, ◌<◌}
use Rattle.std.specs.Prelude.{◌≡◌, refl, ℤ, neg_ℤ, ◌*ℤ◌}
use Rattle.std.proofs.Math.Path.{sym, ap}
use Rattle.std.proofs.Common.{◌∙◌, subst, le_refl, zero-mul, one-mul, add-zero, eq-eqb}
use Rattle.std.proofs.Math.Nat.{mod-eq_of_lt, div-eq_of_lt}
use native.Mathlib.Omega.{arith}
use Rattle.std.proofs.Math.Pow as Pow
use Rattle.std.proofs.Math.IntN.{pos, negsuc}
use Rattle.std.specs.Int.Signed.{mag}
use Rattle.ring.specs.Residues.{residue_of}
use Rattle.linear_transformation.specs.declared.digits.Rot.{Rot}
use Rattle.linear_transformation.specs.declared.digits.Digit.{Digit}
use Rattle.linear_transformation.specs.Digits.{rot_of, digit, leaf, level_digit, level_rotation, Giant}
use Rattle.linear_transformation.specs.Laws.Digits.{minus, digit_turns}
use Rattle.linear_transformation.specs.Laws.Leaves.{leaf_low, leaf_high, bit_sum, sum_low, rotation_sum, rotation_sum_lem}

-- ---- the bits of a leaf

-- the top one is negative
pub level_top : (c : ℕ) → (level_digit (suc c) c).0 ≡ neg_ℤ (pos (2 ^ c))
unfolding level_digit
level_top c = rw (eq-eqb (suc c) (suc c) refl)

none_of : (x : ℕ) → pos 0 *ℤ neg_ℤ (pos x) ≡ pos 0
none_of zero = refl
none_of (suc x) = rw (zero-mul (suc x))

one_of : (x : ℕ) → pos 1 *ℤ neg_ℤ (pos x) ≡ neg_ℤ (pos x)
one_of zero = refl
one_of (suc x) = rw (one-mul (suc x))

module _ (c : ℕ) where
  sum_positive : (j : ℕ) → j < 2 ^ c → bit_sum (suc c) j (suc c) ≡ pos j
  unfolding bit_sum
  sum_positive j h = rw (sum_low c j c (le_refl c), level_top c, div-eq_of_lt h, mod-eq_of_lt h, none_of (2 ^ c)) (ap pos (add-zero j))

  sum_negative : (m : ℕ) → m < 2 ^ c → bit_sum (suc c) (2 ^ suc c - suc m) (suc c) ≡ negsuc m
  unfolding bit_sum
  sum_negative m h =
      let d = 2 ^ c - suc m in
      let e : 2 ^ suc c - suc m ≡ 1 * 2 ^ c + d = omega arith in
      subst (λ (x : ℕ). bit_sum (suc c) x (suc c) ≡ negsuc m) (sym e)
      (rw (sum_low c (1 * 2 ^ c + d) c (le_refl c), level_top c, Pow.high 1 c {lo = d} (omega arith), Pow.low 1 c {lo = d} (omega arith), one_of (2 ^ c))
      (minus d (2 ^ c) (omega arith) ∙ ap negsuc (omega arith)))

  -- the bits of a leaf, the top one negative, make the digit
  pub leaf_bits : (d : Digit) → mag d.0 < 2 ^ c → bit_sum (suc c) (leaf (suc c) d) (suc c) ≡ d.0
  leaf_bits d h = by d.0 h
    where
      by : (z : ℤ) → mag z < 2 ^ c → bit_sum (suc c) (residue_of z (2 ^ suc c)) (suc c) ≡ z
      by (pos j) h = rw (leaf_low c j h) (sum_positive j h)
      by (negsuc m) h = rw (leaf_high c m h) (sum_negative m h)

-- ---- the rotations of the levels

opposite : (x s : ℕ) → neg_ℤ (pos x) *ℤ pos s ≡ neg_ℤ (pos (x * s))
opposite zero s = rw (zero-mul s)
opposite (suc x) s = refl

module _ (slots step c : ℕ) where
  -- the top level's is negative
  pub rotation_top : level_rotation slots step (suc c) c ≡ rot_of slots (neg_ℤ (pos (2 ^ c * step)))
  unfolding level_rotation
  rotation_top = rw (level_top c, opposite (2 ^ c) step)

-- the rotations of the levels at which a giant's leaf has a bit make the giant's rotation
pub leaf_rotations : (slots step c : ℕ) (giant : Rot) → 0 < step → Giant slots step giant → mag (digit slots step giant).0 < 2 ^ c
    → rotation_sum slots step (suc c) (leaf (suc c) (digit slots step giant)) (suc c) ≡ giant.0
leaf_rotations slots step c giant s g h =
    rotation_sum_lem slots step (suc c) (leaf (suc c) (digit slots step giant)) (omega (arith, g.reduced)) (suc c)
    ∙ ap (λ (z : ℤ). residue_of (z *ℤ pos step) slots) (leaf_bits c (digit slots step giant) h)
    ∙ digit_turns slots step giant s g
