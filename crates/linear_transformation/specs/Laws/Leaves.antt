-- Laws of leaves and levels: leaves rise with the giants' rotations, what the bits below the top one come to, and what the
-- level rotations of a leaf's bits come to. `proofs/LeafBits` has the laws that rest on the top bit's weight.
-- Assumes nothing.
use Prim.Native.Nat.{ℕ, zero, suc, ◌+◌, ◌*◌, ◌-◌, ◌/◌, ◌%◌, ◌^◌, ◌≤◌, ◌<◌}
use Rattle.std.specs.Prelude.{◌≡◌, refl, List, [], ◌∷◌, map, ℤ, ◌+ℤ◌, ◌*ℤ◌}
use Rattle.std.proofs.Math.Path.{sym, ap}
use Rattle.std.proofs.Common.{◌∙◌, not-suc-le-zero, lt_of_mul-lt-mul_right, mul-div_cancel, zero-mul, mul_assoc, ne_eqb, pow_pos}
use Rattle.std.proofs.Math.Nat.{mod-eq_of_lt, eq_of_mul-eq-mul_right, mul-mod_left, pow-succ', mod-one, zero-mod, mod-add-mod, add-mod-mod}
use native.Mathlib.Omega.{arith}
use Rattle.std.proofs.Math.Arith.{mod-mul}
use Rattle.std.proofs.Math.IntN.{pos, negsuc}
use Rattle.std.specs.Int.Signed.{mag}
use Rattle.ring.specs.Lists.{Each, Rising}
use Rattle.ring.specs.Residues.{residue_of}
use Rattle.ring.specs.Slots.{addm, mulm}
use Rattle.ring.specs.Laws.Slots.{mod_mul_mod, mul_mod_mod}
use Rattle.ring.specs.Laws.Residues.{residue_pos, residue_sum, residue_mul}
use Rattle.linear_transformation.specs.declared.digits.Rot.{Rot}
use Rattle.linear_transformation.specs.Digits.{digit, bits_of, leaf, level_digit, level_rotation, Giant}
use Rattle.linear_transformation.specs.Laws.Digits.{Shape, low, high, shape}
use Rattle.linear_transformation.specs.Laws.Bits.{bits_positive, bits_small}

-- ---- the leaf of a digit in the range of b = c + 1

pub leaf_low : (c j : ℕ) → j < 2 ^ c → residue_of (pos j) (2 ^ suc c) ≡ j
leaf_low c j h = residue_pos j (2 ^ suc c) (pow_pos (suc c)) ∙ mod-eq_of_lt (omega arith)

negative : (n m : ℕ) → n < m → residue_of (negsuc n) m ≡ m - suc n
negative n zero h = absurd (not-suc-le-zero h)
negative n (suc m) h = rw (mod-eq_of_lt {n = n} {m = suc m} h) (omega arith)

pub leaf_high : (c m : ℕ) → m < 2 ^ c → residue_of (negsuc m) (2 ^ suc c) ≡ 2 ^ suc c - suc m
leaf_high c m h = negative m (2 ^ suc c) (omega arith)

-- ---- leaves rise

module _ (slots step c : ℕ) (s : 0 < step) where
  rise : (g h : ℕ) {y z : ℤ} → Shape slots step g y → Shape slots step h z → mag y < 2 ^ c → mag z < 2 ^ c → g < h → residue_of y (2 ^ suc c) < residue_of z (2 ^ suc c)
  rise g h (low j e x) (low k f y) m n l = rw (leaf_low c j m, leaf_low c k n) (lt_of_mul-lt-mul_right step (omega arith))
  rise g h (low j e x) (high k n f d y) m o l = rw (leaf_low c j m, leaf_high c n o) (omega arith)
  rise g h (high j m e d x) (low k f y) o p l =
      let a : j < k = lt_of_mul-lt-mul_right step (omega arith) in
      let z : slots % step ≡ 0 = rw (← d) (mul-mod_left (j + suc m) step) in
      let q : slots / step ≡ j + suc m = rw (← d) (mul-div_cancel (j + suc m) s) in
      absurd (omega (arith, y z))
  rise g h (high j m e d x) (high k n f q y) o p l =
      let a : j < k = lt_of_mul-lt-mul_right step (omega arith) in
      let z : j + suc m ≡ k + suc n = eq_of_mul-eq-mul_right step s _ _ (d ∙ sym q) in
      rw (leaf_high c m o, leaf_high c n p) (omega arith)

  rise_all : (g : Rot) (hs : List Rot) → Giant slots step g → Each (Giant slots step) hs → mag (digit slots step g).0 < 2 ^ c → Each (λ d. mag d.0 < 2 ^ c) (map (digit slots step) hs)
      → Each (λ x. g.0 < x) (map (λ h. h.0) hs) → Each (λ l. leaf (suc c) (digit slots step g) < l) (map (λ h. leaf (suc c) (digit slots step h)) hs)
  rise_all g [] a b m n l = tt
  rise_all g (h ∷ hs) a b m n l =
      (rise g.0 h.0 (shape slots step g s a) (shape slots step h s b.0) m n.0 l.0, rise_all g hs a b.1 m n.1 l.1)

  rise_each : (gs : List Rot) → Each (Giant slots step) gs → Each (λ d. mag d.0 < 2 ^ c) (map (digit slots step) gs) → Rising (map (λ g. g.0) gs) → Rising (map (λ g. leaf (suc c) (digit slots step g)) gs)
  rise_each [] a m r = tt
  rise_each (g ∷ gs) a m r = (rise_all g gs a.0 a.1 m.0 m.1 r.0, rise_each gs a.1 m.1 r.1)

-- the leaves rise strictly with the giants' rotations
pub leaves_rise : (slots step : ℕ) (giants : List Rot) → 0 < step → Each (Giant slots step) giants → Rising (map (λ g. g.0) giants)
    → Rising (map (λ g. leaf (bits_of (map (digit slots step) giants)) (digit slots step g)) giants)
leaves_rise slots step giants s a r = by (bits_of (map (digit slots step) giants)) refl
  where
    by : (b : ℕ) → bits_of (map (digit slots step) giants) ≡ b → Rising (map (λ g. leaf b (digit slots step g)) giants)
    by zero e = absurd (omega (arith, bits_positive (map (digit slots step) giants)))
    by (suc c) e = rise_each slots step c s giants a (bits_small (map (digit slots step) giants) c e) r

-- ---- the bits of a leaf

-- the sum of the bits of l below i, each times what its level adds to a digit
unfoldable pub bit_sum : ℕ → ℕ → ℕ → ℤ
bit_sum b l zero = pos 0
bit_sum b l (suc i) = bit_sum b l i +ℤ pos (l / 2 ^ i % 2) *ℤ (level_digit b i).0

level_low : (c i : ℕ) → i < c → (level_digit (suc c) i).0 ≡ pos (2 ^ i)
unfolding level_digit
level_low c i h = rw (ne_eqb (suc i) (suc c) (λ e. omega arith))

low_bits : (l i : ℕ) → l % 2 ^ suc i ≡ (l / 2 ^ i % 2) * 2 ^ i + l % 2 ^ i
low_bits l i = rw (pow-succ' 2 i) (mod-mul l (omega arith) (pow_pos i))

pub sum_low : (c l i : ℕ) → i ≤ c → bit_sum (suc c) l i ≡ pos (l % 2 ^ i)
unfolding bit_sum
sum_low c l zero h = ap pos (sym (mod-one l))
sum_low c l (suc i) h = rw (sum_low c l i (omega arith), level_low c i h) (ap pos (omega (arith, low_bits l i)))

-- ---- the rotations of the levels

module _ (slots step c : ℕ) where
  pub rotation_low : (i : ℕ) → i < c → 0 < slots → (level_rotation slots step (suc c) i).0 ≡ 2 ^ i * step % slots
  unfolding level_rotation
  rotation_low i h p = rw (level_low c i h) (residue_pos (2 ^ i * step) slots p)

-- the sum modulo slots of the rotations of the levels below i at which l has a bit
unfoldable pub rotation_sum : ℕ → ℕ → ℕ → ℕ → ℕ → ℕ
rotation_sum slots step b l zero = 0
rotation_sum slots step b l (suc i) = addm slots (rotation_sum slots step b l i) (mulm slots (l / 2 ^ i % 2) (level_rotation slots step b i).0)

-- (s + β·δ)·t modulo m, as a sum of remainders
spread : (m s t β δ : ℕ) → addm m (s * t % m) (mulm m β (δ * t % m)) ≡ (s + β % m * δ % m) % m * t % m
unfolding addm mulm
spread m s t β δ =
    let e : s * t + β * (δ * t) ≡ (s + β * δ) * t = omega (arith, mul_assoc β δ t) in
    simp (mod_mul_mod, mul_mod_mod, mod-add-mod, add-mod-mod) (ap (λ (x : ℕ). x % m) e)

module _ (slots step b l : ℕ) (p : 0 < slots) where
  -- it is what the bits make, times the step, modulo slots
  pub rotation_sum_lem : (i : ℕ) → rotation_sum slots step b l i ≡ residue_of (bit_sum b l i *ℤ pos step) slots
  unfolding rotation_sum bit_sum level_rotation
  rotation_sum_lem zero = sym (residue_pos (0 * step) slots p ∙ rw (zero-mul step) (zero-mod slots))
  rotation_sum_lem (suc i) =
      let β = l / 2 ^ i % 2 in
      let d = (level_digit b i).0 in
      rw (
        rotation_sum_lem i,
        residue_mul (bit_sum b l i) (pos step) slots p,
        residue_mul d (pos step) slots p,
        residue_mul (bit_sum b l i +ℤ pos β *ℤ d) (pos step) slots p,
        residue_sum (bit_sum b l i) (pos β *ℤ d) slots p,
        residue_mul (pos β) d slots p,
        residue_pos β slots p,
      )
      (spread slots (residue_of (bit_sum b l i) slots) (residue_of (pos step) slots) β (residue_of d slots))
