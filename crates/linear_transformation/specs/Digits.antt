-- Document 01, "Keys": giant digits, the number b, leaves, and the rotations of the tree's levels.
-- Assumes nothing. Rotations and digits are two types: only `digit` and `level_rotation` lead from one to the other.
use Rattle.std.specs.Prelude.{ℕ, suc, ◌*◌, ◌-◌, ◌/◌, ◌%◌, ◌^◌, ◌<◌, max, ◌≡◌, Bool, true, cond, ◌&&◌, List, [], ◌∷◌, leb, eqb, ℤ, pos, neg_ℤ, ◌-ℤ◌, ◌*ℤ◌}
use Rattle.std.specs.Int.Signed.{mag, le_z, lt_z}
use Rattle.ring.specs.Residues.{residue_of}
use Rattle.ring.specs.Searches.{least}
use Rattle.ring.specs.Divisors.{divides}
use Rattle.linear_transformation.specs.declared.digits.Rot.{Rot}
use Rattle.linear_transformation.specs.declared.digits.Digit.{Digit}

-- the rotation by z, reduced modulo slots
abbrev pub rot_of : ℕ → ℤ → Rot
rot_of slots z = record { 0 = residue_of z slots }

-- a giant: reduced modulo slots, and a multiple of the step
pub record Giant (slots step : ℕ) (rot : Rot) : Type 0 where
  pub reduced : rot.0 < slots
  pub multiple : rot.0 % step ≡ 0

-- j = rotation / step; if the step divides slots and 2j ≥ period = slots / step, j - period
unfoldable pub digit : ℕ → ℕ → Rot → Digit
digit slots step rot =
    let j = rot.0 / step in
    let period = slots / step in
    record { 0 = cond (divides step slots && leb period (2 * j)) (pos j -ℤ pos period) (pos j) }

-- a digit in -2^(b-1)..2^(b-1)-1
unfoldable pub within : ℕ → Digit → Bool
within b d = le_z (neg_ℤ (pos (2 ^ (b - 1)))) d.0 && lt_z d.0 (pos (2 ^ (b - 1)))

unfoldable pub all_within : ℕ → List Digit → Bool
all_within b [] = true
all_within b (d ∷ ds) = within b d && all_within b ds

-- the largest magnitude of the digits, n for n and for -(n + 1); b is at most one more, so the search for it ends there
unfoldable pub largest : List Digit → ℕ
largest [] = 0
largest (d ∷ ds) = max (mag d.0) (largest ds)

-- b: the least number from 1 with all digits in -2^(b-1)..2^(b-1)-1
unfoldable pub bits_of : List Digit → ℕ
bits_of ds = least (λ b. all_within b ds) (suc (largest ds))

-- the leaf of a digit: j mod 2^b
abbrev pub leaf : ℕ → Digit → ℕ
leaf b d = residue_of d.0 (2 ^ b)

-- what level i of 0..b-1 adds to a digit: 2^i, the top one -2^(b-1)
unfoldable pub level_digit : ℕ → ℕ → Digit
level_digit b i = record { 0 = cond (eqb (suc i) b) (neg_ℤ (pos (2 ^ i))) (pos (2 ^ i)) }

-- the rotation of level i: 2^i·step mod slots, the top one -2^(b-1)·step mod slots
unfoldable pub level_rotation : ℕ → ℕ → ℕ → ℕ → Rot
level_rotation slots step b i = rot_of slots ((level_digit b i).0 *ℤ pos step)
