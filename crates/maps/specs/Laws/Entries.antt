-- Laws of places: a slot is one entry of one matrix slot.
-- Assumes nothing.
use Rattle.std.specs.Prelude.{◌≡◌, ℕ, suc, ◌+◌, ◌*◌, ◌/◌, ◌%◌, ◌<◌, ◌≤◌}
use Rattle.std.specs.Int.{◌∣◌}
use Rattle.std.proofs.Common.{sym, ap, ◌∙◌, arith}
use native.Mathlib.Nat.{mod-lt, mod-eq_of_lt, div-eq_of_lt, mul-add-div_right, mul-add-mod_self_right, mul-le-mul_right, suc-mul, add-mul, mul_assoc, div-mul_cancel, div-add-mod', div-div-eq-div-mul, div-lt_iff_lt-mul, one-le-mul, zero-mul}
use Rattle.maps.specs.Entries.{Entry, InMatrix, place, entry_of, slot_of}

module _ (d : ℕ) (e : Entry) (h : InMatrix d e) where
  pub place_low : place d e < d * d
  place_low = omega (arith, h.col_low, mul-le-mul_right {m = suc e.row} {n = d} d h.row_low, suc-mul e.row d)

  module _ (s : ℕ) where
    -- rows of all matrix slots
    pub slot_rows : s * (d * d) + place d e ≡ (s * d + e.row) * d + e.col
    slot_rows = omega (arith, add-mul (s * d) e.row d, mul_assoc s d d)

    row_is : (s * (d * d) + place d e) / d % d ≡ e.row
    row_is =
        ap (λ (x : ℕ). x / d % d) slot_rows
        ∙ ap (λ (x : ℕ). x % d) (mul-add-div_right {m = d} (omega (arith, h.col_low)) (s * d + e.row) e.col)
        ∙ ap (λ (x : ℕ). (s * d + e.row + x) % d) (div-eq_of_lt h.col_low)
        ∙ ap (λ (x : ℕ). x % d) (native.Mathlib.Nat.add-zero (s * d + e.row))
        ∙ mul-add-mod_self_right s d e.row
        ∙ mod-eq_of_lt h.row_low

    col_is : (s * (d * d) + place d e) % d ≡ e.col
    col_is =
        ap (λ (x : ℕ). x % d) slot_rows
        ∙ mul-add-mod_self_right (s * d + e.row) d e.col
        ∙ mod-eq_of_lt h.col_low

    -- the entry and the matrix slot of a slot
    pub entry_of_slot : entry_of d (s * (d * d) + place d e) ≡ e
    entry_of_slot =
        ap (λ (x : ℕ). let e : Entry = record { row = x; col = (s * (d * d) + place d e) % d } in e) row_is
        ∙ ap (λ (x : ℕ). let e : Entry = record { row = e.row; col = x } in e) col_is

    pub slot_of_slot : slot_of d (s * (d * d) + place d e) ≡ s
    slot_of_slot =
        mul-add-div_right {m = d * d} (omega (arith, place_low)) s (place d e)
        ∙ ap (λ (x : ℕ). s + x) (div-eq_of_lt place_low)
        ∙ native.Mathlib.Nat.add-zero s

    pub place_of_slot : (s * (d * d) + place d e) % (d * d) ≡ place d e
    place_of_slot = mul-add-mod_self_right s (d * d) (place d e) ∙ mod-eq_of_lt place_low

    -- the slots of a whole matrix slot are there
    pub slot_low : (slots : ℕ) → d * d ∣ slots → s < slots / (d * d) → s * (d * d) + place d e < slots
    slot_low slots v l =
        omega (arith, place_low, div-mul_cancel (d * d) v, mul-le-mul_right {m = suc s} {n = slots / (d * d)} (d * d) l, suc-mul s (d * d))

  pub entry_of_place : entry_of d (place d e) ≡ e
  entry_of_place = ap (entry_of d) (let z : place d e ≡ 0 * (d * d) + place d e = omega (arith, zero-mul (d * d)) in z) ∙ entry_of_slot 0

-- each slot is the place of its entry in its matrix slot
module _ (d t : ℕ) (h : 1 ≤ d) where
  pub entry_inside : InMatrix d (entry_of d t)
  entry_inside = record { row_low = mod-lt (t / d) (omega arith); col_low = mod-lt t (omega arith) }

  pub slot_is : slot_of d t * (d * d) + place d (entry_of d t) ≡ t
  slot_is =
      slot_rows d (entry_of d t) entry_inside (slot_of d t)
      ∙ ap (λ (x : ℕ). (x * d + t / d % d) * d + t % d) (sym (div-div-eq-div-mul t d d))
      ∙ ap (λ (x : ℕ). x * d + t % d) (div-add-mod' (t / d) d)
      ∙ div-add-mod' t d

  pub place_is : t < d * d → place d (entry_of d t) ≡ t
  place_is l = omega (arith, slot_is, ap (λ (s : ℕ). s * (d * d)) (div-eq_of_lt l), zero-mul (d * d))

  pub slot_inside : (slots : ℕ) → d * d ∣ slots → t < slots → slot_of d t < slots / (d * d)
  slot_inside slots v l =
      (div-lt_iff_lt-mul {k = d * d} {x = t} {y = slots / (d * d)} (one-le-mul h h)).1 (rw (div-mul_cancel (d * d) v) l)
