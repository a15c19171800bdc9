-- Laws of skewed values, products by slot vectors and projections.
-- Assumes nothing.
use Rattle.std.specs.Prelude.{◌≡◌, ℕ, suc, ◌+◌, ◌*◌, ◌/◌, ◌%◌, ◌<◌, ◌≤◌, Bool, true, false, cond, List, length, ℤ, pos, ◌+ℤ◌, ◌==◌, nat_lt, slice_index, refl}
use Rattle.std.specs.Int.{◌∣◌}
use Rattle.std.proofs.Common.{sym, ◌∙◌, add-zero, zero-mul, suc-mul, mul-le-mul_right, one-mul, arith, lt-ltb, le-ltb, eqb-true}
use Rattle.std.proofs.Math.Path.{ap}
use Rattle.std.proofs.Math.Nat.{mod-eq_of_lt, mod-add-mod, one-le-mul, dvd_trans, dvd-mul_left}
use Rattle.std.proofs.lemmas.Bool.{eqb-false}
use Rattle.ring.specs.Slots.{mulm}
use Rattle.ring.specs.Vectors.{tabulate}
use Rattle.ring.specs.Residues.{residue_of}
use Rattle.ring.specs.Rotations.{rotated}
use Rattle.ring.specs.Laws.Slots.{zero_mulm, one_mulm, mulm_mod}
use Rattle.ring.specs.Laws.Vectors.{length_tabulate, get_or_tabulate}
use Rattle.ring.specs.Laws.Residues.{residue_add}
use Rattle.diagonals.specs.Products.{cell, term, product}
use Rattle.diagonals.specs.Maps.{FormedMap}
use Rattle.diagonals.specs.Laws.Matrices.{cell_tabulate}
use Rattle.maps.specs.Entries.{Entry, InMatrix, place, entry_of, slot_of, entry_at}
use Rattle.maps.specs.Values.{skewed, skewed_values, on_diagonal, slot_product, first_row, first_col}
use Rattle.maps.specs.Laws.Entries.{place_low, entry_of_slot, slot_of_slot, place_of_slot, slot_low}
use Rattle.maps.specs.Laws.Stages.{one_sum}

-- ---- skewed values

pub skewed_at_lem : (rows : Bool) (d count : ℕ) (b : List ℕ) (s : ℕ) (e : Entry) → s < count → InMatrix d e → entry_at d (skewed_values rows d count b) s e ≡ entry_at d b s (skewed rows d e)
unfolding skewed_values
skewed_at_lem rows d count b s e k h =
    get_or_tabulate (count * (d * d)) (λ t. entry_at d b (slot_of d t) (skewed rows d (entry_of d t))) (s * (d * d) + place d e) 0
    (omega (arith, place_low d e h, suc-mul s (d * d), mul-le-mul_right {m = suc s} {n = count} (d * d) k))
    ∙ ap (λ (x : ℕ). entry_at d b x (skewed rows d (entry_of d (s * (d * d) + place d e)))) (slot_of_slot d e h s)
    ∙ ap (λ (x : Entry). entry_at d b s (skewed rows d x)) (entry_of_slot d e h s)

-- ---- one diagonal at offset 0

table_formed : (slots n : ℕ) (f : ℕ → ℕ) → 0 < slots → 1 ≤ n → n ∣ slots → FormedMap slots (on_diagonal (tabulate n f))
table_formed slots n f k h v =
    record {
      each = (record { low = k; some = rw (length_tabulate n f) h; divides = rw (length_tabulate n f) v }, tt);
      rising = (tt, tt);
    }

module _ (m slots : ℕ) (values : List ℕ) where
  pub on_diagonal_product : (input : List ℕ) (i : ℕ) → i < slots → product m slots (on_diagonal values) input i ≡ mulm m (cell values i) (slice_index input i)
  unfolding product
  on_diagonal_product input i l =
      one_sum m (term m slots input i (record { offset = 0; values = values }))
      ∙ mulm_mod m (cell values i) (slice_index input ((i + 0) % slots))
      ∙ ap (λ (x : ℕ). mulm m (cell values i) (slice_index input x)) (ap (λ (x : ℕ). x % slots) (add-zero i) ∙ mod-eq_of_lt l)

-- `slot_product`: slot i times the values' slot i + rotation
pub slot_product_product : (m slots : ℕ) (values : List ℕ) (rotation : ℤ) (input : List ℕ) (i : ℕ) → 1 ≤ length values → i < slots → product m slots (slot_product values rotation) input i ≡ mulm m (slice_index values (residue_of (pos i +ℤ rotation) (length values))) (slice_index input i)
unfolding slot_product rotated
slot_product_product m slots values rotation input i n l =
    let len : ℕ = length values in
    on_diagonal_product m slots (tabulate len (λ j. slice_index values (residue_of (pos j +ℤ rotation) len))) input i l
    ∙ ap (λ (x : ℕ). mulm m x (slice_index input i))
    (cell_tabulate len (λ j. slice_index values (residue_of (pos j +ℤ rotation) len)) i n
    ∙ ap (λ (x : ℕ). slice_index values x)
    (residue_add (i % len) rotation len n
    ∙ mod-add-mod i len (residue_of rotation len)
    ∙ sym (residue_add i rotation len n)))

pub slot_product_formed : (slots : ℕ) (values : List ℕ) (rotation : ℤ) → 0 < slots → 1 ≤ length values → length values ∣ slots → FormedMap slots (slot_product values rotation)
unfolding slot_product rotated
slot_product_formed slots values rotation k n v = table_formed slots (length values) (λ j. slice_index values (residue_of (pos j +ℤ rotation) (length values))) k n v

-- ---- projections

-- a mask times a slot
masked : (m : ℕ) (y : Bool) (x : ℕ) → mulm m (cond y 1 0) x ≡ cond y (x % m) 0
masked m true x = one_mulm m x
masked m false x = zero_mulm m x

module _ (d : ℕ) (e : Entry) (h : InMatrix d e) where
  in_first : (y : Bool) → (e.row == 0) ≡ y → nat_lt (place d e) d ≡ y
  in_first true q = lt-ltb (place d e) d (omega (arith, h.col_low, ap (λ (x : ℕ). x * d) (eqb-true e.row 0 q), zero-mul d))
  in_first false q = le-ltb (place d e) d (omega (arith, mul-le-mul_right {m = 1} {n = e.row} d (omega (arith, eqb-false e.row 0 q)), one-mul d))

  module _ (m slots : ℕ) (v : d * d ∣ slots) (input : List ℕ) (s : ℕ) (k : s < slots / (d * d)) where
    abbrev slot : ℕ
    slot = s * (d * d) + place d e

    -- `first_row`: the entry in row 0, else 0
    pub first_row_product : product m slots (first_row d) input (s * (d * d) + place d e) ≡ cond (e.row == 0) (entry_at d input s e % m) 0
    unfolding first_row
    first_row_product =
        on_diagonal_product m slots (tabulate (d * d) (λ t. cond (nat_lt t d) 1 0)) input slot (slot_low d e h s slots v k)
        ∙ ap (λ (x : ℕ). mulm m x (slice_index input slot))
        (cell_tabulate (d * d) (λ t. cond (nat_lt t d) 1 0) slot (omega (arith, place_low d e h))
        ∙ ap (λ (x : ℕ). cond (nat_lt x d) 1 0) (place_of_slot d e h s)
        ∙ ap (λ (y : Bool). cond y 1 0) (in_first (e.row == 0) refl))
        ∙ masked m (e.row == 0) (slice_index input slot)

    -- `first_col`: the entry in column 0, else 0
    pub first_col_product : product m slots (first_col d) input (s * (d * d) + place d e) ≡ cond (e.col == 0) (entry_at d input s e % m) 0
    unfolding first_col
    first_col_product =
        on_diagonal_product m slots (tabulate d (λ t. cond (t == 0) 1 0)) input slot (slot_low d e h s slots v k)
        ∙ ap (λ (x : ℕ). mulm m x (slice_index input slot))
        (cell_tabulate d (λ t. cond (t == 0) 1 0) slot (omega (arith, h.col_low))
        ∙ ap (λ (x : Entry). cond (x.col == 0) 1 0) (entry_of_slot d e h s))
        ∙ masked m (e.col == 0) (slice_index input slot)

module _ (slots d : ℕ) (v : d * d ∣ slots) (h : 1 ≤ d) (k : 0 < slots) where
  pub first_row_formed : FormedMap slots (first_row d)
  unfolding first_row
  first_row_formed = table_formed slots (d * d) (λ t. cond (nat_lt t d) 1 0) k (one-le-mul h h) v

  pub first_col_formed : FormedMap slots (first_col d)
  unfolding first_col
  first_col_formed = table_formed slots d (λ t. cond (t == 0) 1 0) k h (dvd_trans d (dvd-mul_left d d) v)
