-- Laws of the maps that read one entry or none: in every matrix slot the product is the entry that the formula reads, or 0.
-- Assumes nothing.
use Rattle.std.specs.Prelude.{◌≡◌, ℕ, ◌+◌, ◌-◌, ◌*◌, ◌/◌, ◌%◌, ◌<◌, ◌≤◌, Bool, true, false, cond, List, length, nat_le, nat_lt, slice_index, refl}
use Rattle.std.specs.Int.{◌∣◌}
use Rattle.std.proofs.Common.{sym, ◌∙◌, mod-lt, mod-eq_of_lt, add_comm, arith}
use Rattle.std.proofs.Math.Path.{ap, subst}
use Rattle.std.proofs.Math.Nat.{one-le-mul, add-mod_right}
use borrow.Author.Tests.{ltb-true, leb-true}
use Rattle.ring.specs.Slots.{mulm}
use Rattle.ring.specs.Lists.{sum_by, Each}
use Rattle.ring.specs.Vectors.{tabulate}
use Rattle.ring.specs.Laws.Slots.{one_mulm}
use Rattle.ring.specs.Laws.Lists.{each_all, each_then, each_tabulate, each_map, sum_by_each, sum_by_map, sum_by_residues}
use Rattle.ring.specs.Laws.Vectors.{length_tabulate}
use Rattle.diagonals.specs.Products.{cell, product}
use Rattle.diagonals.specs.SlotMaps.{slot_map}
use Rattle.diagonals.specs.Shrinking.{common_period, at_period, shrunk}
use Rattle.diagonals.specs.Maps.{FormedMap}
use Rattle.diagonals.specs.Laws.Matrices.{formed_some}
use Rattle.diagonals.specs.Laws.SlotMaps.{slot_map_formed, slot_map_period}
use Rattle.diagonals.specs.Laws.Shrinking.{common_divides, shrunk_formed, shrunk_product}
use Rattle.maps.specs.declared.rules.Rule.{Rule}
use Rattle.maps.specs.declared.rules.Rule.TheVariants.{Sigma, Tau, Transpose, RotateRows, RotateCols, RowsUpper, RowsLower, ColsLeft, ColsRight, RowsLeft, RowsRight}
use Rattle.maps.specs.Entries.{Entry, InMatrix, place, entry_of, slot_of, entry_at}
use Rattle.maps.specs.Readings.{reading, reads, read_terms, rule_terms, whole_map, rule_map, shift_of, goes_round, shift_limit, made_shift}
use Rattle.maps.specs.Laws.Entries.{place_low, entry_of_place, slot_low, entry_inside, slot_is, slot_inside}
use Rattle.maps.specs.Laws.Terms.{each_join, InPeriod, adds, own_product}

-- ---- the shift that a rule makes, of those that it takes, stays in the matrix

pub made_low : (rule : Rule) (d : ℕ) → 1 ≤ d → shift_of rule ≤ shift_limit rule d → made_shift rule d ≤ d
made_low rule d h l = by (goes_round rule) l
  where
    by : (b : Bool) → shift_of rule ≤ cond b 65536 d → cond b (shift_of rule % d) (shift_of rule) ≤ d
    by true l = omega (arith, mod-lt (shift_of rule) h)
    by false l = l

-- ---- what is read is inside the matrix

reading_inside : (d : ℕ) (b : Bool) (r c : ℕ) → (b ≡ true → r < d) → (b ≡ true → c < d) → Each (InMatrix d) (reading b r c)
reading_inside d true r c h k = (record { row_low = h refl; col_low = k refl }, tt)
reading_inside d false r c h k = tt

module _ (d r c : ℕ) (h : r < d) (k : c < d) where
  turned : (x : ℕ) → x % d < d
  turned x = mod-lt x (omega arith)

  pub reads_inside : (rule : Rule) → made_shift rule d ≤ d → Each (InMatrix d) (reads rule d r c)
  unfolding reads
  reads_inside Sigma l = reading_inside d true r ((r + c) % d) (λ e. h) (λ e. turned (r + c))
  reads_inside Tau l = reading_inside d true ((r + c) % d) c (λ e. turned (r + c)) (λ e. k)
  reads_inside Transpose l = reading_inside d true c r (λ e. k) (λ e. h)
  reads_inside (RotateRows x) l = reading_inside d true ((r + x % d) % d) c (λ e. turned (r + x % d)) (λ e. k)
  reads_inside (RotateCols x) l = reading_inside d true r ((c + x % d) % d) (λ e. h) (λ e. turned (c + x % d))
  reads_inside (RowsUpper x) l = reading_inside d (nat_lt (r + x) d) (r + x) c (λ e. ltb-true (r + x) d e) (λ e. k)
  reads_inside (RowsLower x) l = reading_inside d (nat_le d (r + x)) (r + x - d) c (λ e. omega (arith, leb-true d (r + x) e)) (λ e. k)
  reads_inside (ColsLeft x) l = reading_inside d (nat_lt (c + x) d) r (c + x) (λ e. h) (λ e. ltb-true (c + x) d e)
  reads_inside (ColsRight x) l = reading_inside d (nat_le d (c + x)) r (c + x - d) (λ e. h) (λ e. omega (arith, leb-true d (c + x) e))
  reads_inside (RowsLeft x) l = reading_inside d (nat_lt (c + x) d) ((r + x) % d) c (λ e. turned (r + x)) (λ e. k)
  reads_inside (RowsRight x) l = reading_inside d (nat_le d (c + x)) ((r + x) % d) c (λ e. turned (r + x)) (λ e. k)

-- ---- the terms

-- those of output t are of t
own_terms : (rule : Rule) (d t : ℕ) → Each (λ x. x.i ≡ t) (read_terms rule d t)
own_terms rule d t =
    each_map (λ x. x.i ≡ t) (λ e. record { i = t; j = place d e; w = 1 }) (reads rule d (entry_of d t).row (entry_of d t).col)
    (each_all (λ e. refl) (reads rule d (entry_of d t).row (entry_of d t).col))

-- they stay in the matrix slot
pub terms_inside : (d : ℕ) (rule : Rule) → 1 ≤ d → made_shift rule d ≤ d → Each (InPeriod (d * d)) (rule_terms rule d)
terms_inside d rule h l =
    each_join (InPeriod (d * d)) (read_terms rule d) (tabulate (d * d) (λ t. t))
    (each_tabulate (λ t. Each (InPeriod (d * d)) (read_terms rule d t)) (d * d) (λ t. t)
    (λ t k.
    each_map (InPeriod (d * d)) (λ e. record { i = t; j = place d e; w = 1 }) (reads rule d (entry_of d t).row (entry_of d t).col)
    (each_then (λ e (n : InMatrix d e). record { i_low = k; j_low = place_low d e n }) (reads rule d (entry_of d t).row (entry_of d t).col)
    (reads_inside d (entry_of d t).row (entry_of d t).col (entry_inside d t h).row_low (entry_inside d t h).col_low rule l))))

-- ---- the maps are well formed

module _ (m slots d : ℕ) (rule : Rule) (h : 1 ≤ d) (v : d * d ∣ slots) where
  pub whole_map_formed : FormedMap slots (whole_map m slots d rule)
  unfolding whole_map
  whole_map_formed = slot_map_formed m slots (d * d) (rule_terms rule d) (one-le-mul h h) v

  pub whole_map_period : Each (λ x. length x.values ≡ d * d) (whole_map m slots d rule)
  unfolding whole_map
  whole_map_period = slot_map_period m slots (d * d) (rule_terms rule d)

  pub rule_map_formed : FormedMap slots (rule_map m slots d rule)
  unfolding rule_map
  rule_map_formed = shrunk_formed slots (whole_map m slots d rule) whole_map_formed

  common_square : common_period (whole_map m slots d rule) ∣ d * d
  common_square =
      common_divides (whole_map m slots d rule) (formed_some slots (whole_map m slots d rule) whole_map_formed) (d * d)
      (each_then {Q = λ x. (t : ℕ) → cell x.values (t + d * d) ≡ cell x.values t}
      (λ x (e : length x.values ≡ d * d) t. ap (λ (n : ℕ). slice_index x.values n) (ap (λ (n : ℕ). (t + n) % length x.values) (sym e) ∙ add-mod_right t (length x.values)))
      (whole_map m slots d rule) whole_map_period)

  -- stored at a divisor of d²
  pub rule_map_period : Each (λ x. length x.values ∣ d * d) (rule_map m slots d rule)
  unfolding rule_map shrunk
  rule_map_period =
      each_map (λ x. length x.values ∣ d * d) (at_period (common_period (whole_map m slots d rule))) (whole_map m slots d rule)
      (each_all (λ x. subst (λ (n : ℕ). n ∣ d * d) (sym (length_tabulate (common_period (whole_map m slots d rule)) (cell x.values))) common_square) (whole_map m slots d rule))

-- ---- the product

module _ (m slots d : ℕ) (rule : Rule) (l : made_shift rule d ≤ d) (v : d * d ∣ slots) (input : List ℕ) where
  module _ (s : ℕ) (e : Entry) (i : InMatrix d e) (k : s < slots / (d * d)) where
    some : 1 ≤ d
    some = omega (arith, i.row_low)

    -- a term of this output reads its entry in the same matrix slot
    read_is : (x : Entry) → InMatrix d x → mulm m 1 (slice_index input ((place d x + s * (d * d)) % slots)) ≡ entry_at d input s x % m
    read_is x n =
        one_mulm m (slice_index input ((place d x + s * (d * d)) % slots))
        ∙ ap (λ (y : ℕ). slice_index input y % m) (ap (λ (y : ℕ). y % slots) (add_comm (place d x) (s * (d * d))) ∙ mod-eq_of_lt (slot_low d x n s slots v k))

    whole_product : product m slots (whole_map m slots d rule) input (s * (d * d) + place d e) ≡ sum_by m (entry_at d input s) (reads rule d e.row e.col)
    unfolding whole_map
    whole_product =
        ap (product m slots (slot_map m slots (d * d) (rule_terms rule d)) input) (add_comm (s * (d * d)) (place d e))
        ∙ own_product m slots (d * d) (read_terms rule d) (own_terms rule d) input (place d e) s (omega (arith, slot_low d e i s slots v k)) (place_low d e i)
        ∙ sum_by_map m (λ x. record { i = place d e; j = place d x; w = 1 }) (adds m slots (d * d) (read_terms rule d) (own_terms rule d) input (place d e) s) (reads rule d (entry_of d (place d e)).row (entry_of d (place d e)).col)
        ∙ ap (λ (y : Entry). sum_by m (λ x. mulm m 1 (slice_index input ((place d x + s * (d * d)) % slots))) (reads rule d y.row y.col)) (entry_of_place d e i)
        ∙ sum_by_each m (λ x. mulm m 1 (slice_index input ((place d x + s * (d * d)) % slots))) (λ x. entry_at d input s x % m) (reads rule d e.row e.col)
        (each_then (λ x n. read_is x n) (reads rule d e.row e.col) (reads_inside d e.row e.col i.row_low i.col_low rule l))
        ∙ sum_by_residues m (entry_at d input s) (reads rule d e.row e.col)

    -- entry e of matrix slot s is the entry that e reads, modulo 2^64, or 0
    pub rule_map_product : product m slots (rule_map m slots d rule) input (s * (d * d) + place d e) ≡ sum_by m (entry_at d input s) (reads rule d e.row e.col)
    unfolding rule_map
    rule_map_product =
        shrunk_product slots (whole_map m slots d rule) (whole_map_formed m slots d rule some v) m input (s * (d * d) + place d e) (slot_low d e i s slots v k)
        ∙ whole_product

  -- the same at each slot
  pub rule_map_at : 1 ≤ d → (t : ℕ) → t < slots → product m slots (rule_map m slots d rule) input t ≡ sum_by m (entry_at d input (slot_of d t)) (reads rule d (entry_of d t).row (entry_of d t).col)
  rule_map_at h t k =
      ap (product m slots (rule_map m slots d rule) input) (sym (slot_is d t h))
      ∙ rule_map_product (slot_of d t) (entry_of d t) (entry_inside d t h) (slot_inside d t h slots v k)
