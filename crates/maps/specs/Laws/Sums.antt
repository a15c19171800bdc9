-- Laws of the products by public matrices: in every matrix slot the product of the map is the sum of its formula.
-- Assumes nothing.
use Rattle.std.specs.Prelude.{◌≡◌, ℕ, suc, ◌+◌, ◌*◌, ◌/◌, ◌%◌, ◌<◌, ◌≤◌, Bool, true, false, cond, List, length, ◌==◌, slice_index}
use Rattle.std.specs.Int.{◌∣◌}
use Rattle.std.proofs.Math.Path.{refl, sym, ap}
use Rattle.std.proofs.Common.{◌∙◌, mod-lt, mod-eq_of_lt, div-lt_iff_lt-mul, add-mul, mul_assoc, add_comm, div-add-mod', suc-mul, arith, eqb-true}
use Rattle.std.proofs.Math.Nat.{mod-mod, mod-one, div-eq_of_lt, one-le-mul, one-mul, zero-mul, dvd_trans, dvd-mul_left, zero-mod, mul-le-mul_right}
use Rattle.ring.specs.Slots.{mulm}
use Rattle.ring.specs.Lists.{join, Each}
use Rattle.ring.specs.Vectors.{tabulate}
use Rattle.ring.specs.Laws.Lists.{each_tabulate}
use Rattle.diagonals.specs.Maps.{Diagonal, FormedMap}
use Rattle.diagonals.specs.Products.{product}
use Rattle.diagonals.specs.SlotMaps.{slot_map}
use Rattle.diagonals.specs.Laws.SlotMaps.{slot_map_formed, slot_map_period}
use Rattle.maps.specs.declared.rules.Product.{Product}
use Rattle.maps.specs.declared.rules.Product.TheVariants.{RightMul, LeftMul, RightJkls, LeftJkls}
use Rattle.maps.specs.Entries.{Entry, InMatrix, place, entry_of, slot_of, entry_at, public_at}
use Rattle.maps.specs.Sums.{Factors, factors, period_of, sum_term, output_terms, product_map, summand, formula}
use Rattle.maps.specs.Laws.Entries.{place_low, slot_rows, entry_of_slot, slot_of_slot, slot_low, entry_inside, slot_is, slot_inside}
use Rattle.maps.specs.Laws.Terms.{sum_table, sum_same, each_join, InPeriod, adds, own_product}

-- ---- the factors are inside their matrices

pub record FactorsIn (d : ℕ) (f : Factors) : Type 0 where
  pub of_input : InMatrix d f.input
  pub of_public : InMatrix d f.public

pub factors_inside : (p : Product) (d r c l : ℕ) → r < d → c < d → l < d → FactorsIn d (factors p d r c l)
unfolding factors
factors_inside RightMul d r c l h k n = record { of_input = record { row_low = h; col_low = n }; of_public = record { row_low = n; col_low = k } }
factors_inside LeftMul d r c l h k n = record { of_input = record { row_low = n; col_low = k }; of_public = record { row_low = h; col_low = n } }
factors_inside RightJkls d r c l h k n =
    record {
      of_input = record { row_low = h; col_low = mod-lt (c + l) (omega arith) };
      of_public = record { row_low = mod-lt (r + c + l) (omega arith); col_low = k };
    }
factors_inside LeftJkls d r c l h k n =
    record {
      of_input = record { row_low = mod-lt (r + l) (omega arith); col_low = k };
      of_public = record { row_low = h; col_low = mod-lt (r + c + l) (omega arith) };
    }

-- ---- the terms at any period

abbrev pub map_at : ℕ → ℕ → ℕ → Product → ℕ → ℕ → List ℕ → List Diagonal
map_at m slots period p d count b = slot_map m slots period (join (output_terms p d count b) (tabulate period (λ t. t)))

own_terms : (p : Product) (d count : ℕ) (b : List ℕ) (t : ℕ) → Each (λ x. x.i ≡ t) (output_terms p d count b t)
own_terms p d count b t = each_tabulate (λ x. x.i ≡ t) d (sum_term p d count b t) (λ l k. refl)

module _ (m slots d count : ℕ) (b input : List ℕ) (v : d * d ∣ slots) (n : 1 ≤ count) (s : ℕ) (e : Entry) (h : InMatrix d e) (k : s < slots / (d * d)) where
  abbrev slot : ℕ
  slot = s * (d * d) + place d e

  -- output i of period q, where it is this slot and its summands are those of the formula
  by_output : (p : Product) (period i q : ℕ) → i < period → i + q * period ≡ slot
      → ((l : ℕ) → l < d → adds m slots period (output_terms p d count b) (own_terms p d count b) input i q (sum_term p d count b i l) ≡ summand m p d count b input s e l)
      → product m slots (map_at m slots period p d count b) input slot ≡ formula m p d count b input s e
  by_output p period i q l same each =
      ap (product m slots (map_at m slots period p d count b) input) (sym same)
      ∙ own_product m slots period (output_terms p d count b) (own_terms p d count b) input i q (omega (arith, slot_low d e h s slots v k)) l
      ∙ sum_table m d (sum_term p d count b i) (adds m slots period (output_terms p d count b) (own_terms p d count b) input i q)
      ∙ sum_same m d _ (summand m p d count b input s e) each

  -- an entry of matrix slot s
  reads_slot : (x : Entry) → InMatrix d x → (y : ℕ) → y ≡ s * (d * d) + place d x → slice_index input (y % slots) ≡ entry_at d input s x
  reads_slot x i y q = ap (λ (z : ℕ). slice_index input z) (ap (λ (z : ℕ). z % slots) q ∙ mod-eq_of_lt (slot_low d x i s slots v k))

  -- at period count·d²: matrix slot s is the (s mod count)-th of its period
  abbrev first : ℕ
  first = s % count * (d * d) + place d e

  turns : (y : ℕ) → s % count * (d * d) + y + s / count * (count * (d * d)) ≡ s * (d * d) + y
  turns y = omega (arith, mul_assoc (s / count) count (d * d), add-mul (s / count * count) (s % count) (d * d), ap (λ (z : ℕ). z * (d * d)) (div-add-mod' s count))

  first_low : first < count * (d * d)
  first_low = omega (arith, place_low d e h, suc-mul (s % count) (d * d), mul-le-mul_right {m = suc (s % count)} {n = count} (d * d) (mod-lt s (omega arith)))

  -- the l-th term of output x of matrix slot z of the period
  abbrev at_first : Product → ℕ → Entry → ℕ → ℕ
  at_first p l x z =
      let f = factors p d x.row x.col l in
      mulm m (public_at d count b z f.public) (slice_index input ((z * (d * d) + place d f.input + s / count * (count * (d * d))) % slots))

  whole : (p : Product) → product m slots (map_at m slots (count * (d * d)) p d count b) input slot ≡ formula m p d count b input s e
  whole p =
      by_output p (count * (d * d)) first (s / count) first_low (turns (place d e))
      (λ l low.
      ap (λ (x : Entry). at_first p l x (slot_of d first)) (entry_of_slot d e h (s % count))
      ∙ ap (at_first p l e) (slot_of_slot d e h (s % count))
      ∙ ap (mulm m (public_at d count b (s % count) (factors p d e.row e.col l).public))
      (reads_slot (factors p d e.row e.col l).input (factors_inside p d e.row e.col l h.row_low h.col_low low).of_input _ (turns (place d (factors p d e.row e.col l).input)))
      ∙ ap (λ (z : ℕ). mulm m (entry_at d b z (factors p d e.row e.col l).public) (entry_at d input s (factors p d e.row e.col l).input)) (mod-mod s count))

  -- the right product of one matrix at period d: this slot is output col of row s·d + row
  abbrev at_narrow : ℕ → Entry → ℕ → ℕ
  at_narrow l x z =
      let f = factors RightMul d x.row x.col l in
      mulm m (public_at d count b z f.public) (slice_index input ((z * (d * d) + place d f.input + (s * d + e.row) * d) % slots))

  output_is : entry_of d e.col ≡ record { row = 0; col = e.col }
  output_is =
      ap (λ (x : ℕ). let y : Entry = record { row = x % d; col = e.col % d } in y) (div-eq_of_lt h.col_low)
      ∙ ap (λ (x : ℕ). let y : Entry = record { row = x; col = e.col % d } in y) (zero-mod d)
      ∙ ap (λ (x : ℕ). let y : Entry = record { row = 0; col = x } in y) (mod-eq_of_lt h.col_low)

  narrow : count ≡ 1 → product m slots (map_at m slots d RightMul d count b) input slot ≡ formula m RightMul d count b input s e
  unfolding factors
  narrow one =
      by_output RightMul d e.col (s * d + e.row) h.col_low
      (add_comm e.col ((s * d + e.row) * d) ∙ sym (slot_rows d e h s))
      (λ l low.
      ap (λ (x : Entry). at_narrow l x (slot_of d e.col)) output_is
      ∙ ap (at_narrow l (record { row = 0; col = e.col })) (div-eq_of_lt (let y : e.col < d * d = omega (arith, place_low d e h) in y))
      ∙ ap (mulm m (public_at d count b 0 (record { row = l; col = e.col })))
      (reads_slot (record { row = e.row; col = l }) (record { row_low = h.row_low; col_low = low }) _
      (omega (arith, zero-mul (d * d), zero-mul d, slot_rows d (record { row = e.row; col = l }) (record { row_low = h.row_low; col_low = low }) s)))
      ∙ ap (λ (z : ℕ). mulm m (entry_at d b z (record { row = l; col = e.col })) (entry_at d input s (record { row = e.row; col = l })))
      (zero-mod count ∙ sym (ap (λ (z : ℕ). s % z) one ∙ mod-one s)))

  -- entry e of matrix slot s is the sum of the d products, modulo 2^64
  pub product_map_product : (p : Product) → product m slots (product_map m slots d count p b) input (s * (d * d) + place d e) ≡ formula m p d count b input s e
  unfolding product_map period_of
  product_map_product RightMul = by (count == 1) refl
    where
      by : (t : Bool) → (count == 1) ≡ t → product m slots (map_at m slots (cond t d (count * (d * d))) RightMul d count b) input slot ≡ formula m RightMul d count b input s e
      by true q = narrow (eqb-true count 1 q)
      by false q = whole RightMul
  product_map_product LeftMul = whole LeftMul
  product_map_product RightJkls = whole RightJkls
  product_map_product LeftJkls = whole LeftJkls

-- the same at each slot
pub product_map_at : (m slots d count : ℕ) (b input : List ℕ) → d * d ∣ slots → 1 ≤ count → 1 ≤ d → (t : ℕ) → t < slots → (p : Product) → product m slots (product_map m slots d count p b) input t ≡ formula m p d count b input (slot_of d t) (entry_of d t)
product_map_at m slots d count b input v n h t k p =
    ap (product m slots (product_map m slots d count p b) input) (sym (slot_is d t h))
    ∙ product_map_product m slots d count b input v n (slot_of d t) (entry_of d t) (entry_inside d t h) (slot_inside d t h slots v k) p

-- ---- the maps are well formed

module _ (slots d count : ℕ) (h : 1 ≤ d) (n : 1 ≤ count) (v : count * (d * d) ∣ slots) where
  pub square_divides : d * d ∣ slots
  square_divides = dvd_trans (d * d) (dvd-mul_left (d * d) count) v

  abbrev pub Fits : ℕ → Type 0
  Fits x = (1 ≤ x) × (x ∣ slots)

  fits_whole : Fits (count * (d * d))
  fits_whole = (one-le-mul n (one-le-mul h h), v)

  pub period_fits : (p : Product) → Fits (period_of p d count)
  unfolding period_of
  period_fits RightMul = by (count == 1)
    where
      by : (t : Bool) → Fits (cond t d (count * (d * d)))
      by true = (h, dvd_trans d (dvd-mul_left d d) square_divides)
      by false = fits_whole
  period_fits LeftMul = fits_whole
  period_fits RightJkls = fits_whole
  period_fits LeftJkls = fits_whole

  pub product_map_formed : (m : ℕ) (p : Product) (b : List ℕ) → FormedMap slots (product_map m slots d count p b)
  unfolding product_map
  product_map_formed m p b = slot_map_formed m slots (period_of p d count) (join (output_terms p d count b) (tabulate (period_of p d count) (λ t. t))) (period_fits p).0 (period_fits p).1

-- every diagonal is stored at the period
pub product_map_period : (m slots d count : ℕ) (p : Product) (b : List ℕ) → Each (λ x. length x.values ≡ period_of p d count) (product_map m slots d count p b)
unfolding product_map
product_map_period m slots d count p b = slot_map_period m slots (period_of p d count) (join (output_terms p d count b) (tabulate (period_of p d count) (λ t. t)))

-- ---- the terms stay in their period

module _ (d count : ℕ) (b : List ℕ) (h : 1 ≤ d) where
  abbrev Inside : Product → ℕ → Type 0
  Inside p period = Each (InPeriod period) (join (output_terms p d count b) (tabulate period (λ t. t)))

  by_summand : (p : Product) (period : ℕ) → ((t l : ℕ) → t < period → l < d → (sum_term p d count b t l).j < period) → Inside p period
  by_summand p period low =
      each_join (InPeriod period) (output_terms p d count b) (tabulate period (λ t. t))
      (each_tabulate (λ t. Each (InPeriod period) (output_terms p d count b t)) period (λ t. t)
      (λ t k. each_tabulate (InPeriod period) d (sum_term p d count b t) (λ l n. record { i_low = k; j_low = low t l k n })))

  whole_inside : (p : Product) → Inside p (count * (d * d))
  whole_inside p =
      by_summand p (count * (d * d))
      (λ t l k n.
      let f : Factors = factors p d (entry_of d t).row (entry_of d t).col l in
      omega (arith, place_low d f.input (factors_inside p d (entry_of d t).row (entry_of d t).col l (entry_inside d t h).row_low (entry_inside d t h).col_low n).of_input, suc-mul (slot_of d t) (d * d), mul-le-mul_right {m = suc (slot_of d t)} {n = count} (d * d) ((div-lt_iff_lt-mul {k = d * d} {x = t} {y = count} (one-le-mul h h)).1 k)))

  narrow_inside : Inside RightMul d
  unfolding factors
  narrow_inside =
      by_summand RightMul d
      (λ t l k n.
      let first : t / (d * d) ≡ 0 = div-eq_of_lt (omega (arith, mul-le-mul_right {m = 1} {n = d} d h, one-mul d)) in
      let row : t / d % d ≡ 0 = ap (λ (x : ℕ). x % d) (div-eq_of_lt k) ∙ zero-mod d in
      rw (first, row) (omega (arith, zero-mul (d * d), zero-mul d)))

  pub sums_inside : (p : Product) → Each (InPeriod (period_of p d count)) (join (output_terms p d count b) (tabulate (period_of p d count) (λ t. t)))
  unfolding period_of
  sums_inside RightMul = by (count == 1)
    where
      by : (t : Bool) → Inside RightMul (cond t d (count * (d * d)))
      by true = narrow_inside
      by false = whole_inside RightMul
  sums_inside LeftMul = whole_inside LeftMul
  sums_inside RightJkls = whole_inside RightJkls
  sums_inside LeftJkls = whole_inside LeftJkls
