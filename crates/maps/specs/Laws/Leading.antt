-- Laws of what a builder has written: the next call accepts it and reads the map, so that its product is the map's formula.
-- Assumes nothing.
use Rattle.std.specs.Prelude.{◌≡◌, ℕ, ◌+◌, ◌-◌, ◌*◌, ◌^◌, ◌<◌, ◌≤◌, false, List, ◌++◌, length, take, drop, ℤ, Option, None, Result, Ok}
use Rattle.std.proofs.Common.{sym, ap, ◌∙◌, arith, ltb-false, length-append}
use mathlib.Core.List.{append_assoc}
use Rattle.std.proofs.lemmas.List.{length-map}
use Rattle.ring.specs.declared.refusal.Refusal.{Refusal}
use Rattle.ring.specs.declared.refusal.Refusal.TheVariants.{Slots, Period, Matrices, Shift}
use Rattle.ring.specs.Slots.{modulus}
use Rattle.ring.specs.Lists.{sum_by}
use Rattle.ring.specs.Vectors.{in_front}
use Rattle.ring.specs.Refusals.{pick, outside, no_period}
use Rattle.ring.specs.Laws.Refusals.{on_accept_accepted, pick_none, inside}
use Rattle.ring.specs.Laws.Answers.{answered_accepted}
use Rattle.diagonals.specs.Maps.{Diagonal, pair_words, value_words, view, FormedMap}
use Rattle.diagonals.specs.Products.{product}
use Rattle.diagonals.specs.SlotMaps.{terms_of, slot_sum}
use Rattle.diagonals.specs.Shrinking.{common_period, at_period, shrunk}
use Rattle.diagonals.specs.Calls.{MapWritten, Holds}
use Rattle.diagonals.specs.Laws.Pairs.{length_pair_words}
use Rattle.diagonals.specs.Laws.Words.{view_words, start_words, view_formed, means_formed}
use Rattle.diagonals.specs.Laws.Reading.{period_formed}
use Rattle.diagonals.specs.Laws.SlotMaps.{slot_map_formed, slot_map_product}
use Rattle.diagonals.specs.Laws.Shrinking.{shrunk_formed, shrunk_product}
use Rattle.maps.specs.declared.rules.Rule.{Rule}
use Rattle.maps.specs.declared.rules.Product.{Product}
use Rattle.maps.specs.Entries.{entry_of, slot_of, entry_at}
use Rattle.maps.specs.Readings.{reads, whole_map, rule_map, shift_of, shift_limit, made_shift, tau_rep, rotate_rows_rep}
use Rattle.maps.specs.Sums.{product_map, formula, left_mul_rep}
use Rattle.maps.specs.Values.{slot_product, first_row, first_col}
use Rattle.maps.specs.Offsets.{rule_count, product_count}
use Rattle.maps.specs.Calls.{no_tiles, ShrunkWritten, rule_refusal, RuleWritten, matrix_terms_map, per_matrix_refusal, product_refusal, left_mul_rep_refusal, tiled_refusal, rows_rep_refusal, slot_product_refusal, TiledWritten, RowsRepWritten, LeftMulRepWritten, SlotProductWritten, ProductWritten, PerMatrixWritten}
use Rattle.maps.specs.Steps.Tiles.{Tiles}
use Rattle.maps.specs.Laws.Tiling.{side_pos, square_pos, not_refused}
use Rattle.maps.specs.Laws.Readings.{made_low, whole_map_formed, rule_map_at}
use Rattle.maps.specs.Laws.Sums.{square_divides, product_map_formed, product_map_at}
use Rattle.maps.specs.Laws.Replicated.{tau_rep_formed, left_mul_rep_formed, rotate_rows_rep_formed}
use Rattle.maps.specs.Laws.Values.{first_row_formed, first_col_formed, slot_product_formed}
use Rattle.maps.specs.Laws.SharedTerms.{period_divides}
use Rattle.maps.specs.Laws.Counts.{whole_map_size, product_map_size, tau_rep_size, left_mul_rep_size, rotate_rows_rep_size, first_row_size, first_col_size, slot_product_size}

-- ---- buffers that hold a map

module _ {slots : ℕ} (range : outside slots ≡ false) where
  -- the words of a map in front, whatever stands behind them
  front_holds : {ds : List Diagonal} {pairs values : List ℕ} (p v : List ℕ) → FormedMap slots ds → pairs ≡ pair_words ds ++ p → values ≡ value_words ds ++ v → Holds slots ds (length ds) pairs values
  front_holds {ds} p v f ep ev =
      let formed = view_formed slots (length ds) (pair_words ds ++ p) (value_words ds ++ v)
      (omega (arith, length-append (pair_words ds) p, length_pair_words ds))
      (omega (arith, length-append (value_words ds) v, start_words p ds))
      (rw (view_words p v ds) f) in
      rw (ep, ev) (record { view_is = view_words p v ds; accepted = rw (range, means_formed slots (length ds) (pair_words ds ++ p) (value_words ds ++ v) formed) })

  module _ {e : Option Refusal} {p₀ p₁ v₀ v₁ : List ℕ} {r : Result ℕ Refusal} where
    -- after a call that was not refused
    pub written_holds : {ds : List Diagonal} → FormedMap slots ds → MapWritten e ds p₀ p₁ v₀ v₁ r → e ≡ None → Holds slots ds (length ds) p₁ v₁
    unfolding in_front
    written_holds {ds} f m z = front_holds (drop (length (pair_words ds)) p₀) (drop (length (value_words ds)) v₀) f (m.pairs ∙ on_accept_accepted e _ _ z) (m.values ∙ on_accept_accepted e _ _ z)

    -- and one that built a map and shrank it in its place
    pub shrunk_holds : {whole : List Diagonal} → FormedMap slots whole → ShrunkWritten e whole p₀ p₁ v₀ v₁ r → e ≡ None → Holds slots (shrunk whole) (length whole) p₁ v₁
    unfolding in_front shrunk
    shrunk_holds {whole} f m z =
        let ps : List ℕ = pair_words (shrunk whole) in
        let vs : List ℕ = value_words (shrunk whole) in
        let free : List ℕ = take (length (value_words whole) - length vs) (drop (length vs) v₁) in
        rw (length-map whole (at_period (common_period whole))) at
        (front_holds (drop (length ps) p₀) (free ++ drop (length (vs ++ free)) v₀) (shrunk_formed slots whole f) (m.pairs ∙ on_accept_accepted e _ _ z) (m.values ∙ on_accept_accepted e _ _ z ∙ append_assoc vs free (drop (length (vs ++ free)) v₀)))

-- ---- calls whose refusals begin with those of the tiling

-- the refusal is x where it is not one of these
module _ (slots l count : ℕ) (x : Option Refusal) (z : pick (outside slots) Slots (pick (no_tiles slots l count) Matrices x) ≡ None) where
  in_range_lem : (outside slots ≡ false) × (pick (no_tiles slots l count) Matrices x ≡ None)
  in_range_lem = pick_none (outside slots) Slots _ z

  tiled : (no_tiles slots l count ≡ false) × (x ≡ None)
  tiled = pick_none (no_tiles slots l count) Matrices x in_range_lem.1

  tiles_of : Tiles slots l count
  tiles_of = not_refused in_range_lem.0 tiled.0

  -- after such a call
  tiled_holds : {e : Option Refusal} {n : ℕ} {ds : List Diagonal} {p₀ p₁ v₀ v₁ : List ℕ} {r : Result ℕ Refusal} → (Tiles slots l count → FormedMap slots ds) → length ds ≡ n → MapWritten e ds p₀ p₁ v₀ v₁ r → e ≡ None → Holds slots ds n p₁ v₁
  tiled_holds f q m w = rw q at (written_holds in_range_lem.0 (f tiles_of) m w)

-- ---- the maps that read one entry or none

module _ (slots l : ℕ) (rule : Rule) {p₀ p₁ v₀ v₁ : List ℕ} {r : Result ℕ Refusal} (m : RuleWritten slots l rule p₀ p₁ v₀ v₁ r) (z : rule_refusal slots l rule p₀ v₀ ≡ None) where
  tiles : Tiles slots l 1
  tiles = tiles_of slots l 1 _ z

  shift_low : made_shift rule (2 ^ l) ≤ 2 ^ l
  shift_low = made_low rule (2 ^ l) (side_pos l) (ltb-false (shift_limit rule (2 ^ l)) (shift_of rule) (pick_none _ Shift _ (tiled slots l 1 _ z).1).0)

  size : length (whole_map modulus slots (2 ^ l) rule) ≡ rule_count slots (2 ^ l) rule
  size = (whole_map_size modulus slots (2 ^ l) (side_pos l) (period_divides tiles) tiles.low rule shift_low).count

  -- the answer is the number of diagonals
  pub rule_answer : r ≡ Ok (rule_count slots (2 ^ l) rule)
  rule_answer = m.answer ∙ sym (answered_accepted _ _ z) ∙ ap Ok size

  -- the buffers hold the map
  pub rule_holds : Holds slots (rule_map modulus slots (2 ^ l) rule) (rule_count slots (2 ^ l) rule) p₁ v₁
  unfolding rule_map
  rule_holds = rw size at (shrunk_holds (in_range_lem slots l 1 _ z).0 (whole_map_formed modulus slots (2 ^ l) rule (side_pos l) (period_divides tiles)) m z)

  -- and its product, at each slot, is the entry that the formula reads
  pub rule_leads : (input : List ℕ) (t : ℕ) → t < slots → product modulus slots (view (rule_count slots (2 ^ l) rule) p₁ v₁) input t ≡ sum_by modulus (entry_at (2 ^ l) input (slot_of (2 ^ l) t)) (reads rule (2 ^ l) (entry_of (2 ^ l) t).row (entry_of (2 ^ l) t).col)
  rule_leads input t k = rw rule_holds.view_is (rule_map_at modulus slots (2 ^ l) rule shift_low (period_divides tiles) input (side_pos l) t k)

-- ---- the maps of terms that every matrix slot shares

module _ (slots l : ℕ) (is js ws : List ℕ) {p₀ p₁ v₀ v₁ : List ℕ} {r : Result ℕ Refusal} (m : PerMatrixWritten slots l is js ws p₀ p₁ v₀ v₁ r) (z : per_matrix_refusal slots l is js ws p₀ v₀ ≡ None) where
  terms_formed : FormedMap slots (matrix_terms_map slots l is js ws)
  terms_formed = slot_map_formed modulus slots (2 ^ l * 2 ^ l) (terms_of is js ws) (square_pos l) (period_divides (tiles_of slots l 1 _ z))

  -- the answer is the number of diagonals
  pub terms_answer : r ≡ Ok (length (matrix_terms_map slots l is js ws))
  terms_answer = m.answer ∙ sym (answered_accepted _ _ z)

  -- the buffers hold the shrunk map
  pub terms_hold : Holds slots (shrunk (matrix_terms_map slots l is js ws)) (length (matrix_terms_map slots l is js ws)) p₁ v₁
  terms_hold = shrunk_holds (in_range_lem slots l 1 _ z).0 terms_formed m z

  -- and its product at output i of matrix slot q is the sum over the terms of i
  pub terms_lead : (input : List ℕ) (i q : ℕ) → i < 2 ^ l * 2 ^ l → i + q * (2 ^ l * 2 ^ l) < slots → product modulus slots (view (length (matrix_terms_map slots l is js ws)) p₁ v₁) input (i + q * (2 ^ l * 2 ^ l)) ≡ slot_sum modulus slots (2 ^ l * 2 ^ l) (terms_of is js ws) input i q
  terms_lead input i q h k =
      rw terms_hold.view_is
      (shrunk_product slots (matrix_terms_map slots l is js ws) terms_formed modulus input (i + q * (2 ^ l * 2 ^ l)) k
      ∙ slot_map_product modulus slots (2 ^ l * 2 ^ l) (terms_of is js ws) input i q (omega arith) h)

-- ---- the products by public matrices

module _ (slots l count : ℕ) (p : Product) (b : List ℕ) {p₀ p₁ v₀ v₁ : List ℕ} {r : Result ℕ Refusal} (m : ProductWritten slots l count p b p₀ p₁ v₀ v₁ r) (z : product_refusal slots l count p b p₀ v₀ ≡ None) where
  sums_tiles : Tiles slots l count
  sums_tiles = tiles_of slots l count _ z

  sums_size : length (product_map modulus slots (2 ^ l) count p b) ≡ product_count slots (2 ^ l) p
  sums_size = (product_map_size modulus slots (2 ^ l) count (side_pos l) sums_tiles.some sums_tiles.divides sums_tiles.low p b).count

  -- the answer is the number of diagonals
  pub product_answer : r ≡ Ok (product_count slots (2 ^ l) p)
  product_answer = m.answer ∙ sym (answered_accepted _ _ z) ∙ ap Ok sums_size

  -- the buffers hold the map
  pub product_holds : Holds slots (product_map modulus slots (2 ^ l) count p b) (product_count slots (2 ^ l) p) p₁ v₁
  product_holds = tiled_holds slots l count _ z (λ t. product_map_formed slots (2 ^ l) count (side_pos l) t.some t.divides modulus p b) sums_size m z

  -- and its product, at each slot, is the sum of the formula
  pub product_leads : (input : List ℕ) (t : ℕ) → t < slots → product modulus slots (view (product_count slots (2 ^ l) p) p₁ v₁) input t ≡ formula modulus p (2 ^ l) count b input (slot_of (2 ^ l) t) (entry_of (2 ^ l) t)
  product_leads input t k =
      rw product_holds.view_is
      (product_map_at modulus slots (2 ^ l) count b input (square_divides slots (2 ^ l) count (side_pos l) sums_tiles.some sums_tiles.divides) sums_tiles.some (side_pos l) t k p)

-- ---- the maps on replicated inputs, and the projections: the buffers hold them

module _ (slots l : ℕ) {p₀ p₁ v₀ v₁ : List ℕ} {r : Result ℕ Refusal} where
  pub tau_rep_holds : TiledWritten slots l (tau_rep (2 ^ l)) p₀ p₁ v₀ v₁ r → tiled_refusal slots l (tau_rep (2 ^ l)) p₀ v₀ ≡ None → Holds slots (tau_rep (2 ^ l)) (2 ^ l) p₁ v₁
  tau_rep_holds m z = tiled_holds slots l 1 _ z (λ t. tau_rep_formed slots (2 ^ l) (period_divides t) (side_pos l) t.low) (tau_rep_size (2 ^ l)).count m z

  pub first_row_holds : TiledWritten slots l (first_row (2 ^ l)) p₀ p₁ v₀ v₁ r → tiled_refusal slots l (first_row (2 ^ l)) p₀ v₀ ≡ None → Holds slots (first_row (2 ^ l)) 1 p₁ v₁
  first_row_holds m z = tiled_holds slots l 1 _ z (λ t. first_row_formed slots (2 ^ l) (period_divides t) (side_pos l) t.low) (first_row_size (2 ^ l)).count m z

  pub first_col_holds : TiledWritten slots l (first_col (2 ^ l)) p₀ p₁ v₀ v₁ r → tiled_refusal slots l (first_col (2 ^ l)) p₀ v₀ ≡ None → Holds slots (first_col (2 ^ l)) 1 p₁ v₁
  first_col_holds m z = tiled_holds slots l 1 _ z (λ t. first_col_formed slots (2 ^ l) (period_divides t) (side_pos l) t.low) (first_col_size (2 ^ l)).count m z

  pub rotate_rows_rep_holds : (k : ℕ) → RowsRepWritten slots l k p₀ p₁ v₀ v₁ r → rows_rep_refusal slots l k p₀ v₀ ≡ None → Holds slots (rotate_rows_rep slots (2 ^ l) k) 1 p₁ v₁
  rotate_rows_rep_holds k m z = tiled_holds slots l 1 _ z (λ t. rotate_rows_rep_formed slots (2 ^ l) (period_divides t) (side_pos l) t.low k) (rotate_rows_rep_size (2 ^ l) slots k).count m z

  pub left_mul_rep_holds : (b : List ℕ) → LeftMulRepWritten slots l b p₀ p₁ v₀ v₁ r → left_mul_rep_refusal slots l b p₀ v₀ ≡ None → Holds slots (left_mul_rep (2 ^ l) b) (2 ^ l) p₁ v₁
  left_mul_rep_holds b m z = tiled_holds slots l 1 _ z (λ t. left_mul_rep_formed slots (2 ^ l) (period_divides t) (side_pos l) t.low b) (left_mul_rep_size (2 ^ l) b).count m z

-- and the products by slot vectors
pub slot_product_holds : (slots : ℕ) (values : List ℕ) (rotation : ℤ) {p₀ p₁ v₀ v₁ : List ℕ} {r : Result ℕ Refusal} → SlotProductWritten slots values rotation p₀ p₁ v₀ v₁ r → slot_product_refusal slots values rotation p₀ v₀ ≡ None → Holds slots (slot_product values rotation) 1 p₁ v₁
slot_product_holds slots values rotation m z =
    let o = pick_none (outside slots) Slots _ z in
    let low : 1 ≤ slots = (inside slots o.0).0 in
    let f = period_formed slots 0 values low (pick_none (no_period slots (length values)) Period _ o.1).0 in
    rw (slot_product_size values rotation).count at (written_holds o.0 (slot_product_formed slots values rotation low f.some f.divides) m z)
