-- Laws of the number of diagonals of each matrix map, and of the room that a builder needs.
-- Assumes nothing.
use Rattle.std.specs.Prelude.{◌≡◌, ℕ, zero, suc, ◌+◌, ◌-◌, ◌*◌, ◌/◌, ◌%◌, ◌<◌, ◌≤◌, Bool, true, false, cond, List, [], ◌∷◌, ◌++◌, length, ℤ, pos, ◌+ℤ◌, ◌==◌, ◌≢◌, nat_le, nat_lt, slice_index}
use Rattle.std.specs.Int.{◌∣◌}
use Rattle.std.proofs.Math.Path.{refl}
use Rattle.std.proofs.Common.{sym, ap, ◌∙◌, zero-add, arith}
use mathlib.Core.List.Memᴰ
use Rattle.std.proofs.Math.Logic.{⊎_elim}
use Rattle.std.proofs.Math.Nat.{le_of_dvd, one-le-mul, mul-le-mul_right, dvd_trans, dvd_refl, dvd-mul_left, dvd-mul_right_of_dvd, dvd-sub, dvd-add_iff_right}
use borrow.Author.Tests.{eqb-true, eqb-false, ltb-true, ltb-false, leb-true, leb-false}
use Rattle.std.proofs.Math.IntN.{+ℤ_comm, -ℤ-+ℤ_cancel}
use Rattle.std.proofs.lemmas.List.{length-map}
use Rattle.ring.specs.Lists.{Each}
use Rattle.ring.specs.Vectors.{tabulate}
use Rattle.ring.specs.Residues.{residue_of, named, diagonals_of}
use Rattle.ring.specs.Rotations.{rotated}
use Rattle.ring.specs.Laws.Lists.{each_tabulate}
use Rattle.ring.specs.Laws.Vectors.{length_tabulate}
use Rattle.ring.specs.Laws.Searches.{lt_or_ge}
use Rattle.ring.specs.Laws.Residues.{residue_turns, residue_apart, gap_pos, gap_more}
use Rattle.ring.specs.Laws.Indexes.{mem_tabulate, mem_named, same_diagonals, apart_tabulate, apart_count}
use Rattle.diagonals.specs.Maps.{Diagonal, offsets_of, pair_room}
use Rattle.diagonals.specs.Calls.{room_refusals, map_room}
use Rattle.diagonals.specs.Laws.Pairs.{length_pair_words}
use Rattle.diagonals.specs.Laws.Writing.{length_value_words}
use Rattle.maps.specs.declared.rules.Rule.{Rule}
use Rattle.maps.specs.declared.rules.Rule.TheVariants.{Sigma, Tau, Transpose, RotateRows, RotateCols, RowsUpper, RowsLower, ColsLeft, ColsRight, RowsLeft, RowsRight}
use Rattle.maps.specs.declared.rules.Product.{Product}
use Rattle.maps.specs.declared.rules.Product.TheVariants.{RightMul, LeftMul, RightJkls, LeftJkls}
use Rattle.maps.specs.Entries.{public_at}
use Rattle.maps.specs.Readings.{whole_map, rule_map, made_shift, tau_rep, rotate_rows_rep}
use Rattle.maps.specs.Sums.{period_of, product_map, left_mul_rep}
use Rattle.maps.specs.Values.{slot_product, first_row, first_col}
use Rattle.maps.specs.Offsets.{Sized, forward, around, kept, wrapped, turned, rule_indexes, product_indexes, full, kept_count, wrapped_count, rows_count, turned_count, rule_count, product_count}
use Rattle.maps.specs.Laws.Readings.{whole_map_period}
use Rattle.maps.specs.Laws.Sums.{square_divides, product_map_period}
use Rattle.maps.specs.Laws.Offsets.{gap, around_has, around_each, whole_map_offsets, rule_map_offsets, product_map_offsets, forward_diagonals}

-- ---- steps by one, by rows, and across

-- multiples that are apart: no n·step, 0 < n < 2d - 1, is a multiple of slots
around_apart : (slots d step : ℕ) → 0 < slots → ((n : ℕ) → 1 ≤ n → n < 2 * d - 1 → slots ∣ n * step → ⊥) → length (diagonals_of slots (around d step)) ≡ 2 * d - 1
unfolding around
around_apart slots d step p wide =
    let f : ℕ → ℤ = λ j. gap step j (d - 1) in
    apart_count slots p (tabulate (2 * d - 1) f)
    (apart_tabulate slots (2 * d - 1) f
    (λ i j l m e.
    let n : ℕ = j - i in
    let q : n + i ≡ j = omega arith in
    let more : f j ≡ pos (n * step) +ℤ f i = gap_more (j * step) ((d - 1) * step) (i * step) ((d - 1) * step) (n * step) (omega (arith, ap (λ (x : ℕ). x * step) q)) in
    wide n (omega arith) (omega arith) (residue_apart (f i) (n * step) slots p (ap (λ (z : ℤ). residue_of z slots) (sym more) ∙ sym e))))
    ∙ length_tabulate (2 * d - 1) f

-- there are no more of them than slots of a matrix
square_wide : (d : ℕ) → 2 * d - 1 ≤ d * d
square_wide zero = omega arith
square_wide (suc e) = omega arith

module _ (slots d : ℕ) (h : 1 ≤ d) (v : d * d ∣ slots) (p : 0 < slots) where
  square_low : d * d ≤ slots
  square_low = le_of_dvd p v

  -- slots of more than one matrix
  not_full : full slots d ≡ false → 2 * (d * d) ≤ slots
  not_full e =
      let l : d * d < slots = omega (arith, square_low, eqb-false slots (d * d) e) in
      omega (arith, le_of_dvd {n = slots - d * d} (omega arith) (dvd-sub (d * d) v (dvd_refl (d * d))))

  -- by one
  steps_count : length (diagonals_of slots (around d 1)) ≡ 2 * d - 1
  steps_count = around_apart slots d 1 p (λ n i l w. omega (arith, le_of_dvd {m = slots} {n = n * 1} (omega arith) w, square_low, square_wide d))

  -- where one matrix fills the slots, the rows back are rows further on
  pub around_full : slots ≡ d * d → diagonals_of slots (around d d) ≡ diagonals_of slots (forward d d)
  unfolding forward
  around_full e =
      same_diagonals slots (around d d) (forward d d)
      (around_each d d (λ z. named slots (forward d d) (residue_of z slots) ≡ true) (λ a b i k. ⊎_elim (λ (l : a < b). back a b k l) (λ (l : b ≤ a). on a b i l) (lt_or_ge a b)))
      (each_tabulate (λ z. named slots (around d d) (residue_of z slots) ≡ true) d (λ j. pos (j * d)) (λ j l. mem_named slots (Memᴰ.cast (sym (gap_pos (j * d) (0 * d) (j * d) (omega arith))) (around_has d d j 0 l h))))
    where
      there : (j : ℕ) → j < d → named slots (forward d d) (residue_of (pos (j * d)) slots) ≡ true
      there j l = mem_named slots (mem_tabulate d (λ j. pos (j * d)) j l)

      on : (a b : ℕ) → a < d → b ≤ a → named slots (forward d d) (residue_of (gap d a b) slots) ≡ true
      on a b i l =
          let q : a - b + b ≡ a = omega arith in
          rw (gap_pos (a * d) (b * d) ((a - b) * d) (omega (arith, ap (λ (x : ℕ). x * d) q))) (there (a - b) (omega arith))

      back : (a b : ℕ) → b < d → a < b → named slots (forward d d) (residue_of (gap d a b) slots) ≡ true
      back a b k l =
          let j : ℕ = a + (d - b) in
          let q : j + b ≡ a + d = omega arith in
          let turn : pos (d * d) +ℤ (gap d a b) ≡ pos (j * d) = sym (gap_more (j * d) 0 (a * d) (b * d) (d * d) (omega (arith, ap (λ (x : ℕ). x * d) q))) ∙ gap_pos (j * d) 0 (j * d) (omega arith) in
          rw (← (residue_turns (gap d a b) (d * d) slots p (rw e (dvd_refl (d * d)))), turn) (there j (omega arith))

  -- by rows
  rows_count_lem : length (diagonals_of slots (around d d)) ≡ rows_count slots d
  rows_count_lem = by (full slots d) refl
    where
      by : (t : Bool) → full slots d ≡ t → length (diagonals_of slots (around d d)) ≡ cond t d (2 * d - 1)
      by true e = ap length (around_full (eqb-true slots (d * d) e) ∙ forward_diagonals slots d p square_low) ∙ length_tabulate d (λ j. j * d)
      by false e =
          around_apart slots d d p
          (λ n i l w. omega (arith, le_of_dvd {m = slots} {n = n * d} (one-le-mul i h) w, not_full e, mul-le-mul_right {m = n + 2} {n = 2 * d} d (omega arith)))

  -- across: d - 1 and d have no divisor in common
  across_count : length (diagonals_of slots (around d (d - 1))) ≡ 2 * d - 1
  across_count =
      around_apart slots d (d - 1) p
      (λ n i l w.
      let q : d * d ∣ n = (dvd-add_iff_right (d * d) (dvd-mul_right_of_dvd (d * d) (dvd_trans (d * d) v w) (d + 1))).1 (rw (squared n) (dvd-mul_left (d * d) n)) in
      omega (arith, le_of_dvd i q, square_wide d))
    where
      squared : (n : ℕ) → n * (d - 1) * (d + 1) + n ≡ n * (d * d)
      squared n =
          let e : d - 1 + 1 ≡ d = omega arith in
          omega (arith, ap (λ (x : ℕ). n * (x * x)) e, ap (λ (x : ℕ). n * (d - 1) * x) e)

-- ---- shifts

module _ (slots : ℕ) (p : 0 < slots) where
  -- of indexes that a test lets pass, and of one
  tests_count : (t : Bool) (zs : List ℤ) (n : ℕ) → length (diagonals_of slots zs) ≡ n → length (diagonals_of slots (cond t zs [])) ≡ cond t n 0
  tests_count true zs n e = e
  tests_count false zs n e = apart_count slots p [] tt

  test_count : (t : Bool) (z : ℤ) → length (diagonals_of slots (cond t (z ∷ []) [])) ≡ cond t 1 0
  test_count t z = tests_count t (z ∷ []) 1 (apart_count slots p (z ∷ []) (tt, tt))

  -- of two, each with its test: they are apart
  two_count : (t u : Bool) (x y : ℤ) → (t ≡ true → u ≡ true → residue_of x slots ≢ residue_of y slots) → length (diagonals_of slots (cond t (x ∷ []) [] ++ cond u (y ∷ []) [])) ≡ cond t 1 0 + cond u 1 0
  two_count true true x y h = apart_count slots p (x ∷ y ∷ []) ((h refl refl, tt), (tt, tt))
  two_count true false x y h = test_count true x
  two_count false u x y h = test_count u y ∙ sym (zero-add (cond u 1 0))

  -- or the same
  one_count : (t u : Bool) (x y : ℤ) → (t ≡ false → u ≢ false) → residue_of x slots ≡ residue_of y slots → length (diagonals_of slots (cond t (x ∷ []) [] ++ cond u (y ∷ []) [])) ≡ 1
  one_count true true x y h e =
      ap length (same_diagonals slots (x ∷ y ∷ []) (x ∷ []) (here, (rw (← e) here, tt)) (mem_named slots {zs = x ∷ y ∷ []} (Memᴰ.head refl), tt)) ∙ test_count true x
    where
      here : named slots (x ∷ []) (residue_of x slots) ≡ true
      here = mem_named slots (Memᴰ.head refl)
  one_count true false x y h e = test_count true x
  one_count false true x y h e = test_count true y
  one_count false false x y h e = absurd (h refl refl)

module _ (slots d : ℕ) (h : 1 ≤ d) (v : d * d ∣ slots) (p : 0 < slots) (k : ℕ) where
  -- k·step is d steps further on than (k - d)·step
  round : (step : ℕ) → pos (d * step) +ℤ (gap step k d) ≡ pos (k * step)
  round step = +ℤ_comm (pos (d * step)) (gap step k d) ∙ -ℤ-+ℤ_cancel (pos (k * step)) (pos (d * step))

  shift_apart : (step : ℕ) → residue_of (pos (k * step)) slots ≡ residue_of (gap step k d) slots → slots ∣ d * step
  shift_apart step e = residue_apart (gap step k d) (d * step) slots p (rw (round step) e)

  -- of columns, and of rows
  columns_count : length (diagonals_of slots (turned d 1 k)) ≡ kept_count d k + wrapped_count k
  unfolding turned kept wrapped
  columns_count =
      two_count slots p (nat_lt k d) (nat_le 1 k) (pos (k * 1)) (gap 1 k d)
      (λ t u e. omega (arith, le_of_dvd {m = slots} {n = d * 1} (omega arith) (shift_apart 1 e), square_low slots d h v p, ltb-true k d t, leb-true 1 k u, mul-le-mul_right {m = 2} {n = d} d (omega (arith, ltb-true k d t, leb-true 1 k u))))

  turned_count_lem : k ≤ d → length (diagonals_of slots (turned d d k)) ≡ turned_count slots d k
  unfolding turned kept wrapped
  turned_count_lem l = by (full slots d) refl
    where
      by : (t : Bool) → full slots d ≡ t → length (diagonals_of slots (turned d d k)) ≡ cond t 1 (kept_count d k + wrapped_count k)
      by true e =
          one_count slots p (nat_lt k d) (nat_le 1 k) (pos (k * d)) (gap d k d)
          (λ t u. omega (arith, ltb-false k d t, leb-false 1 k u))
          (sym (ap (λ (z : ℤ). residue_of z slots) (round d)) ∙ residue_turns (gap d k d) (d * d) slots p (rw (eqb-true slots (d * d) e) (dvd_refl (d * d))))
      by false e =
          two_count slots p (nat_lt k d) (nat_le 1 k) (pos (k * d)) (gap d k d)
          (λ t u q. omega (arith, le_of_dvd (one-le-mul h h) (shift_apart d q), not_full slots d h v p e, one-le-mul h h))

-- ---- the size of a map

-- by the number and the length of its diagonals
sized : (ds : List Diagonal) {n : ℕ} (m : ℕ) → length ds ≡ n → Each (λ x. length x.values ≡ m) ds → Sized ds n m
sized ds m e f = record { count = e; pairs = length_pair_words ds ∙ ap pair_room e; values = length_value_words m ds f ∙ ap (λ (x : ℕ). x * m) e }

-- the room that it takes: that of n pairs, and n·m values
pub sized_room : {ds : List Diagonal} {n m : ℕ} → Sized ds n m → (pairs values : List ℕ) → map_room ds pairs values ≡ room_refusals n (n * m) (length pairs) (length values)
sized_room {ds} s pairs values = rw (s.count, s.values)

-- as many as its offsets
by_offsets : (ds : List Diagonal) {ks : List ℕ} {n : ℕ} → offsets_of ds ≡ ks → length ks ≡ n → length ds ≡ n
by_offsets ds e f = sym (length-map ds (λ (x : Diagonal). x.offset)) ∙ ap length e ∙ f

module _ (m slots d : ℕ) (h : 1 ≤ d) (v : d * d ∣ slots) (p : 0 < slots) where
  -- as many as the formula's indexes name
  rule_count_lem : (rule : Rule) → made_shift rule d ≤ d → length (diagonals_of slots (rule_indexes rule d)) ≡ rule_count slots d rule
  unfolding rule_indexes rule_count kept wrapped
  rule_count_lem Sigma l = steps_count slots d h v p
  rule_count_lem Tau l = rows_count_lem slots d h v p
  rule_count_lem Transpose l = across_count slots d h v p
  rule_count_lem (RotateRows k) l = turned_count_lem slots d h v p (k % d) l
  rule_count_lem (RotateCols k) l = columns_count slots d h v p (k % d)
  rule_count_lem (RowsUpper k) l = test_count slots p (nat_lt k d) (pos (k * d))
  rule_count_lem (RowsLower k) l = test_count slots p (nat_le 1 k) (gap d k d)
  rule_count_lem (ColsLeft k) l = test_count slots p (nat_lt k d) (pos (k * 1))
  rule_count_lem (ColsRight k) l = test_count slots p (nat_le 1 k) (gap 1 k d)
  rule_count_lem (RowsLeft k) l = tests_count slots p (nat_lt k d) (turned d d k) (turned_count slots d k) (turned_count_lem slots d h v p k l)
  rule_count_lem (RowsRight k) l = tests_count slots p (nat_le 1 k) (turned d d k) (turned_count slots d k) (turned_count_lem slots d h v p k l)

  module _ (rule : Rule) (l : made_shift rule d ≤ d) where
    -- before it shrinks, as its builder needs room for it
    pub whole_map_size : Sized (whole_map m slots d rule) (rule_count slots d rule) (d * d)
    whole_map_size = sized (whole_map m slots d rule) (d * d) (by_offsets (whole_map m slots d rule) (whole_map_offsets m slots d rule h l) (rule_count_lem rule l)) (whole_map_period m slots d rule h v)

    -- and afterwards
    pub rule_map_count : length (rule_map m slots d rule) ≡ rule_count slots d rule
    rule_map_count = by_offsets (rule_map m slots d rule) (rule_map_offsets m slots d rule h l) (rule_count_lem rule l)

module _ (m slots d count : ℕ) (h : 1 ≤ d) (n : 1 ≤ count) (v : count * (d * d) ∣ slots) (k : 0 < slots) where
  product_count_lem : (p : Product) → length (diagonals_of slots (product_indexes p d)) ≡ product_count slots d p
  unfolding product_indexes product_count
  product_count_lem RightMul = steps_count slots d h (square_divides slots d count h n v) k
  product_count_lem LeftMul = rows_count_lem slots d h (square_divides slots d count h n v) k
  product_count_lem RightJkls = steps_count slots d h (square_divides slots d count h n v) k
  product_count_lem LeftJkls = rows_count_lem slots d h (square_divides slots d count h n v) k

  -- a product, whatever the public matrices are
  pub product_map_size : (p : Product) (b : List ℕ) → Sized (product_map m slots d count p b) (product_count slots d p) (period_of p d count)
  product_map_size p b =
      sized (product_map m slots d count p b) (period_of p d count)
      (by_offsets (product_map m slots d count p b) (product_map_offsets m slots d count h n p b) (product_count_lem p))
      (product_map_period m slots d count p b)

-- ---- the maps on replicated inputs, products by slot vectors and projections

-- n diagonals of m values, and one
tables_size : (n m : ℕ) (f : ℕ → ℕ) (g : ℕ → ℕ → ℕ) → Sized (tabulate n (λ j. record { offset = f j; values = tabulate m (g j) })) n m
tables_size n m f g = sized _ m (length_tabulate n _) (each_tabulate (λ x. length x.values ≡ m) n _ (λ j l. length_tabulate m (g j)))

table_size : (m o : ℕ) (g : ℕ → ℕ) → Sized (record { offset = o; values = tabulate m g } ∷ []) 1 m
table_size m o g = sized _ m refl (length_tabulate m g, tt)

module _ (d : ℕ) where
  pub tau_rep_size : Sized (tau_rep d) d d
  unfolding tau_rep
  tau_rep_size = tables_size d d (λ c. c * d) (λ c x. cond (x == c) 1 0)

  pub left_mul_rep_size : (b : List ℕ) → Sized (left_mul_rep d b) d (d * d)
  unfolding left_mul_rep
  left_mul_rep_size b = tables_size d (d * d) (λ j. j * d) (λ j t. public_at d 1 b 0 (record { row = t / d; col = (t / d + j) % d }))

  pub rotate_rows_rep_size : (slots k : ℕ) → Sized (rotate_rows_rep slots d k) 1 1
  unfolding rotate_rows_rep
  rotate_rows_rep_size slots k = table_size 1 (k * d % slots) (λ t. 1)

  pub first_row_size : Sized (first_row d) 1 (d * d)
  unfolding first_row
  first_row_size = table_size (d * d) 0 (λ t. cond (nat_lt t d) 1 0)

  pub first_col_size : Sized (first_col d) 1 d
  unfolding first_col
  first_col_size = table_size d 0 (λ t. cond (t == 0) 1 0)

pub slot_product_size : (values : List ℕ) (rotation : ℤ) → Sized (slot_product values rotation) 1 (length values)
unfolding slot_product rotated
slot_product_size values rotation = table_size (length values) 0 (λ j. slice_index values (residue_of (pos j +ℤ rotation) (length values)))
