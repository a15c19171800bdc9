-- Laws of the maps on replicated inputs: where the input repeats every d² slots they have the products of `tau`, `rotate_rows`
-- and `left_mul`.
-- Assumes nothing.
use Rattle.std.specs.Prelude.{◌≡◌, ℕ, ◌+◌, ◌*◌, ◌/◌, ◌%◌, ◌<◌, ◌≤◌, Bool, true, false, cond, List, [], ◌∷◌, ◌==◌, slice_index, refl}
use Rattle.std.specs.Int.{◌∣◌}
use Rattle.std.proofs.Math.Path.{sym, ap}
use Rattle.std.proofs.Common.{subst, ◌∙◌, add-mul, mul_assoc, div-add-mod', add-zero, mul-lt-mul_of_pos_right, arith, eqb-true}
use Rattle.std.proofs.Math.Nat.{mod-lt, mod-mod_of_dvd, mod-one, add-mod-mod, mul-add-div_right, div-eq_of_lt, one-le-mul, le_of_dvd, dvd_trans, dvd-mul_left, one-dvd}
use Rattle.ring.specs.Slots.{mulm}
use Rattle.ring.specs.Lists.{Rising}
use Rattle.ring.specs.Vectors.{tabulate}
use Rattle.ring.specs.Laws.Slots.{zero_mulm, one_mulm, mulm_mod}
use Rattle.ring.specs.Laws.Lists.{each_tabulate, rising_tabulate}
use Rattle.ring.specs.Laws.Vectors.{length_tabulate, map_tabulate}
use Rattle.ring.specs.Laws.Below.{sum_one}
use Rattle.diagonals.specs.Maps.{Formed, FormedMap}
use Rattle.diagonals.specs.Products.{cell, term, product}
use Rattle.diagonals.specs.Laws.Matrices.{cell_tabulate}
use Rattle.maps.specs.declared.rules.Rule.TheVariants.{Tau, RotateRows}
use Rattle.maps.specs.declared.rules.Product.TheVariants.{LeftMul}
use Rattle.maps.specs.Entries.{Entry, InMatrix, place, entry_of, slot_of, entry_at, public_at}
use Rattle.maps.specs.Readings.{reads, rule_map, Replicated, tau_rep, rotate_rows_rep}
use Rattle.maps.specs.Sums.{factors, product_map, summand, left_mul_rep}
use Rattle.maps.specs.Shifts.{further_on}
use Rattle.maps.specs.Laws.Entries.{place_of_slot, slot_low, entry_inside, slot_is, slot_inside}
use Rattle.maps.specs.Laws.Terms.{sum_table, sum_same, sum_turned}
use Rattle.maps.specs.Laws.Readings.{rule_map_at}
use Rattle.maps.specs.Laws.Sums.{product_map_at}
use Rattle.maps.specs.Laws.Stages.{one_sum}
use Rattle.maps.specs.Laws.Rotations.{on_inside, product_on}

-- k rows further on, perhaps in a later matrix slot
rows_on : (d : ℕ) (e : Entry) (k s : ℕ) → s * (d * d) + place d e + k * d ≡ (s + (e.row + k) / d) * (d * d) + place d (further_on true k d e)
rows_on d e k s =
    omega (arith, add-mul s ((e.row + k) / d) (d * d), ap (λ (x : ℕ). x * d) (div-add-mod' (e.row + k) d), add-mul e.row k d, add-mul ((e.row + k) / d * d) ((e.row + k) % d) d, mul_assoc ((e.row + k) / d) d d)

-- the values of diagonal j·d of `left_mul_rep`
abbrev diagonal : ℕ → List ℕ → ℕ → ℕ → ℕ
diagonal d b j x = public_at d 1 b 0 (record { row = x / d; col = (x / d + j) % d })

module _ (slots d : ℕ) (v : d * d ∣ slots) (h : 1 ≤ d) (t : ℕ) (l : t < slots) where
  abbrev e : Entry
  e = entry_of d t

  in_matrix : InMatrix d e
  in_matrix = entry_inside d t h

  abbrev s : ℕ
  s = slot_of d t

  place_in : t % (d * d) ≡ place d e
  place_in = ap (λ (x : ℕ). x % (d * d)) (sym (slot_is d t h)) ∙ place_of_slot d e in_matrix s

  row_in : t % (d * d) / d ≡ e.row
  row_in =
      ap (λ (x : ℕ). x / d) place_in
      ∙ mul-add-div_right {m = d} (omega arith) e.row e.col
      ∙ ap (λ (x : ℕ). e.row + x) (div-eq_of_lt in_matrix.col_low)
      ∙ add-zero e.row

  module _ (m : ℕ) (input : List ℕ) (same : Replicated slots d input) where
    -- a rotation by k·d slots reads the row k below in the same matrix slot
    rows_read : (k : ℕ) → slice_index input ((t + k * d) % slots) ≡ entry_at d input s (further_on true k d e)
    rows_read k =
        same ((t + k * d) % slots) (mod-lt (t + k * d) (omega arith))
        ∙ ap (λ (x : ℕ). slice_index input x)
        (mod-mod_of_dvd (d * d) (t + k * d) v
        ∙ ap (λ (x : ℕ). (x + k * d) % (d * d)) (sym (slot_is d t h))
        ∙ ap (λ (x : ℕ). x % (d * d)) (rows_on d e k s)
        ∙ place_of_slot d (further_on true k d e) (on_inside true k d e in_matrix) (s + (e.row + k) / d)
        ∙ sym (place_of_slot d (further_on true k d e) (on_inside true k d e in_matrix) s))
        ∙ sym (same (s * (d * d) + place d (further_on true k d e)) (slot_low d (further_on true k d e) (on_inside true k d e in_matrix) s slots v (slot_inside d t h slots v l)))

    -- ---- `tau_rep`

    abbrev read : ℕ → ℕ
    read c = slice_index input ((t + c * d) % slots)

    masked : (c : ℕ) (y : Bool) → (e.col == c) ≡ y → mulm m (cond y 1 0) (read c) ≡ cond y (mulm m 1 (read e.col)) 0
    masked c true q = ap (λ (x : ℕ). mulm m 1 (read x)) (sym (eqb-true e.col c q))
    masked c false q = zero_mulm m (read c)

    tau_reads : product m slots (tau_rep d) input t ≡ read e.col % m
    unfolding product tau_rep
    tau_reads =
        sum_table m d (λ c. record { offset = c * d; values = tabulate d (λ x. cond (x == c) 1 0) }) (term m slots input t)
        ∙ sum_same m d (λ c. mulm m (cell (tabulate d (λ x. cond (x == c) 1 0)) t) (read c)) (λ c. cond (e.col == c) (mulm m 1 (read e.col)) 0)
        (λ c k. ap (λ (x : ℕ). mulm m x (read c)) (cell_tabulate d (λ x. cond (x == c) 1 0) t (omega arith)) ∙ masked c (e.col == c) refl)
        ∙ sum_one m e.col (mulm m 1 (read e.col)) d in_matrix.col_low
        ∙ mulm_mod m 1 (read e.col)
        ∙ one_mulm m (read e.col)

    pub tau_rep_product : product m slots (tau_rep d) input t ≡ product m slots (rule_map m slots d Tau) input t
    unfolding reads
    tau_rep_product =
        tau_reads
        ∙ ap (λ (x : ℕ). x % m) (rows_read e.col)
        ∙ sym (rule_map_at m slots d Tau (omega arith) v input h t l ∙ one_sum m (entry_at d input s (further_on true e.col d e)))

    -- ---- `rotate_rows_rep`

    pub rotate_rows_rep_product : (k : ℕ) → product m slots (rotate_rows_rep slots d k) input t ≡ product m slots (rule_map m slots d (RotateRows k)) input t
    unfolding product rotate_rows_rep
    rotate_rows_rep_product k =
        one_sum m (term m slots input t (record { offset = k * d % slots; values = 1 ∷ [] }))
        ∙ mulm_mod m (cell (1 ∷ []) t) (slice_index input ((t + k * d % slots) % slots))
        ∙ ap (λ (x : ℕ). mulm m (slice_index (1 ∷ []) x) (slice_index input ((t + k * d % slots) % slots))) (mod-one t)
        ∙ one_mulm m (slice_index input ((t + k * d % slots) % slots))
        ∙ ap (λ (x : ℕ). slice_index input x % m) (add-mod-mod t (k * d) slots)
        ∙ ap (λ (x : ℕ). x % m) (rows_read k)
        ∙ sym (product_on m slots d h v true k input t l)

    -- ---- `left_mul_rep`

    pub left_mul_rep_product : (b : List ℕ) → product m slots (left_mul_rep d b) input t ≡ product m slots (product_map m slots d 1 LeftMul b) input t
    unfolding product left_mul_rep factors
    left_mul_rep_product b =
        sum_table m d (λ j. record { offset = j * d; values = tabulate (d * d) (diagonal d b j) }) (term m slots input t)
        ∙ sum_same m d (λ j. mulm m (cell (tabulate (d * d) (diagonal d b j)) t) (read j)) (λ j. summand m LeftMul d 1 b input s e ((e.row + j) % d))
        (λ j k.
        ap (λ (x : ℕ). mulm m x (read j))
        (cell_tabulate (d * d) (diagonal d b j) t (one-le-mul h h)
        ∙ ap (λ (x : ℕ). public_at d 1 b 0 (record { row = x; col = (x + j) % d })) row_in
        ∙ ap (λ (x : ℕ). entry_at d b x (record { row = e.row; col = (e.row + j) % d })) (sym (mod-one s)))
        ∙ ap (mulm m (public_at d 1 b s (record { row = e.row; col = (e.row + j) % d }))) (rows_read j))
        ∙ sum_turned m d e.row (summand m LeftMul d 1 b input s e) h
        ∙ sym (product_map_at m slots d 1 b input v (omega arith) h t l LeftMul)

-- ---- the maps are well formed

module _ (slots d : ℕ) (v : d * d ∣ slots) (h : 1 ≤ d) (k : 0 < slots) where
  -- diagonals at each j·d, of n values
  spaced : (n : ℕ) → 1 ≤ n → n ∣ slots → (f : ℕ → ℕ → ℕ) → FormedMap slots (tabulate d (λ j. record { offset = j * d; values = tabulate n (f j) }))
  spaced n m w f =
      record {
        each = each_tabulate (Formed slots) d (λ j. record { offset = j * d; values = tabulate n (f j) })
            (λ j l. record { low = omega (arith, mul-lt-mul_of_pos_right {m = j} {n = d} {k = d} l (omega arith), le_of_dvd k v); some = rw (length_tabulate n (f j)) m; divides = rw (length_tabulate n (f j)) w });
        rising = subst Rising (sym (map_tabulate (λ x. x.offset) d (λ j. record { offset = j * d; values = tabulate n (f j) })))
            (rising_tabulate d (λ j. j * d) (λ i j l m. mul-lt-mul_of_pos_right l (omega arith)));
      }

  pub tau_rep_formed : FormedMap slots (tau_rep d)
  unfolding tau_rep
  tau_rep_formed = spaced d h (dvd_trans d (dvd-mul_left d d) v) (λ c x. cond (x == c) 1 0)

  pub left_mul_rep_formed : (b : List ℕ) → FormedMap slots (left_mul_rep d b)
  unfolding left_mul_rep
  left_mul_rep_formed b = spaced (d * d) (one-le-mul h h) v (diagonal d b)

  pub rotate_rows_rep_formed : (x : ℕ) → FormedMap slots (rotate_rows_rep slots d x)
  unfolding rotate_rows_rep
  rotate_rows_rep_formed x = record { each = (record { low = mod-lt (x * d) k; some = omega arith; divides = one-dvd slots }, tt); rising = (tt, tt) }
