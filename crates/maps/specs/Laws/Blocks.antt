-- Laws of the maps on replicated inputs: what they are, and what a call has written.
-- Assumes nothing.
use Rattle.std.specs.Prelude.{◌≡◌, ℕ, ◌+◌, ◌*◌, ◌/◌, ◌%◌, ◌^◌, ◌<◌, ◌≤◌, Bool, false, not, ◌||◌, List, [], ◌∷◌, ◌++◌, length, drop, nat_lt, slice_index, slice_set, None, Result, Ok, Err}
use Rattle.std.proofs.Math.Path.{refl}
use Rattle.std.proofs.Common.{sym, ap, subst, zero-mul, zero-add, one-mul, mod-lt, mul-pos, div-lt_iff_lt-mul, eq-eqb, le-ltb, lt-ltb}
use Rattle.ring.specs.declared.refusal.Refusal.{Refusal}
use Rattle.ring.specs.declared.refusal.Refusal.TheVariants.{Shift, Length}
use Rattle.ring.specs.Vectors.{tabulate, in_front}
use Rattle.ring.specs.Refusals.{first_refusal}
use Rattle.ring.specs.Answers.{judged}
use Rattle.ring.specs.Laws.Refusals.{first_later}
use Rattle.ring.specs.Laws.Vectors.{tabulate_cong, in_front_more}
use Rattle.diagonals.specs.Maps.{Diagonal, put_pair}
use Rattle.diagonals.specs.Calls.{map_room, RoomJudged, MapWritten}
use Rattle.diagonals.specs.Laws.Calls.{room_of, written_refused, judged_none, judged_some}
use Rattle.maps.specs.Readings.{tau_rep, rotate_rows_rep}
use Rattle.maps.specs.Sums.{left_mul_rep}
use Rattle.maps.specs.Calls.{tile_refusals, no_matrices, rows_rep_refusal, left_mul_rep_refusal, TiledWritten, RowsRepWritten, LeftMulRepWritten}
use Rattle.maps.specs.Steps.Rows.{rows, row_pairs, row_value, mask, turned_at, turned_place}
use Rattle.maps.specs.Laws.Tiling.{side_pos, square_pos}
use Rattle.maps.specs.Laws.Rows.{room_rows, values_one, one_written, rows_written, tiled_then}
use Rattle.maps.specs.Laws.Skewing.{place_low}

-- ---- tau

abbrev steps : ℕ → ℕ → ℕ
steps d i = i * d

tau_is : (d : ℕ) → tau_rep d ≡ rows d d (steps d) mask
unfolding tau_rep
tau_is d = refl

module _ (slots l : ℕ) (z : first_refusal (tile_refusals slots l 1) ≡ None) (pairs₀ values₀ : List ℕ) {t : Result Unit Refusal} (h : RoomJudged (2 ^ l) (2 ^ l * 2 ^ l) (length pairs₀) (length values₀) t) where
  tau_room : t ≡ judged (first_refusal (map_room (tau_rep (2 ^ l)) pairs₀ values₀))
  tau_room = rw (tau_is (2 ^ l)) (room_rows (2 ^ l) (2 ^ l) (steps (2 ^ l)) mask pairs₀ values₀ h)

  pub tau_no_room : {x : Refusal} → t ≡ Err x → TiledWritten slots l (tau_rep (2 ^ l)) pairs₀ pairs₀ values₀ values₀ (Err x)
  tau_no_room n = tiled_then slots l (tau_rep (2 ^ l)) pairs₀ values₀ z (written_refused (judged_some tau_room n))

  pub tau_written : {pairs₁ front : List ℕ} → t ≡ Ok tt → pairs₁ ≡ in_front (row_pairs (steps (2 ^ l)) (2 ^ l) (2 ^ l)) pairs₀ → front ≡ tabulate (2 ^ l * 2 ^ l) (row_value (2 ^ l) mask)
      → TiledWritten slots l (tau_rep (2 ^ l)) pairs₀ pairs₁ values₀ (front ++ drop (2 ^ l * 2 ^ l) values₀) (Ok (2 ^ l))
  tau_written e p v =
      let q : first_refusal (map_room (tau_rep (2 ^ l)) pairs₀ values₀) ≡ None = judged_none tau_room e in
      tiled_then slots l (tau_rep (2 ^ l)) pairs₀ values₀ z (rw (tau_is (2 ^ l)) (rows_written (2 ^ l) (2 ^ l) (steps (2 ^ l)) mask (side_pos l) (rw (tau_is (2 ^ l)) at q) p v))

-- ---- the rotation of rows

one_front : (old : List ℕ) (a : ℕ) → 1 ≤ length old → slice_set old 0 a ≡ in_front (a ∷ []) old
unfolding in_front
one_front old a h = in_front_more [] old 0 a refl h

module _ (slots l : ℕ) (k : ℕ) (pairs₀ values₀ : List ℕ) where
  abbrev shift : Diagonal
  shift = record { offset = k * 2 ^ l % slots; values = 1 ∷ [] }

  abbrev rest : List (Bool × Refusal)
  rest = (nat_lt k 1 || not (nat_lt k (2 ^ l)), Shift) ∷ map_room (rotate_rows_rep slots (2 ^ l) k) pairs₀ values₀

  abbrev Rows : List ℕ → List ℕ → Result ℕ Refusal → Type 0
  Rows p v a = RowsRepWritten slots l k pairs₀ p values₀ v a

  module _ {t : Result Unit Refusal} (z : first_refusal (tile_refusals slots l 1) ≡ None) {d : ℕ} (e : d ≡ 2 ^ l) (low : 1 ≤ k) (high : k < d) (h : RoomJudged 1 1 (length pairs₀) (length values₀) t) where
    shifted : (nat_lt k 1 || not (nat_lt k (2 ^ l))) ≡ false
    shifted = rw (le-ltb k 1 low, ← e, lt-ltb k d high)

    rows_refusal : t ≡ judged (rows_rep_refusal slots l k pairs₀ values₀)
    unfolding rotate_rows_rep
    rows_refusal = rw (first_later (tile_refusals slots l 1) rest z, shifted) (room_of (shift ∷ []) pairs₀ values₀ refl (sym (ap length (values_one shift))) h)

    pub rows_no_room : {x : Refusal} → t ≡ Err x → Rows pairs₀ values₀ (Err x)
    rows_no_room n = written_refused (judged_some rows_refusal n)

    pub rows_shifted : {pairs₁ : List ℕ} → t ≡ Ok tt → pairs₁ ≡ put_pair pairs₀ 0 (k * d % slots) 1 → Rows pairs₁ (slice_set values₀ 0 1) (Ok 1)
    unfolding rotate_rows_rep
    rows_shifted q p = one_written shift (judged_none rows_refusal q) (rw (← e) p) (h.pairs_fit q) (one_front values₀ 1 (h.values_fit q))

-- ---- the left product

turned_entry : (d : ℕ) (b : List ℕ) (j t : ℕ) → slice_index b (0 * (d * d) + turned_place d j t) ≡ turned_at d b j t
turned_entry d b j t = rw (zero-mul, zero-add)

left_is : (d : ℕ) (b : List ℕ) → left_mul_rep d b ≡ rows d (d * d) (steps d) (turned_at d b)
unfolding left_mul_rep
left_is d b =
    tabulate_cong d _ (λ j. record { offset = j * d; values = tabulate (d * d) (turned_at d b j) })
    (λ j l. ap (λ (v : List ℕ). record { offset = j * d; values = v }) (tabulate_cong (d * d) _ (turned_at d b j) (λ t m. turned_entry d b j t)))

-- where it reads is in the matrix
pub turned_low : (d x : ℕ) → 1 ≤ d → row_value (d * d) (turned_place d) x < d * d
turned_low d x h =
    let t : ℕ = x % (d * d) in
    place_low d (t / d) ((t / d + x / (d * d)) % d) ((div-lt_iff_lt-mul h).1 (mod-lt x (mul-pos h h))) (mod-lt (t / d + x / (d * d)) h)

module _ (slots l : ℕ) (b pairs₀ values₀ : List ℕ) where
  abbrev behind : List (Bool × Refusal)
  behind = (no_matrices l 1 b, Length) ∷ map_room (left_mul_rep (2 ^ l) b) pairs₀ values₀

  abbrev Left : List ℕ → List ℕ → Result ℕ Refusal → Type 0
  Left p v a = LeftMulRepWritten slots l b pairs₀ p values₀ v a

  module _ {t : Result Unit Refusal} (z : first_refusal (tile_refusals slots l 1) ≡ None) (s : length b ≡ 2 ^ l * 2 ^ l) (h : RoomJudged (2 ^ l) (2 ^ l * (2 ^ l * 2 ^ l)) (length pairs₀) (length values₀) t) where
    left_refusal : t ≡ judged (left_mul_rep_refusal slots l b pairs₀ values₀)
    left_refusal =
        rw (first_later (tile_refusals slots l 1) behind z, one-mul, eq-eqb (length b) (2 ^ l * 2 ^ l) s, left_is (2 ^ l) b) (room_rows (2 ^ l) (2 ^ l * 2 ^ l) (steps (2 ^ l)) (turned_at (2 ^ l) b) pairs₀ values₀ h)

    pub left_no_room : {x : Refusal} → t ≡ Err x → Left pairs₀ values₀ (Err x)
    left_no_room n = written_refused (judged_some left_refusal n)

    pub left_written : {pairs₁ front : List ℕ} → t ≡ Ok tt → pairs₁ ≡ in_front (row_pairs (steps (2 ^ l)) (2 ^ l * 2 ^ l) (2 ^ l)) pairs₀ → front ≡ tabulate (2 ^ l * (2 ^ l * 2 ^ l)) (row_value (2 ^ l * 2 ^ l) (turned_at (2 ^ l) b)) → Left pairs₁ (front ++ drop (2 ^ l * (2 ^ l * 2 ^ l)) values₀) (Ok (2 ^ l))
    left_written {pairs₁} {front} e p v =
        subst (λ ds. MapWritten (left_mul_rep_refusal slots l b pairs₀ values₀) ds pairs₀ pairs₁ values₀ (front ++ drop (2 ^ l * (2 ^ l * 2 ^ l)) values₀) (Ok (2 ^ l))) (sym (left_is (2 ^ l) b))
        (rows_written (2 ^ l) (2 ^ l * 2 ^ l) (steps (2 ^ l)) (turned_at (2 ^ l) b) (square_pos l) (judged_none left_refusal e) p v)
