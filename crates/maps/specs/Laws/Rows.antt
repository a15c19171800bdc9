-- Laws of diagonals of one stored length: their words, the room they take, and loops that write their pairs.
-- Assumes nothing.
use Rattle.std.specs.Prelude.{◌≡◌, ℕ, ◌+◌, ◌*◌, ◌/◌, ◌%◌, ◌<◌, ◌≤◌, List, [], ◌∷◌, ◌++◌, length, drop, slice_index, Option, None, Result, Ok}
use Rattle.std.proofs.Math.Path.{refl, sym, ap}
use Rattle.std.proofs.Common.{subst, ◌∙◌, append-nil, div-lt_iff_lt-mul}
use Rattle.ring.specs.declared.refusal.Refusal.{Refusal}
use Rattle.ring.specs.Lists.{join}
use Rattle.ring.specs.Vectors.{tabulate, in_front, filled, Filling}
use Rattle.ring.specs.Refusals.{first_refusal}
use Rattle.ring.specs.Answers.{judged}
use Rattle.ring.specs.Laws.Refusals.{first_later}
use Rattle.ring.specs.Laws.Lists.{join_map, join_cong, each_tabulate}
use Rattle.ring.specs.Laws.Vectors.{length_tabulate, get_or_tabulate, map_tabulate, tabulate_cong, tabulate_more, join_tables}
use Rattle.diagonals.specs.Maps.{Diagonal, offset_at, pair_room, put_pair, pair_of, pair_words, value_words}
use Rattle.diagonals.specs.SlotMaps.{zeros_at, zero_map}
use Rattle.diagonals.specs.Calls.{map_room, RoomJudged, MapWritten}
use Rattle.diagonals.specs.Laws.Calls.{room_of, written_accepted}
use Rattle.diagonals.specs.Laws.Pairs.{length_pair_words, pair_alike, length_put, put_more, put_only, offset_old}
use Rattle.diagonals.specs.Laws.Words.{pair_words_more}
use Rattle.diagonals.specs.Laws.Writing.{length_value_words}
use Rattle.diagonals.specs.Laws.SlotMaps.{zero_map_count, zero_map_more}
use Rattle.maps.specs.Calls.{tile_refusals, TiledWritten}
use Rattle.maps.specs.Steps.Rows.{rows, row_pairs, row_value}

-- ---- words

pairs_table : (n : ℕ) (f : ℕ → Diagonal) → pair_words (tabulate n f) ≡ join (λ i. pair_of (f i)) (tabulate n (λ i. i))
unfolding pair_words
pairs_table n f = ap pair_words (sym (map_tabulate f n (λ i. i))) ∙ join_map f pair_of (tabulate n (λ i. i))

module _ (n p : ℕ) (o : ℕ → ℕ) (v : ℕ → ℕ → ℕ) where
  abbrev row : ℕ → Diagonal
  row i = record { offset = o i; values = tabulate p (v i) }

  pub length_rows : length (rows n p o v) ≡ n
  length_rows = length_tabulate n row

  -- pairs say nothing of the values
  pub pairs_rows : pair_words (rows n p o v) ≡ row_pairs o p n
  unfolding row_pairs zero_map
  pairs_rows =
      same_pairs n row (λ i. zeros_at p (o i)) (λ i. pair_alike (row i) (zeros_at p (o i)) refl (length_tabulate p (v i) ∙ sym (length_tabulate {A = ℕ} p (λ _. 0))))
      ∙ ap pair_words (sym (map_tabulate (zeros_at p) n o))
    where
      same_pairs : (n : ℕ) (f g : ℕ → Diagonal) → ((i : ℕ) → pair_of (f i) ≡ pair_of (g i)) → pair_words (tabulate n f) ≡ pair_words (tabulate n g)
      same_pairs n f g h =
          pairs_table n f ∙ join_cong (λ i. pair_of (f i)) (λ i. pair_of (g i)) h (tabulate n (λ i. i)) ∙ sym (pairs_table n g)

  pub values_rows : 0 < p → value_words (rows n p o v) ≡ tabulate (n * p) (row_value p v)
  unfolding value_words
  values_rows h =
      ap value_words (sym (map_tabulate row n (λ i. i)))
      ∙ join_map row (λ d. d.values) (tabulate n (λ i. i))
      ∙ join_tables p h v 0 (tabulate n (λ i. i))
      ∙ ap (λ (m : ℕ). tabulate (m * p) (λ x. v (slice_index (tabulate n (λ i. i)) (x / p)) (x % p))) (length_tabulate n (λ i. i))
      ∙ tabulate_cong (n * p) (λ x. v (slice_index (tabulate n (λ i. i)) (x / p)) (x % p)) (row_value p v) (λ x l. ap (λ (i : ℕ). v i (x % p)) (get_or_tabulate n (λ i. i) (x / p) 0 ((div-lt_iff_lt-mul h).1 l)))

  pub length_values_rows : length (value_words (rows n p o v)) ≡ n * p
  length_values_rows =
      length_value_words p (rows n p o v) (each_tabulate (λ d. length d.values ≡ p) n row (λ i l. length_tabulate p (v i)))
      ∙ ap (λ (m : ℕ). m * p) length_rows

  -- the room that they take
  pub room_rows : (pairs values : List ℕ) {r : Result Unit Refusal} → RoomJudged n (n * p) (length pairs) (length values) r → r ≡ judged (first_refusal (map_room (rows n p o v) pairs values))
  room_rows pairs values j = room_of (rows n p o v) pairs values (sym length_rows) (sym length_values_rows) j

-- ---- loops that write pairs

module _ (o : ℕ → ℕ) (p : ℕ) where
  pub length_row_pairs : (n : ℕ) → length (row_pairs o p n) ≡ pair_room n
  unfolding row_pairs
  length_row_pairs n = length_pair_words (zero_map p (tabulate n o)) ∙ ap pair_room (zero_map_count p (tabulate n o) ∙ length_tabulate n o)

-- the pairs of the first i diagonals are written
pub record Pairing (o : ℕ → ℕ) (p : ℕ) (d₀ d : List ℕ) (i : ℕ) : Type 0 where
  pub so_far : d ≡ in_front (row_pairs o p i) d₀
  pub len : length d ≡ length d₀

pub pairing_none : (o : ℕ → ℕ) (p : ℕ) (d₀ : List ℕ) → Pairing o p d₀ d₀ 0
unfolding row_pairs in_front zero_map pair_words
pairing_none o p d₀ = record { so_far = refl; len = refl }

module _ {o : ℕ → ℕ} {p : ℕ} {d₀ d : List ℕ} {i : ℕ} (s : Pairing o p d₀ d i) where
  pub pairing_more : {a b : ℕ} → pair_room (i + 1) ≤ length d₀ → a ≡ o i → b ≡ p → Pairing o p d₀ (put_pair d i a b) (i + 1)
  unfolding row_pairs
  pairing_more {a} {b} l ea eb =
      let ds : List Diagonal = zero_map p (tabulate i o) in
      let size : i ≡ length ds = sym (zero_map_count p (tabulate i o) ∙ length_tabulate i o) in
      record {
        so_far =
            ap (λ (t : List ℕ). put_pair t i a b) s.so_far
            ∙ rw (ea, eb ∙ sym (length_tabulate {A = ℕ} p (λ _. 0))) (put_more ds (zeros_at p (o i)) d₀ i size l)
            ∙ ap (λ (t : List ℕ). in_front t d₀) (sym (pair_words_more ds (zeros_at p (o i))) ∙ ap pair_words (sym (zero_map_more p (tabulate i o) (o i))) ∙ ap (λ (ks : List ℕ). pair_words (zero_map p ks)) (sym (tabulate_more i o)));
        len = rw length_put s.len;
      }

  pub pairing_done : {n : ℕ} → i ≡ n → d ≡ in_front (row_pairs o p n) d₀
  pairing_done e = rw (← e) s.so_far

-- pairs whose offsets stay: the next one is not written yet
pub pairing_next : {p : ℕ} {d₀ d : List ℕ} {i : ℕ} → Pairing (offset_at d₀) p d₀ d i → offset_at d i ≡ offset_at d₀ i
pairing_next {p} {d₀} {i} s = ap (λ (t : List ℕ). offset_at t i) s.so_far ∙ offset_old (row_pairs (offset_at d₀) p i) d₀ i (length_row_pairs (offset_at d₀) p i)

-- the only diagonal
pub values_one : (d : Diagonal) → value_words (d ∷ []) ≡ d.values
unfolding value_words
values_one d = append-nil d.values

-- a loop that has stored n words
pub filled_upto : {f : ℕ → ℕ} {d₀ d : List ℕ} {j n : ℕ} → Filling f d₀ d j → j ≡ n → d ≡ filled f n d₀
filled_upto s e = rw (← e) s.so_far

-- ---- what a call has written

pub one_written : {e : Option Refusal} (d : Diagonal) {pairs₀ pairs₁ values₀ values₁ : List ℕ} → e ≡ None → pairs₁ ≡ put_pair pairs₀ 0 d.offset (length d.values) → pair_room 1 ≤ length pairs₀ → values₁ ≡ in_front d.values values₀ → MapWritten e (d ∷ []) pairs₀ pairs₁ values₀ values₁ (Ok 1)
one_written d {pairs₀} e p h v = written_accepted e refl (p ∙ put_only d pairs₀ h) (rw values_one v)

pub rows_written : {e : Option Refusal} (n p : ℕ) (o : ℕ → ℕ) (v : ℕ → ℕ → ℕ) {pairs₀ pairs₁ values₀ front : List ℕ} → 0 < p → e ≡ None → pairs₁ ≡ in_front (row_pairs o p n) pairs₀ → front ≡ tabulate (n * p) (row_value p v) → MapWritten e (rows n p o v) pairs₀ pairs₁ values₀ (front ++ drop (n * p) values₀) (Ok n)
unfolding in_front
rows_written n p o v {values₀} h e a b =
    written_accepted e (sym (length_rows n p o v))
    (rw (pairs_rows n p o v) a)
    (rw (values_rows n p o v h, b, length_tabulate))

-- ---- maps of one matrix that have no further arguments

module _ (slots l : ℕ) (ds : List Diagonal) (pairs values : List ℕ) where
  pub tiled_then : {pairs₁ values₁ : List ℕ} {a : Result ℕ Refusal} → first_refusal (tile_refusals slots l 1) ≡ None → MapWritten (first_refusal (map_room ds pairs values)) ds pairs pairs₁ values values₁ a → TiledWritten slots l ds pairs pairs₁ values values₁ a
  tiled_then {pairs₁} {values₁} {a} z m = subst (λ (e : Option Refusal). MapWritten e ds pairs pairs₁ values values₁ a) (sym (first_later (tile_refusals slots l 1) (map_room ds pairs values) z)) m
