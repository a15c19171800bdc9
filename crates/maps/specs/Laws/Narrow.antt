-- Laws of shrinking in place: a map of diagonals of one stored length moves to its common period, and the words that it
-- leaves free lie before those that are kept.
-- Assumes nothing.
use Rattle.std.specs.Prelude.{◌≡◌, ℕ, zero, suc, ◌+◌, ◌-◌, ◌*◌, ◌/◌, ◌%◌, ◌<◌, ◌≤◌, List, ◌++◌, map, length, take, drop, slice_index, refl, Option, None, Some, Result, Ok, Err}
use Rattle.std.proofs.Math.Path.{sym, ap, subst}
use Rattle.std.proofs.Common.{add-zero, ◌∙◌, append_assoc, zero-mul, suc-mul, mod-lt, mod-eq_of_lt, le_refl, mul-le-mul_right, div-lt_iff_lt-mul, add-one, arith, length-append, length-drop, take-append-drop, drop_at, drop-drop, length-take-le, get_or-take, get_or-drop}
use Rattle.std.proofs.Math.Nat.{div-eq_of_lt, mul-add-div_right, mul-add-mod_self_right, mod-add-div', add-mod_right, le_of_dvd, mul-le-mul_left}
use Rattle.std.proofs.lemmas.List.{length-map}
use Rattle.ring.specs.declared.refusal.Refusal.{Refusal}
use Rattle.ring.specs.Lists.{Each}
use Rattle.ring.specs.Vectors.{tabulate, in_front, filled, Filling}
use Rattle.ring.specs.Answers.{answered}
use Rattle.ring.specs.Laws.Lists.{each_then, tabulate_each}
use Rattle.ring.specs.Laws.Vectors.{is_tabulate, filling_block, filling_rest, length_tabulate, map_tabulate, tabulate_cong, length_in_front, in_front_in_front, length_filled, filled_same}
use Rattle.ring.specs.Laws.Refusals.{not_outside}
use Rattle.ring.specs.Laws.Answers.{no_refused, same_value}
use Rattle.diagonals.specs.Maps.{Diagonal, pair_room, offset_at, length_at, start_at, diagonal_at, view, WellFormed, pair_words, value_words, FormedMap}
use Rattle.diagonals.specs.Products.{cell}
use Rattle.diagonals.specs.Shrinking.{common_period, at_period, shrunk}
use Rattle.diagonals.specs.Calls.{map_refusal, MapWritten}
use Rattle.diagonals.specs.Laws.Maps.{each_view, values_inside}
use Rattle.diagonals.specs.Laws.Words.{formed_view, means_formed, words_formed, view_in_front}
use Rattle.diagonals.specs.Laws.Pairs.{room_mono, length_pair_words, put_same}
use Rattle.diagonals.specs.Laws.Writing.{length_value_words}
use Rattle.diagonals.specs.Laws.Matrices.{formed_some}
use Rattle.diagonals.specs.Laws.Shrinking.{common_pos, common_divides}
use Rattle.maps.specs.Calls.{free_behind, ShrunkWritten}
use Rattle.maps.specs.Steps.Rows.{rows, row_pairs}
use Rattle.maps.specs.Steps.Shrinking.{Even, moved_from, moved_at, Narrowing, Shrank}
use Rattle.maps.specs.Laws.Rows.{pairs_rows, values_rows, Pairing, pairing_none, pairing_more, pairing_done}

-- ---- where words move from

module _ {period p count : ℕ} {values : List ℕ} (n : Narrowing period p count values) where
  pub narrow_fits : count * p ≤ length values
  narrow_fits = omega (arith, mul-le-mul_left count n.narrow, n.inside)

  module _ (x : ℕ) where
    row_of : x < count * p → x / p < count
    row_of l = (div-lt_iff_lt-mul n.some).1 l

    pub moved_inside : x < count * p → moved_from period p x < length values
    moved_inside l =
        omega (arith, suc-mul (x / p) period, mul-le-mul_right period (row_of l), mod-lt x n.some, n.narrow, n.inside)

    -- so it is not written yet
    pub moved_behind : x ≤ moved_from period p x
    moved_behind = omega (arith, mod-add-div' x p, mul-le-mul_left (x / p) n.narrow)

  module _ {i : ℕ} (l : i < count) where
    -- a row, and where its words go
    pub row_inside : i * period + p ≤ length values
    row_inside = omega (arith, suc-mul i period, mul-le-mul_right period l, n.narrow, n.inside)

    pub row_behind : i * p ≤ i * period
    row_behind = mul-le-mul_left i n.narrow

    row_from : (x : ℕ) → x < p → moved_from period p (i * p + x) ≡ i * period + x
    row_from x h = rw (mul-add-div_right n.some i x, mul-add-mod_self_right i p x, div-eq_of_lt h, mod-eq_of_lt h, add-zero i)

    -- a row that is moved
    pub row_moved : {now : List ℕ} → Filling (moved_at period p values) values now (i * p) → Filling (moved_at period p values) values ((take (i * p) now ++ take p (drop (i * period) now)) ++ drop (i * p + p) now) ((i + 1) * p)
    row_moved {now} s =
        rw (append_assoc (take (i * p) now) (take p (drop (i * period) now)) (drop (i * p + p) now), ← (drop-drop p (i * p) now))
        (filling_block s p ((i + 1) * p) (take p (drop (i * period) now)) (omega (arith, suc-mul i p)) (omega (arith, suc-mul i p, row_inside, row_behind, s.len))
        (is_tabulate p _ 0 (take p (drop (i * period) now)) (length-take-le p (drop (i * period) now) (omega (arith, length-drop (i * period) now, row_inside, s.len)))
        (λ x h.
        get_or-take p (drop (i * period) now) x 0 h
        ∙ get_or-drop (i * period) now x 0
        ∙ filling_rest s (i * period + x) 0 (omega (arith, row_behind))
        ∙ ap (λ (y : ℕ). slice_index values y) (sym (row_from x h)))))

-- ---- words left free

free_length : (n : ℕ) (front new : List ℕ) → length front ≤ n → n ≤ length new → length (free_behind n front new) ≡ n
free_length n front new l k =
    length-append front (take (n - length front) (drop (length front) new))
    ∙ omega (arith, length-take-le (n - length front) (drop (length front) new) (omega (arith, length-drop (length front) new)))

free_front : (front old new : List ℕ) (n m : ℕ) → length front ≡ m → m ≤ n → n ≤ length old → new ≡ front ++ drop m old → new ≡ in_front (free_behind n front new) old
unfolding in_front
free_front front old new n m e l k q =
    let free : List ℕ = take (n - m) (drop m old) in
    let back : drop (length front) new ≡ drop m old = ap (λ (j : ℕ). drop j new) e ∙ ap (drop m) q ∙ drop_at front (drop m old) m e in
    let mid : free_behind n front new ≡ front ++ free = rw (back, e) in
    let size : length (front ++ free) ≡ n = length-append front free ∙ omega (arith, length-take-le (n - m) (drop m old) (omega (arith, length-drop m old))) in
    let f : m + (n - m) ≡ n = omega arith in
    let split : drop m old ≡ free ++ drop n old = sym (take-append-drop (n - m) (drop m old)) ∙ ap (λ (t : List ℕ). free ++ t) (drop-drop (n - m) m old ∙ ap (λ (j : ℕ). drop j old) f) in
    q
    ∙ ap (λ (t : List ℕ). front ++ t) split
    ∙ sym (append_assoc front free (drop n old))
    ∙ ap (λ (j : ℕ). (front ++ free) ++ drop j old) (sym size)
    ∙ ap (λ (t : List ℕ). in_front t old) (sym mid)

-- ---- a map of diagonals of one length

cell_turn : (v : List ℕ) (n t : ℕ) → length v ≡ n → cell v (t + n) ≡ cell v t
cell_turn v n t e = ap (λ (x : ℕ). slice_index v x) (ap (λ (m : ℕ). (t + n) % m) e ∙ add-mod_right t n ∙ ap (λ (m : ℕ). t % m) (sym e))

module _ {slots period count : ℕ} {pairs values : List ℕ} (e : Even slots period count pairs values) where
  -- it is not refused
  pub even_answer : (v : ℕ) → answered (map_refusal slots count pairs values) v ≡ Ok v
  even_answer v = rw (not_outside slots e.low e.high, means_formed slots count pairs values e.formed)

  abbrev ds : List Diagonal
  ds = view count pairs values

  -- so its common period is told
  pub even_period : {r : Result ℕ Refusal} {p : ℕ} → r ≡ Ok p → r ≡ answered (map_refusal slots count pairs values) (common_period ds) → p ≡ common_period ds
  even_period h e = same_value (sym h ∙ e ∙ even_answer (common_period ds))

  somes : Each (λ d. 1 ≤ length d.values) ds
  somes = formed_some slots ds (formed_view slots count pairs values e.formed)

  lengths : Each (λ d. length d.values ≡ period) ds
  lengths = each_view (λ d. length d.values ≡ period) count pairs values (λ i l. e.formed.whole i l ∙ e.stored i l)

  common_narrow : common_period ds ≤ period
  common_narrow =
      le_of_dvd e.some
      (common_divides ds somes period (each_then {Q = λ d. (t : ℕ) → cell d.values (t + period) ≡ cell d.values t} (λ d h t. cell_turn d.values period t h) ds lengths))

  starts : (i : ℕ) → i ≤ count → start_at pairs i ≡ i * period
  starts zero l = sym (zero-mul period)
  starts (suc i) l = omega (arith, starts i (omega arith), e.stored i l, suc-mul i period)

  module _ {p : ℕ} (ep : p ≡ common_period ds) where
    pub even_narrowing : Narrowing period p count values
    even_narrowing =
        record {
          some = rw ep (common_pos ds somes);
          narrow = rw ep common_narrow;
          inside = rw (← (starts count (le_refl count))) (values_inside e.formed);
        }

    pub even_small : p ≤ 65536
    even_small = omega (arith, even_narrowing.narrow, e.small)

    abbrev read : ℕ → ℕ → ℕ
    read i = cell (diagonal_at pairs values i).values

    shrunk_rows : shrunk ds ≡ rows count p (offset_at pairs) read
    unfolding shrunk view
    shrunk_rows = ap (λ (q : ℕ). map (at_period q) ds) (sym ep) ∙ map_tabulate (at_period p) count (diagonal_at pairs values)

    read_moved : (x : ℕ) → x < count * p → read (x / p) (x % p) ≡ moved_at period p values x
    read_moved x l =
        let n = even_narrowing in
        let i : ℕ = x / p in
        let t : ℕ = x % p in
        let h : i < count = (div-lt_iff_lt-mul n.some).1 l in
        let k : t < period = omega (arith, mod-lt x n.some, n.narrow) in
        let v : List ℕ = (diagonal_at pairs values i).values in
        let size : length v ≡ period = e.formed.whole i h ∙ e.stored i h in
        ap (λ (y : ℕ). slice_index v y) (mod-eq_of_lt (rw size k))
        ∙ get_or-take (length_at pairs i) (drop (start_at pairs i) values) t 0 (rw (e.stored i h) k)
        ∙ get_or-drop (start_at pairs i) values t 0
        ∙ ap (λ (y : ℕ). slice_index values (y + t)) (starts i (omega arith))

    pairs_shrunk : pair_words (shrunk ds) ≡ row_pairs (offset_at pairs) p count
    pairs_shrunk = ap pair_words shrunk_rows ∙ pairs_rows count p (offset_at pairs) read

    values_shrunk : value_words (shrunk ds) ≡ tabulate (count * p) (moved_at period p values)
    values_shrunk =
        ap value_words shrunk_rows
        ∙ values_rows count p (offset_at pairs) read even_narrowing.some
        ∙ tabulate_cong (count * p) (λ x. read (x / p) (x % p)) (moved_at period p values) read_moved

    pub shrank : {pairs₁ values₁ : List ℕ} → pairs₁ ≡ in_front (row_pairs (offset_at pairs) p count) pairs → values₁ ≡ filled (moved_at period p values) (count * p) values → Shrank period count pairs pairs₁ values values₁
    unfolding filled
    shrank {pairs₁} {values₁} a b =
        let size : length (value_words (shrunk ds)) ≡ count * p = ap length values_shrunk ∙ length_tabulate (count * p) (moved_at period p values) in
        let low : count * p ≤ count * period = mul-le-mul_left count even_narrowing.narrow in
        record {
          pairs = a ∙ ap (λ (t : List ℕ). in_front t pairs) (sym pairs_shrunk);
          len = ap length b ∙ length_filled (moved_at period p values) (count * p) values (narrow_fits even_narrowing);
          narrow = omega (arith, size, low);
          values = free_front (value_words (shrunk ds)) values values₁ (count * period) (count * p) size low even_narrowing.inside (b ∙ ap (λ (t : List ℕ). t ++ drop (count * p) values) (sym values_shrunk));
        }

    -- where the stored length is the common period, nothing moves
    module _ (q : p ≡ period) where
      same_pairs : (i : ℕ) → i ≤ count → Pairing (offset_at pairs) p pairs pairs i
      same_pairs zero l = pairing_none (offset_at pairs) p pairs
      same_pairs (suc i) l =
          let r : pair_room (i + 1) ≤ length pairs = omega (arith, room_mono (i + 1) count (omega arith), e.formed.pairs_inside) in
          rw (put_same pairs i r, add-one i) at (pairing_more (same_pairs i (omega arith)) r refl (e.stored i l ∙ sym q))

      pub shrank_same : Shrank period count pairs pairs values values
      shrank_same =
          shrank (pairing_done (same_pairs count (le_refl count)) refl)
          (filled_same (moved_at period p values) (count * p) values 0 (narrow_fits even_narrowing)
          (λ x l. ap (λ (y : ℕ). slice_index values y) (omega (arith, mod-add-div' x p, ap (λ (y : ℕ). x / p * y) q))))

-- ---- a map that was built in front of two buffers

module _ {slots period : ℕ} (whole : List Diagonal) (p v : List ℕ) (low : 1 ≤ slots) (high : slots ≤ 65536) (some : 1 ≤ period) (small : period ≤ 65536) (f : FormedMap slots whole) (each : Each (λ d. length d.values ≡ period) whole) (rp : pair_room (length whole) ≤ length p) (rv : length (value_words whole) ≤ length v) where
  formed : WellFormed slots (length whole) (in_front (pair_words whole) p) (in_front (value_words whole) v)
  formed = words_formed slots whole p v f rp rv

  stored : (i : ℕ) → i < length whole → length_at (in_front (pair_words whole) p) i ≡ period
  unfolding view
  stored i l =
      sym (formed.whole i l)
      ∙ tabulate_each (λ d. length d.values ≡ period) (length whole) (diagonal_at (in_front (pair_words whole) p) (in_front (value_words whole) v)) (subst (Each (λ d. length d.values ≡ period)) (sym (view_in_front whole p v)) each) i l

  -- what shrinking asks
  pub even_words : Even slots period (length whole) (in_front (pair_words whole) p) (in_front (value_words whole) v)
  even_words = record { low = low; high = high; some = some; small = small; formed = formed; stored = stored }

  -- and what the call then has written
  pub shrunk_written : {e : Option Refusal} {p₂ v₂ : List ℕ} → e ≡ None → Shrank period (length whole) (in_front (pair_words whole) p) p₂ (in_front (value_words whole) v) v₂ → ShrunkWritten e whole p p₂ v v₂ (Ok (length whole))
  unfolding shrunk
  shrunk_written {p₂} {v₂} z s =
      let total : length (value_words whole) ≡ length whole * period = length_value_words period whole each in
      let words : length (pair_words (shrunk whole)) ≡ pair_room (length whole) = length_pair_words (shrunk whole) ∙ ap pair_room (length-map whole (at_period (common_period whole))) in
      let back = view_in_front whole p v in
      let sp : p₂ ≡ in_front (pair_words (shrunk whole)) (in_front (pair_words whole) p) = s.pairs ∙ ap (λ (ds : List Diagonal). in_front (pair_words (shrunk ds)) (in_front (pair_words whole) p)) back in
      let sv : v₂ ≡ in_front (free_behind (length (value_words whole)) (value_words (shrunk whole)) v₂) (in_front (value_words whole) v) =
      s.values
      ∙ ap (λ (ds : List Diagonal). in_front (free_behind (length whole * period) (value_words (shrunk ds)) v₂) (in_front (value_words whole) v)) back
      ∙ ap (λ (n : ℕ). in_front (free_behind n (value_words (shrunk whole)) v₂) (in_front (value_words whole) v)) (sym total) in
      let narrow : length (value_words (shrunk whole)) ≤ length whole * period = subst (λ (ds : List Diagonal). length (value_words (shrunk ds)) ≤ length whole * period) back s.narrow in
      let room : length v₂ ≡ length v = s.len ∙ length_in_front (value_words whole) v rv in
      let size : length (free_behind (length (value_words whole)) (value_words (shrunk whole)) v₂) ≡ length (value_words whole) = free_length (length (value_words whole)) (value_words (shrunk whole)) v₂ (omega (arith, total)) (omega arith) in
      rw z
      (record {
        answer = refl;
        pairs = sp ∙ in_front_in_front (pair_words (shrunk whole)) (pair_words whole) p (omega (arith, words, length_pair_words whole)) (omega (arith, length_pair_words whole));
        values = sv ∙ in_front_in_front (free_behind (length (value_words whole)) (value_words (shrunk whole)) v₂) (value_words whole) v (omega (arith, size)) rv;
      })

-- a refused call leaves the buffers as they were
pub shrunk_refused : {e : Option Refusal} {x : Refusal} {whole : List Diagonal} {p v : List ℕ} → e ≡ Some x → ShrunkWritten e whole p p v v (Err x)
shrunk_refused h = rw h (record { answer = refl; pairs = refl; values = refl })

-- and so does one whose building was refused
pub build_refused : {e : Option Refusal} {x : Refusal} {whole : List Diagonal} {p p₁ v v₁ : List ℕ} → MapWritten e whole p p₁ v v₁ (Err x) → ShrunkWritten e whole p p₁ v v₁ (Err x)
build_refused {e = None} m = no_refused m.answer
build_refused {e = Some e} m = record { answer = m.answer; pairs = m.pairs; values = m.values }
