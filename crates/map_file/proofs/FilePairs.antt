-- The walks over the pairs of a file: what they keep, a turn, and each way out.
-- Assumes nothing.
use Prim.Native.Nat.{ℕ, ◌+◌, ◌*◌, ◌≤◌, ◌<◌}
use mathlib.Core.Path.{◌≡◌, sym, ap, ◌∙◌}
use Rattle.std.specs.Prelude.{Ok, Err}
use mathlib.Core.Bool.{false}
use mathlib.Core.List.{List, []}
use native.Mathlib.Omega.{arith}
use borrow.Author.Tests.{le-leb}
use lib.ListN.{length}
use Rattle.std.proofs.Common.{slice_index_or}
use Rattle.ring.specs.declared.refusal.Refusal.TheVariants.{File}
use Rattle.ring.specs.Searches.{every}
use Rattle.ring.specs.Vectors.{tabulate, in_front}
use Rattle.ring.specs.Laws.Vectors.{length_tabulate, get_or_tabulate, tabulate_more}
use Rattle.diagonals.specs.Maps.{pair_room, offset_at, length_at, start_at, formed_at, well_formed, put_pair, pair_words, value_words}
use Rattle.diagonals.specs.Laws.Checking.{Checking, checking_done}
use Rattle.diagonals.specs.Laws.Pairs.{length_pair_words, put_more}
use Rattle.diagonals.specs.Laws.Words.{pair_words_none, pair_words_more, start_alone}
use Rattle.map_file.specs.Files.{number_at, count_in, offset_in, length_in, diagonal_in, map_in}
use Rattle.map_file.specs.Laws.Numbers.{number_part}
use Rattle.map_file.specs.Laws.Telling.{length_told, offset_told, length_told_at}
use Rattle.map_file.specs.Steps.{pair_in, pairs_answer, Headed}

-- ---- the numbers of a pair

-- as a walk over the pairs reads them
module _ (bytes : List ℕ) (n : ℕ) {items : List (List ℕ)} (e : items ≡ tabulate n (pair_in bytes)) where
  pub items_length : length items ≡ n
  items_length = ap length e ∙ length_tabulate n (pair_in bytes)

  module _ {i : ℕ} (l : i < length items) where
    pub item_low : i < n
    item_low = omega (arith, items_length)

    read_at : {x : ℕ} (at : ℕ) → at + 4 ≤ 8 → x ≡ number_at 4 (slice_index_or items i []) at → x ≡ number_at 4 bytes (8 + 8 * i + at)
    read_at at f h = h ∙ ap (λ (p : List ℕ). number_at 4 p at) (rw e (get_or_tabulate n (pair_in bytes) i [] item_low)) ∙ number_part bytes 8 (8 + 8 * i) 4 at f

    pub offset_read : {x : ℕ} → x ≡ number_at 4 (slice_index_or items i []) 0 → x ≡ offset_in bytes i
    unfolding offset_in
    offset_read h =
        let q : 8 + 8 * i + 0 ≡ 8 + 8 * i = omega arith in
        read_at 0 (omega arith) h ∙ ap (number_at 4 bytes) q

    pub length_read : {x : ℕ} → x ≡ number_at 4 (slice_index_or items i []) 4 → x ≡ length_in bytes i
    unfolding length_in
    length_read h =
        let q : 8 + 8 * i + 4 ≡ 12 + 8 * i = omega arith in
        read_at 4 (omega arith) h ∙ ap (number_at 4 bytes) q

-- ---- pairs that are written

pub record Reading (bytes old new : List ℕ) (i : ℕ) : Type 0 where
  pub so_far : new ≡ in_front (pair_words (tabulate i (diagonal_in bytes))) old

pub reading_none : (bytes old : List ℕ) → Reading bytes old old 0
unfolding in_front
reading_none bytes old = record { so_far = sym (ap (λ (ws : List ℕ). in_front ws old) pair_words_none) }

module _ {bytes old new : List ℕ} {i : ℕ} (r : Reading bytes old new i) where
  pub reading_more : {offset len : ℕ} → pair_room (i + 1) ≤ length old → offset ≡ offset_in bytes i → len ≡ length_in bytes i → Reading bytes old (put_pair new i offset len) (i + 1)
  reading_more h eo el =
      let ds = tabulate i (diagonal_in bytes) in
      let d = diagonal_in bytes i in
      let n : length d.values ≡ length_in bytes i = length_tabulate (length_in bytes i) _ in
      record {
        so_far = rw (eo, el, ← n, r.so_far)
            (put_more ds d old i (sym (length_tabulate i (diagonal_in bytes))) h
            ∙ ap (λ (ws : List ℕ). in_front ws old) (sym (ap pair_words (tabulate_more i (diagonal_in bytes)) ∙ pair_words_more ds d)));
      }

  pub reading_done : i ≡ length (map_in bytes) → new ≡ in_front (pair_words (map_in bytes)) old
  unfolding map_in
  reading_done e = rw (r.so_far, e ∙ length_told bytes)

-- ---- pairs that are checked

module _ {bytes : List ℕ} {slots count : ℕ} (h : Headed bytes slots count) where
  abbrev pairs : List ℕ
  pairs = pair_words (map_in bytes)

  abbrev values : List ℕ
  values = value_words (map_in bytes)

  count_is : count ≡ length (map_in bytes)
  count_is = h.count_is ∙ sym (length_told bytes)

  -- the numbers of a pair
  pub pair_read : {i offset len : ℕ} → i < count → offset ≡ offset_in bytes i → len ≡ length_in bytes i → (offset ≡ offset_at pairs i) × (len ≡ length_at pairs i)
  pair_read {i} l eo el =
      let inside : i < count_in bytes = omega (arith, h.count_is) in (
        eo ∙ sym (offset_told bytes i inside),
        el ∙ sym (length_told_at bytes i inside),
      )

  formed_is : well_formed slots (length (map_in bytes)) pairs values ≡ every (formed_at slots pairs values) count
  unfolding well_formed
  formed_is =
      rw (le-leb (pair_room (length (map_in bytes))) (length pairs) (omega (arith, length_pair_words (map_in bytes))))
      (ap (every (formed_at slots pairs values)) (sym count_is))

  -- some pair is not well formed
  pub told_unformed : false ≡ every (formed_at slots pairs values) count → Err File ≡ pairs_answer bytes slots
  told_unformed q = rw (formed_is ∙ sym q)

  -- all are
  module _ {total next i : ℕ} (c : Checking slots count pairs total next i) (d : count ≤ i) where
    total_all : total ≡ length values
    total_all =
        let e : i ≡ length (map_in bytes) = omega (arith, c.room, count_is) in
        c.total_is ∙ ap (start_at pairs) e ∙ start_alone (map_in bytes)

    pub told_formed : Ok total ≡ pairs_answer bytes slots
    told_formed = rw (formed_is ∙ sym (checking_done c d values) ∙ le-leb total (length values) (omega (arith, total_all)), total_all)
