-- What the loop of `write_shrunk` keeps, and a turn.
-- Assumes nothing.
use Rattle.diagonals.proofs.Deciding.{few_pairs}
use Rattle.std.specs.Prelude.{Result}
use Rattle.ring.specs.declared.refusal.Refusal.{Refusal}
use Rattle.ring.specs.Answers.{judged}
use Rattle.ring.specs.Refusals.{first_refusal, outside}
use Rattle.std.proofs.Common.{◌≡◌, ℕ, ◌+◌, ◌*◌, ◌<◌, ◌≤◌, List, [], ◌∷◌, map, length, drop, sym, refl, ap, ◌∙◌, add-zero, mul-le-mul_right, suc-mul, zero-mul, add-one, arith, mul-le-mul, false, true}
use mathlib.Core.List.{map-append}
use lib.ListN.{length-map}
use Rattle.ring.specs.Vectors.{tabulate}
use Rattle.ring.specs.Laws.Lists.{each_map, each_all}
use Rattle.ring.specs.Laws.Vectors.{length_tabulate, tabulate_cong}
use Rattle.diagonals.specs.Maps.{Diagonal, diagonal_at, offset_at, start_at, view, value_words, pair_room, WellFormed, well_formed}
use Rattle.diagonals.specs.Products.{cell}
use Rattle.diagonals.specs.Shrinking.{at_period, shrunk}
use Rattle.diagonals.specs.Calls.{map_room, RoomJudged, SameParts}
use Rattle.diagonals.specs.Laws.Calls.{room_of}
use Rattle.diagonals.specs.Steps.Writing.{spin, Appending, Appended, Common, Shrinking, Words}
use Rattle.diagonals.specs.Laws.Maps.{length_view, view_more}
use Rattle.diagonals.specs.Laws.Writing.{words_none, words_appended, words_lengths, length_value_words}
use Rattle.diagonals.specs.Laws.Pairs.{room_mono}

-- the diagonals passed, at the period
abbrev pub passed : List ℕ → List ℕ → ℕ → ℕ → List Diagonal
passed pairs values period i = map (at_period period) (view i pairs values)

pub record Shrinkage (count : ℕ) (pairs values : List ℕ) (period : ℕ) (pairs₀ pairs₁ values₀ values₁ rest : List ℕ) (at i : ℕ) : Type 0 where
  pub room : i ≤ count
  pub rest_is : rest ≡ drop (start_at pairs i) values
  pub at_is : at ≡ i * period
  pub words : Words (passed pairs values period i) pairs₀ pairs₁ values₀ values₁

length_passed : (pairs values : List ℕ) (period i : ℕ) → length (passed pairs values period i) ≡ i
length_passed pairs values period i = length-map (view i pairs values) (at_period period) ∙ length_view i pairs values

values_passed : (pairs values : List ℕ) (period i : ℕ) → length (value_words (passed pairs values period i)) ≡ i * period
values_passed pairs values period i =
    length_value_words period (passed pairs values period i)
    (each_map (λ d. length d.values ≡ period) (at_period period) (view i pairs values) (each_all (λ d. length_tabulate period (cell d.values)) (view i pairs values)))
    ∙ ap (λ (n : ℕ). n * period) (length_passed pairs values period i)

pub shrinkage_none : (count : ℕ) (pairs values : List ℕ) (period : ℕ) (pairs₀ values₀ : List ℕ) → Shrinkage count pairs values period pairs₀ pairs₀ values₀ values₀ values 0 0
unfolding view
shrinkage_none count pairs values period pairs₀ values₀ =
    record { room = omega arith; rest_is = refl; at_is = sym (zero-mul period); words = words_none pairs₀ values₀ }

module _ {slots count : ℕ} {pairs values : List ℕ} (w : WellFormed slots count pairs values) {period : ℕ} {pairs₀ pairs₁ values₀ values₁ rest : List ℕ} {at i : ℕ} (s : Shrinking count period pairs₀ values₀) (h : Shrinkage count pairs values period pairs₀ pairs₁ values₀ values₁ rest at i) where
  -- one period more fits
  pub shrinkage_fits : i < count → at + period ≤ length values₀
  shrinkage_fits l = omega (arith, h.at_is, s.values_room, suc-mul i period, mul-le-mul_right period l)

  pub shrinkage_lengths : (length pairs₁ ≡ length pairs₀) × (length values₁ ≡ length values₀)
  shrinkage_lengths =
      words_lengths h.words
      (omega (arith, ap pair_room (length_passed pairs values period i), room_mono i count h.room, s.pairs_room))
      (omega (arith, values_passed pairs values period i, s.values_room, mul-le-mul_right period h.room))

  pub shrinkage_more : {pairs₂ values₂ src behind : List ℕ} {offset : ℕ} → i < count → behind ≡ drop (start_at pairs (i + 1)) values → src ≡ (diagonal_at pairs values i).values
      → offset ≡ offset_at pairs i → Appended src 0 offset period i at pairs₁ pairs₂ values₁ values₂ → Shrinkage count pairs values period pairs₀ pairs₂ values₀ values₂ behind (at + period) (i + 1)
  shrinkage_more {pairs₂} {values₂} {src} l eb es eo a =
      let d = at_period period (diagonal_at pairs values i) in
      let same : tabulate period (spin src 0) ≡ d.values = tabulate_cong period (spin src 0) (cell (diagonal_at pairs values i).values) (λ t m. rw (es, add-zero)) in
      let n : length d.values ≡ period = length_tabulate period (cell (diagonal_at pairs values i).values) in
      record {
        room = omega arith;
        rest_is = eb;
        at_is = omega (arith, h.at_is, suc-mul i period, ap (λ (x : ℕ). x * period) (add-one i));
        words =
            rw (ap (map (at_period period)) (view_more i pairs values) ∙ map-append (at_period period) (view i pairs values) (diagonal_at pairs values i ∷ []))
            (words_appended d h.words (sym (length_passed pairs values period i)) (h.at_is ∙ sym (values_passed pairs values period i)) (omega (arith, s.pairs_room, room_mono (i + 1) count (omega arith))) (shrinkage_fits l) eo (sym n) same a);
      }

  pub shrinkage_appending : {part : List ℕ} → i < count → part ≡ (diagonal_at pairs values i).values → Appending part 0 period i at pairs₁ values₁
  shrinkage_appending l e =
      record {
        turn = rw e (w.each i l).some;
        small = s.period_in.high;
        pairs_room = omega (arith, s.pairs_room, shrinkage_lengths.0, room_mono (i + 1) count (omega arith));
        values_room = omega (arith, shrinkage_fits l, shrinkage_lengths.1);
      }

  pub shrinkage_done : count ≤ i → Words (passed pairs values period count) pairs₀ pairs₁ values₀ values₁
  shrinkage_done l = let e : count ≡ i = omega (arith, h.room) in rw e h.words

-- ---- the room that a shrunk map takes

module _ (count : ℕ) (pairs values : List ℕ) {period : ℕ} (c : Common (view count pairs values) period) where
  abbrev ds : List Diagonal
  ds = shrunk (view count pairs values)

  is_passed : ds ≡ passed pairs values period count
  unfolding shrunk
  is_passed = rw c.is

  pub length_shrunk : length ds ≡ count
  length_shrunk = rw is_passed (length_passed pairs values period count)

  values_shrunk : length (value_words ds) ≡ count * period
  values_shrunk = rw is_passed (values_passed pairs values period count)

  pub shrunk_room : (pairs₀ values₀ : List ℕ) {r : Result Unit Refusal} → RoomJudged count (count * period) (length pairs₀) (length values₀) r → r ≡ judged (first_refusal (map_room ds pairs₀ values₀))
  shrunk_room pairs₀ values₀ j = room_of ds pairs₀ values₀ (sym length_shrunk) (sym values_shrunk) j

  pub shrunk_words : {pairs₀ pairs₁ values₀ values₁ : List ℕ} → Words (passed pairs values period count) pairs₀ pairs₁ values₀ values₁ → Words ds pairs₀ pairs₁ values₀ values₁
  shrunk_words w = rw is_passed w

-- by the parts that the call lent
module _ {slots count slots₁ count₁ : ℕ} {pairs values pairs₁ values₁ : List ℕ} (e : SameParts slots count pairs values slots₁ count₁ pairs₁ values₁) where
  pub common_of : {period : ℕ} → Common (view count₁ pairs₁ values₁) period → Common (view count pairs values) period
  common_of h = rw (e.count_is, e.pairs_is, e.values_is) at h

  -- the map at its common period has no more than 2^32 values
  pub total_small : {period : ℕ} → outside slots₁ ≡ false → well_formed slots₁ count₁ pairs₁ values₁ ≡ true → Common (view count₁ pairs₁ values₁) period → count * period ≤ 65536 * 65536
  total_small o f h =
      let n : count ≤ 65536 = rw e.count_is at (few_pairs slots₁ count₁ pairs₁ values₁ o f) in
      mul-le-mul n h.range.high

  pub shrunk_of : (period : ℕ) {pairs₀ pairs₂ values₀ values₂ : List ℕ} → Words (passed pairs₁ values₁ period count₁) pairs₀ pairs₂ values₀ values₂ → Words (passed pairs values period count) pairs₀ pairs₂ values₀ values₂
  shrunk_of period h = rw (e.count_is, e.pairs_is, e.values_is) at h
