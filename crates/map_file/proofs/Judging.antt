-- Whether bytes are a file: what each test of the reader tells, and its returns.
-- Assumes nothing.
use Prim.Native.Nat.{ℕ, ◌+◌, ◌*◌, ◌/◌, ◌-◌, ◌≤◌, ◌<◌}
use mathlib.Core.Path.{◌≡◌, refl, sym, ap, ◌∙◌}
use mathlib.Core.Bool.{Bool, true, false, not, true≢false}
use Rattle.std.specs.Prelude.{None, Some, Result, Ok, Err}
use mathlib.Core.List.{List, ◌++◌}
use Rattle.std.proofs.lemmas.Bool.{not-true, not-false}
use native.Mathlib.Omega.{arith}
use borrow.Author.Tests.{eq-eqb}
use lib.ListN.{length, drop}
use Rattle.ring.specs.declared.refusal.Refusal.{Refusal}
use Rattle.ring.specs.declared.refusal.Refusal.TheVariants.{File}
use Rattle.ring.specs.Vectors.{tabulate, in_front}
use Rattle.ring.specs.Laws.Vectors.{length_tabulate}
use Rattle.ring.specs.Refusals.{pick, first_refusal, outside}
use Rattle.ring.specs.Laws.Refusals.{inside, first_later, pick_none}
use Rattle.ring.specs.Laws.Answers.{when_ok, when_refused}
use Rattle.ring.specs.Laws.Searches.{both, by_false}
use Rattle.diagonals.specs.Maps.{well_formed, pair_words, value_words, WellFormed}
use Rattle.diagonals.specs.Calls.{map_room, RoomJudged}
use Rattle.diagonals.specs.Laws.Maps.{count_low, formed_means}
use Rattle.diagonals.specs.Laws.Words.{means_formed, start_alone}
use Rattle.map_file.proofs.StoredMaps.{formed_small}
use Rattle.diagonals.specs.Laws.Calls.{stored_means, means_stored, room_of, judged_none}
use Rattle.map_file.specs.Files.{number_at, file_of, slots_in, count_in, start_in, value_in, map_in, is_file}
use Rattle.map_file.specs.Calls.{file_refusals, file_refusal, read_refusal, FileRead}
use Rattle.map_file.specs.Laws.Telling.{length_file, length_told, values_told}
use Rattle.map_file.specs.Laws.Calls.{none_is, file_stored, file_size, file_range}
use Rattle.map_file.specs.Steps.{pairs_answer}

module _ (bytes : List ℕ) where
  pub slots_read : {x : ℕ} → x ≡ number_at 4 bytes 0 → x ≡ slots_in bytes
  unfolding slots_in
  slots_read h = h

  pub count_read : {x : ℕ} → x ≡ number_at 4 bytes 4 → x ≡ count_in bytes
  unfolding count_in
  count_read h = h

  abbrev pub told_words : ℕ
  told_words = length (value_words (map_in bytes))

  told_size : length (file_of (slots_in bytes) (map_in bytes)) ≡ 8 + 8 * count_in bytes + 8 * told_words
  told_size = length_file (slots_in bytes) (map_in bytes) ∙ rw (length_told bytes)

  -- bytes that are no file
  pub no_file : (is_file bytes ≡ true → ⊥) → file_refusal bytes ≡ Some File
  no_file h = rw (by_false h)

  pub too_short : length bytes < 8 → is_file bytes ≡ true → ⊥
  too_short l h = omega (arith, file_size bytes h, told_size)

  pub too_many : {count : ℕ} → count ≡ count_in bytes → length bytes / 8 - 1 < count → is_file bytes ≡ true → ⊥
  too_many e l h = omega (arith, file_size bytes h, told_size)

  pub wrong_slots : outside (slots_in bytes) ≡ true → is_file bytes ≡ true → ⊥
  wrong_slots o h = true≢false (sym o ∙ file_range bytes h)

  module _ {slots : ℕ} (e : slots ≡ slots_in bytes) {r : Result ℕ Refusal} (q : r ≡ pairs_answer bytes slots) where
    abbrev passes : Bool
    passes = well_formed slots (length (map_in bytes)) (pair_words (map_in bytes)) (value_words (map_in bytes))

    -- pairs that are not well formed
    pub unformed : {x : Refusal} → r ≡ Err x → file_refusal bytes ≡ Some x
    unformed {x} h =
        let o = one_refusal (not passes) (when_refused (pick (not passes) File None) told_words x (sym h ∙ q)) in
        rw o.1 (no_file (λ f. true≢false (sym (means_formed _ _ _ _ (is_formed f)) ∙ not-true passes o.0)))
      where
        is_formed : is_file bytes ≡ true → WellFormed slots (length (map_in bytes)) (pair_words (map_in bytes)) (value_words (map_in bytes))
        is_formed f = rw e (stored_means _ _ _ _ (file_stored bytes f)).1

        one_refusal : (b : Bool) {x y : Refusal} → pick b x None ≡ Some y → (b ≡ true) × (y ≡ x)
        one_refusal true h = (refl, cc)
        one_refusal false h = cc

    -- and those that are
    pub formed : {total : ℕ} → r ≡ Ok total → WellFormed slots (length (map_in bytes)) (pair_words (map_in bytes)) (value_words (map_in bytes)) × (total ≡ told_words)
    formed {total} h =
        let o = when_ok (pick (not passes) File None) told_words total (sym h ∙ q) in
        (formed_means _ _ _ _ (not-false passes (pick_none (not passes) File None o.0).0), o.1)

    pub few_words : {total : ℕ} → (1 ≤ slots) × (slots ≤ 65536) → r ≡ Ok total → total ≤ 4294967296
    few_words s h = omega (arith, (formed h).1, start_alone (map_in bytes), formed_small (formed h).0 s.0 s.1)

  pub wrong_size : {count total : ℕ} → count ≡ count_in bytes → total ≡ told_words → (length bytes ≡ 8 + 8 * count + 8 * total → ⊥) → is_file bytes ≡ true → ⊥
  wrong_size e t w h = w (file_size bytes h ∙ told_size ∙ rw (e, t))

  -- bytes that are
  pub a_file : {slots count total : ℕ} {r : Result ℕ Refusal} → slots ≡ slots_in bytes → count ≡ count_in bytes → outside slots ≡ false → r ≡ pairs_answer bytes slots → r ≡ Ok total → length bytes ≡ 8 + 8 * count + 8 * total → is_file bytes ≡ true
  unfolding is_file
  a_file {slots} {count} {total} es ec o q h size =
      let et = (formed es q h).1 in
      let w = rw es at (formed es q h).0 in
      let o : outside (slots_in bytes) ≡ false = rw es at o in
      let whole : length bytes ≡ length (file_of (slots_in bytes) (map_in bytes)) = size ∙ rw (ec, et) (sym told_size) in
      both (none_is (means_stored (slots_in bytes) _ _ _ o w)) (eq-eqb (length bytes) _ whole)

  -- the numbers of an accepted file
  module _ (f : is_file bytes ≡ true) {count total : ℕ} (ec : count ≡ length (map_in bytes)) (et : total ≡ told_words) where
    pub few_pairs : count ≤ 65536
    few_pairs =
        let s = stored_means (slots_in bytes) (length (map_in bytes)) (pair_words (map_in bytes)) (value_words (map_in bytes)) (file_stored bytes f) in
        omega (arith, ec, count_low s.1, (inside (slots_in bytes) s.0).1)

    pub whole_size : length bytes ≡ 8 + 8 * count + 8 * total
    whole_size = file_size bytes f ∙ told_size ∙ rw (ec, et, length_told bytes) refl

    -- the values, as the reader finds them
    pub words_read : (n : ℕ) {ys : List ℕ} → n ≡ total → ys ≡ tabulate n (λ i. number_at 8 bytes (8 + 8 * count + 8 * i)) → ys ≡ value_words (map_in bytes)
    unfolding value_in
    words_read n {ys} en e =
        let k : n ≡ start_in bytes (count_in bytes) = en ∙ et ∙ ap length (values_told bytes) ∙ length_tabulate _ _ in
        e ∙ rw (k, ec, length_told bytes) (sym (values_told bytes))

-- ---- the reader's return

-- where it is a file, only its room is refused
refused_by : (bytes pairs values : List ℕ) → is_file bytes ≡ true → read_refusal bytes pairs values ≡ first_refusal (map_room (map_in bytes) pairs values)
refused_by bytes pairs values f = first_later (file_refusals bytes) (map_room (map_in bytes) pairs values) (rw f)

module _ (bytes pairs values : List ℕ) (f : is_file bytes ≡ true) {slots count total : ℕ} (es : slots ≡ slots_in bytes) (ec : count ≡ length (map_in bytes)) (et : total ≡ told_words bytes) {x : Result Unit Refusal} (room : RoomJudged count total (length pairs) (length values) x) where
  pub read_done : x ≡ Ok tt → {p ys : List ℕ} → p ≡ in_front (pair_words (map_in bytes)) pairs → ys ≡ value_words (map_in bytes) → FileRead bytes pairs p values (ys ++ drop total values) (Ok (record { slots = slots; count = count }))
  unfolding in_front
  read_done q ep ev =
      let n = refused_by bytes pairs values f ∙ judged_none (room_of (map_in bytes) pairs values ec et room) q in
      record { answer = rw (n, es, ec); pairs = rw n ep; values = rw (n, ev, et) }
