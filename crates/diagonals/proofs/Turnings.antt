-- What the loop of `write_rest` keeps, and a turn.
-- Assumes nothing.
use Rattle.diagonals.specs.Laws.Pairs.{room_mono}
use Rattle.std.proofs.Common.{◌≡◌, ℕ, ◌+◌, ◌-◌, ◌<◌, ◌≤◌, List, [], ◌∷◌, ◌++◌, length, take, drop, pos, sym, refl, ap, ◌∙◌, arith, length-append, le-ltb}
use native.Mathlib.Nat.{le_of_dvd}
use Rattle.ring.specs.Vectors.{tabulate}
use Rattle.ring.specs.Laws.Vectors.{length_tabulate, tabulate_more}
use Rattle.ring.specs.Refusals.{Range}
use Rattle.ring.specs.Rotations.{rotated}
use Rattle.ring.specs.Laws.Rotations.{length_rotated}
use Rattle.diagonals.specs.Maps.{Diagonal, diagonal_at, offset_at, length_at, start_at, view, value_words, pair_room, WellFormed}
use Rattle.diagonals.specs.Transposing.{opposite, turned, transposed}
use Rattle.diagonals.specs.Steps.Writing.{Words, Turning, Turned, Rest, source, turned_at}
use Rattle.diagonals.specs.Laws.Maps.{stored_some, stored_divides, values_inside, start_more, start_mono}
use Rattle.diagonals.specs.Laws.Words.{value_words_more}
use Rattle.diagonals.specs.Laws.Writing.{words_appended, words_lengths}
use Rattle.diagonals.specs.Laws.Transposing.{transposed_is, turned_values}

-- the first n of the transposed map
abbrev pub front_of : ℕ → ℕ → ℕ → List ℕ → List ℕ → ℕ → List Diagonal
front_of slots count first pairs values n = tabulate n (turned_at slots count first pairs values)

pub record Turnings (slots count first : ℕ) (pairs values pairs₀ pairs₁ values₀ values₁ : List ℕ) (end at i n : ℕ) : Type 0 where
  pub room : n ≤ count
  pub low : first ≤ n
  pub down : i + n ≡ count + first
  pub end_is : end ≡ start_at pairs i
  pub at_end : at + end ≡ start_at pairs count + start_at pairs first
  pub at_is : at ≡ length (value_words (front_of slots count first pairs values n))
  pub words : Words (front_of slots count first pairs values n) pairs₀ pairs₁ values₀ values₁

module _ {slots count first : ℕ} {pairs values : List ℕ} {front : ℕ} {pairs₀ values₀ : List ℕ} (o : Range slots) (w : WellFormed slots count pairs values) (r : Rest slots count first pairs values front pairs₀ values₀) where
  module _ {pairs₁ values₁ : List ℕ} {end at i n : ℕ} (t : Turnings slots count first pairs values pairs₀ pairs₁ values₀ values₁ end at i n) where
    -- the buffers keep their lengths
    pub turnings_lengths : (length pairs₁ ≡ length pairs₀) × (length values₁ ≡ length values₀)
    turnings_lengths =
        words_lengths t.words
        (omega (arith, ap pair_room (length_tabulate n (turned_at slots count first pairs values)), room_mono n count t.room, r.whole.pairs_room))
        (omega (arith, t.at_is, t.at_end, t.end_is, start_mono pairs first i (omega (arith, t.down, t.room)), r.whole.values_room))

    module _ (l : n < count) where
      -- the diagonal that is taken now
      abbrev pub taken : ℕ
      taken = i - 1

      pub taken_is : source count first n ≡ taken
      taken_is = rw (le-ltb n first t.low) (omega (arith, t.down))

      pub taken_low : taken < count
      taken_low = omega (arith, t.down, t.low)

      starts : end ≡ start_at pairs taken + length_at pairs taken
      starts =
          let e : i ≡ taken + 1 = omega (arith, t.down, t.low) in
          t.end_is ∙ ap (start_at pairs) e ∙ start_more pairs taken

      module _ {len : ℕ} (ew : len ≡ length_at pairs taken) where
        pub turnings_start : end - len ≡ start_at pairs taken
        turnings_start = omega (arith, starts)

        pub turnings_fits : len ≤ end
        turnings_fits = omega (arith, starts)

        pub turnings_inside : end ≤ length values
        turnings_inside = omega (arith, t.end_is, start_mono pairs i count (omega (arith, t.down, t.low)), values_inside w)

        pub turnings_part : take (end - (end - len)) (drop (end - len) values) ≡ (diagonal_at pairs values taken).values
        turnings_part =
            let e : end - (end - len) ≡ length_at pairs taken = omega (arith, starts) in
            rw (e, turnings_start)

        part_length : length (take (end - (end - len)) (drop (end - len) values)) ≡ len
        part_length = ap length turnings_part ∙ w.whole taken taken_low ∙ sym ew

        pub turnings_room : at + len ≤ start_at pairs count
        turnings_room = omega (arith, t.at_end, starts, start_mono pairs first taken (omega (arith, t.down, t.low)))

        pub turnings_turning : Turning slots (offset_at pairs taken) (take (end - (end - len)) (drop (end - len) values)) n at pairs₁ values₁
        turnings_turning =
            let f = w.each taken taken_low in
            let s = o in
            record {
              slots_in_fact = s;
              low = f.low;
              part_in = rw part_length (record { low = omega (arith, stored_some w taken taken_low); high = omega (arith, le_of_dvd s.low (stored_divides w taken taken_low), s.high) });
              pairs_room = omega (arith, turnings_lengths.0, r.whole.pairs_room, room_mono (n + 1) count (omega arith));
              values_room = omega (arith, part_length, turnings_room, turnings_lengths.1, r.whole.values_room);
            }

        pub turnings_more : {pairs₂ values₂ : List ℕ} → Turned slots (offset_at pairs taken) (take (end - (end - len)) (drop (end - len) values)) n at pairs₁ pairs₂ values₁ values₂
            → Turnings slots count first pairs values pairs₀ pairs₂ values₀ values₂ (end - len) (at + len) taken (n + 1)
        turnings_more a =
            let k = opposite slots (offset_at pairs taken) in
            let part = take (end - (end - len)) (drop (end - len) values) in
            let d = turned slots (diagonal_at pairs values taken) in
            let grown : front_of slots count first pairs values (n + 1) ≡ front_of slots count first pairs values n ++ (d ∷ []) =
            tabulate_more n (turned_at slots count first pairs values) ∙ ap (λ (m : ℕ). front_of slots count first pairs values n ++ (turned slots (diagonal_at pairs values m) ∷ [])) taken_is in
            let size : length part ≡ length d.values = ap length turnings_part ∙ sym (length_rotated (diagonal_at pairs values taken).values (pos k) _) in
            record {
              room = omega arith;
              low = omega (arith, t.low);
              down = omega (arith, t.down, t.low);
              end_is = turnings_start;
              at_end = omega (arith, t.at_end, turnings_fits);
              at_is = rw (grown, value_words_more, length-append, ← t.at_is, ← size, part_length) (omega (arith, turnings_fits));
              words = rw grown
                  (words_appended d t.words (sym (length_tabulate n (turned_at slots count first pairs values))) t.at_is (omega (arith, r.whole.pairs_room, room_mono (n + 1) count (omega arith))) (omega (arith, part_length, turnings_room, r.whole.values_room)) refl size
                  (turned_values part k (omega (arith, turnings_turning.part_in.low)) ∙ ap (λ (v : List ℕ). rotated v (pos k) (length v)) turnings_part)
                  a);
            }

    pub turnings_done : count ≤ n → Words (transposed slots (view count pairs values)) pairs₀ pairs₁ values₀ values₁
    turnings_done l =
        let e : n ≡ count = omega (arith, t.room) in
        rw (transposed_is slots pairs values count, ← r.lead, ← (ap (front_of slots count first pairs values) e)) t.words
