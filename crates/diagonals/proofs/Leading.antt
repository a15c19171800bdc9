-- The diagonal that stays first in the transposed map, and the number of values of that map.
-- Assumes nothing.
use Rattle.std.proofs.Math.Bool.{and-false}
use Rattle.std.specs.Prelude.{Result}
use Rattle.ring.specs.declared.refusal.Refusal.{Refusal}
use Rattle.ring.specs.Answers.{judged}
use Rattle.ring.specs.Refusals.{Range, first_refusal}
use Rattle.std.proofs.Common.{◌≡◌, ℕ, zero, suc, ◌+◌, ◌-◌, ◌<◌, ◌≤◌, Bool, true, false, cond, ◌&&◌, eqb, ltb, List, [], ◌∷◌, length, take, pos, sym, refl, ap, ◌∙◌, arith, length-append, ltb-true, le-ltb, ne_eqb, lt-ltb}
use native.Mathlib.Nat.{sub-zero, le_of_dvd}
use Rattle.ring.specs.Laws.Searches.{first as first_of}
use Rattle.ring.specs.Laws.Vectors.{length_tabulate, tabulate_more}
use Rattle.ring.specs.Rotations.{rotated}
use Rattle.ring.specs.Laws.Rotations.{length_rotated}
use Rattle.diagonals.specs.Maps.{Diagonal, diagonal_at, offset_at, length_at, start_at, view, WellFormed, pair_words, value_words, pair_room}
use Rattle.diagonals.specs.Transposing.{opposite, turned, transposed}
use Rattle.diagonals.specs.Steps.Writing.{Words, Turning, Turned, Transposing, Rest, leading, turned_at}
use Rattle.diagonals.specs.Calls.{map_room, RoomJudged}
use Rattle.diagonals.specs.Laws.Calls.{room_of}
use Rattle.diagonals.specs.Laws.Maps.{stored_some, stored_divides, values_inside, start_more, start_mono}
use Rattle.diagonals.specs.Laws.Writing.{words_none, words_appended, words_then, words_there, words_lengths}
use Rattle.diagonals.specs.Laws.Words.{value_words_more}
use Rattle.diagonals.specs.Laws.Pairs.{length_pair_words, room_mono}
use Rattle.diagonals.specs.Laws.Transposing.{transposed_is, turned_values}
use Rattle.diagonals.proofs.Turnings.{front_of}

abbrev leads : ℕ → List ℕ → Bool
leads count pairs = ltb 0 count && eqb (offset_at pairs 0) 0

module _ {slots count : ℕ} {pairs values : List ℕ} (w : WellFormed slots count pairs values) where
  turned_length : (i : ℕ) → i < count → length (turned slots (diagonal_at pairs values i)).values ≡ length_at pairs i
  turned_length i l = length_rotated (diagonal_at pairs values i).values _ _ ∙ w.whole i l

  -- ---- how many values the transposed map has

  base : (b : Bool) → leads count pairs ≡ b → length (value_words (front_of slots count (cond b 1 0) pairs values (cond b 1 0))) ≡ start_at pairs (cond b 1 0)
  unfolding value_words
  base true e =
      let l : 0 < count = ltb-true 0 count (first_of (ltb 0 count) (eqb (offset_at pairs 0) 0) e) in
      simp length-append (omega (arith, turned_length 0 l))
  base false e = refl

  module _ {first : ℕ} (e : first ≡ leading count pairs) where
    base_is : length (value_words (front_of slots count first pairs values first)) ≡ start_at pairs first
    base_is = rw e (base (leads count pairs) refl)

    -- with m of the rest taken
    sizes : (m : ℕ) → first + m ≤ count → length (value_words (front_of slots count first pairs values (first + m))) + start_at pairs (count - m) ≡ start_at pairs count + start_at pairs first
    sizes zero l =
        let q : first + 0 ≡ first = omega arith in
        rw (q, sub-zero) (omega (arith, base_is))
    sizes (suc m) l =
        let i = count - suc m in
        let q : first + suc m ≡ first + m + 1 = omega arith in
        let k : count - m ≡ i + 1 = omega arith in
        let s : count + first - 1 - (first + m) ≡ i = omega arith in
        let f = turned_at slots count first pairs values in
        let z : length (f (first + m)).values ≡ length_at pairs i = rw (le-ltb (first + m) first (omega arith), s) (turned_length i (omega arith)) in
        rw (q, tabulate_more (first + m) f, value_words_more, length-append, z)
        (omega (arith, sizes m (omega arith), ap (start_at pairs) k, start_more pairs i))

    within : first ≤ count
    within = rw e (by (leads count pairs) refl)
      where
        by : (b : Bool) → leads count pairs ≡ b → cond b 1 0 ≤ count
        by true h = ltb-true 0 count (first_of (ltb 0 count) (eqb (offset_at pairs 0) 0) h)
        by false h = omega arith

  pub values_transposed : length (value_words (transposed slots (view count pairs values))) ≡ start_at pairs count
  values_transposed =
      let f = leading count pairs in
      let l = within {first = f} refl in
      let q : f + (count - f) ≡ count = omega arith in
      let k : count - (count - f) ≡ f = omega arith in
      let h = sizes {first = f} refl (count - f) (omega arith) in
      let g : length (value_words (front_of slots count f pairs values count)) + start_at pairs f ≡ start_at pairs count + start_at pairs f = ap (λ (n : ℕ). length (value_words (front_of slots count f pairs values n)) + start_at pairs f) (sym q) ∙ ap (λ (n : ℕ). length (value_words (front_of slots count f pairs values (f + (count - f)))) + start_at pairs n) (sym k) ∙ h in
      rw (transposed_is slots pairs values count) (omega (arith, g))

  pub length_transposed : length (transposed slots (view count pairs values)) ≡ count
  length_transposed = rw (transposed_is slots pairs values count) (length_tabulate count _)

-- ---- the first that stay

module _ (count : ℕ) (pairs : List ℕ) where
  pub leads_none : count ≡ 0 → leads count pairs ≡ false
  leads_none e = rw e refl

  pub leads_other : (offset_at pairs 0 ≡ 0 → ⊥) → leads count pairs ≡ false
  leads_other n = rw (ne_eqb (offset_at pairs 0) 0 n) (and-false (ltb 0 count))

  pub leads_zero : (count ≡ 0 → ⊥) → offset_at pairs 0 ≡ 0 → leads count pairs ≡ true
  leads_zero n e = rw (lt-ltb 0 count (omega (arith, n)), e) refl

module _ {slots count : ℕ} {pairs values : List ℕ} (o : Range slots) (formed : WellFormed slots count pairs values) {pairs₀ values₀ : List ℕ} (t : Transposing count pairs pairs₀ values₀) where
  -- none does
  pub rest_none : leads count pairs ≡ false → Rest slots count 0 pairs values 0 pairs₀ values₀
  unfolding value_words
  rest_none e =
      record { whole = t; lead = rw e; inside = omega arith; front_is = refl; front_words = refl; there = words_none pairs₀ values₀ }

  -- one does
  module _ (e : leads count pairs ≡ true) {w : ℕ} (ew : w ≡ length_at pairs 0) where
    pub some_first : 0 < count
    some_first = ltb-true 0 count (first_of (ltb 0 count) (eqb (offset_at pairs 0) 0) e)

    abbrev part : List ℕ
    part = take w values

    part_is : part ≡ (diagonal_at pairs values 0).values
    part_is = rw ew

    part_length : length part ≡ w
    part_length = ap length part_is ∙ formed.whole 0 some_first ∙ sym ew

    first_fits : w ≤ start_at pairs count
    first_fits = omega (arith, start_mono pairs 1 count some_first)

    pub first_inside : w ≤ length values
    first_inside = omega (arith, first_fits, values_inside formed)

    pub first_turning : Turning slots (offset_at pairs 0) part 0 0 pairs₀ values₀
    first_turning =
        let f = formed.each 0 some_first in
        let s = o in
        record {
          slots_in_fact = s;
          low = f.low;
          part_in = rw part_length (record { low = omega (arith, stored_some formed 0 some_first); high = omega (arith, le_of_dvd s.low (stored_divides formed 0 some_first), s.high) });
          pairs_room = omega (arith, some_first, t.pairs_room, room_mono 1 count some_first);
          values_room = omega (arith, part_length, first_fits, t.values_room);
        }

    module _ {pairs₁ values₁ : List ℕ} (a : Turned slots (offset_at pairs 0) part 0 0 pairs₀ pairs₁ values₀ values₁) where
      abbrev d : Diagonal
      d = turned slots (diagonal_at pairs values 0)

      abbrev k : ℕ
      k = opposite slots (offset_at pairs 0)

      size : length part ≡ length d.values
      size = ap length part_is ∙ sym (length_rotated (diagonal_at pairs values 0).values (pos k) _)

      one : Words (d ∷ []) pairs₀ pairs₁ values₀ values₁
      unfolding value_words
      one =
          words_appended d (words_none pairs₀ values₀) refl refl first_turning.pairs_room first_turning.values_room refl size
          (turned_values part k first_turning.part_in.low ∙ ap (λ (v : List ℕ). rotated v (pos k) (length v)) part_is)
          a

      one_pairs : length (pair_words (d ∷ [])) ≡ pair_room 1
      one_pairs = length_pair_words (d ∷ [])

      one_values : length (value_words (d ∷ [])) ≡ w
      unfolding value_words
      one_values = simp length-append (omega (arith, size, part_length))

      lengths : (length pairs₁ ≡ length pairs₀) × (length values₁ ≡ length values₀)
      lengths = words_lengths one first_turning.pairs_room (omega (arith, one_values, part_length, first_turning.values_room))

      pub rest_one : Rest slots count 1 pairs values w pairs₁ values₁
      rest_one =
          record {
            whole = record { pairs_room = omega (arith, lengths.0, t.pairs_room); values_room = omega (arith, lengths.1, t.values_room) };
            lead = rw e;
            inside = some_first;
            front_is = omega arith;
            front_words = sym (base formed true e ∙ omega arith);
            there = words_there one (omega (arith, one_pairs, first_turning.pairs_room)) (omega (arith, one_values, part_length, first_turning.values_room));
          }

      -- the rest is written behind it
      pub rest_done : {pairs₂ values₂ : List ℕ} → Words (transposed slots (view count pairs values)) pairs₁ pairs₂ values₁ values₂ → Words (transposed slots (view count pairs values)) pairs₀ pairs₂ values₀ values₂
      rest_done v =
          words_then one v
          (omega (arith, one_pairs, length_pair_words (transposed slots (view count pairs values)), ap pair_room (length_transposed formed), room_mono 1 count some_first))
          (omega (arith, one_pairs, first_turning.pairs_room))
          (omega (arith, one_values, values_transposed formed, first_fits))
          (omega (arith, one_values, part_length, first_turning.values_room))

-- ---- the room that a transposed map takes

module _ {slots count : ℕ} {pairs values : List ℕ} (w : WellFormed slots count pairs values) {total : ℕ} (e : total ≡ start_at pairs count) (pairs₀ values₀ : List ℕ) where
  abbrev ds : List Diagonal
  ds = transposed slots (view count pairs values)

  pub transposed_room : {r : Result Unit Refusal} → RoomJudged count total (length pairs₀) (length values₀) r → r ≡ judged (first_refusal (map_room ds pairs₀ values₀))
  transposed_room j = room_of ds pairs₀ values₀ (sym (length_transposed w)) (e ∙ sym (values_transposed w)) j
