-- Laws of the words of a map: what well formed means, where values stand, which diagonal is found.
-- Assumes nothing.
use Rattle.std.specs.Prelude.{◌≡◌, ℕ, zero, suc, ◌+◌, ◌<◌, ◌≤◌, Bool, true, ◌&&◌, ◌⊎◌, List, [], ◌∷◌, ◌++◌, length, take, drop, ◌==◌, ◌≢◌, nat_le, nat_lt, refl}
use Rattle.std.specs.Int.{◌∣◌}
use Rattle.std.proofs.Common.{◌∙◌, inl, inr, eq-or-lt_of_le, not-suc-le-zero, le_of_suc-le-suc, le_of_eq, le_trans, add-one, arith, eq-eqb, ne_eqb, eqb-true, lt-ltb, le-leb, ltb-true, leb-true, length-take, length-drop}
use Rattle.std.proofs.Math.Path.{ap}
use Rattle.std.proofs.Math.Logic.{⊎_elim}
use Rattle.ring.specs.Vectors.{tabulate}
use Rattle.ring.specs.Searches.{every}
use Rattle.ring.specs.Laws.Vectors.{length_tabulate, map_tabulate, tabulate_more}
use Rattle.ring.specs.Lists.{Each}
use Rattle.ring.specs.Laws.Lists.{each_tabulate}
use Rattle.ring.specs.Divisors.{divides}
use Rattle.ring.specs.Laws.Searches.{both, first, second, lt_or_ge, every_at}
use Rattle.ring.specs.Laws.Divisors.{divides_dvd, divides_yes}
use Rattle.diagonals.specs.Maps.{Diagonal, offsets_of, pair_room, offset_at, length_at, start_at, diagonal_at, view, formed_as, formed_at, rises_at, well_formed, Formed, WellFormed}
use Rattle.diagonals.specs.Products.{stretch}
use Rattle.diagonals.specs.Steps.Reading.{Placed}

-- ---- starts

pub start_more : (pairs : List ℕ) (i : ℕ) → start_at pairs (i + 1) ≡ start_at pairs i + length_at pairs i
start_more pairs i = rw (add-one i)

pub start_mono : (pairs : List ℕ) (i n : ℕ) → i ≤ n → start_at pairs i ≤ start_at pairs n
start_mono pairs zero n h = omega arith
start_mono pairs (suc i) zero h = absurd (not-suc-le-zero h)
start_mono pairs (suc i) (suc n) h =
    ⊎_elim
    (λ (e : suc i ≡ suc n). le_of_eq (ap (start_at pairs) e))
    (λ (l : suc i < suc n). le_trans (start_mono pairs (suc i) n (omega arith)) (omega arith))
    (eq-or-lt_of_le h)

-- the values of a pair end before those of the last
pub end_within : (pairs : List ℕ) (i n : ℕ) → i < n → start_at pairs i + length_at pairs i ≤ start_at pairs n
end_within pairs i n l = omega (arith, start_more pairs i, start_mono pairs (i + 1) n (omega arith))

-- the values of the i-th stand inside the buffer exactly if they are all there
pub inside_whole : (pairs values : List ℕ) (i : ℕ) → start_at pairs i + length_at pairs i ≤ length values → length (diagonal_at pairs values i).values ≡ length_at pairs i
inside_whole pairs values i h = simp (length-take, length-drop) (omega arith)

pub whole_inside : (pairs values : List ℕ) (i : ℕ) → 1 ≤ length_at pairs i → length (diagonal_at pairs values i).values ≡ length_at pairs i → start_at pairs i + length_at pairs i ≤ length values
whole_inside pairs values i h e = omega (arith, simp (length-take, length-drop) at e)

-- ---- a well-formed map

module _ {slots count : ℕ} {pairs values : List ℕ} (w : WellFormed slots count pairs values) where
  module _ (i : ℕ) (l : i < count) where
    pub stored_some : 1 ≤ length_at pairs i
    stored_some = rw (w.whole i l) at (w.each i l).some

    pub stored_divides : length_at pairs i ∣ slots
    stored_divides = rw (w.whole i l) at (w.each i l).divides

    -- where its values end
    pub values_end : start_at pairs i + length_at pairs i ≤ length values
    values_end = whole_inside pairs values i stored_some (w.whole i l)

  -- offsets rise, so none is below its place
  offset_above : (i : ℕ) → i < count → i ≤ offset_at pairs i
  offset_above zero l = omega arith
  offset_above (suc i) l = omega (arith, offset_above i (omega arith), w.rising i (suc i) (omega arith) l)

  -- and there are no more pairs than slots
  pub count_low : count ≤ slots
  count_low = by count refl
    where
      by : (n : ℕ) → count ≡ n → n ≤ slots
      by zero e = omega arith
      by (suc n) e = omega (arith, offset_above n (omega arith), (w.each n (omega arith)).low)

  -- all values are inside
  pub values_inside : start_at pairs count ≤ length values
  values_inside = by count refl
    where
      by : (n : ℕ) → count ≡ n → start_at pairs n ≤ length values
      by zero e = omega arith
      by (suc n) e = values_end n (omega arith)

-- ---- the view

pub length_view : (count : ℕ) (pairs values : List ℕ) → length (view count pairs values) ≡ count
unfolding view
length_view count pairs values = length_tabulate count _

-- one diagonal more, as a loop takes it
pub view_more : (i : ℕ) (pairs values : List ℕ) → view (i + 1) pairs values ≡ view i pairs values ++ (diagonal_at pairs values i ∷ [])
unfolding view
view_more i pairs values = tabulate_more i (diagonal_at pairs values)

-- each diagonal of a well-formed map
pub each_view : (P : Diagonal → Type 0) (n : ℕ) (pairs values : List ℕ) → ((i : ℕ) → i < n → P (diagonal_at pairs values i)) → Each P (view n pairs values)
unfolding view
each_view P n pairs values h = each_tabulate P n (diagonal_at pairs values) h

-- the offsets of the view
pub offsets_view : (count : ℕ) (pairs values : List ℕ) → offsets_of (view count pairs values) ≡ tabulate count (offset_at pairs)
unfolding view
offsets_view count pairs values = map_tabulate (λ d. d.offset) count (diagonal_at pairs values)

-- ---- the tests and their meaning

-- the least offset that may stand at the i-th place
abbrev pub next_of : List ℕ → ℕ → ℕ
next_of pairs zero = 0
next_of pairs (suc i) = suc (offset_at pairs i)

pub rises_yes : (pairs : List ℕ) (i : ℕ) → next_of pairs i ≤ offset_at pairs i → rises_at pairs i ≡ true
rises_yes pairs zero h = refl
rises_yes pairs (suc i) h = lt-ltb _ _ h

pub rises_at_lem : (pairs : List ℕ) (i : ℕ) → rises_at pairs i ≡ true → next_of pairs i ≤ offset_at pairs i
rises_at_lem pairs zero h = omega arith
rises_at_lem pairs (suc i) h = ltb-true _ _ h

-- a stored diagonal that passes its test
pub record Passed (slots : ℕ) (pairs values : List ℕ) (i : ℕ) : Type 0 where
  pub formed : Formed slots (diagonal_at pairs values i)
  pub whole : length (diagonal_at pairs values i).values ≡ length_at pairs i
  pub next : next_of pairs i ≤ offset_at pairs i

module _ (slots : ℕ) (pairs values : List ℕ) (i : ℕ) where
  abbrev len : ℕ
  len = length_at pairs i

  abbrev all_there : Bool
  all_there = length (diagonal_at pairs values i).values == len

  pub formed_passes : offset_at pairs i < slots → 1 ≤ len → len ∣ slots → length (diagonal_at pairs values i).values ≡ len → next_of pairs i ≤ offset_at pairs i → formed_at slots pairs values i ≡ true
  formed_passes a b c d e = both (both (lt-ltb _ _ a) (both (le-leb _ _ b) (both (divides_yes _ _ c) (eq-eqb _ _ d)))) (rises_yes pairs i e)

  pub formed_at_lem : formed_at slots pairs values i ≡ true → Passed slots pairs values i
  formed_at_lem h =
      let rises = second (formed_as slots len (diagonal_at pairs values i)) (rises_at pairs i) h in
      let a = first (formed_as slots len (diagonal_at pairs values i)) (rises_at pairs i) h in
      let b = second (nat_lt (offset_at pairs i) slots) (nat_le 1 len && (divides len slots && all_there)) a in
      let c = second (nat_le 1 len) (divides len slots && all_there) b in
      let e : length (diagonal_at pairs values i).values ≡ len = eqb-true _ _ (second (divides len slots) all_there c) in
      record {
        formed = record {
          low = ltb-true _ _ (first (nat_lt (offset_at pairs i) slots) (nat_le 1 len && (divides len slots && all_there)) a);
          some = rw e (leb-true _ _ (first (nat_le 1 len) (divides len slots && all_there) b));
          divides = rw e (divides_dvd _ _ (first (divides len slots) all_there c));
        };
        whole = e;
        next = rises_at_lem pairs i rises;
      }

-- each offset is above the one before: so above all before
pub rising_all : (pairs : List ℕ) (count : ℕ) → ((i : ℕ) → i < count → next_of pairs i ≤ offset_at pairs i) → (i j : ℕ) → i < j → j < count → offset_at pairs i < offset_at pairs j
rising_all pairs count h i zero l m = absurd (not-suc-le-zero l)
rising_all pairs count h i (suc j) l m =
    ⊎_elim
    (λ (e : suc i ≡ suc j). let q : i ≡ j = omega arith in rw q (h (suc j) m))
    (λ (k : suc i < suc j). omega (arith, h (suc j) m, rising_all pairs count h i j (omega arith) (omega arith)))
    (eq-or-lt_of_le l)

pub formed_means : (slots count : ℕ) (pairs values : List ℕ) → well_formed slots count pairs values ≡ true → WellFormed slots count pairs values
unfolding well_formed
formed_means slots count pairs values h =
    let each = every_at (formed_at slots pairs values) count (second (nat_le (pair_room count) (length pairs)) (every (formed_at slots pairs values) count) h) in
    record {
      pairs_inside = leb-true _ _ (first (nat_le (pair_room count) (length pairs)) (every (formed_at slots pairs values) count) h);
      each = λ i l. (formed_at_lem slots pairs values i (each i l)).formed;
      whole = λ i l. (formed_at_lem slots pairs values i (each i l)).whole;
      rising = rising_all pairs count (λ i l. (formed_at_lem slots pairs values i (each i l)).next);
    }

-- ---- which diagonal is found

module _ (k : ℕ) where
  pub stretch_none : (n : ℕ) (f : ℕ → Diagonal) → ((j : ℕ) → j < n → (f j).offset ≢ k) → stretch (tabulate n f) k ≡ []
  stretch_none zero f h = refl
  stretch_none (suc n) f h = rw (ne_eqb _ k (h 0 (omega arith))) (stretch_none n (λ j. f (suc j)) (λ j l. h (suc j) (omega arith)))

  pub stretch_found : (n : ℕ) (f : ℕ → Diagonal) (i : ℕ) → i < n → (f i).offset ≡ k → ((j : ℕ) → j < i → (f j).offset ≢ k) → stretch (tabulate n f) k ≡ (f i).values
  stretch_found zero f i l e h = absurd (not-suc-le-zero l)
  stretch_found (suc n) f zero l e h = rw (eq-eqb _ k e)
  stretch_found (suc n) f (suc i) l e h =
      rw (ne_eqb _ k (h 0 (omega arith))) (stretch_found n (λ j. f (suc j)) i (le_of_suc-le-suc l) e (λ j m. h (suc j) (omega arith)))

-- by the first pair whose offset is not below k
module _ {slots count : ℕ} {pairs values : List ℕ} (w : WellFormed slots count pairs values) {k index : ℕ} (p : Placed count pairs k index) where
  pub placed_none : count ≤ index → stretch (view count pairs values) k ≡ []
  unfolding view
  placed_none l = stretch_none k count (diagonal_at pairs values) (λ j m e. omega (arith, p.before j (omega arith)))

  pub placed_other : index < count → (offset_at pairs index ≢ k) → stretch (view count pairs values) k ≡ []
  unfolding view
  placed_other l n = stretch_none k count (diagonal_at pairs values) (λ j m e. by_order j m e (lt_or_ge j index))
    where
      after : (j : ℕ) → j < count → offset_at pairs j ≡ k → index ≤ j → ⊥
      after j m e h =
          ⊎_elim
          (λ (q : index ≡ j). n (ap (offset_at pairs) q ∙ e))
          (λ (q : index < j). omega (arith, w.rising index j q m, p.here l))
          (eq-or-lt_of_le h)

      by_order : (j : ℕ) → j < count → offset_at pairs j ≡ k → (j < index) ⊎ (index ≤ j) → ⊥
      by_order j m e (inl q) = omega (arith, p.before j q)
      by_order j m e (inr q) = after j m e q

  pub placed_here : index < count → offset_at pairs index ≡ k → stretch (view count pairs values) k ≡ take (length_at pairs index) (drop (start_at pairs index) values)
  unfolding view
  placed_here l e = stretch_found k count (diagonal_at pairs values) index l e (λ j m q. omega (arith, p.before j m))

  -- of a pair that is there, the values are too
  pub placed_low : (index ≢ count) → index < count
  placed_low n = omega (arith, p.inside, n)

  pub placed_fits : {start len : ℕ} → (index ≢ count) → start ≡ start_at pairs index → len ≡ length_at pairs index → start + len ≤ length values
  placed_fits n s l = rw (s, l) (values_end w index (placed_low n))
