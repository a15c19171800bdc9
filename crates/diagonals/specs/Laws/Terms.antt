-- Terms brought one after the other, by whatever loops: their marks, and their sums in the values of a map of zeros,
-- which make it the slot map.
-- Assumes nothing.
use Rattle.std.specs.Prelude.{◌≡◌, ℕ, zero, suc, ◌+◌, ◌*◌, ◌/◌, ◌%◌, ◌<◌, ◌≤◌, Bool, true, false, not, ◌&&◌, ◌||◌, List, [], ◌∷◌, ◌++◌, length, replicate, ◌==◌, ◌≢◌, nat_eq, nat_lt, slice_index, slice_index_or, slice_set, refl, None, Option, Result, Ok, Err}
use Rattle.std.proofs.Common.{sym, ap, ◌∙◌, append-nil, not-suc-le-zero, le_of_suc-le-suc, mod-eq_of_lt, add-zero, mul-le-mul_right, div-lt_iff_lt-mul, div-add-mod', arith, eq-eqb, ne_eqb, eqb-true, le-ltb, length-set, get_or-set_same, get_or-set_other}
use Rattle.std.proofs.Math.Bool.{or-true, or-false}
use Rattle.std.proofs.Math.Nat.{div-eq_of_lt, mul-add-div_right, mul-add-mod_self_right}
use Rattle.std.proofs.Math.Decide.{ℕ_discrete}
use Rattle.std.proofs.lemmas.Bool.{eqb-false}
use Rattle.std.proofs.lemmas.List.{length-replicate}
use Rattle.ring.specs.Slots.{addm}
use Rattle.ring.specs.Lists.{join}
use Rattle.ring.specs.Vectors.{tabulate, filled}
use Rattle.ring.specs.Searches.{below}
use Rattle.ring.specs.Marks.{marks, Unmarked}
use Rattle.ring.specs.Refusals.{first_refusal}
use Rattle.ring.specs.declared.refusal.Refusal.{Refusal}
use Rattle.ring.specs.declared.refusal.Refusal.TheVariants.{Room}
use Rattle.ring.specs.Laws.Slots.{addm_comm, zero_addm}
use Rattle.ring.specs.Laws.Lists.{join_append, sum_by_snoc, sum_by_mod}
use Rattle.ring.specs.Laws.Vectors.{tabulate_more, length_tabulate, length_filled, filled_front, filled_at, filled_filled, filled_set}
use Rattle.ring.specs.Laws.Searches.{by_false, first, second}
use Rattle.ring.specs.Laws.Residues.{residue_lt}
use Rattle.ring.specs.Laws.Below.{below_before, below_at, below_rank, below_ext}
use Rattle.ring.specs.Divisors.{divides}
use Rattle.ring.specs.Laws.Refusals.{first_later, first_alone, none_holds, either}
use Rattle.ring.specs.Laws.Answers.{when_ok}
use Rattle.diagonals.specs.Maps.{Diagonal, pair_words, value_words}
use Rattle.diagonals.specs.SlotMaps.{Term, difference, offset_of, reached, weight, rank, slot_map, zero_map}
use Rattle.diagonals.specs.Calls.{map_room, MapWritten, marked, period_refusals, zero_map_refusal, ZeroMapWritten}
use Rattle.diagonals.specs.Building.{MarksOf, PlacesOf, SumsOf, sum_at}
use Rattle.diagonals.specs.Laws.SlotMaps.{reached_append, slot_map_count, slot_map_pairs, slot_map_values, zero_map_count, zero_map_values}
use Rattle.diagonals.specs.Laws.Calls.{room_fits, refused_any}

-- ---- terms by rows

module _ (f : ℕ → List Term) where
  -- a row more
  pub rows_more : (t : ℕ) → join f (tabulate (t + 1) (λ u. u)) ≡ join f (tabulate t (λ u. u)) ++ f t
  rows_more t = rw (tabulate_more t (λ (u : ℕ). u), join_append) (ap (λ (ts : List Term). join f (tabulate t (λ u. u)) ++ ts) (append-nil (f t)))

  reached_rows : (slots k n : ℕ) (g : ℕ → ℕ) (t : ℕ) → t < n → reached slots (f (g t)) k ≡ true → reached slots (join f (tabulate n g)) k ≡ true
  reached_rows slots k zero g t l h = absurd (not-suc-le-zero l)
  reached_rows slots k (suc n) g zero l h = rw (reached_append slots (f (g 0)) (join f (tabulate n (λ u. g (suc u)))) k, h)
  reached_rows slots k (suc n) g (suc t) l h =
      rw (reached_append slots (f (g 0)) (join f (tabulate n (λ u. g (suc u)))) k, reached_rows slots k n (λ u. g (suc u)) t (le_of_suc-le-suc l) h)
      (or-true (reached slots (f (g 0)) k))

  -- what a row reaches is reached
  pub reached_row : (slots k n t : ℕ) → t < n → reached slots (f t) k ≡ true → reached slots (join f (tabulate n (λ u. u))) k ≡ true
  reached_row slots k n t = reached_rows slots k n (λ u. u) t

-- ---- marks

no_marks : (n k : ℕ) → marks (replicate n false) k ≡ false
no_marks zero k = refl
no_marks (suc n) zero = refl
no_marks (suc n) (suc k) = no_marks n k

-- the diagonal of a term is below slots
pub offset_low : (slots : ℕ) (t : Term) → 0 < slots → offset_of slots t < slots
offset_low slots t p = residue_lt (difference t) slots p

-- a new table of marks
pub unmarked : Unmarked (replicate 65536 false)
unmarked = record { size = length-replicate 65536 false; none = no_marks 65536 }

mark_by : (seen : List Bool) (o k : ℕ) → o < length seen → Dec (o ≡ k) → marks (slice_set seen o true) k ≡ (marks seen k || (o == k || false))
mark_by seen o k h (yes e) = rw (← e, get_or-set_same seen o true false h, eq-eqb o o refl) (sym (or-true (marks seen o)))
mark_by seen o k h (no n) = rw (get_or-set_other seen o k true false (λ q. n (sym q)), ne_eqb o k n) (sym (or-false (marks seen k)))

pub marks_none : (slots : ℕ) {seen : List Bool} → Unmarked seen → MarksOf slots [] seen
marks_none slots u = record { size = u.size; marked = u.none }

pub marks_more : {slots o : ℕ} {ts : List Term} {seen : List Bool} → MarksOf slots ts seen → 0 < slots → slots ≤ 65536 → (t : Term) → o ≡ offset_of slots t → MarksOf slots (ts ++ (t ∷ [])) (slice_set seen o true)
marks_more {slots} {o} {ts} {seen} s p h t e =
    record {
      size = simp length-set s.size;
      marked = λ k.
          mark_by seen o k (omega (arith, offset_low slots t p, s.size)) (ℕ_discrete o k)
          ∙ rw (s.marked k, e)
          (sym (reached_append slots ts (t ∷ []) k));
    }

-- ---- sums

module _ {m slots period : ℕ} {all ts : List Term} {old values : List ℕ} (s : SumsOf m slots period all ts old values) where
  abbrev sums : List Term → ℕ → ℕ
  sums us = sum_at m slots period (below (reached slots all) slots) us

  abbrev total : ℕ
  total = rank (reached slots all) slots * period

  -- counted from now on
  pub sums_self : SumsOf m slots period all ts values values
  sums_self =
      record {
        so_far = s.so_far ∙ sym (filled_filled (sums ts) (sums ts) total old) ∙ ap (λ (vs : List ℕ). filled (sums ts) total vs) (sym s.so_far);
        len = refl;
        room = omega (arith, s.len, s.room);
      }

  -- and more from there on
  pub sums_then : {us : List Term} {new : List ℕ} → SumsOf m slots period all us values new → SumsOf m slots period all us old new
  sums_then {us} n =
      record {
        so_far = n.so_far ∙ ap (λ (vs : List ℕ). filled (sums us) total vs) s.so_far ∙ filled_filled (sums ts) (sums us) total old;
        len = n.len ∙ s.len;
        room = s.room;
      }

-- one term more, of diagonal k, whose place is r
module _ {m slots period k r : ℕ} {all ts : List Term} {old values places : List ℕ} (s : SumsOf m slots period all ts old values) (a : PlacesOf slots all places)
    (t : Term) (p-slots : 0 < slots) (o : k ≡ offset_of slots t) (i_low : t.i < period) (here : reached slots all k ≡ true) (e : r ≡ slice_index places k) where
  abbrev p : ℕ → Bool
  p = reached slots all

  abbrev x₀ : ℕ
  x₀ = r * period + t.i

  k_low : k < slots
  k_low = rw o (offset_low slots t p-slots)

  is_place : r ≡ rank p k
  is_place = e ∙ a.placed k k_low

  at_place : slice_index_or (below p slots) r 0 ≡ k
  at_place = rw is_place (below_at p slots k 0 k_low here)

  entry_low : x₀ < rank p slots * period
  entry_low =
      let h : r < rank p slots = omega (arith, is_place, below_before p k slots k_low here) in
      omega (arith, i_low, mul-le-mul_right {m = r + 1} {n = rank p slots} period (omega (arith, h)))

  pub entry_inside : x₀ < length values
  entry_inside = omega (arith, entry_low, s.room, s.len)

  entry_row : x₀ / period ≡ r
  entry_row = mul-add-div_right (omega (arith, i_low)) r t.i ∙ rw (div-eq_of_lt i_low) (add-zero r)

  entry_column : x₀ % period ≡ t.i
  entry_column = mul-add-mod_self_right r period t.i ∙ mod-eq_of_lt i_low

  abbrev sum_of : List Term → ℕ → ℕ
  sum_of us = sum_at m slots period (below p slots) us

  sum_more : (x : ℕ) → sum_of (ts ++ (t ∷ [])) x ≡ addm m (sum_of ts x) (weight slots (slice_index (below p slots) (x / period)) (x % period) t)
  sum_more x = sum_by_snoc m (weight slots (slice_index (below p slots) (x / period)) (x % period)) ts t

  -- at the entry the term's weight is added
  sum_here : addm m (sum_of ts x₀) t.w ≡ sum_of (ts ++ (t ∷ [])) x₀
  sum_here =
      sym (sum_more x₀
      ∙ rw (entry_row, entry_column, at_place, eq-eqb (offset_of slots t) k (sym o), eq-eqb t.i t.i refl))

  -- and elsewhere nothing
  elsewhere : (x : ℕ) → x < rank p slots * period → (x ≢ x₀) → (offset_of slots t == slice_index (below p slots) (x / period) && t.i == x % period) ≢ true
  elsewhere x l n h =
      let b : Bool = nat_eq (offset_of slots t) (slice_index (below p slots) (x / period)) in
      let c : Bool = nat_eq t.i (x % period) in
      let u : k ≡ slice_index_or (below p slots) (x / period) 0 = o ∙ eqb-true _ _ (first b c h) in
      let v : t.i ≡ x % period = eqb-true _ _ (second b c h) in
      let y : rank p k ≡ x / period = rw u (below_rank p slots (x / period) 0 ((div-lt_iff_lt-mul (omega (arith, i_low))).1 l)) in
      n (sym (div-add-mod' x period) ∙ rw (← y, ← is_place, ← v))

  sum_elsewhere : (x : ℕ) → x < rank p slots * period → (x ≢ x₀) → sum_of ts x ≡ sum_of (ts ++ (t ∷ [])) x
  sum_elsewhere x l n =
      sym (sum_more x
      ∙ rw (by_false (elsewhere x l n), addm_comm, zero_addm) (sum_by_mod m (weight slots (slice_index (below p slots) (x / period)) (x % period)) ts))

  pub sums_more : {v : ℕ} → v ≡ addm m (slice_index values x₀) t.w → SumsOf m slots period all (ts ++ (t ∷ [])) old (slice_set values x₀ v)
  sums_more {v} f =
      record {
        so_far = rw s.so_far (filled_set _ _ (rank p slots * period) old x₀ v entry_low (f ∙ rw (s.so_far, filled_at _ (rank p slots * period) old 0 x₀ entry_low) sum_here) sum_elsewhere);
        len = simp length-set s.len;
        room = s.room;
      }

-- ---- the map

-- a period that is not refused
pub period_some : (slots period : ℕ) → first_refusal (period_refusals slots period) ≡ None → 0 < period
period_some slots period j =
    let h = (none_holds (period_refusals slots period) j).1.0 in
    some (eqb-false period 0 (either (period == 0) (not (divides period slots)) h).0)
  where
    some : (period ≢ 0) → 0 < period
    some n = omega (arith, n)

-- zeros laid out at the marks of the terms, under the refusal e of a call in which only the room was left to refuse for
module _ (m : ℕ) {slots period : ℕ} {ts : List Term} {seen : List Bool} (k : MarksOf slots ts seen) (j : first_refusal (period_refusals slots period) ≡ None)
    {e : Option Refusal} {places₀ places₁ pairs₀ pairs₁ values₀ values₁ : List ℕ} {r : Result ℕ Refusal} (fit : slots ≤ length places₀) (q : e ≡ first_refusal (map_room (slot_map m slots period ts) pairs₀ values₀))
    (z : ZeroMapWritten slots period seen places₀ places₁ pairs₀ pairs₁ values₀ values₁ r) where
  abbrev count : ℕ
  count = rank (reached slots ts) slots

  abbrev whole : List Diagonal
  whole = slot_map m slots period ts

  abbrev blank : List Diagonal
  blank = zero_map period (marked slots seen)

  marked_are : (n : ℕ) → below (marks seen) n ≡ below (reached slots ts) n
  marked_are n = below_ext (marks seen) (reached slots ts) n (λ v l. k.marked v)

  same_pairs : pair_words blank ≡ pair_words whole
  same_pairs = rw (slot_map_pairs, marked_are slots)

  zeros : value_words blank ≡ tabulate (count * period) (λ _. 0)
  zeros = zero_map_values period (marked slots seen) (period_some slots period j) ∙ rw (marked_are slots)

  sums_are : value_words whole ≡ tabulate (count * period) (sum_at m slots period (below (reached slots ts) slots) ts)
  sums_are = slot_map_values m slots period ts (period_some slots period j)

  same_count : length blank ≡ length whole
  same_count = rw (zero_map_count, slot_map_count, marked_are slots)

  same_total : length (value_words blank) ≡ length (value_words whole)
  same_total = ap length zeros ∙ length_tabulate {A = ℕ} (count * period) (λ _. 0) ∙ sym (ap length sums_are ∙ length_tabulate (count * period) _)

  refusal_is : zero_map_refusal slots period seen places₀ pairs₀ values₀ ≡ e
  refusal_is =
      first_alone (period_refusals slots period ++ map_room blank pairs₀ values₀) ((nat_lt (length places₀) slots, Room) ∷ []) (rw (le-ltb (length places₀) slots fit))
      ∙ first_later (period_refusals slots period) (map_room blank pairs₀ values₀) j
      ∙ rw (same_count, same_total) (sym q)

  pub zero_refused : {x : Refusal} → r ≡ Err x → MapWritten e whole pairs₀ pairs₁ values₀ values₁ (Err x)
  zero_refused h = refused_any {ds = blank} (rw (refusal_is, h) at z.written)

  module _ {n : ℕ} (h : r ≡ Ok n) where
    answer_is : (zero_map_refusal slots period seen places₀ pairs₀ values₀ ≡ None) × (n ≡ length blank)
    answer_is = when_ok (zero_map_refusal slots period seen places₀ pairs₀ values₀) (length blank) n (sym h ∙ z.written.answer)

    accepted : e ≡ None
    accepted = sym refusal_is ∙ answer_is.0

    places_are : places₁ ≡ filled (rank (marks seen)) slots places₀
    places_are = z.places ∙ rw (refusal_is, accepted)

    -- the places of the diagonals
    pub zero_places : PlacesOf slots ts places₁
    zero_places = record { placed = λ v l. rw places_are (filled_at (rank (marks seen)) slots places₀ 0 v l) ∙ ap length (marked_are v) }

    pub zero_inside : slots ≤ length places₁
    zero_inside = rw (places_are, length_filled (rank (marks seen)) slots places₀ fit) fit

    room : count * period ≤ length values₀
    room = omega (arith, (room_fits whole pairs₀ values₀ (sym q ∙ accepted)).1, ap length sums_are, length_tabulate (count * period) (sum_at m slots period (below (reached slots ts) slots) ts))

    values_are : values₁ ≡ filled (λ _. 0) (count * period) values₀
    values_are = z.written.values ∙ rw (refusal_is, accepted, zeros, ← filled_front)

    pub zero_sums : SumsOf m slots period ts [] values₁ values₁
    zero_sums = sums_self {old = values₀} (record { so_far = values_are; len = rw (values_are) (length_filled _ (count * period) values₀ room); room = room })

    pub zero_written : {values₂ : List ℕ} → SumsOf m slots period ts ts values₁ values₂ → MapWritten e whole pairs₀ pairs₁ values₀ values₂ (Ok n)
    zero_written s =
        record {
          answer = rw accepted (ap Ok (answer_is.1 ∙ same_count));
          pairs = z.written.pairs ∙ rw (refusal_is, same_pairs);
          values = rw (accepted, sums_are, ← filled_front) (s.so_far ∙ rw values_are (filled_filled _ _ (count * period) values₀));
        }
