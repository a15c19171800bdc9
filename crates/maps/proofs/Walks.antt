-- The walks that build a map of summands: a summand more, an output more, for marks and for sums.
-- Assumes nothing.
use Rattle.std.proofs.Common.{◌≡◌, ℕ, ◌+◌, ◌*◌, ◌<◌, ◌≤◌, Bool, true, List, [], ◌∷◌, ◌++◌, length, get_or, set, replicate, pos, ◌-ℤ◌, Option, None, Some, Result, Ok, Err, sym, refl, ap, ◌∙◌, subst, append_assoc, append-nil, eq-eqb}
use lib.ListN.{length-replicate}
use Rattle.ring.specs.Slots.{modulus, addm}
use Rattle.ring.specs.Residues.{residue_of}
use Rattle.ring.specs.declared.refusal.Refusal.{Refusal}
use Rattle.ring.specs.Refusals.{first_refusal, Range}
use Rattle.ring.specs.Laws.Refusals.{none_holds, inside}
use Rattle.diagonals.specs.SlotMaps.{Term, offset_of, reached}
use Rattle.diagonals.specs.Calls.{period_refusals, ZeroMapWritten}
use Rattle.diagonals.specs.Building.{MarksOf, PlacesOf, SumsOf}
use Rattle.diagonals.specs.Laws.Terms.{rows_more, reached_row, marks_more, entry_inside, sums_more, sums_self, sums_then, zero_refused, zero_places, zero_sums, zero_written}
use Rattle.ring.specs.Lists.{join}
use Rattle.ring.specs.Vectors.{tabulate}
use Rattle.ring.specs.Laws.Lists.{join_map}
use Rattle.ring.specs.Laws.Vectors.{map_tabulate, tabulate_cong}
use Rattle.maps.specs.declared.building.Summand.{Summand}
use Rattle.maps.specs.Steps.Building.{term_of, row_upto, rows_upto, Placed, Built}

-- rows that are alike below n
pub rows_same : (f g : ℕ → List Term) (n : ℕ) → ((u : ℕ) → u < n → f u ≡ g u) → join f (tabulate n (λ u. u)) ≡ join g (tabulate n (λ u. u))
rows_same f g n same = by_tables f n ∙ ap (join (λ ts. ts)) (tabulate_cong n f g same) ∙ sym (by_tables g n)
  where
    by_tables : (f : ℕ → List Term) (n : ℕ) → join f (tabulate n (λ u. u)) ≡ join (λ ts. ts) (tabulate n f)
    by_tables f n = sym (ap (join (λ ts. ts)) (sym (map_tabulate f n (λ u. u))) ∙ join_map f (λ ts. ts) (tabulate n (λ u. u)))

module _ (f : ℕ → ℕ → Option Summand) (width : ℕ) where
  -- the terms of the outputs before t and of the first l summands of output t
  abbrev pub upto : ℕ → ℕ → List Term
  upto t l = rows_upto f width t ++ row_upto (f t) t l

  more : (t l : ℕ) → upto t (l + 1) ≡ upto t l ++ term_of t (f t l)
  more t l = ap (λ (ts : List Term). rows_upto f width t ++ ts) (rows_more (λ i. term_of t (f t i)) l) ∙ sym (append_assoc (rows_upto f width t) (row_upto (f t) t l) (term_of t (f t l)))

  more_none : (t l : ℕ) → f t l ≡ None → upto t (l + 1) ≡ upto t l
  more_none t l h = more t l ∙ rw h (append-nil (upto t l))

  more_some : (t l : ℕ) (s : Summand) → f t l ≡ Some s → upto t (l + 1) ≡ upto t l ++ (record { i = t; j = s.j; w = s.w } ∷ [])
  more_some t l s h = more t l ∙ rw h

  -- a row begins with none of its summands, and ends with all
  begun : (t : ℕ) → rows_upto f width t ≡ upto t 0
  begun t = sym (append-nil (rows_upto f width t))

  done : (t l : ℕ) → l ≡ width → upto t l ≡ rows_upto f width (t + 1)
  done t l e = rw e (sym (rows_more (λ u. row_upto (f u) u width) t))

-- ---- marks

pub record MarkingRow (f : ℕ → ℕ → Option Summand) (width slots t : ℕ) (seen : List Bool) (l : ℕ) : Type 0 where
  pub so_far : MarksOf slots (upto f width t l) seen

pub marking_none : {f : ℕ → ℕ → Option Summand} {width slots t : ℕ} {seen : List Bool} → MarksOf slots (rows_upto f width t) seen → MarkingRow f width slots t seen 0
marking_none {f} {width} {slots} {t} {seen} m = record { so_far = subst (λ ts. MarksOf slots ts seen) (begun f width t) m }

module _ {f : ℕ → ℕ → Option Summand} {width slots t l : ℕ} {seen : List Bool} (m : MarkingRow f width slots t seen l) where
  -- a summand that is there, and one that is not
  pub marking_some : {s : Summand} {o : ℕ} → Range slots → f t l ≡ Some s → o ≡ residue_of (pos s.j -ℤ pos t) slots → MarkingRow f width slots t (set seen o true) (l + 1)
  marking_some {s} {o} r h e =
      record { so_far = subst (λ ts. MarksOf slots ts (set seen o true)) (sym (more_some f width t l s h)) (marks_more m.so_far r.low r.high (record { i = t; j = s.j; w = s.w }) e) }

  pub marking_same : f t l ≡ None → MarkingRow f width slots t seen (l + 1)
  marking_same h = record { so_far = subst (λ ts. MarksOf slots ts seen) (sym (more_none f width t l h)) m.so_far }

  pub marking_done : l ≡ width → MarksOf slots (rows_upto f width (t + 1)) seen
  marking_done e = subst (λ ts. MarksOf slots ts seen) (done f width t l e) m.so_far

-- ---- sums

pub record SummingRow (f : ℕ → ℕ → Option Summand) (width slots period t : ℕ) (places old values : List ℕ) (l : ℕ) : Type 0 where
  pub range : Range slots
  pub placed : PlacesOf slots (rows_upto f width period) places
  pub so_far : SumsOf modulus slots period (rows_upto f width period) (upto f width t l) old values

pub summing_none : {f : ℕ → ℕ → Option Summand} {width slots period t : ℕ} {places old values : List ℕ} → Placed modulus slots period f width places t old values → SummingRow f width slots period t places old values 0
summing_none {f} {width} {slots} {period} {t} {old = old} {values} p =
    record { range = p.range; placed = p.placed; so_far = subst (λ ts. SumsOf modulus slots period (rows_upto f width period) ts old values) (begun f width t) p.sums }

module _ {f : ℕ → ℕ → Option Summand} {width slots period t l : ℕ} {places old values : List ℕ} (m : SummingRow f width slots period t places old values l) where
  module _ {s : Summand} {o place : ℕ} (h : f t l ≡ Some s) (e : o ≡ residue_of (pos s.j -ℤ pos t) slots) (q : place ≡ get_or places o 0) (lt : t < period) (ll : l < width) where
    abbrev term : Term
    term = record { i = t; j = s.j; w = s.w }

    -- it is among the terms of all
    is_reached : reached slots (rows_upto f width period) o ≡ true
    is_reached =
        reached_row (λ u. row_upto (f u) u width) slots o period t lt
        (reached_row (λ i. term_of t (f t i)) slots o width l ll (rw (h, eq-eqb (offset_of slots term) o (sym e))))

    pub summing_inside : place * period + t < length values
    summing_inside = entry_inside m.so_far m.placed term m.range.low e lt is_reached q

    pub summing_some : {v : ℕ} → v ≡ addm modulus (get_or values (place * period + t) 0) s.w → SummingRow f width slots period t places old (set values (place * period + t) v) (l + 1)
    summing_some {v} w =
        record {
          range = m.range;
          placed = m.placed;
          so_far = subst (λ ts. SumsOf modulus slots period (rows_upto f width period) ts old (set values (place * period + t) v)) (sym (more_some f width t l s h)) (sums_more m.so_far m.placed term m.range.low e lt is_reached q w);
        }

  -- the place of a summand, by the facts of the walk
  pub summing_read : {s : Summand} {o P W : ℕ} {r : Option Summand} → r ≡ f t l → r ≡ Some s → o ≡ residue_of (pos s.j -ℤ pos t) slots → t < P → period ≡ P → W ≡ width → l < W → get_or places o 0 * period + t < length values
  summing_read a b e lt p w ll = summing_inside (sym a ∙ b) e refl (rw p lt) (rw (← w) ll)

  pub summing_same : f t l ≡ None → SummingRow f width slots period t places old values (l + 1)
  summing_same h = record { range = m.range; placed = m.placed; so_far = subst (λ ts. SumsOf modulus slots period (rows_upto f width period) ts old values) (sym (more_none f width t l h)) m.so_far }

  pub summing_done : l ≡ width → SumsOf modulus slots period (rows_upto f width period) (rows_upto f width (t + 1)) old values
  summing_done e = subst (λ ts. SumsOf modulus slots period (rows_upto f width period) ts old values) (done f width t l e) m.so_far

module _ {f : ℕ → ℕ → Option Summand} {width slots period t : ℕ} {places old values : List ℕ} (p : Placed modulus slots period f width places t old values) where
  -- what the sums of one output ask
  pub row_asked : Placed modulus slots period f width places t values values
  row_asked = record { range = p.range; placed = p.placed; sums = sums_self p.sums }

  pub row_summed : {new : List ℕ} → SumsOf modulus slots period (rows_upto f width period) (rows_upto f width (t + 1)) values new → Placed modulus slots period f width places (t + 1) old new
  row_summed n = record { range = p.range; placed = p.placed; sums = sums_then p.sums n }

-- ---- the map

-- a new table of places
pub table_size : length {A = ℕ} (replicate 65536 0) ≡ 65536
table_size = length-replicate {A = ℕ} 65536 0

pub range_of : (slots period : ℕ) → first_refusal (period_refusals slots period) ≡ None → Range slots
range_of slots period j = let r = inside slots (none_holds (period_refusals slots period) j).0 in record { low = r.0; high = r.1 }

module _ (f : ℕ → ℕ → Option Summand) (width : ℕ) {slots period : ℕ} (j : first_refusal (period_refusals slots period) ≡ None) {seen : List Bool} (k : MarksOf slots (rows_upto f width period) seen)
    {places₀ places₁ pairs₀ pairs₁ values₀ values₁ : List ℕ} {r : Result ℕ Refusal} (size : length places₀ ≡ 65536) (z : ZeroMapWritten slots period seen places₀ places₁ pairs₀ pairs₁ values₀ values₁ r) where
  fit : slots ≤ length places₀
  fit = rw size (range_of slots period j).high

  -- no room
  pub built_refused : {x : Refusal} → r ≡ Err x → Built modulus slots period f width pairs₀ pairs₁ values₀ values₁ (Err x)
  built_refused h = zero_refused modulus k j fit refl z h

  module _ {n : ℕ} (h : r ≡ Ok n) where
    -- zeros, to which the terms are added
    pub zeros_placed : Placed modulus slots period f width places₁ 0 values₁ values₁
    zeros_placed = record { range = range_of slots period j; placed = zero_places modulus k j fit refl z h; sums = zero_sums modulus k j fit refl z h }

    pub built : {values₂ : List ℕ} → SumsOf modulus slots period (rows_upto f width period) (rows_upto f width period) values₁ values₂ → Built modulus slots period f width pairs₀ pairs₁ values₀ values₂ (Ok n)
    built s = zero_written modulus k j fit refl z h s
