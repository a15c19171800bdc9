-- The walk that finds the common period: what the loop of `common_period` keeps, and a turn.
-- Assumes nothing.
use Rattle.ring.specs.Laws.Answers.{same_value}
use Rattle.ring.specs.Calls.{period_refusal, lcm_refusal}
use Rattle.ring.specs.Answers.{answered}
use Rattle.ring.specs.declared.refusal.Refusal.{Refusal}
use Rattle.ring.specs.Laws.Refusals.{inside, not_outside}
use Rattle.std.proofs.Common.{◌≡◌, ℕ, ◌+◌, ◌<◌, ◌≤◌, List, [], ◌∷◌, map, length, drop, sym, refl, ap, ◌∙◌, le_refl, arith, false, Result, Ok}
use Prim.Native.Nat.{◌∣◌}
use mathlib.Core.List.{map-append}
use native.Mathlib.Nat.{le_of_dvd, one-dvd, dvd_trans}
use Rattle.ring.specs.Lists.{Each}
use Rattle.ring.specs.Divisors.{lcm_of, lcm_all}
use Rattle.ring.specs.Periods.{min_period}
use Rattle.ring.specs.Laws.Lists.{each_map}
use Rattle.ring.specs.Laws.Divisors.{lcm_law, lcm_pos, lcm_all_snoc}
use Rattle.ring.specs.Laws.Periods.{min_is, positive}
use Rattle.diagonals.specs.Maps.{diagonal_at, start_at, view, WellFormed}
use Rattle.diagonals.specs.Shrinking.{common_period}
use Rattle.ring.specs.Refusals.{Range, outside}
use Rattle.diagonals.specs.Steps.Writing.{Common}
use Rattle.diagonals.specs.Laws.Maps.{view_more, each_view}

pub record Folding (slots count : ℕ) (pairs values : List ℕ) (period : ℕ) (rest : List ℕ) (i : ℕ) : Type 0 where
  pub room : i ≤ count
  pub rest_is : rest ≡ drop (start_at pairs i) values
  pub period_is : period ≡ common_period (view i pairs values)
  pub some : 1 ≤ period
  pub divides : period ∣ slots

pub folding_none : (slots count : ℕ) (pairs values : List ℕ) → Folding slots count pairs values 1 values 0
unfolding common_period view
folding_none slots count pairs values = record { room = omega arith; rest_is = refl; period_is = refl; some = le_refl 1; divides = one-dvd slots }

abbrev pub smallest_at : List ℕ → List ℕ → ℕ → ℕ
smallest_at pairs values i = min_period (diagonal_at pairs values i).values

-- the smallest period of a stored one divides slots
module _ {slots count : ℕ} {pairs values : List ℕ} (w : WellFormed slots count pairs values) (i : ℕ) (l : i < count) where
  some_values : 1 ≤ length (diagonal_at pairs values i).values
  some_values = (w.each i l).some

  pub smallest_divides : smallest_at pairs values i ∣ slots
  smallest_divides = dvd_trans _ (min_is _ some_values).divides (w.each i l).divides

  pub smallest_some : 1 ≤ smallest_at pairs values i
  smallest_some = positive (min_is _ some_values)

module _ {slots count : ℕ} {pairs values rest : List ℕ} {period i : ℕ} (w : WellFormed slots count pairs values) (f : Folding slots count pairs values period rest i) (l : i < count) where
  -- the smallest periods of the diagonals passed
  passed : Each (λ x. 1 ≤ x) (map (λ d. min_period d.values) (view i pairs values))
  passed = each_map (λ x. 1 ≤ x) (λ d. min_period d.values) (view i pairs values) (each_view (λ d. 1 ≤ min_period d.values) i pairs values (λ j m. smallest_some w j (omega (arith, f.room))))

  pub folding_more : {m p : ℕ} {behind : List ℕ} → behind ≡ drop (start_at pairs (i + 1)) values → m ≡ smallest_at pairs values i → p ≡ lcm_of period m → Folding slots count pairs values p behind (i + 1)
  unfolding common_period
  folding_more {m} {p} eb em ep =
      let s = smallest_at pairs values i in
      let q : p ≡ lcm_of period s = ep ∙ ap (lcm_of period) em in
      let h = lcm_law period s f.some (smallest_some w i l) in
      let d : lcm_of period s ∣ slots = h.most slots f.divides (smallest_divides w i l) in
      record {
        room = omega arith;
        rest_is = eb;
        period_is = q ∙ ap (λ (x : ℕ). lcm_of x s) f.period_is ∙ sym (lcm_all_snoc (map (λ d. min_period d.values) (view i pairs values)) s passed (smallest_some w i l)) ∙ ap lcm_all (sym (map-append (λ d. min_period d.values) (view i pairs values) (diagonal_at pairs values i ∷ [])) ∙ ap (map (λ d. min_period d.values)) (sym (view_more i pairs values)));
        some = rw q (lcm_pos period s f.some (smallest_some w i l));
        divides = rw q d;
      }

  -- the part that is split off is not refused
  pub part_range : {part : List ℕ} → Range slots → part ≡ (diagonal_at pairs values i).values → Range (length part)
  part_range r e = rw e (record { low = (w.each i l).some; high = omega (arith, le_of_dvd r.low (w.each i l).divides, r.high) })

  -- the two periods whose common one is taken
  pub smallest_range : Range slots → Range (smallest_at pairs values i)
  smallest_range r = record { low = smallest_some w i l; high = omega (arith, le_of_dvd r.low (smallest_divides w i l), r.high) }

pub period_range : {slots count : ℕ} {pairs values rest : List ℕ} {period i : ℕ} → Folding slots count pairs values period rest i → Range slots → Range period
period_range f r = record { low = f.some; high = omega (arith, le_of_dvd r.low f.divides, r.high) }

pub folding_done : {slots count : ℕ} {pairs values rest : List ℕ} {period i : ℕ} → Folding slots count pairs values period rest i → Range slots → count ≤ i → Common (view count pairs values) period
folding_done {count} {i} f r l = let e : count ≡ i = omega (arith, f.room) in record { is = rw e f.period_is; range = period_range f r }

-- neither a stored diagonal nor a period of one is refused
pub range_of : (slots : ℕ) → outside slots ≡ false → Range slots
range_of slots o = let s = inside slots o in record { low = s.0; high = s.1 }

period_given : (part : List ℕ) {r : Result ℕ Refusal} → Range (length part) → r ≡ answered (period_refusal part) (min_period part) → r ≡ Ok (min_period part)
period_given part g e = e ∙ rw (not_outside (length part) g.low g.high) refl

lcm_given : (a b : ℕ) {r : Result ℕ Refusal} → Range a → Range b → r ≡ answered (lcm_refusal a b) (lcm_of a b) → r ≡ Ok (lcm_of a b)
lcm_given a b g h e = e ∙ rw (not_outside a g.low g.high, not_outside b h.low h.high) refl

-- the smallest period of the part that is split off, and the common period with it
module _ {slots count : ℕ} {pairs values rest : List ℕ} {period i : ℕ} (w : WellFormed slots count pairs values) (f : Folding slots count pairs values period rest i) (l : i < count) (o : outside slots ≡ false) where
  pub smallest_given : (part : List ℕ) {r : Result ℕ Refusal} → part ≡ (diagonal_at pairs values i).values → r ≡ answered (period_refusal part) (min_period part) → r ≡ Ok (min_period part)
  smallest_given part p e = period_given part (part_range w f l (range_of slots o) p) e

  pub smallest_is : (part : List ℕ) {r : Result ℕ Refusal} {v : ℕ} → part ≡ (diagonal_at pairs values i).values → r ≡ answered (period_refusal part) (min_period part) → r ≡ Ok v → v ≡ smallest_at pairs values i
  smallest_is part p e q = same_value (sym q ∙ smallest_given part p e) ∙ ap min_period p

  pub common_given : (v : ℕ) {r : Result ℕ Refusal} → v ≡ smallest_at pairs values i → r ≡ answered (lcm_refusal period v) (lcm_of period v) → r ≡ Ok (lcm_of period v)
  common_given v s e = lcm_given period v (period_range f (range_of slots o)) (rw s (smallest_range w f l (range_of slots o))) e
