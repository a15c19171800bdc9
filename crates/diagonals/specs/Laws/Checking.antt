-- The walk that checks the pairs of a map one after the other: what it keeps, a turn, and each way out.
-- Assumes nothing.
use Rattle.std.specs.Prelude.{◌≡◌, ℕ, zero, suc, ◌+◌, ◌*◌, ◌<◌, ◌≤◌, Bool, true, false, ◌&&◌, leb, List, length, ◌≢◌, nat_le, refl}
use Rattle.std.proofs.Common.{sym, ap, ◌∙◌, le_trans, add-one, arith, below_none, below_more, leb-true, leb-false, le-leb}
use Rattle.std.proofs.Math.Nat.{le_of_dvd}
use Rattle.ring.specs.Divisors.{divides}
use Rattle.ring.specs.Searches.{every}
use Rattle.ring.specs.Laws.Searches.{by_false, both, first, second, every_all, every_fails}
use Rattle.ring.specs.Laws.Divisors.{divides_dvd, divides_yes}
use Rattle.diagonals.specs.Maps.{offset_at, length_at, start_at, formed_at}
use Rattle.diagonals.specs.Laws.Maps.{start_more, end_within, inside_whole, whole_inside, next_of, formed_at_lem, formed_passes}
use Rattle.diagonals.specs.Steps.Reading.{Divisor}

-- a pair of a well-formed map, whatever its values are
pub record Stored (slots : ℕ) (pairs : List ℕ) (i : ℕ) : Type 0 where
  pub low : offset_at pairs i < slots
  pub divisor : Divisor slots (length_at pairs i)
  pub next : next_of pairs i ≤ offset_at pairs i

pub record Checking (slots count : ℕ) (pairs : List ℕ) (total next i : ℕ) : Type 0 where
  pub room : i ≤ count
  pub so_far : (j : ℕ) → j < i → Stored slots pairs j
  pub next_is : next ≡ next_of pairs i
  pub low : i ≤ next
  pub high : next ≤ slots
  pub total_is : total ≡ start_at pairs i
  pub small : total ≤ i * 65536

pub checking_none : (slots count : ℕ) (pairs : List ℕ) → Checking slots count pairs 0 0 0
checking_none slots count pairs =
    record {
      room = omega arith;
      so_far = below_none _;
      next_is = refl;
      low = omega arith;
      high = omega arith;
      total_is = refl;
      small = omega arith;
    }

module _ {slots count : ℕ} {pairs : List ℕ} {total next i : ℕ} (c : Checking slots count pairs total next i) (l : i < count) {offset len : ℕ} (eo : offset ≡ offset_at pairs i) (el : len ≡ length_at pairs i) where
  -- a turn
  module _ (s : (1 ≤ slots) × (slots ≤ 65536)) (a : next ≤ offset) (b : offset < slots) (p : (nat_le 1 len && divides len slots) ≡ true) where
    pub divisor_more : Divisor slots len
    divisor_more = record { some = leb-true _ _ (first (nat_le 1 len) (divides len slots) p); divides = divides_dvd _ _ (second (nat_le 1 len) (divides len slots) p) }

    pub len_small : len ≤ 65536
    len_small = omega (arith, le_of_dvd s.0 divisor_more.divides)

    stored_here : Stored slots pairs i
    stored_here = record { low = omega arith; divisor = rw (← el) divisor_more; next = omega (arith, c.next_is) }

    pub checking_more : Checking slots count pairs (total + len) (offset + 1) (i + 1)
    checking_more =
        record {
          room = omega arith;
          so_far = below_more _ _ c.so_far stored_here;
          next_is = rw (add-one i, add-one offset) (ap suc eo);
          low = omega (arith, c.low);
          high = omega arith;
          total_is = rw (el, c.total_is) (sym (start_more pairs i));
          small = omega (arith, c.small, len_small);
        }

  -- ways out
  module _ (values : List ℕ) where
    fails : (formed_at slots pairs values i ≢ true) → false ≡ every (formed_at slots pairs values) count
    fails h = sym (every_fails (formed_at slots pairs values) count i l (by_false h))

    pub fails_rise : offset < next → false ≡ every (formed_at slots pairs values) count
    fails_rise h = fails (λ t. omega (arith, (formed_at_lem slots pairs values i t).next, c.next_is))

    pub fails_low : slots ≤ offset → false ≡ every (formed_at slots pairs values) count
    fails_low h = fails (λ t. omega (arith, (formed_at_lem slots pairs values i t).formed.low))

    pub fails_len : (nat_le 1 len && divides len slots) ≡ false → false ≡ every (formed_at slots pairs values) count
    fails_len e = fails (λ t. true_false (sym (tested t) ∙ ap (λ (x : ℕ). nat_le 1 x && divides x slots) (sym el) ∙ e))
      where
        true_false : true ≡ false → ⊥
        true_false q = mathlib.Core.Bool.true≢false q

        tested : formed_at slots pairs values i ≡ true → (nat_le 1 (length_at pairs i) && divides (length_at pairs i) slots) ≡ true
        tested t =
            let f = formed_at_lem slots pairs values i t in
            both (le-leb _ _ (rw f.whole at f.formed.some)) (divides_yes _ _ (rw f.whole at f.formed.divides))

-- all pairs are looked at, and the values decide
module _ {slots count : ℕ} {pairs : List ℕ} {total next i : ℕ} (c : Checking slots count pairs total next i) (h : count ≤ i) (values : List ℕ) where
  pub total_is : total ≡ start_at pairs count
  total_is = let e : i ≡ count = omega (arith, c.room) in c.total_is ∙ ap (start_at pairs) e

  stored_at : (j : ℕ) → j < count → Stored slots pairs j
  stored_at j l = c.so_far j (omega arith)

  all_inside : start_at pairs count ≤ length values → every (formed_at slots pairs values) count ≡ true
  all_inside m =
      every_all (formed_at slots pairs values) count
      (λ j l.
      let s = stored_at j l in
      formed_passes slots pairs values j s.low s.divisor.some s.divisor.divides (inside_whole pairs values j (le_trans (end_within pairs j count l) m)) s.next)

  -- the values of the last are not all there
  last_outside : (n : ℕ) → count ≡ n → length values < start_at pairs n → every (formed_at slots pairs values) count ≡ false
  last_outside zero e m = absurd (omega arith)
  last_outside (suc n) e m =
      every_fails (formed_at slots pairs values) count n (omega arith)
      (by_false (λ t. omega (arith, whole_inside pairs values n (stored_at n (omega arith)).divisor.some (formed_at_lem slots pairs values n t).whole)))

  pub checking_done : leb total (length values) ≡ every (formed_at slots pairs values) count
  checking_done = rw total_is (by (nat_le (start_at pairs count) (length values)) refl)
    where
      by : (b : Bool) → nat_le (start_at pairs count) (length values) ≡ b → b ≡ every (formed_at slots pairs values) count
      by true e = sym (all_inside (leb-true _ _ e))
      by false e = sym (last_outside count refl (leb-false _ _ e))

-- a length that is a divisor of slots passes
pub divisor_passes : {slots last len : ℕ} → Divisor slots last → len ≡ last → (nat_le 1 len && divides len slots) ≡ true
divisor_passes d e = rw e (both (le-leb _ _ d.some) (divides_yes _ _ d.divides))
