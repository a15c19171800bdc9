-- Chains that start at a range from 0: the numbers that they take, and how many of them pass a test.
-- Assumes nothing.
use mathlib.Core.List.{map-id}
use native.Mathlib.Nat.{zero-add, add-zero, sub-zero}
use Rattle.std.proofs.Common.{◌≡◌, ℕ, zero, suc, ◌+◌, ◌-◌, ◌≤◌, ◌++◌, Bool, true, false, cond, List, length, map, refl, sym, ap, ◌∙◌, add-one, arith}
use Rattle.std.specs.List.{fold, sum_by, count_by, range_with_len}
use Rattle.std.specs.Iterator.Runs.{EveryRun}
use Rattle.std.proofs.iter.Yields.{nat_range_steps, Range-gives, gives_Drains, gives_left}
use Rattle.std.proofs.iter.runs.Lists.{fold-append, folded_grows}
use Rattle.std.proofs.iter.runs.Made.{took}
use Rattle.std.proofs.lemmas.List.FromFn.{sum_by-map-range_with_len_more}
use Rattle.ring.specs.Searches.{below}
use Rattle.ring.specs.Laws.Below.{below_no, length_below_yes}

-- the numbers below n
unfoldable pub upto : ℕ → List ℕ
upto n = range_with_len 0 n

-- a fold over what a run of a range from 0 takes: that over the numbers, where the run is whole, and else no more, if no step lowers it
pub range_folds : EveryRun nat_range_steps (λ p. (b : ℕ) × (b ≡ p.from.end) × ((h : ℕ → ℕ → ℕ) (n : ℕ) → p.from.start ≡ 0 → p.whole ≡ true → fold h n p.items ≡ fold h n (upto b)) × ((h : ℕ → ℕ → ℕ) (n : ℕ) → p.from.start ≡ 0 → ((a x : ℕ) → a ≤ h a x) → fold h n p.items ≤ fold h n (upto b)))
unfolding upto
range_folds p t =
    let d = took p in
    let at_zero : p.from.start ≡ 0 → range_with_len p.from.start (p.from.end - p.from.start) ≡ range_with_len 0 p.from.end = λ e. ap (λ a. range_with_len a (p.from.end - a)) e ∙ ap (range_with_len 0) (sub-zero p.from.end) in (
      p.from.end,
      refl,
      (λ h n e w. ap (fold h n) (sym (map-id p.items) ∙ gives_Drains nat_range_steps (λ x. x) p.items _ p.from (Range-gives p.from) ((d.2 w).0, (d.0, d.1, (d.2 w).1)) ∙ at_zero e)),
      λ h n e up.
          let l = gives_left nat_range_steps (λ x. x) p.items _ p.from d.0 (Range-gives p.from) d.1 in
          omega (arith, folded_grows h up l.0 (fold h n p.items), fold-append h n p.items l.0, ap (fold h n) (sym (at_zero e) ∙ l.1 ∙ ap (λ xs. xs ++ l.0) (map-id p.items))),
    )

pub sum_more : (f : ℕ → ℕ) (n : ℕ) → sum_by f (upto (suc n)) ≡ sum_by f (upto n) + f n
unfolding upto
sum_more f n =
    let h = sum_by-map-range_with_len_more f (λ k. k) 0 n n (zero-add n) in
    ap (sum_by f) (sym (map-id (range_with_len 0 (suc n))) ∙ ap (λ k. map (λ x. x) (range_with_len 0 k)) (sym (add-one n))) ∙ h ∙ ap (λ l. sum_by f l + f n) (map-id (range_with_len 0 n))

-- as many as there are below n
pub counted : (q : ℕ → Bool) (n : ℕ) → count_by q (upto n) ≡ length (below q n)
unfolding upto below
counted q zero = refl
counted q (suc n) = sum_more (λ x. cond (q x) 1 0) n ∙ one (q n) refl (counted q n) ∙ ap (λ k. length (below q k)) (add-one n)
  where
    one : (b : Bool) → q n ≡ b → count_by q (upto n) ≡ length (below q n) → count_by q (upto n) + cond (q n) 1 0 ≡ length (below q (n + 1))
    one true e h = rw e (ap (λ k. k + 1) h ∙ sym (length_below_yes q n e))
    one false e h = rw e (add-zero _ ∙ h ∙ sym (ap length (below_no q n e)))
