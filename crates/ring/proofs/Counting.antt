-- A loop that counts the numbers below a bound that pass a test: what it keeps, and a turn.
-- Assumes nothing.
use Rattle.std.proofs.Common.{◌≡◌, ℕ, ◌+◌, ◌<◌, ◌≤◌, Bool, true, false, List, length, take, slice_index_or, length-take, sym, refl, ap, ◌∙◌, arith}
use Rattle.std.proofs.lemmas.List.{get_or-take}
use Rattle.ring.specs.Searches.{below}
use Rattle.ring.specs.Marks.{marks}
use Rattle.ring.specs.Laws.Below.{below_le, below_no, length_below_yes}

-- of the numbers below k, `count` pass
pub record Counting (q : ℕ → Bool) (n count k : ℕ) : Type 0 where
  pub count_is : count ≡ length (below q k)
  pub room : k ≤ n

pub counting_none : (q : ℕ → Bool) (n : ℕ) → Counting q n 0 0
unfolding below
counting_none q n = record { count_is = refl; room = omega arith }

module _ {q : ℕ → Bool} {n count k : ℕ} (s : Counting q n count k) where
  pub counting_low : count ≤ k
  counting_low = omega (arith, s.count_is, below_le q k)

  pub counting_yes : k < n → q k ≡ true → Counting q n (count + 1) (k + 1)
  counting_yes l e = record { count_is = rw s.count_is (sym (length_below_yes q k e)); room = omega arith }

  pub counting_no : k < n → q k ≡ false → Counting q n count (k + 1)
  counting_no l e = record { count_is = s.count_is ∙ sym (ap length (below_no q k e)); room = omega arith }

  pub counting_done : n ≤ k → count ≡ length (below q n)
  counting_done h = let e : k ≡ n = omega (arith, s.room) in rw (← e) s.count_is

-- the k-th of the first n marks
pub mark_before : (n : ℕ) (seen : List Bool) (k : ℕ) → k < length (take n seen) → (k < n) × (slice_index_or (take n seen) k false ≡ marks seen k)
mark_before n seen k l =
    let h : k < n = omega (arith, length-take n seen) in
    (h, get_or-take n seen k false h)
