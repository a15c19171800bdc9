-- Laws of the searches: which number a search finds, and what the number found satisfies.
-- Assumes nothing.
use Rattle.std.specs.Prelude.{◌≡◌, ℕ, zero, suc, ◌<◌, ◌≤◌, Bool, true, false, ◌&&◌, ◌⊎◌, ◌==◌, ◌≢◌}
use Rattle.std.proofs.Math.Path.{refl}
use Rattle.std.proofs.Common.{sym, ◌∙◌, true≢false, inl, inr, eq-or-lt_of_le, not-suc-le-zero, lt_of_not-le, eq-eqb, ne_eqb}
use Rattle.std.proofs.Math.Bool.{Bool-discrete}
use Rattle.std.proofs.Math.Logic.{⊎_elim}
use Rattle.std.proofs.Math.Decide.{dec_lt, ℕ_discrete}
use native.Mathlib.Omega.{arith}
use Rattle.ring.specs.Searches.{or_else, least, greatest, every}

-- ---- tests

-- what is not true is false
pub by_false : {b : Bool} → (b ≢ true) → b ≡ false
by_false {b = true} h = absurd (h refl)
by_false {b = false} h = refl

pub both : {a b : Bool} → a ≡ true → b ≡ true → (a && b) ≡ true
both h k = rw (h, k)

pub first : (a b : Bool) → (a && b) ≡ true → a ≡ true
first true b h = refl
first false b h = h

pub second : (a b : Bool) → (a && b) ≡ true → b ≡ true
second true b h = h
second false b h = absurd (true≢false (sym h))

-- two tests that agree
pub eqb_same : (a b c d : ℕ) → (a ≡ b → c ≡ d) → (c ≡ d → a ≡ b) → (a == b) ≡ (c == d)
eqb_same a b c d to from = by_dec (ℕ_discrete a b)
  where
    by_dec : Dec (a ≡ b) → (a == b) ≡ (c == d)
    by_dec (yes e) = rw (eq-eqb a b e, eq-eqb c d (to e))
    by_dec (no n) = rw (ne_eqb a b n, ne_eqb c d (λ e. n (from e)))

pub lt_or_ge : (a b : ℕ) → (a < b) ⊎ (b ≤ a)
lt_or_ge a b = by_dec (dec_lt a b)
  where
    by_dec : Dec (a < b) → (a < b) ⊎ (b ≤ a)
    by_dec (yes l) = inl l
    by_dec (no n) = inr (omega (arith, lt_of_not-le n))

-- ---- searches

-- d is the smallest of 1..=n that passes
pub record Found (p : ℕ → Bool) (n d : ℕ) : Type 0 where
  pub positive : 1 ≤ d
  pub within : d ≤ n
  pub yes : p d ≡ true
  pub below : (k : ℕ) → 1 ≤ k → k < d → p k ≢ true

module _ (p : ℕ → Bool) where
  pub greatest_is : (n d : ℕ) → d ≤ n → (1 ≤ d → p d ≡ true) → ((k : ℕ) → d < k → k ≤ n → p k ≢ true) → greatest p n ≡ d
  unfolding greatest
  greatest_is zero d h y f = omega arith
  greatest_is (suc n) d h y f =
      ⊎_elim
      (λ (e : d ≡ suc n). let t : p (suc n) ≡ true = rw e at (y (omega arith)) in rw t (sym e))
      (λ (l : d < suc n). rw (by_false (f (suc n) l (omega arith))) (greatest_is n d (omega arith) y (λ k a b. f k a (omega arith))))
      (eq-or-lt_of_le h)

  none : (n : ℕ) → ((k : ℕ) → 1 ≤ k → k ≤ n → p k ≢ true) → least p n ≡ 0
  unfolding least
  none zero f = refl
  none (suc n) f = rw (none n (λ k a b. f k a (omega arith)), by_false (f (suc n) (omega arith) (omega arith)))

  or_else_lem : (d b a : ℕ) → 1 ≤ d → a ≡ d → or_else a b ≡ d
  or_else_lem d b zero h e = omega arith
  or_else_lem d b (suc a) h e = e

  pub least_is : (n d : ℕ) → Found p n d → least p n ≡ d
  unfolding least
  least_is zero d h = omega (arith, h.within)
  least_is (suc n) d h =
      ⊎_elim
      (λ (e : d ≡ suc n). let t : p (suc n) ≡ true = rw e at h.yes in rw (none n (λ k a b. h.below k a (omega arith)), t) (sym e))
      (λ (l : d < suc n). or_else_lem d _ (least p n) h.positive (least_is n d (record { positive = h.positive; within = omega arith; yes = h.yes; below = h.below })))
      (eq-or-lt_of_le h.within)

  -- one more number: it is found, or none is
  grow : (n : ℕ) → ((k : ℕ) → 1 ≤ k → k ≤ n → p k ≢ true) → Dec (p (suc n) ≡ true) → ((d : ℕ) × Found p (suc n) d) ⊎ ((k : ℕ) → 1 ≤ k → k ≤ suc n → p k ≢ true)
  grow n f (yes t) = inl (suc n, record { positive = omega arith; within = omega arith; yes = t; below = λ k a b. f k a (omega arith) })
  grow n f (no q) = inr (λ k a b t. ⊎_elim (λ (e : k ≡ suc n). q (rw e at t)) (λ (l : k < suc n). f k a (omega arith) t) (eq-or-lt_of_le b))

  find : (n : ℕ) → ((d : ℕ) × Found p n d) ⊎ ((k : ℕ) → 1 ≤ k → k ≤ n → p k ≢ true)
  find zero = inr (λ k a b t. omega arith)
  find (suc n) =
      ⊎_elim
      (λ r. inl (r.0, record { positive = r.1.positive; within = omega (arith, r.1.within); yes = r.1.yes; below = r.1.below }))
      (λ f. grow n f (Bool-discrete (p (suc n)) true))
      (find n)

  -- where some number passes, the search finds the smallest
  pub least_found : (n k : ℕ) → 1 ≤ k → k ≤ n → p k ≡ true → Found p n (least p n)
  least_found n k a b t =
      ⊎_elim (λ r. rw (least_is n r.0 r.1) r.1) (λ f. absurd (f k a b t)) (find n)

  pub every_at : (n : ℕ) → every p n ≡ true → (k : ℕ) → k < n → p k ≡ true
  unfolding every
  every_at zero h k l = absurd (not-suc-le-zero l)
  every_at (suc n) h k l =
      ⊎_elim
      (λ (e : suc k ≡ suc n). let q : k ≡ n = omega arith in rw q (second (every p n) (p n) h))
      (λ (m : suc k < suc n). every_at n (first (every p n) (p n) h) k (omega arith))
      (eq-or-lt_of_le l)

  pub every_all : (n : ℕ) → ((k : ℕ) → k < n → p k ≡ true) → every p n ≡ true
  unfolding every
  every_all zero f = refl
  every_all (suc n) f = both (every_all n (λ k l. f k (omega arith))) (f n (omega arith))

  pub every_fails : (n k : ℕ) → k < n → p k ≡ false → every p n ≡ false
  every_fails n k l e = by_false (λ h. true≢false (sym (every_at n h k l) ∙ e))
