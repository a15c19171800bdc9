-- Vectors by their elements, and what lent buffers hold.
-- Assumes nothing.
use Rattle.std.specs.Prelude.{◌≡◌, ℕ, zero, suc, ◌+◌, ◌≤◌, List, [], ◌∷◌, ◌++◌, length, take, drop}

-- the list f 0, f 1, .., f (n - 1)
abbrev pub tabulate : {A : Type 0} → ℕ → (ℕ → A) → List A
tabulate zero f = []
tabulate (suc n) f = f 0 ∷ tabulate n (λ k. f (suc k))

-- a result in front of a buffer, whose further words are kept
unfoldable pub in_front : {A : Type 0} → List A → List A → List A
in_front new old = new ++ drop (length new) old

-- words put from place `at` on, over what stood there
unfoldable pub put_at : {A : Type 0} → ℕ → List A → List A → List A
put_at at new old = take at old ++ in_front new (drop at old)

-- a buffer after the first j stores of a loop that writes f i at each i
unfoldable pub filled : {A : Type 0} → (ℕ → A) → ℕ → List A → List A
filled f j d = tabulate j f ++ drop j d

-- what such a loop keeps: the buffer held d₀ and holds d, and the next index is j
pub record Filling {A : Type 0} (f : ℕ → A) (d₀ d : List A) (j : ℕ) : Type 0 where
  pub so_far : d ≡ filled f j d₀
  pub len : length d ≡ length d₀
  pub room : j ≤ length d₀

-- words put from place `at` on, behind what the buffer began with; r is the place behind them
pub record Behind (at : ℕ) (words old new : List ℕ) (r : ℕ) : Type 0 where
  pub is : new ≡ in_front (take at old ++ words) old
  pub end_is : r ≡ at + length words
