-- Document 01, "Keys": the closure of the babies, and the passes. A baby is k times the baby step, and b bits hold every
-- k: with babies below 65,536 b is 16.
-- Assumes nothing.
use Rattle.std.specs.Prelude.{ℕ, zero, suc, ◌*◌, ◌-◌, ◌^◌, Bool, true, false, not, ◌&&◌, List, [], ◌∷◌, ◌++◌, map, leb, eqb}
use Rattle.ring.specs.Lists.{join, among}
use Rattle.ring.specs.Searches.{greatest, below, only}
use Rattle.ring.specs.Vectors.{tabulate}

-- the place of the top bit of k ≥ 1: the largest i with 2^i ≤ k
unfoldable pub top_bit : ℕ → ℕ
top_bit k = greatest (λ i. leb (2 ^ i) k) k

-- k with its top bit cleared
unfoldable pub cleared : ℕ → ℕ
cleared k = k - 2 ^ top_bit k

-- the nonzero numbers met from k by clearing top bits, k first, in at most n steps; there are no more than k
unfoldable pub met_in : ℕ → ℕ → List ℕ
met_in zero k = []
met_in (suc n) zero = []
met_in (suc n) (suc k) = suc k ∷ met_in n (cleared (suc k))

abbrev pub met : ℕ → List ℕ
met k = met_in k k

-- the closure of the multiples ks: sorted and distinct, the listed and every nonzero k met from one of them
unfoldable pub closure : ℕ → List ℕ → List ℕ
closure b ks = below (λ k. among k (ks ++ join met ks)) (2 ^ b)

-- as babies: k·step
abbrev pub baby_closure : ℕ → ℕ → List ℕ → List ℕ
baby_closure b step ks = map (λ k. k * step) (closure b ks)

-- k is not 0 and its top bit is 2^i
abbrev pub has_top : ℕ → ℕ → Bool
has_top i k = not (eqb k 0) && eqb (top_bit k) i

-- what pass i makes: the cached k whose top bit is 2^i, in their order
unfoldable pub targets : List ℕ → ℕ → List ℕ
targets cached i = join (λ k. only (has_top i k) k) cached

-- the list has an element
abbrev pub non_empty : List ℕ → Bool
non_empty [] = false
non_empty (k ∷ ks) = true

-- pass i, rotation 2^i·step: each target k·step is read from (k - 2^i)·step
pub record Pass : Type 0 where
  pub rotation : ℕ
  pub moves : List (ℕ × ℕ)

abbrev pub move : ℕ → ℕ → ℕ → ℕ × ℕ
move step i k = ((k - 2 ^ i) * step, k * step)

abbrev pub pass : ℕ → ℕ → List ℕ → Pass
pass step i ks = record { rotation = 2 ^ i * step; moves = map (move step i) ks }

-- no targets, no pass
abbrev pub pass_of : ℕ → ℕ → List ℕ → List Pass
pass_of step i [] = []
pass_of step i (k ∷ ks) = pass step i (k ∷ ks) ∷ []

-- the passes over the cached multiples, i rising
unfoldable pub passes : ℕ → ℕ → List ℕ → List Pass
passes b step cached = join (λ i. pass_of step i (targets cached i)) (tabulate b (λ i. i))

-- the rotations that passes ask keys for
abbrev pub pass_rotations : ℕ → ℕ → List ℕ → List ℕ
pass_rotations b step cached = map (λ p. p.rotation) (passes b step cached)

-- those of the numbers that are not 0
abbrev pub nonzeros : List ℕ → List ℕ
nonzeros ks = join (λ k. only (not (eqb k 0)) k) ks
