-- What the private steps of the plain run ask and ensure, and those by which both runs add.
-- Assumes nothing.
use Rattle.std.specs.Prelude.{◌≡◌, ℕ, ◌+◌, ◌<◌, ◌≤◌, List, length, slice_index}
use Rattle.ring.specs.Slots.{modulus, addm, mulm}
use Rattle.diagonals.specs.Products.{cell, term}

-- a period around which words are read, from one of its own on
pub record Around (period : List ℕ) (from : ℕ) (vector part : List ℕ) : Type 0 where
  pub low : from < length period
  pub same : length vector ≡ length part

-- part[j] and the period's word at from + j times vector[j]
abbrev pub around_added : List ℕ → ℕ → List ℕ → List ℕ → ℕ → ℕ
around_added period from vector part j = addm modulus (slice_index part j) (mulm modulus (cell period (from + j)) (slice_index vector j))

-- out[s] and the term of a diagonal: offset k and one period of its values
abbrev pub diagonal_added : List ℕ → ℕ → List ℕ → List ℕ → ℕ → ℕ
diagonal_added period k input out s = addm modulus (slice_index out s) (term modulus (length input) input s (record { offset = k; values = period }))

-- a period of a diagonal of a map, as long as the input and out
pub record Repeated (period : List ℕ) (k : ℕ) (input out : List ℕ) : Type 0 where
  pub some : 1 ≤ length period
  pub low : k < length out
  pub whole : length input ≡ length out
