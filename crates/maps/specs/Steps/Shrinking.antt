-- What the steps of shrinking in place ask and ensure.
-- Assumes nothing.
use Rattle.std.specs.Prelude.{◌≡◌, ℕ, ◌+◌, ◌*◌, ◌/◌, ◌%◌, ◌<◌, ◌≤◌, List, length, slice_index}
use Rattle.ring.specs.Vectors.{in_front}
use Rattle.diagonals.specs.Maps.{length_at, view, WellFormed, pair_words, value_words}
use Rattle.diagonals.specs.Shrinking.{shrunk}
use Rattle.maps.specs.Calls.{free_behind}

-- a map whose diagonals all have `period` values
pub record Even (slots period count : ℕ) (pairs values : List ℕ) : Type 0 where
  pub low : 1 ≤ slots
  pub high : slots ≤ 65536
  pub some : 1 ≤ period
  pub small : period ≤ 65536
  pub formed : WellFormed slots count pairs values
  pub stored : (i : ℕ) → i < count → length_at pairs i ≡ period

-- where the x-th value of diagonals of p values stands among diagonals of `period` values
abbrev pub moved_from : ℕ → ℕ → ℕ → ℕ
moved_from period p x = x / p * period + x % p

abbrev pub moved_at : ℕ → ℕ → List ℕ → ℕ → ℕ
moved_at period p values x = slice_index values (moved_from period p x)

pub record Narrowing (period p count : ℕ) (values : List ℕ) : Type 0 where
  pub some : 1 ≤ p
  pub narrow : p ≤ period
  pub inside : count * period ≤ length values

-- the shrunk map in front, and the words that it leaves free before those that are kept
pub record Shrank (period count : ℕ) (pairs₀ pairs₁ values₀ values₁ : List ℕ) : Type 0 where
  pub pairs : pairs₁ ≡ in_front (pair_words (shrunk (view count pairs₀ values₀))) pairs₀
  pub len : length values₁ ≡ length values₀
  pub narrow : length (value_words (shrunk (view count pairs₀ values₀))) ≤ count * period
  pub values : values₁ ≡ in_front (free_behind (count * period) (value_words (shrunk (view count pairs₀ values₀))) values₁) values₀
