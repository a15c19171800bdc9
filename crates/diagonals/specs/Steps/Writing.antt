-- What the steps that write a map diagonal by diagonal ask and ensure: shrinking and transposing into a second map.
-- Assumes nothing.
use Rattle.std.specs.Prelude.{◌≡◌, ℕ, ◌+◌, ◌-◌, ◌*◌, ◌%◌, ◌<◌, ◌≤◌, cond, ◌&&◌, List, ◌++◌, map, length, take, drop, ◌==◌, nat_lt, slice_index}
use Rattle.ring.specs.Vectors.{tabulate, in_front}
use Rattle.ring.specs.Refusals.{Range}
use Rattle.diagonals.specs.Maps.{Diagonal, pair_room, offset_at, put_pair, pair_words, value_words, start_at, diagonal_at, view}
use Rattle.diagonals.specs.Shrinking.{common_period, at_period}
use Rattle.diagonals.specs.Transposing.{opposite, turned}

-- the j-th slot of src, round and round from index `from`
abbrev pub spin : List ℕ → ℕ → ℕ → ℕ
spin src from j = slice_index src ((j + from) % length src)

-- there is room for the n-th pair and its values
pub record Appending (src : List ℕ) (from len n at : ℕ) (pairs values : List ℕ) : Type 0 where
  pub turn : from < length src
  pub small : len ≤ 65536
  pub pairs_room : pair_room (n + 1) ≤ length pairs
  pub values_room : at + len ≤ length values

pub record Appended (src : List ℕ) (from offset len n at : ℕ) (pairs₀ pairs values₀ values : List ℕ) : Type 0 where
  pub pair : pairs ≡ put_pair pairs₀ n offset len
  pub period : values ≡ take at values₀ ++ (tabulate len (spin src from) ++ drop (at + len) values₀)

-- the common period of a map's diagonals
pub record Common (ds : List Diagonal) (r : ℕ) : Type 0 where
  pub is : r ≡ common_period ds
  pub range : Range r

-- a common period, and room for a map at that
pub record Shrinking (count period : ℕ) (pairs₀ values₀ : List ℕ) : Type 0 where
  pub period_in : Range period
  pub pairs_room : pair_room count ≤ length pairs₀
  pub values_room : count * period ≤ length values₀

-- the words of a map in front of two buffers
pub record Words (ds : List Diagonal) (pairs₀ pairs values₀ values : List ℕ) : Type 0 where
  pub pairs_is : pairs ≡ in_front (pair_words ds) pairs₀
  pub values_is : values ≡ in_front (value_words ds) values₀

abbrev pub Shrunk : ℕ → List ℕ → List ℕ → ℕ → List ℕ → List ℕ → List ℕ → List ℕ → Type 0
Shrunk count pairs values period pairs₀ pairs₁ values₀ values₁ = Words (map (at_period period) (view count pairs values)) pairs₀ pairs₁ values₀ values₁

-- values of a diagonal at offset k, with room for it as the n-th of the transposed
pub record Turning (slots k : ℕ) (part : List ℕ) (n at : ℕ) (pairs₀ values₀ : List ℕ) : Type 0 where
  pub slots_in_fact : Range slots
  pub low : k < slots
  pub part_in : Range (length part)
  pub pairs_room : pair_room (n + 1) ≤ length pairs₀
  pub values_room : at + length part ≤ length values₀

abbrev pub Turned : ℕ → ℕ → List ℕ → ℕ → ℕ → List ℕ → List ℕ → List ℕ → List ℕ → Type 0
Turned slots k part n at pairs₀ pairs₁ values₀ values₁ =
    Appended part (opposite slots k % length part) (opposite slots k) (length part) n at pairs₀ pairs₁ values₀ values₁

-- how many diagonals stay first: 1 where the first has offset 0
abbrev pub leading : ℕ → List ℕ → ℕ
leading count pairs = cond (nat_lt 0 count && offset_at pairs 0 == 0) 1 0

-- which diagonal the n-th of the transposed map is from
abbrev pub source : ℕ → ℕ → ℕ → ℕ
source count first n = cond (nat_lt n first) n (count + first - 1 - n)

abbrev pub turned_at : ℕ → ℕ → ℕ → List ℕ → List ℕ → ℕ → Diagonal
turned_at slots count first pairs values n = turned slots (diagonal_at pairs values (source count first n))

-- room for a map transposed
pub record Transposing (count : ℕ) (pairs pairs₀ values₀ : List ℕ) : Type 0 where
  pub pairs_room : pair_room count ≤ length pairs₀
  pub values_room : start_at pairs count ≤ length values₀

-- those that stay first are there already
pub record Rest (slots count first : ℕ) (pairs values : List ℕ) (front : ℕ) (pairs₀ values₀ : List ℕ) : Type 0 where
  pub whole : Transposing count pairs pairs₀ values₀
  pub lead : first ≡ leading count pairs
  pub inside : first ≤ count
  pub front_is : front ≡ start_at pairs first
  pub front_words : front ≡ length (value_words (tabulate first (turned_at slots count first pairs values)))
  pub there : Words (tabulate first (turned_at slots count first pairs values)) pairs₀ pairs₀ values₀ values₀
