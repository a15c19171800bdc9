-- Document 01, "Map store": what the words of a map say, and which words are a map.
-- Assumes nothing.
use Rattle.std.specs.Prelude.{◌≡◌, ℕ, zero, suc, ◌+◌, ◌*◌, ◌<◌, ◌≤◌, Bool, true, cond, ◌&&◌, List, [], ◌∷◌, map, length, take, drop, ◌==◌, nat_le, nat_lt, slice_index}
use Rattle.std.specs.Int.{◌∣◌}
use Rattle.std.proofs.lemmas.List.Edits.{sets}
use Rattle.ring.specs.Lists.{join, Each, Rising}
use Rattle.ring.specs.Vectors.{tabulate}
use Rattle.ring.specs.Searches.{every}
use Rattle.ring.specs.Divisors.{divides}

-- a stored diagonal: its offset, and one period of its values
pub record Diagonal : Type 0 where
  pub offset : ℕ
  pub values : List ℕ

-- the offsets of a map, in its order
abbrev pub offsets_of : List Diagonal → List ℕ
offsets_of ds = map (λ d. d.offset) ds

-- ---- pairs: two words each, diagonal offset and stored length

-- the words that n pairs take
unfoldable pub pair_room : ℕ → ℕ
pair_room n = 2 * n

-- the i-th pair
unfoldable pub offset_at : List ℕ → ℕ → ℕ
offset_at pairs i = slice_index pairs (2 * i)

unfoldable pub length_at : List ℕ → ℕ → ℕ
length_at pairs i = slice_index pairs (2 * i + 1)

abbrev pub pair_at : List ℕ → ℕ → List ℕ
pair_at pairs i = offset_at pairs i ∷ length_at pairs i ∷ []

-- the i-th pair put, where there is room for it
unfoldable pub put_pair : List ℕ → ℕ → ℕ → ℕ → List ℕ
put_pair pairs i offset len = cond (nat_le (pair_room (suc i)) (length pairs)) (sets pairs (2 * i) (offset ∷ len ∷ [])) pairs

-- the words of a map: pairs, and values back to back
unfoldable pub pair_of : Diagonal → List ℕ
pair_of d = d.offset ∷ length d.values ∷ []

unfoldable pub pair_words : List Diagonal → List ℕ
pair_words ds = join pair_of ds

unfoldable pub value_words : List Diagonal → List ℕ
value_words ds = join (λ d. d.values) ds

-- ---- the map that words stand for

-- where the values of the i-th stand: behind the stored lengths before it
abbrev pub start_at : List ℕ → ℕ → ℕ
start_at pairs zero = 0
start_at pairs (suc i) = start_at pairs i + length_at pairs i

-- the i-th stored diagonal
abbrev pub diagonal_at : List ℕ → List ℕ → ℕ → Diagonal
diagonal_at pairs values i = record { offset = offset_at pairs i; values = take (length_at pairs i) (drop (start_at pairs i) values) }

-- the map that `count` pairs and the values stand for
unfoldable pub view : ℕ → List ℕ → List ℕ → List Diagonal
view count pairs values = tabulate count (diagonal_at pairs values)

-- ---- well formed

-- a stored diagonal of len values: offset < slots, len is at least 1 and divides slots, and its values are all there
abbrev pub formed_as : ℕ → ℕ → Diagonal → Bool
formed_as slots len d = nat_lt d.offset slots && (nat_le 1 len && (divides len slots && length d.values == len))

-- offsets rise strictly
abbrev pub rises_at : List ℕ → ℕ → Bool
rises_at pairs zero = true
rises_at pairs (suc i) = nat_lt (offset_at pairs i) (offset_at pairs (suc i))

abbrev pub formed_at : ℕ → List ℕ → List ℕ → ℕ → Bool
formed_at slots pairs values i = formed_as slots (length_at pairs i) (diagonal_at pairs values i) && rises_at pairs i

-- the pairs are inside their buffer, each diagonal is well formed, and offsets rise
unfoldable pub well_formed : ℕ → ℕ → List ℕ → List ℕ → Bool
well_formed slots count pairs values = nat_le (pair_room count) (length pairs) && every (formed_at slots pairs values) count

-- the meaning of these tests
pub record Formed (slots : ℕ) (d : Diagonal) : Type 0 where
  pub low : d.offset < slots
  pub some : 1 ≤ length d.values
  pub divides : length d.values ∣ slots

pub record WellFormed (slots count : ℕ) (pairs values : List ℕ) : Type 0 where
  pub pairs_inside : pair_room count ≤ length pairs
  pub each : (i : ℕ) → i < count → Formed slots (diagonal_at pairs values i)
  pub whole : (i : ℕ) → i < count → length (diagonal_at pairs values i).values ≡ length_at pairs i
  pub rising : (i j : ℕ) → i < j → j < count → offset_at pairs i < offset_at pairs j

-- a well-formed map, as a list of diagonals
pub record FormedMap (slots : ℕ) (ds : List Diagonal) : Type 0 where
  pub each : Each (Formed slots) ds
  pub rising : Rising (offsets_of ds)
