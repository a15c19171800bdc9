-- Document 02, A1: the bytes of a map's file, and the map that bytes tell.
-- Assumes nothing.
use Rattle.std.specs.Prelude.{ℕ, zero, suc, ◌+◌, ◌*◌, ◌/◌, ◌%◌, Bool, ◌&&◌, List, [], ◌∷◌, ◌++◌, eqb, length, get_or, is_none}
use Rattle.ring.specs.Lists.{join}
use Rattle.ring.specs.Vectors.{tabulate}
use Rattle.diagonals.specs.Maps.{Diagonal, pair_words, value_words}
use Rattle.diagonals.specs.Calls.{map_refusal}

-- ---- numbers, least byte first

-- n in k bytes
unfoldable pub bytes_of : ℕ → ℕ → List ℕ
bytes_of zero n = []
bytes_of (suc k) n = n % 256 ∷ bytes_of k (n / 256)

-- the number in the k bytes from place `at` on
unfoldable pub number_at : ℕ → List ℕ → ℕ → ℕ
number_at zero bytes at = 0
number_at (suc k) bytes at = get_or bytes at 0 + 256 * number_at k bytes (suc at)

-- ---- the file of a map

-- a pair, four bytes a number
unfoldable pub pair_bytes : Diagonal → List ℕ
pair_bytes d = bytes_of 4 d.offset ++ bytes_of 4 (length d.values)

-- slots and count, four bytes each, then the pairs, then the values, eight bytes each
unfoldable pub file_of : ℕ → List Diagonal → List ℕ
file_of slots ds = bytes_of 4 slots ++ (bytes_of 4 (length ds) ++ (join pair_bytes ds ++ join (bytes_of 8) (value_words ds)))

-- ---- the map that bytes tell

unfoldable pub slots_in : List ℕ → ℕ
slots_in bytes = number_at 4 bytes 0

unfoldable pub count_in : List ℕ → ℕ
count_in bytes = number_at 4 bytes 4

unfoldable pub offset_in : List ℕ → ℕ → ℕ
offset_in bytes i = number_at 4 bytes (8 + 8 * i)

unfoldable pub length_in : List ℕ → ℕ → ℕ
length_in bytes i = number_at 4 bytes (12 + 8 * i)

-- the j-th of all values
unfoldable pub value_in : List ℕ → ℕ → ℕ
value_in bytes j = number_at 8 bytes (8 + 8 * count_in bytes + 8 * j)

-- how many values stand before those of the i-th
abbrev pub start_in : List ℕ → ℕ → ℕ
start_in bytes zero = 0
start_in bytes (suc i) = start_in bytes i + length_in bytes i

abbrev pub diagonal_in : List ℕ → ℕ → Diagonal
diagonal_in bytes i = record { offset = offset_in bytes i; values = tabulate (length_in bytes i) (λ j. value_in bytes (start_in bytes i + j)) }

unfoldable pub map_in : List ℕ → List Diagonal
map_in bytes = tabulate (count_in bytes) (diagonal_in bytes)

-- the bytes are a file: the map that they tell is well formed, its slots are in 1..=65536, and its file is as long as they
unfoldable pub is_file : List ℕ → Bool
is_file bytes =
    let ds = map_in bytes in
    is_none (map_refusal (slots_in bytes) (length ds) (pair_words ds) (value_words ds)) && eqb (length bytes) (length (file_of (slots_in bytes) ds))
