-- The refusals of this crate's calls, in checking order, and what a call leaves in the buffers lent to it.
-- Assumes nothing.
use Rattle.std.specs.Prelude.{ℕ, ◌≡◌, Bool, not, List, [], ◌∷◌, ◌++◌, ltb, length, Option, Result, Ok, Err}
use Rattle.ring.specs.declared.refusal.Refusal.{Refusal}
use Rattle.ring.specs.declared.refusal.Refusal.TheVariants.{Room, File}
use Rattle.ring.specs.Vectors.{in_front}
use Rattle.ring.specs.Refusals.{number_of, first_refusal, on_accept}
use Rattle.ring.specs.Answers.{answered}
use Rattle.diagonals.specs.Maps.{pair_room, pair_words, value_words, view}
use Rattle.diagonals.specs.Calls.{map_refusals, map_refusal, map_room}
use Rattle.map_file.specs.declared.reading.FileMap.{FileMap}
use Rattle.map_file.specs.declared.reading.FileRoom.{FileRoom}
use Rattle.map_file.specs.Files.{file_of, slots_in, map_in, is_file}

-- ---- writing

-- the file of a lent map
abbrev pub map_file : ℕ → ℕ → List ℕ → List ℕ → List ℕ
map_file slots count pairs values = file_of slots (view count pairs values)

-- `map_file_size`: the number of its bytes
abbrev pub size_answer : ℕ → ℕ → List ℕ → List ℕ → Result ℕ Refusal
size_answer slots count pairs values = answered (map_refusal slots count pairs values) (length (map_file slots count pairs values))

-- `write_map_file` of a lent map into out
abbrev pub write_refusals : ℕ → ℕ → List ℕ → List ℕ → List ℕ → List (Bool × Refusal)
write_refusals slots count pairs values out = map_refusals slots count pairs values ++ (ltb (length out) (length (map_file slots count pairs values)), Room) ∷ []

abbrev pub write_refusal : ℕ → ℕ → List ℕ → List ℕ → List ℕ → Option Refusal
write_refusal slots count pairs values out = first_refusal (write_refusals slots count pairs values out)

pub record FileWritten (slots count : ℕ) (pairs values old new : List ℕ) (r : Result ℕ Refusal) : Type 0 where
  pub answer : r ≡ answered (write_refusal slots count pairs values old) (length (map_file slots count pairs values))
  pub out : new ≡ on_accept (write_refusal slots count pairs values old) (in_front (map_file slots count pairs values) old) old

-- ---- reading

abbrev pub file_refusals : List ℕ → List (Bool × Refusal)
file_refusals bytes = (not (is_file bytes), File) ∷ []

abbrev pub file_refusal : List ℕ → Option Refusal
file_refusal bytes = first_refusal (file_refusals bytes)

-- `map_file_room`: the words of pairs and the values that the map has
abbrev pub room_in : List ℕ → FileRoom
room_in bytes = record { pairs = pair_room (length (map_in bytes)); values = length (value_words (map_in bytes)) }

abbrev pub room_answer : List ℕ → Result FileRoom Refusal
room_answer bytes = answered (file_refusal bytes) (room_in bytes)

-- the refusal's number (0: none) and the answer's two, which are 0 where refused
abbrev pub room_numbers : Result FileRoom Refusal → List ℕ
room_numbers (Ok room) = 0 ∷ room.pairs ∷ room.values ∷ []
room_numbers (Err e) = number_of e ∷ 0 ∷ 0 ∷ []

-- `read_map_file`: slots and the number of pairs
abbrev pub read_answer : List ℕ → FileMap
read_answer bytes = record { slots = slots_in bytes; count = length (map_in bytes) }

abbrev pub map_numbers : Result FileMap Refusal → List ℕ
map_numbers (Ok file) = 0 ∷ file.slots ∷ file.count ∷ []
map_numbers (Err e) = number_of e ∷ 0 ∷ 0 ∷ []

abbrev pub read_refusals : List ℕ → List ℕ → List ℕ → List (Bool × Refusal)
read_refusals bytes pairs values = file_refusals bytes ++ map_room (map_in bytes) pairs values

abbrev pub read_refusal : List ℕ → List ℕ → List ℕ → Option Refusal
read_refusal bytes pairs values = first_refusal (read_refusals bytes pairs values)

pub record FileRead (bytes pairs₀ pairs₁ values₀ values₁ : List ℕ) (r : Result FileMap Refusal) : Type 0 where
  pub answer : r ≡ answered (read_refusal bytes pairs₀ values₀) (read_answer bytes)
  pub pairs : pairs₁ ≡ on_accept (read_refusal bytes pairs₀ values₀) (in_front (pair_words (map_in bytes)) pairs₀) pairs₀
  pub values : values₁ ≡ on_accept (read_refusal bytes pairs₀ values₀) (in_front (value_words (map_in bytes)) values₀) values₀
