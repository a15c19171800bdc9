-- The refusals of this crate's calls, in checking order, and what a call leaves in the buffers lent to it.
-- Assumes nothing.
use Rattle.std.specs.Prelude.{◌≡◌, ℕ, ◌≤◌, Bool, false, not, ◌||◌, List, [], ◌∷◌, ◌++◌, length, ℤ, ◌==◌, nat_lt, Option, None, Result, Ok}
use Rattle.ring.specs.Slots.{modulus}
use Rattle.ring.specs.Vectors.{in_front, filled}
use Rattle.ring.specs.Searches.{below}
use Rattle.ring.specs.Marks.{marks}
use Rattle.ring.specs.Residues.{residue_of}
use Rattle.ring.specs.Rotations.{rotated}
use Rattle.ring.specs.Divisors.{divides}
use Rattle.ring.specs.Refusals.{first_refusal, on_accept, outside, no_period}
use Rattle.ring.specs.declared.refusal.Refusal.{Refusal}
use Rattle.ring.specs.declared.refusal.Refusal.TheVariants.{Slots, NotAMap, OutOfRange, Period, Length, Term, Room}
use Rattle.ring.specs.Answers.{answered, judged, numbered}
use Rattle.diagonals.specs.Maps.{Diagonal, offsets_of, pair_room, pair_words, value_words, view, well_formed, WellFormed}
use Rattle.diagonals.specs.Products.{stretch}
use Rattle.diagonals.specs.Setting.{placed}
use Rattle.diagonals.specs.SlotMaps.{terms_of, in_range, rank, slot_map, zero_map}
use Rattle.diagonals.specs.Shrinking.{shrunk}
use Rattle.diagonals.specs.Transposing.{transposed}

-- ---- lent maps

-- the refusals of every call that is lent a map
abbrev pub map_refusals : ℕ → ℕ → List ℕ → List ℕ → List (Bool × Refusal)
map_refusals slots count pairs values = (outside slots, Slots) ∷ (not (well_formed slots count pairs values), NotAMap) ∷ []

abbrev pub map_refusal : ℕ → ℕ → List ℕ → List ℕ → Option Refusal
map_refusal slots count pairs values = first_refusal (map_refusals slots count pairs values)

-- the parts of an accepted map are those that the call lent
pub record SameParts (slots count : ℕ) (pairs values : List ℕ) (slots₁ count₁ : ℕ) (pairs₁ values₁ : List ℕ) : Type 0 where
  pub slots_is : slots₁ ≡ slots
  pub count_is : count₁ ≡ count
  pub pairs_is : pairs₁ ≡ pairs
  pub values_is : values₁ ≡ values

-- `check_map`, with what an accepted map is
pub record Judged (slots count : ℕ) (pairs values : List ℕ) (r : Result Unit Refusal) : Type 0 where
  pub answer : r ≡ judged (map_refusal slots count pairs values)
  pub inside : r ≡ Ok tt → outside slots ≡ false
  pub formed : r ≡ Ok tt → WellFormed slots count pairs values

-- ---- maps that are written

-- the refusals of a call that would produce a map of `count` pairs and `total` values in buffers of these lengths: the
-- last of its list
abbrev pub room_refusals : ℕ → ℕ → ℕ → ℕ → List (Bool × Refusal)
room_refusals count total pairs values = (nat_lt pairs (pair_room count) || nat_lt values total, Room) ∷ []

-- those of a call that would produce the map ds
abbrev pub map_room : List Diagonal → List ℕ → List ℕ → List (Bool × Refusal)
map_room ds pairs values = room_refusals (length ds) (length (value_words ds)) (length pairs) (length values)

-- `check_room`, with what an accepted call has room for
pub record RoomJudged (count total pairs values : ℕ) (r : Result Unit Refusal) : Type 0 where
  pub answer : r ≡ judged (first_refusal (room_refusals count total pairs values))
  pub pairs_fit : r ≡ Ok tt → pair_room count ≤ pairs
  pub values_fit : r ≡ Ok tt → total ≤ values

-- a call with refusal e that writes the map ds: its answer is the number of pairs, and the words behind the map are kept
pub record MapWritten (e : Option Refusal) (ds : List Diagonal) (pairs₀ pairs₁ values₀ values₁ : List ℕ) (r : Result ℕ Refusal) : Type 0 where
  pub answer : r ≡ answered e (length ds)
  pub pairs : pairs₁ ≡ on_accept e (in_front (pair_words ds) pairs₀) pairs₀
  pub values : values₁ ≡ on_accept e (in_front (value_words ds) values₀) values₀

-- what buffers hold for the next call: their first n pairs are accepted as a map, and that is ds
pub record Holds (slots : ℕ) (ds : List Diagonal) (n : ℕ) (pairs values : List ℕ) : Type 0 where
  pub view_is : view n pairs values ≡ ds
  pub accepted : map_refusal slots n pairs values ≡ None

-- ---- the calls

-- `new`
abbrev pub new_refusal : ℕ → Option Refusal
new_refusal slots = first_refusal ((outside slots, Slots) ∷ [])

-- of an answer that is a truth: document 01's number and value, no where refused
abbrev pub truths : Result Bool Refusal → ℕ × Bool
truths r = numbered false r

-- `get`: the stretch of the diagonal at an index; empty where it is absent or the map is refused
abbrev pub gotten : ℕ → ℕ → List ℕ → List ℕ → ℤ → List ℕ
gotten slots count pairs values index = on_accept (map_refusal slots count pairs values) (stretch (view count pairs values) (residue_of index slots)) []

-- `indexes`: the offsets in front of out
abbrev pub indexes_refusal : ℕ → ℕ → List ℕ → List ℕ → List ℕ → Option Refusal
indexes_refusal slots count pairs values out = first_refusal (map_refusals slots count pairs values ++ (nat_lt (length out) count, Room) ∷ [])

pub record Indexes (slots count : ℕ) (pairs values old new : List ℕ) (r : Result ℕ Refusal) : Type 0 where
  pub answer : r ≡ answered (indexes_refusal slots count pairs values old) count
  pub out : new ≡ on_accept (indexes_refusal slots count pairs values old) (in_front (offsets_of (view count pairs values)) old) old

-- `set` of new values at an index
abbrev pub set_map : ℕ → ℕ → List ℕ → List ℕ → ℤ → List ℕ → List Diagonal
set_map slots count pairs values index new = placed (residue_of index slots) new (view count pairs values)

abbrev pub set_refusal : ℕ → ℕ → List ℕ → List ℕ → ℤ → List ℕ → Option Refusal
set_refusal slots count pairs values index new =
    first_refusal
    (map_refusals slots count pairs values
    ++ (no_period slots (length new), Period)
    ∷ map_room (set_map slots count pairs values index new) pairs values)

abbrev pub SetWritten : ℕ → ℕ → List ℕ → List ℕ → List ℕ → List ℕ → ℤ → List ℕ → Result ℕ Refusal → Type 0
SetWritten slots count pairs₀ pairs₁ values₀ values₁ index new r =
    MapWritten (set_refusal slots count pairs₀ values₀ index new) (set_map slots count pairs₀ values₀ index new) pairs₀ pairs₁ values₀ values₁ r

-- what `get` at an index reads from the words that an accepted `set` has written
abbrev pub gotten_after : ℕ → ℕ → List ℕ → List ℕ → ℤ → List ℕ → ℤ → List ℕ
gotten_after slots count pairs values index new i =
    let ds = set_map slots count pairs values index new in
    gotten slots (length ds) (in_front (pair_words ds) pairs) (in_front (value_words ds) values) i

-- `from_slot_map` of terms, into pairs and values
abbrev pub slot_map_refusal : ℕ → ℕ → List ℕ → List ℕ → List ℕ → List ℕ → List ℕ → Option Refusal
slot_map_refusal slots period is js ws pairs values =
    first_refusal
    ((outside slots, Slots)
    ∷ (no_period slots period, Period)
    ∷ (not (length is == length js) || not (length is == length ws), Length)
    ∷ (not (in_range slots period is js), Term)
    ∷ map_room (slot_map modulus slots period (terms_of is js ws)) pairs values)

abbrev pub SlotMapWritten : ℕ → ℕ → List ℕ → List ℕ → List ℕ → List ℕ → List ℕ → List ℕ → List ℕ → Result ℕ Refusal → Type 0
SlotMapWritten slots period is js ws pairs₀ pairs₁ values₀ values₁ r =
    MapWritten (slot_map_refusal slots period is js ws pairs₀ values₀) (slot_map modulus slots period (terms_of is js ws)) pairs₀ pairs₁ values₀ values₁ r

-- `zero_map` of the marked offsets
abbrev pub marked : ℕ → List Bool → List ℕ
marked slots seen = below (marks seen) slots

abbrev pub period_refusals : ℕ → ℕ → List (Bool × Refusal)
period_refusals slots period = (outside slots, Slots) ∷ (no_period slots period, Period) ∷ []

abbrev pub zero_map_refusal : ℕ → ℕ → List Bool → List ℕ → List ℕ → List ℕ → Option Refusal
zero_map_refusal slots period seen places pairs values =
    first_refusal (period_refusals slots period ++ map_room (zero_map period (marked slots seen)) pairs values ++ (nat_lt (length places) slots, Room) ∷ [])

-- an accepted call gives each number below slots its place among the marked
pub record ZeroMapWritten (slots period : ℕ) (seen : List Bool) (places₀ places₁ pairs₀ pairs₁ values₀ values₁ : List ℕ) (r : Result ℕ Refusal) : Type 0 where
  pub written : MapWritten (zero_map_refusal slots period seen places₀ pairs₀ values₀) (zero_map period (marked slots seen)) pairs₀ pairs₁ values₀ values₁ r
  pub places : places₁ ≡ on_accept (zero_map_refusal slots period seen places₀ pairs₀ values₀) (filled (rank (marks seen)) slots places₀) places₀

-- a call that is lent a map and writes the map ds into other buffers
abbrev pub second_refusal : ℕ → ℕ → List ℕ → List ℕ → List Diagonal → List ℕ → List ℕ → Option Refusal
second_refusal slots count pairs values ds pairs₂ values₂ = first_refusal (map_refusals slots count pairs values ++ map_room ds pairs₂ values₂)

abbrev pub SecondWritten : ℕ → ℕ → List ℕ → List ℕ → List Diagonal → List ℕ → List ℕ → List ℕ → List ℕ → Result ℕ Refusal → Type 0
SecondWritten slots count pairs values ds pairs₀ pairs₁ values₀ values₁ r =
    MapWritten (second_refusal slots count pairs values ds pairs₀ values₀) ds pairs₀ pairs₁ values₀ values₁ r

-- `shrink_period` and `transpose`
abbrev pub ShrinkWritten : ℕ → ℕ → List ℕ → List ℕ → List ℕ → List ℕ → List ℕ → List ℕ → Result ℕ Refusal → Type 0
ShrinkWritten slots count pairs values pairs₀ pairs₁ values₀ values₁ r =
    SecondWritten slots count pairs values (shrunk (view count pairs values)) pairs₀ pairs₁ values₀ values₁ r

abbrev pub TransposeWritten : ℕ → ℕ → List ℕ → List ℕ → List ℕ → List ℕ → List ℕ → List ℕ → Result ℕ Refusal → Type 0
TransposeWritten slots count pairs values pairs₀ pairs₁ values₀ values₁ r =
    SecondWritten slots count pairs values (transposed slots (view count pairs values)) pairs₀ pairs₁ values₀ values₁ r

-- `rotate_slots_into` of a source into out
abbrev pub rotate_refusal : List ℕ → List ℕ → Option Refusal
rotate_refusal src out = first_refusal ((outside (length src), OutOfRange) ∷ (not (divides (length src) (length out)), Length) ∷ [])

pub record Rotated (src : List ℕ) (k : ℤ) (old new : List ℕ) (r : Result Unit Refusal) : Type 0 where
  pub answer : r ≡ judged (rotate_refusal src old)
  pub out : new ≡ on_accept (rotate_refusal src old) (rotated src k (length old)) old
