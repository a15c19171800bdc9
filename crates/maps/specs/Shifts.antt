-- Document 02, A2: what the two rotations read, and their calls as document 01 had them, for "Shifts up to d give the map that
-- they gave". `Laws/Shifts` has what is proved.
-- Assumes nothing.
use Rattle.std.specs.Prelude.{ℕ, ◌+◌, ◌*◌, ◌%◌, ◌^◌, Bool, true, false, List, [], ◌∷◌, ◌++◌, nat_lt, Option, Result}
use Rattle.ring.specs.declared.refusal.Refusal.{Refusal}
use Rattle.ring.specs.declared.refusal.Refusal.TheVariants.{Shift}
use Rattle.ring.specs.Slots.{modulus}
use Rattle.ring.specs.Refusals.{first_refusal}
use Rattle.diagonals.specs.Maps.{Diagonal}
use Rattle.diagonals.specs.SlotMaps.{slot_map}
use Rattle.diagonals.specs.Calls.{map_room}
use Rattle.maps.specs.declared.rules.Rule.{Rule}
use Rattle.maps.specs.declared.rules.Rule.TheVariants.{RotateRows, RotateCols}
use Rattle.maps.specs.Entries.{Entry}
use Rattle.maps.specs.Readings.{terms_by}
use Rattle.maps.specs.Calls.{tile_refusals, ShrunkWritten}

-- of rows, and of columns
abbrev pub rotation : Bool → ℕ → Rule
rotation true k = RotateRows k
rotation false k = RotateCols k

-- JKLS psi^k and phi^k: the entry k rows or columns further on, round the matrix
abbrev pub further_on : Bool → ℕ → ℕ → Entry → Entry
further_on true k d e = record { row = (e.row + k) % d; col = e.col }
further_on false k d e = record { row = e.row; col = (e.col + k) % d }

-- ---- before A2

-- the map, before it shrank
abbrev pub map_before : ℕ → ℕ → ℕ → Bool → ℕ → List Diagonal
map_before m slots d rows k = slot_map m slots (d * d) (terms_by (λ r c. further_on rows k d (record { row = r; col = c }) ∷ []) d)

-- and the call
abbrev pub refusal_before : ℕ → ℕ → Bool → ℕ → List ℕ → List ℕ → Option Refusal
refusal_before slots log_d rows k pairs values =
    first_refusal (tile_refusals slots log_d 1 ++ (nat_lt (2 ^ log_d) k, Shift) ∷ map_room (map_before modulus slots (2 ^ log_d) rows k) pairs values)

abbrev pub WrittenBefore : ℕ → ℕ → Bool → ℕ → List ℕ → List ℕ → List ℕ → List ℕ → Result ℕ Refusal → Type 0
WrittenBefore slots log_d rows k pairs₀ pairs₁ values₀ values₁ r =
    ShrunkWritten (refusal_before slots log_d rows k pairs₀ values₀) (map_before modulus slots (2 ^ log_d) rows k) pairs₀ pairs₁ values₀ values₁ r
