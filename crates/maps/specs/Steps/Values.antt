-- What the private steps of skewed values and projections ask and ensure.
-- Assumes nothing.
use Rattle.std.specs.Prelude.{◌≡◌, ℕ, ◌+◌, ◌*◌, ◌^◌, ◌≤◌, Bool, true, false, not, List, [], ◌∷◌, ◌==◌, slice_index, Result, Ok, None, Some, Err}
use Rattle.ring.specs.declared.refusal.Refusal.{Refusal}
use Rattle.ring.specs.declared.refusal.Refusal.TheVariants.{Matrices, Length}
use Rattle.ring.specs.Vectors.{tabulate}
use Rattle.ring.specs.Refusals.{first_refusal}
use Rattle.diagonals.specs.Calls.{map_room, MapWritten}
use Rattle.maps.specs.Entries.{place, entry_of, slot_of}
use Rattle.maps.specs.Values.{skewed, on_diagonal}
use Rattle.maps.specs.declared.side.Side.{Side}
use Rattle.maps.specs.declared.values.Skew.{Skew}
use Rattle.maps.specs.declared.values.Skew.TheVariants.{Rows, Columns}
use Rattle.maps.specs.Calls.{no_values}
use Rattle.maps.specs.Steps.Rows.{ones}

-- rows turned, or columns
abbrev pub turns_rows : Skew → Bool
turns_rows Rows = true
turns_rows Columns = false

-- where the skewed entry of slot t stands
abbrev pub skewed_place : Bool → ℕ → ℕ → ℕ
skewed_place rows d t = slot_of d t * (d * d) + place d (skewed rows d (entry_of d t))

abbrev pub skewed_at : Bool → ℕ → List ℕ → ℕ → ℕ
skewed_at rows d b t = slice_index b (skewed_place rows d t)

-- the refusals before the room
abbrev pub values_refusals : ℕ → ℕ → ℕ → List (Bool × Refusal)
values_refusals log_d count len = (no_values log_d count, Matrices) ∷ (not (len == count * (2 ^ log_d * 2 ^ log_d)), Length) ∷ []

-- b has the words of count matrices, at most 65,536
pub record AllMatrices (log_d count len : ℕ) : Type 0 where
  pub log_low : log_d ≤ 8
  pub small : len ≤ 65536
  pub len_is : len ≡ count * (2 ^ log_d * 2 ^ log_d)

-- the test, and the side of accepted ones
pub record ValuesTaken (log_d count len : ℕ) (side : Side) : Type 0 where
  pub none : first_refusal (values_refusals log_d count len) ≡ None
  pub log_is : side.log_d ≡ log_d
  pub matrices : AllMatrices log_d count len

pub record ValuesJudged (log_d count len : ℕ) (r : Result Side Refusal) : Type 0 where
  pub refused : (x : Refusal) → r ≡ Err x → first_refusal (values_refusals log_d count len) ≡ Some x
  pub accepted : (side : Side) → r ≡ Ok side → ValuesTaken log_d count len side

-- one diagonal at offset 0, of len values, the first n of them 1
abbrev pub OnesWritten : ℕ → ℕ → List ℕ → List ℕ → List ℕ → List ℕ → Result ℕ Refusal → Type 0
OnesWritten n len pairs₀ pairs₁ values₀ values₁ r =
    MapWritten (first_refusal (map_room (on_diagonal (tabulate len (ones n))) pairs₀ values₀)) (on_diagonal (tabulate len (ones n))) pairs₀ pairs₁ values₀ values₁ r
