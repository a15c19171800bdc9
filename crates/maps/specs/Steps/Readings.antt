-- What the private steps of the maps that read one entry or none ask and ensure.
-- Assumes nothing.
use Rattle.std.specs.Prelude.{◌≡◌, ℕ, ◌/◌, ◌%◌, ◌<◌, ◌≤◌, Bool, List, [], ◌∷◌, ◌++◌, Option, None, Some, Result, Ok, Err}
use Rattle.ring.specs.declared.refusal.Refusal.{Refusal}
use Rattle.ring.specs.declared.refusal.Refusal.TheVariants.{Shift}
use Rattle.ring.specs.Refusals.{first_refusal}
use Rattle.maps.specs.declared.rules.Rule.{Rule}
use Rattle.maps.specs.declared.reads.Reads.{Reads}
use Rattle.maps.specs.declared.building.Summand.{Summand}
use Rattle.maps.specs.Entries.{Entry, place}
use Rattle.maps.specs.Readings.{reads}
use Rattle.maps.specs.Calls.{tile_refusals, no_shift}

-- an entry of a matrix whose side is small
pub record Within (d r c : ℕ) : Type 0 where
  pub side_low : d ≤ 256
  pub row_low : r < d
  pub col_low : c < d

-- the place of the entry that is read, if one is
unfoldable pub place_of : ℕ → List Entry → Option ℕ
place_of d [] = None
place_of d (e ∷ es) = Some (place d e)

-- and what it adds
abbrev pub added : Option ℕ → Option Summand
added None = None
added (Some j) = Some (record { j = j; w = 1 })

abbrev pub read_summand : Rule → ℕ → ℕ → Option Summand
read_summand rule d t = added (place_of d (reads rule d (t / d) (t % d)))

-- the refusals of a rule, before the room is known
abbrev pub rule_refusals : ℕ → ℕ → Rule → List (Bool × Refusal)
rule_refusals slots log_d rule = tile_refusals slots log_d 1 ++ (no_shift log_d rule, Shift) ∷ []

-- an accepted rule
pub record RuleTaken (slots log_d : ℕ) (rule : Rule) (m : Reads) : Type 0 where
  pub none : first_refusal (rule_refusals slots log_d rule) ≡ None
  pub rule_is : m.rule ≡ rule
  pub log_is : m.side.log_d ≡ log_d

-- the test of a rule
pub record RuleJudged (slots log_d : ℕ) (rule : Rule) (r : Result Reads Refusal) : Type 0 where
  pub refused : (x : Refusal) → r ≡ Err x → first_refusal (rule_refusals slots log_d rule) ≡ Some x
  pub accepted : (m : Reads) → r ≡ Ok m → RuleTaken slots log_d rule m
