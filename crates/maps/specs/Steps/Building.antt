-- What the steps that build a map of summands ask and ensure.
-- Assumes nothing.
use Rattle.std.specs.Prelude.{ℕ, List, [], ◌∷◌, Option, None, Some, Result}
use Rattle.ring.specs.declared.refusal.Refusal.{Refusal}
use Rattle.ring.specs.Lists.{join}
use Rattle.ring.specs.Vectors.{tabulate}
use Rattle.ring.specs.Refusals.{first_refusal, Range}
use Rattle.diagonals.specs.SlotMaps.{Term, slot_map}
use Rattle.diagonals.specs.Calls.{map_room, MapWritten}
use Rattle.diagonals.specs.Building.{PlacesOf, SumsOf}
use Rattle.maps.specs.declared.building.Summand.{Summand}

-- the term of a summand of output t, if there is one
abbrev pub term_of : ℕ → Option Summand → List Term
term_of t None = []
term_of t (Some s) = record { i = t; j = s.j; w = s.w } ∷ []

-- those of its first n summands
abbrev pub row_upto : (ℕ → Option Summand) → ℕ → ℕ → List Term
row_upto f t n = join (λ l. term_of t (f l)) (tabulate n (λ l. l))

-- those of the outputs before n, of so many summands each
abbrev pub rows_upto : (ℕ → ℕ → Option Summand) → ℕ → ℕ → List Term
rows_upto f width n = join (λ t. row_upto (f t) t width) (tabulate n (λ t. t))

-- places for all terms, and the sums of the outputs before t
pub record Placed (m slots period : ℕ) (f : ℕ → ℕ → Option Summand) (width : ℕ) (places : List ℕ) (t : ℕ) (old values : List ℕ) : Type 0 where
  pub range : Range slots
  pub placed : PlacesOf slots (rows_upto f width period) places
  pub sums : SumsOf m slots period (rows_upto f width period) (rows_upto f width t) old values

-- the slot map of the terms, refused only where there is no room
abbrev pub Built : ℕ → ℕ → ℕ → (ℕ → ℕ → Option Summand) → ℕ → List ℕ → List ℕ → List ℕ → List ℕ → Result ℕ Refusal → Type 0
Built m slots period f width pairs₀ pairs₁ values₀ values₁ r =
    let ds = slot_map m slots period (rows_upto f width period) in
    MapWritten (first_refusal (map_room ds pairs₀ values₀)) ds pairs₀ pairs₁ values₀ values₁ r
