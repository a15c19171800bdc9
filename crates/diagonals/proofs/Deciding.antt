-- What `set` knows past the refusals of the map and of the new values, by the accepted map.
-- Assumes nothing.
use Rattle.std.proofs.Common.{◌≡◌, ℕ, ◌≤◌, false, true, List, length, ℤ, SFits, w64, to_z, of_z, arith, ap, ◌∙◌}
use native.Mathlib.Nat.{le_of_dvd}
use mir.ValLaws.{to_z-of_z}
use Rattle.ring.specs.Residues.{residue_of}
use Rattle.ring.specs.Refusals.{outside, no_period}
use Rattle.ring.specs.Laws.Refusals.{inside}
use Rattle.diagonals.specs.declared.setting.Change.{Change}
use Rattle.diagonals.specs.Maps.{start_at, well_formed}
use Rattle.diagonals.specs.Calls.{SameParts}
use Rattle.diagonals.specs.Steps.Reading.{Divisor}
use Rattle.diagonals.specs.Steps.Setting.{Changed}
use Rattle.diagonals.specs.Laws.Maps.{formed_means, count_low, values_inside}
use Rattle.diagonals.specs.Laws.Calls.{same_accepted}
use Rattle.diagonals.specs.Laws.Changes.{Decided, decided}

-- an accepted map has no more pairs than slots, and its values are inside their buffer
module _ (slots count : ℕ) (pairs values : List ℕ) where
  pub few_pairs : outside slots ≡ false → well_formed slots count pairs values ≡ true → count ≤ 65536
  few_pairs o f = omega (arith, count_low (formed_means slots count pairs values f), inside slots o)

  pub few_values : well_formed slots count pairs values ≡ true → start_at pairs count ≤ length values
  few_values f = values_inside (formed_means slots count pairs values f)

-- a divisor of slots is small
pub small_divisor : (slots p : ℕ) → outside slots ≡ false → Divisor slots p → p ≤ 65536
small_divisor slots p o d =
    let s = inside slots o in
    omega (arith, s, le_of_dvd s.0 d.divides)

pub decided_by : {slots count slots₁ count₁ : ℕ} {pairs values pairs₁ values₁ : List ℕ} → SameParts slots count pairs values slots₁ count₁ pairs₁ values₁ → outside slots₁ ≡ false → well_formed slots₁ count₁ pairs₁ values₁ ≡ true → (index : ℤ) (new : List ℕ)
    → no_period slots (length new) ≡ false → SFits w64 index → {k : ℕ} → k ≡ residue_of (to_z w64 (of_z w64 index)) slots → {r : Change} → Changed count₁ pairs₁ k (length new) r → Decided slots count pairs values index new k r
decided_by {slots} {count} {pairs} {values} e o f index new n fits q h =
    decided slots count pairs values index new (same_accepted e o f) n (q ∙ ap (λ (z : ℤ). residue_of z slots) (to_z-of_z w64 index fits)) (rw (e.count_is, e.pairs_is) at h)
