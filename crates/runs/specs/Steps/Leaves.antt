-- The leaves of a plan's giants.
-- Assumes nothing.
use Rattle.std.specs.Prelude.{◌≡◌, ℕ, ◌%◌, ◌<◌, List, map}
use mathlib.Core.HLevel.{×_prop}
use native.Mathlib.Bridge.{le_prop}
use native.Mathlib.Nat.{ℕ_set}
use Rattle.ring.specs.Lists.{Each}
use Rattle.ring.specs.Residues.{residue_of}
use Rattle.linear_transformation.specs.Digits.{digit}
use Rattle.linear_transformation.specs.Steps.Rising.{each_prop}

-- the leaf of a giant in a tree of size leaves
abbrev pub leaf_by : ℕ → ℕ → ℕ → ℕ → ℕ
leaf_by slots width size g = residue_of (digit slots width (record { 0 = g })).0 size

abbrev pub leaves_by : ℕ → ℕ → ℕ → List ℕ → List ℕ
leaves_by slots width size gs = map (leaf_by slots width size) gs

-- ---- facts of a tree's giants have one proof each, so that a struct may keep them

abbrev pub EachGiant : ℕ → ℕ → List ℕ → Type 0
EachGiant slots width gs = Each (λ g. (g < slots) × (g % width ≡ 0)) gs

pub each_giant_prop : (slots width : ℕ) (gs : List ℕ) → IsProp (EachGiant slots width gs)
each_giant_prop slots width gs = each_prop (λ g. (g < slots) × (g % width ≡ 0)) (λ g. ×_prop le_prop (ℕ_set _ _)) gs
