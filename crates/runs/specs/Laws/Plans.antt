-- From a map to its plan: the stored offsets of an accepted map are the diagonals that its plan is made of.
-- Assumes nothing.
use Rattle.std.specs.Prelude.{◌≡◌, ℕ, ◌<◌, List, [], ◌∷◌, map, pos, refl, None}
use Rattle.std.proofs.Common.{ap, ◌∙◌, mod-eq_of_lt, arith}
use Rattle.ring.specs.Lists.{Each}
use Rattle.ring.specs.Residues.{residue_of, diagonals_of}
use Rattle.ring.specs.Laws.Lists.{each_then, each_map}
use Rattle.ring.specs.Laws.Residues.{residue_pos}
use Rattle.ring.specs.Laws.Indexes.{rising_diagonals}
use Rattle.diagonals.specs.Maps.{Diagonal, offsets_of, FormedMap, view}
use Rattle.diagonals.specs.Calls.{map_refusal}
use Rattle.diagonals.specs.Laws.Reading.{accepted_range, accepted_formed}
use Rattle.linear_transformation.specs.declared.LinearTransformationStrategy.{LinearTransformationStrategy}
use Rattle.linear_transformation.specs.Plans.{Distinct}
use Rattle.linear_transformation.specs.Schedules.{plan_words}
use Rattle.runs.specs.Plans.{map_plan}

-- numbers below slots are their own residues
own_residues : (slots : ℕ) (ks : List ℕ) → Each (λ k. k < slots) ks → map (λ z. residue_of z slots) (map pos ks) ≡ ks
own_residues slots [] h = refl
own_residues slots (k ∷ ks) h = cc (residue_pos k slots (omega (arith, h.0)), mod-eq_of_lt h.0, own_residues slots ks h.1)

module _ (slots : ℕ) (p : 0 < slots) where
  -- a list that rises below slots names itself
  pub own_diagonals : (ks : List ℕ) → Distinct slots ks → diagonals_of slots (map pos ks) ≡ ks
  own_diagonals ks d =
      let e = own_residues slots ks d.low in
      rising_diagonals slots p (map pos ks) (rw e d.rises) ∙ e

  module _ (ds : List Diagonal) (f : FormedMap slots ds) where
    -- the offsets of a map rise below slots
    pub map_distinct : Distinct slots (offsets_of ds)
    map_distinct = record { rises = f.rising; low = each_map (λ k. k < slots) (λ (d : Diagonal). d.offset) ds (each_then (λ d h. h.low) ds f.each) }

    -- so they are the diagonals that they name
    pub map_diagonals : diagonals_of slots (map pos (offsets_of ds)) ≡ offsets_of ds
    map_diagonals = own_diagonals (offsets_of ds) map_distinct

    -- and the plan that `linear_transform_index` makes of them is the map's
    pub map_plan_lem : (strategy : LinearTransformationStrategy) → plan_words slots strategy (diagonals_of slots (map pos (offsets_of ds))) ≡ map_plan slots strategy ds
    map_plan_lem strategy = ap (plan_words slots strategy) map_diagonals

-- of an accepted map
pub accepted_diagonals : (slots count : ℕ) (pairs values : List ℕ) → map_refusal slots count pairs values ≡ None → diagonals_of slots (map pos (offsets_of (view count pairs values))) ≡ offsets_of (view count pairs values)
accepted_diagonals slots count pairs values e =
    map_diagonals slots (accepted_range slots count pairs values e).low (view count pairs values) (accepted_formed slots count pairs values e)
