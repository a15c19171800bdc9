-- Laws of the keyed run's answer: its numbers, and what they tell of the run.
-- Assumes nothing.
use Rattle.std.specs.Prelude.{◌≡◌, ℕ, min, List, [], ◌∷◌, length, nat_le, slice_index, Option, None, Some}
use Rattle.std.proofs.Math.Path.{refl}
use Rattle.std.proofs.Common.{ap}
use Rattle.ring.specs.declared.refusal.Refusal.{Refusal}
use Rattle.ring.specs.Refusals.{number, on_accept}
use Rattle.ring.specs.Answers.{answered}
use Rattle.diagonals.specs.Maps.{Diagonal, offsets_of}
use Rattle.linear_transformation.specs.declared.LinearTransformationStrategy.{LinearTransformationStrategy}
use Rattle.linear_transformation.specs.Trees.{flag}
use Rattle.linear_transformation.specs.Stored.{pair_count}
use Rattle.runs.specs.Plans.{map_babies, map_giants, map_switches}
use Rattle.runs.specs.Keyed.{keyed_numbers, keyed_progress}

module _ (slots : ℕ) (strategy : LinearTransformationStrategy) (ds : List Diagonal) (n : ℕ) where
  -- the numbers of an answer that was made of the refusal e
  pub keyed_numbers_answered : (e : Option Refusal) → keyed_numbers (answered e (keyed_progress slots strategy ds n))
      ≡ number e
      ∷ on_accept e (min n (map_switches slots strategy ds)) 0
      ∷ on_accept e (flag (nat_le (map_switches slots strategy ds) n)) 0
      ∷ on_accept e (length (map_babies slots strategy ds)) 0
      ∷ on_accept e (length (map_giants slots strategy ds)) 0
      ∷ on_accept e (length ds) 0
      ∷ on_accept e (pair_count slots strategy (offsets_of ds)) 0
      ∷ []
  unfolding keyed_progress
  keyed_numbers_answered None = refl
  keyed_numbers_answered (Some e) = refl

  -- the first of them is the refusal's
  pub keyed_first : (e : Option Refusal) → slice_index (keyed_numbers (answered e (keyed_progress slots strategy ds n))) 0 ≡ number e
  keyed_first e = ap (λ (xs : List ℕ). slice_index xs 0) (keyed_numbers_answered e)
