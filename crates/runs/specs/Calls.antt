-- Document 01, "Plain run": the refusals of `evaluate`, in checking order, and what it leaves in `out`.
-- Assumes nothing.
use Rattle.std.specs.Prelude.{◌≡◌, ℕ, not, List, [], ◌∷◌, ◌++◌, length, ◌==◌, nat_lt, Option, Result}
use Rattle.ring.specs.Slots.{modulus}
use Rattle.ring.specs.Vectors.{tabulate, in_front}
use Rattle.ring.specs.declared.refusal.Refusal.{Refusal}
use Rattle.ring.specs.declared.refusal.Refusal.TheVariants.{OutOfRange, Length, Room}
use Rattle.ring.specs.Refusals.{first_refusal, on_accept}
use Rattle.ring.specs.Answers.{judged}
use Rattle.diagonals.specs.Maps.{view}
use Rattle.diagonals.specs.Products.{product}
use Rattle.diagonals.specs.Calls.{map_refusals}
use Rattle.linear_transformation.specs.Strategies.{width_outside}
use Rattle.linear_transformation.specs.declared.LinearTransformationStrategy.{LinearTransformationStrategy}

-- the map's refusals, then those of the strategy's width, the input and out
abbrev pub evaluate_refusal : ℕ → ℕ → List ℕ → List ℕ → List ℕ → LinearTransformationStrategy → List ℕ → Option Refusal
evaluate_refusal slots count pairs values input strategy out =
    first_refusal
    (map_refusals slots count pairs values
    ++ (width_outside strategy, OutOfRange)
    ∷ (not (length input == slots), Length)
    ∷ (nat_lt (length out) slots, Room)
    ∷ [])

-- every slot of the product in front of out, whichever the strategy
pub record Evaluated (slots count : ℕ) (pairs values input : List ℕ) (strategy : LinearTransformationStrategy) (old new : List ℕ) (r : Result Unit Refusal) : Type 0 where
  pub answer : r ≡ judged (evaluate_refusal slots count pairs values input strategy old)
  pub out : new ≡ on_accept (evaluate_refusal slots count pairs values input strategy old) (in_front (tabulate slots (product modulus slots (view count pairs values) input)) old) old
