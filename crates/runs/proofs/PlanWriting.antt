-- The plan of an accepted map, where there is room for it; and numbers that stay small.
-- Assumes nothing.
use Rattle.std.proofs.Common.{◌≡◌, ℕ, ◌≤◌, Bool, false, ltb, List, [], ◌∷◌, ◌++◌, length, ◌∙◌, le-ltb}
use Rattle.ring.specs.declared.refusal.Refusal.{Refusal}
use Rattle.ring.specs.declared.refusal.Refusal.TheVariants.{Room}
use Rattle.ring.specs.Refusals.{first_refusal, Range}
use Rattle.std.specs.Prelude.{None, Result, IsOk}
use Rattle.runs.proofs.Accepted.{given}
use Rattle.ring.specs.Vectors.{in_front}
use Rattle.ring.specs.Laws.Refusals.{not_outside, on_accept_accepted}
use Rattle.linear_transformation.specs.declared.LinearTransformationStrategy.{LinearTransformationStrategy}
use Rattle.linear_transformation.specs.declared.plan.PlanSizes.{PlanSizes}
use Rattle.linear_transformation.specs.Strategies.{width_outside}
use Rattle.linear_transformation.specs.Plans.{Distinct}
use Rattle.linear_transformation.specs.Schedules.{plan_words}
use Rattle.linear_transformation.specs.Stored.{stored_plan_refusal, StoredPlanWritten, stored_refusals}
use Rattle.linear_transformation.specs.Laws.Stored.{distinct_rise}

module _ {slots : ℕ} (strategy : LinearTransformationStrategy) {ks : List ℕ} (range : Range slots) (width : width_outside strategy ≡ false) (distinct : Distinct slots ks) where
  -- no refusal of the offsets, the slots or the width
  pub none_stored : (cs : List (Bool × Refusal)) → first_refusal (stored_refusals slots strategy ks ++ cs) ≡ first_refusal cs
  none_stored cs = rw (not_outside slots range.low range.high, distinct_rise slots ks distinct, width)

  module _ {plan plan' : List ℕ} {r : Result PlanSizes Refusal} (room : length (plan_words slots strategy ks) ≤ length plan) (p : StoredPlanWritten slots strategy ks plan plan' r) where
    taken : stored_plan_refusal slots strategy ks plan ≡ None
    taken = none_stored ((ltb (length plan) (length (plan_words slots strategy ks)), Room) ∷ []) ∙ rw (le-ltb (length plan) (length (plan_words slots strategy ks)) room)

    pub plan_given : IsOk r
    plan_given = given _ _ p.answer taken

    pub plan_written : plan' ≡ in_front (plan_words slots strategy ks) plan
    plan_written = p.words ∙ on_accept_accepted _ _ _ taken
