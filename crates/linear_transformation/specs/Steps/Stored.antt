-- What the private steps of the calls about stored offsets ask and ensure.
-- Assumes nothing.
use Rattle.std.specs.Prelude.{ℕ, ◌<◌, ◌≡◌, Bool, not, ◌&&◌, ◌||◌, List, [], ◌∷◌, eqb, length, Option}
use Rattle.ring.specs.Lists.{among}
use Rattle.ring.specs.Marks.{marks}
use Rattle.ring.specs.declared.refusal.Refusal.{Refusal}
use Rattle.ring.specs.declared.refusal.Refusal.TheVariants.{Key}
use Rattle.ring.specs.Refusals.{first_refusal}
use Rattle.linear_transformation.specs.declared.LinearTransformationStrategy.{LinearTransformationStrategy}
use Rattle.linear_transformation.specs.Plans.{baby_of, giant_of}
use Rattle.linear_transformation.specs.Schedules.{plan_keys}
use Rattle.linear_transformation.specs.Stored.{is_missing}

-- ---- the table of held keys

-- the held numbers that may be keys are marked
pub record HeldMarked (held : List ℕ) (seen : List Bool) : Type 0 where
  pub size : length seen ≡ 65536
  pub are : (k : ℕ) → k < 65536 → marks seen k ≡ among k held

-- a rotation with a key of its own isn't marked; rotation 0 has none
abbrev pub turn_lacked : List Bool → ℕ → Bool
turn_lacked seen k = not (eqb k 0) && not (marks seen k)

-- the baby's or the giant's key of diagonal k isn't marked
abbrev pub turns_lacked : ℕ → List Bool → ℕ → Bool
turns_lacked width seen k = turn_lacked seen (baby_of width k) || turn_lacked seen (giant_of width k)

-- the answer whether a key isn't held, from the marks of any held list
pub record Lacking (keys : List ℕ) (seen : List Bool) (r : Bool) : Type 0 where
  pub are : (held : List ℕ) → HeldMarked held seen → r ≡ is_missing held keys

-- the refusal of accepted offsets, by the held keys
abbrev pub keys_refusal : ℕ → LinearTransformationStrategy → List ℕ → List ℕ → Option Refusal
keys_refusal slots strategy ks held = first_refusal ((is_missing held (plan_keys slots strategy ks), Key) ∷ [])
