-- Document 01, "Keys", "Keyed run" and "Refusals": what a run asks about the plan of a stored map, whose offsets it reads as
-- they stand: refusals, missing keys, pairs, and what the calls answer and write.
-- Assumes nothing.
use Rattle.std.specs.Prelude.{ℕ, zero, suc, ◌≡◌, Option, None, Some, Result, Ok, Err, Bool, not, ◌&&◌, List, [], ◌∷◌, ◌++◌, leb, ltb, length, get_or}
use Rattle.ring.specs.Lists.{some, among}
use Rattle.ring.specs.Searches.{every}
use Rattle.ring.specs.Vectors.{in_front}
use Rattle.ring.specs.declared.refusal.Refusal.{Refusal}
use Rattle.ring.specs.declared.refusal.Refusal.TheVariants.{Slots, NotAMap, OutOfRange, Key, Room}
use Rattle.ring.specs.Refusals.{number_of, first_refusal, on_accept, outside}
use Rattle.ring.specs.Answers.{answered}
use Rattle.linear_transformation.specs.declared.LinearTransformationStrategy.{LinearTransformationStrategy}
use Rattle.linear_transformation.specs.declared.LinearTransformationStrategy.TheVariants.{Bsgs, BsgsPowersOfTwo, Direct}
use Rattle.linear_transformation.specs.declared.plan.PlanSizes.{PlanSizes}
use Rattle.linear_transformation.specs.declared.records.PairRecord.{PairRecord}
use Rattle.linear_transformation.specs.declared.rotations.TreeSizes.{TreeSizes}
use Rattle.linear_transformation.specs.declared.stored.Needs.{Needs}
use Rattle.linear_transformation.specs.Strategies.{width_outside}
use Rattle.linear_transformation.specs.Trees.{Tree, tree_records, tree_switches}
use Rattle.linear_transformation.specs.Schedules.{baby_step, plan_babies, plan_giants, plan_words, plan_tree, plan_keys, plan_switches}
use Rattle.linear_transformation.specs.Calls.{plan_sizes, tree_sizes}

-- ---- refusals

-- the least that the offset at place t may be: it is above the one before it
abbrev pub least_at : List ℕ → ℕ → ℕ
least_at ks zero = 0
least_at ks (suc t) = suc (get_or ks t 0)

abbrev pub offset_fits : ℕ → List ℕ → ℕ → Bool
offset_fits slots ks t = leb (least_at ks t) (get_or ks t 0) && ltb (get_or ks t 0) slots

-- every offset is above the one before it, and below slots
unfoldable pub offsets_rise : ℕ → List ℕ → Bool
offsets_rise slots ks = every (offset_fits slots ks) (length ks)

-- the refusals of a call about stored offsets, before keys and room; `NotAMap`: they are no well-formed map's
abbrev pub stored_refusals : ℕ → LinearTransformationStrategy → List ℕ → List (Bool × Refusal)
stored_refusals slots strategy ks = (outside slots, Slots) ∷ (not (offsets_rise slots ks), NotAMap) ∷ (width_outside strategy, OutOfRange) ∷ []

-- ---- keys, pairs and steps of a plan

-- a rotation of the list isn't on the held list
unfoldable pub is_missing : List ℕ → List ℕ → Bool
is_missing held keys = some (λ k. not (among k held)) keys

-- the pairs of the tree, per rotation none: how many, and as records
unfoldable pub pair_count : ℕ → LinearTransformationStrategy → List ℕ → ℕ
pair_count slots (Bsgs width) ks = 0
pair_count slots (BsgsPowersOfTwo width) ks = tree_switches (plan_tree slots width ks)
pair_count slots Direct ks = 0

unfoldable pub plan_records : ℕ → LinearTransformationStrategy → List ℕ → List PairRecord
plan_records slots (Bsgs width) ks = []
plan_records slots (BsgsPowersOfTwo width) ks = tree_records (plan_tree slots width ks)
plan_records slots Direct ks = []

-- the baby step with powers of two; 0 where there is none, each rotation having its own key
unfoldable pub step_of : ℕ → LinearTransformationStrategy → List ℕ → ℕ
step_of slots (Bsgs width) ks = 0
step_of slots (BsgsPowersOfTwo width) ks = baby_step slots width ks
step_of slots Direct ks = 0

-- b of the tree; 0 per rotation
unfoldable pub bits_for : ℕ → LinearTransformationStrategy → List ℕ → ℕ
bits_for slots (Bsgs width) ks = 0
bits_for slots (BsgsPowersOfTwo width) ks = (plan_tree slots width ks).bits
bits_for slots Direct ks = 0

-- ---- `plan_needs`

abbrev pub needs_refusal : ℕ → LinearTransformationStrategy → List ℕ → List ℕ → Option Refusal
needs_refusal slots strategy ks held =
    first_refusal (stored_refusals slots strategy ks ++ (is_missing held (plan_keys slots strategy ks), Key) ∷ [])

-- document 01's numbers of the answer: the refusal, how many babies, giants, pairs and switches, the step and b
abbrev pub needs_numbers : Result Needs Refusal → List ℕ
needs_numbers (Ok n) = 0 ∷ n.babies ∷ n.giants ∷ n.pairs ∷ n.switches ∷ n.step ∷ n.bits ∷ []
needs_numbers (Err e) = number_of e ∷ 0 ∷ 0 ∷ 0 ∷ 0 ∷ 0 ∷ 0 ∷ []

-- the numbers of a plan
abbrev pub needs_of : ℕ → LinearTransformationStrategy → List ℕ → Needs
needs_of slots strategy ks =
    record {
      babies = length (plan_babies slots strategy ks);
      giants = length (plan_giants slots strategy ks);
      pairs = pair_count slots strategy ks;
      switches = plan_switches slots strategy ks;
      step = step_of slots strategy ks;
      bits = bits_for slots strategy ks;
    }

-- the answer by the refusal e
unfoldable pub plan_needs : Option Refusal → ℕ → LinearTransformationStrategy → List ℕ → Result Needs Refusal
plan_needs e slots strategy ks = answered e (needs_of slots strategy ks)

-- ---- `stored_plan`

abbrev pub stored_plan_refusal : ℕ → LinearTransformationStrategy → List ℕ → List ℕ → Option Refusal
stored_plan_refusal slots strategy ks plan =
    first_refusal (stored_refusals slots strategy ks ++ (ltb (length plan) (length (plan_words slots strategy ks)), Room) ∷ [])

pub record StoredPlanWritten (slots : ℕ) (strategy : LinearTransformationStrategy) (ks old new : List ℕ) (r : Result PlanSizes Refusal) : Type 0 where
  pub answer : r ≡ answered (stored_plan_refusal slots strategy ks old) (plan_sizes slots strategy ks)
  pub words : new ≡ on_accept (stored_plan_refusal slots strategy ks old) (in_front (plan_words slots strategy ks) old) old

-- ---- `plan_records`: the records of the tree over a plan's giants, which are read as they stand

-- what the call leaves, by its refusal e
pub record RecordsLeft (e : Option Refusal) (t : Tree) (old new : List PairRecord) (r : Result (Option TreeSizes) Refusal) : Type 0 where
  pub answer : r ≡ answered e (Some (tree_sizes t))
  pub records_are : new ≡ on_accept e (in_front (tree_records t) old) old

-- per rotation there is no tree, and nothing is written
abbrev pub PlanRecordsWritten : ℕ → LinearTransformationStrategy → List ℕ → List PairRecord → List PairRecord → Result (Option TreeSizes) Refusal → Type 0
PlanRecordsWritten slots (Bsgs width) gs old new r = (r ≡ Ok None) × (new ≡ old)
PlanRecordsWritten slots (BsgsPowersOfTwo width) gs old new r =
    RecordsLeft (first_refusal (stored_refusals slots (BsgsPowersOfTwo width) gs ++ (ltb (length old) (pair_count slots (BsgsPowersOfTwo width) gs), Room) ∷ [])) (plan_tree slots width gs) old new r
PlanRecordsWritten slots Direct gs old new r = (r ≡ Ok None) × (new ≡ old)
