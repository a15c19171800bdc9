-- The answers as C sees them: the numbers of each case, and what lies behind the lent buffers.
-- Assumes nothing.
use Rattle.std.specs.Prelude.{ℕ, ◌≡◌, Bool, List, [], ◌∷◌, ◌++◌, ltb, ℤ, length, Option, Result}
use Rattle.ring.specs.Vectors.{in_front}
use Rattle.ring.specs.declared.refusal.Refusal.{Refusal}
use Rattle.ring.specs.declared.refusal.Refusal.TheVariants.{Room}
use Rattle.ring.specs.Refusals.{first_refusal, on_accept}
use Rattle.ring.specs.Answers.{numbers, code_of, answered}
use Rattle.diagonals.specs.Calls.{map_refusals, gotten}
use Rattle.sibukyaran.specs.declared.Numbers.{Numbers}
use Rattle.sibukyaran.specs.declared.Truth.{Truth}
use Rattle.linear_transformation.specs.declared.records.PairRecord.{PairRecord}
use Rattle.linear_transformation.specs.declared.LinearTransformationStrategy.{LinearTransformationStrategy}
use Rattle.linear_transformation.specs.declared.plan.PlanSizes.{PlanSizes}
use Rattle.linear_transformation.specs.declared.rotations.BsgsRotations.{BsgsRotations}
use Rattle.linear_transformation.specs.declared.rotations.PassSizes.{PassSizes}
use Rattle.linear_transformation.specs.declared.rotations.TreeSizes.{TreeSizes}
use Rattle.linear_transformation.specs.Calls.{plan_numbers, PlanWritten, pass_numbers, PassesWritten, tree_numbers, TreeWritten}
use Rattle.sibukyaran.specs.declared.SignedDigit.{SignedDigit}
use Rattle.sibukyaran.specs.declared.PlanNumbers.{PlanNumbers}
use Rattle.sibukyaran.specs.declared.PassNumbers.{PassNumbers}
use Rattle.sibukyaran.specs.declared.TreeNumbers.{TreeNumbers}
use Rattle.linear_transformation.specs.Trees.{flag}
use Rattle.runs.specs.declared.keyed.Progress.{Progress}
use Rattle.runs.specs.Keyed.{Lent, keyed_numbers, KeyedRun}
use Rattle.sibukyaran.specs.declared.KeyedNumbers.{KeyedNumbers}
use Rattle.map_file.specs.declared.reading.FileMap.{FileMap}
use Rattle.map_file.specs.Calls.{map_numbers, FileRead}
use Rattle.sibukyaran.specs.declared.files.FileRoomNumbers.{FileRoomNumbers}
use Rattle.sibukyaran.specs.declared.files.FileMapNumbers.{FileMapNumbers}

abbrev pub told : Numbers → ℕ × ℕ
told r = (r.refusal, r.value)

abbrev pub told_truth : Truth → ℕ × Bool
told_truth r = (r.refusal, r.value)

abbrev pub told_digit : SignedDigit → ℕ × ℤ
told_digit r = (r.refusal, r.value)

-- what a call of the crate below leaves, its answer told by its numbers
pub record Told (W : Result ℕ Refusal → Type 0) (r : Numbers) : Type 0 where
  pub answer : Result ℕ Refusal
  pub tells : told r ≡ numbers answer
  pub written : W answer

-- the same of a call that gives no value: its refusal's number alone
pub record CodeTold (W : Result Unit Refusal → Type 0) (n : ℕ) : Type 0 where
  pub answer : Result Unit Refusal
  pub tells : n ≡ code_of answer
  pub written : W answer

-- `get`, its stretch in front of out
abbrev pub get_refusal : ℕ → ℕ → List ℕ → List ℕ → ℤ → List ℕ → Option Refusal
get_refusal slots count pairs values index out =
    first_refusal (map_refusals slots count pairs values ++ (ltb (length out) (length (gotten slots count pairs values index)), Room) ∷ [])

pub record GotInto (slots count : ℕ) (pairs values : List ℕ) (index : ℤ) (old new : List ℕ) (r : Result ℕ Refusal) : Type 0 where
  pub answer : r ≡ answered (get_refusal slots count pairs values index old) (length (gotten slots count pairs values index))
  pub out : new ≡ on_accept (get_refusal slots count pairs values index old) (in_front (gotten slots count pairs values index) old) old

-- ---- plans and rotations

abbrev pub told_plan : PlanNumbers → List ℕ
told_plan r = r.refusal ∷ r.babies ∷ r.giants ∷ r.diagonals ∷ []

abbrev pub told_passes : PassNumbers → List ℕ
told_passes r = r.refusal ∷ r.passes ∷ r.moves ∷ []

abbrev pub told_tree : TreeNumbers → List ℕ
told_tree r = r.refusal ∷ r.bits ∷ r.pairs ∷ []

pub record PlanTold (slots : ℕ) (strategy : LinearTransformationStrategy) (indexes : List ℤ) (old new : List ℕ) (r : PlanNumbers) : Type 0 where
  pub answer : Result PlanSizes Refusal
  pub tells : told_plan r ≡ plan_numbers answer
  pub written : PlanWritten slots strategy indexes old new answer

pub record PassesTold (rotations : BsgsRotations) (bs : List ℤ) (passes passes' moves moves' : List ℕ) (r : PassNumbers) : Type 0 where
  pub answer : Result PassSizes Refusal
  pub tells : told_passes r ≡ pass_numbers answer
  pub written : PassesWritten rotations bs passes passes' moves moves' answer

pub record TreeTold (rotations : BsgsRotations) (gs : List ℤ) (leaves leaves' levels levels' : List ℕ) (records records' : List PairRecord) (r : TreeNumbers) : Type 0 where
  pub answer : Result (Option TreeSizes) Refusal
  pub tells : told_tree r ≡ tree_numbers answer
  pub written : TreeWritten rotations gs leaves leaves' levels levels' records records' answer

-- ---- the keyed run

abbrev pub told_keyed : KeyedNumbers → List ℕ
told_keyed r = r.refusal ∷ r.switches ∷ flag r.finished ∷ r.babies ∷ r.giants ∷ r.diagonals ∷ r.pairs ∷ []

pub record KeyedTold (slots count : ℕ) (pairs values input : List ℕ) (strategy : LinearTransformationStrategy) (held : List ℕ) (n : ℕ) (old new : Lent) (r : KeyedNumbers) : Type 0 where
  pub answer : Result Progress Refusal
  pub tells : told_keyed r ≡ keyed_numbers answer
  pub written : KeyedRun slots count pairs values input strategy held n old new answer

-- ---- map files

abbrev pub told_room : FileRoomNumbers → List ℕ
told_room r = r.refusal ∷ r.pairs ∷ r.values ∷ []

abbrev pub told_map : FileMapNumbers → List ℕ
told_map r = r.refusal ∷ r.slots ∷ r.count ∷ []

pub record FileTold (bytes pairs₀ pairs₁ values₀ values₁ : List ℕ) (r : FileMapNumbers) : Type 0 where
  pub answer : Result FileMap Refusal
  pub tells : told_map r ≡ map_numbers answer
  pub written : FileRead bytes pairs₀ pairs₁ values₀ values₁ answer
