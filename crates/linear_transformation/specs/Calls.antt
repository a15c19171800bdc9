-- What this crate's calls answer and write: their refusals, in checking order, and their values.
-- Assumes nothing.
use Rattle.std.specs.Prelude.{ℕ, Bool, not, ◌≡◌, List, [], ◌∷◌, ◌++◌, leb, ltb, ℤ, pos, length, Option, None, Some, Result, Ok, Err}
use Rattle.ring.specs.Lists.{join}
use Rattle.ring.specs.Vectors.{in_front}
use Rattle.ring.specs.Answers.{answered}
use Rattle.ring.specs.declared.refusal.Refusal.{Refusal}
use Rattle.ring.specs.declared.refusal.Refusal.TheVariants.{Slots, OutOfRange, Baby, Giant, Room}
use Rattle.ring.specs.Residues.{residue_of, diagonals_of}
use Rattle.ring.specs.Divisors.{divides}
use Rattle.ring.specs.Refusals.{number_of, first_refusal, on_accept, outside}
use Rattle.linear_transformation.specs.declared.LinearTransformationStrategy.{LinearTransformationStrategy}
use Rattle.linear_transformation.specs.declared.rotations.BsgsRotations.{BsgsRotations}
use Rattle.linear_transformation.specs.declared.rotations.BsgsRotations.TheVariants.{PerRotation, PowersOfTwo}
use Rattle.linear_transformation.specs.declared.rotations.PassSizes.{PassSizes}
use Rattle.linear_transformation.specs.declared.rotations.TreeSizes.{TreeSizes}
use Rattle.linear_transformation.specs.declared.records.PairRecord.{PairRecord}
use Rattle.linear_transformation.specs.declared.plan.PlanSizes.{PlanSizes}
use Rattle.linear_transformation.specs.Strategies.{width_outside}
use Rattle.linear_transformation.specs.Trees.{Tree, level_words, tree_records, tree_switches}
use Rattle.linear_transformation.specs.Closures.{Pass}
use Rattle.linear_transformation.specs.Schedules.{plan_babies, plan_giants, plan_words}
use Rattle.linear_transformation.specs.Listed.{no_baby, giant_refusals, list_tree, baby_refusals, passes_of, pass_words, move_words}
use Rattle.linear_transformation.specs.declared.digits.Digit.{Digit}

-- `normalize_linear_transform_diagonal`
abbrev pub normalize_refusal : ℕ → Option Refusal
normalize_refusal slots = first_refusal ((outside slots, Slots) ∷ [])

-- `baby_multiple`
abbrev pub baby_refusal : ℤ → ℕ → Option Refusal
baby_refusal baby step = first_refusal ((outside step, OutOfRange) ∷ (no_baby baby step, Baby) ∷ [])

-- `giant_digit`; `Giant`: the rotation's residue is no multiple of the step
abbrev pub digit_refusal : ℕ → ℕ → ℤ → Option Refusal
digit_refusal slots step rot =
    first_refusal ((outside slots, Slots) ∷ (outside step, OutOfRange) ∷ (not (divides step (residue_of rot slots)), Giant) ∷ [])

-- `tree_rotation`; `OutOfRange` also: more than 16 levels, or a level that is none of b
abbrev pub level_refusal : ℕ → ℕ → ℕ → ℕ → Option Refusal
level_refusal slots step b i = first_refusal ((outside slots, Slots) ∷ (outside step, OutOfRange) ∷ (ltb 16 b, OutOfRange) ∷ (leb b i, OutOfRange) ∷ [])

-- document 01's numbers of an answer: the refusal and the digit
abbrev pub digit_numbers : Result Digit Refusal → ℕ × ℤ
digit_numbers (Ok d) = (0, d.0)
digit_numbers (Err e) = (number_of e, pos 0)

-- ---- a list that is written in front of a lent buffer

-- the refusals cs come before the room is known; then the list's length is answered, and its words stand in front
pub record ListWritten (cs : List (Bool × Refusal)) (result old new : List ℕ) (r : Result ℕ Refusal) : Type 0 where
  pub answer : r ≡ answered (first_refusal (cs ++ (ltb (length old) (length result), Room) ∷ [])) (length result)
  pub words : new ≡ on_accept (first_refusal (cs ++ (ltb (length old) (length result), Room) ∷ [])) (in_front result old) old

-- ---- plans

-- the refusals of a plan, before the room is known
abbrev pub plan_refusals : ℕ → LinearTransformationStrategy → List (Bool × Refusal)
plan_refusals slots strategy = (outside slots, Slots) ∷ (width_outside strategy, OutOfRange) ∷ []

-- document 01's numbers of a plan's answer: the refusal, and how many babies, giants and diagonals
abbrev pub plan_numbers : Result PlanSizes Refusal → List ℕ
plan_numbers (Ok s) = 0 ∷ s.babies ∷ s.giants ∷ s.diagonals ∷ []
plan_numbers (Err e) = number_of e ∷ 0 ∷ 0 ∷ 0 ∷ []

-- how many babies, giants and diagonals a plan has
abbrev pub plan_sizes : ℕ → LinearTransformationStrategy → List ℕ → PlanSizes
plan_sizes slots strategy diagonals =
    record {
      babies = length (plan_babies slots strategy diagonals);
      giants = length (plan_giants slots strategy diagonals);
      diagonals = length diagonals;
    }

-- `linear_transform_index` of the listed diagonals; `linear_transformation_plan` is that of Bsgs
abbrev pub plan_refusal : ℕ → LinearTransformationStrategy → List ℤ → List ℕ → Option Refusal
plan_refusal slots strategy indexes plan =
    first_refusal (plan_refusals slots strategy ++ (ltb (length plan) (length (plan_words slots strategy (diagonals_of slots indexes))), Room) ∷ [])

pub record PlanWritten (slots : ℕ) (strategy : LinearTransformationStrategy) (indexes : List ℤ) (old new : List ℕ) (r : Result PlanSizes Refusal) : Type 0 where
  pub answer : r ≡ answered (plan_refusal slots strategy indexes old) (plan_sizes slots strategy (diagonals_of slots indexes))
  pub words : new ≡ on_accept (plan_refusal slots strategy indexes old) (in_front (plan_words slots strategy (diagonals_of slots indexes)) old) old

-- ---- passes

-- document 01's numbers of the answer: the refusal, and how many passes and moves
abbrev pub pass_numbers : Result PassSizes Refusal → List ℕ
pass_numbers (Ok s) = 0 ∷ s.passes ∷ s.moves ∷ []
pass_numbers (Err e) = number_of e ∷ 0 ∷ 0 ∷ []

-- how many passes there are, and how many moves in all
abbrev pub pass_sizes : List Pass → PassSizes
pass_sizes ps = record { passes = length ps; moves = length (join (λ p. p.moves) ps) }

-- `baby_passes`: three words a pass, and two a move
abbrev pub pass_refusal : BsgsRotations → List ℤ → List ℕ → List ℕ → Option Refusal
pass_refusal rotations bs passes moves =
    first_refusal (baby_refusals rotations bs ++ (ltb (length passes) (length (pass_words (passes_of rotations bs))), Room) ∷ (ltb (length moves) (length (move_words (passes_of rotations bs))), Room) ∷ [])

pub record PassesWritten (rotations : BsgsRotations) (bs : List ℤ) (passes passes' moves moves' : List ℕ) (r : Result PassSizes Refusal) : Type 0 where
  pub answer : r ≡ answered (pass_refusal rotations bs passes moves) (pass_sizes (passes_of rotations bs))
  pub passes_are : passes' ≡ on_accept (pass_refusal rotations bs passes moves) (in_front (pass_words (passes_of rotations bs)) passes) passes
  pub moves_are : moves' ≡ on_accept (pass_refusal rotations bs passes moves) (in_front (move_words (passes_of rotations bs)) moves) moves

-- ---- trees

-- document 01's numbers of a tree's answer: the refusal, b (0: no tree, per rotation) and how many pairs
abbrev pub tree_numbers : Result (Option TreeSizes) Refusal → List ℕ
tree_numbers (Ok None) = 0 ∷ 0 ∷ 0 ∷ []
tree_numbers (Ok (Some s)) = 0 ∷ s.bits ∷ s.pairs ∷ []
tree_numbers (Err e) = number_of e ∷ 0 ∷ 0 ∷ []

-- b of a tree, and how many pairs it has
abbrev pub tree_sizes : Tree → TreeSizes
tree_sizes t = record { bits = t.bits; pairs = tree_switches t }

-- `giant_tree`: a word a giant, two a level, a record a pair
abbrev pub tree_room : Tree → List ℕ → List ℕ → ℕ → List (Bool × Refusal)
tree_room t leaves levels room =
    (ltb (length leaves) (length t.leaves), Room)
    ∷ (ltb (length levels) (length (level_words t.levels)), Room)
    ∷ (ltb room (tree_switches t), Room)
    ∷ []

-- what the call leaves, by its refusal
pub record TreeLeft (e : Option Refusal) (t : Tree) (leaves leaves' levels levels' : List ℕ) (records records' : List PairRecord) (r : Result (Option TreeSizes) Refusal) : Type 0 where
  pub answer : r ≡ answered e (Some (tree_sizes t))
  pub leaves_are : leaves' ≡ on_accept e (in_front t.leaves leaves) leaves
  pub levels_are : levels' ≡ on_accept e (in_front (level_words t.levels) levels) levels
  pub records_are : records' ≡ on_accept e (in_front (tree_records t) records) records

-- per rotation there is no tree, and nothing is written
pub record NoneLeft (leaves leaves' levels levels' : List ℕ) (records records' : List PairRecord) (r : Result (Option TreeSizes) Refusal) : Type 0 where
  pub answer : r ≡ Ok None
  pub leaves_are : leaves' ≡ leaves
  pub levels_are : levels' ≡ levels
  pub records_are : records' ≡ records

abbrev pub TreeWritten : BsgsRotations → List ℤ → List ℕ → List ℕ → List ℕ → List ℕ → List PairRecord → List PairRecord → Result (Option TreeSizes) Refusal → Type 0
TreeWritten PerRotation gs leaves leaves' levels levels' records records' r = NoneLeft leaves leaves' levels levels' records records' r
TreeWritten (PowersOfTwo baby_step giant_step slots) gs leaves leaves' levels levels' records records' r =
    let t = list_tree slots giant_step gs in
    TreeLeft (first_refusal (giant_refusals (PowersOfTwo baby_step giant_step slots) gs ++ tree_room t leaves levels (length records))) t leaves leaves' levels levels' records records' r
