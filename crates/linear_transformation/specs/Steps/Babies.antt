-- What the private steps of the calls about lists of babies ask and ensure.
-- Assumes nothing.
use Rattle.std.specs.Prelude.{ℕ, ◌+◌, ◌-◌, ◌*◌, ◌^◌, ◌≤◌, ◌<◌, ◌≡◌, Bool, true, false, cond, ◌&&◌, ◌⊎◌, List, [], ◌∷◌, map, eqb, leb, ltb, ℤ, pos, length, Option, None, Result}
use Rattle.std.specs.Int.Signed.{lt_z}
use Rattle.ring.specs.Lists.{join, Each, among}
use Rattle.ring.specs.Vectors.{in_front}
use Rattle.ring.specs.Searches.{below}
use Rattle.ring.specs.Marks.{marks}
use Rattle.ring.specs.declared.refusal.Refusal.{Refusal}
use Rattle.ring.specs.declared.refusal.Refusal.TheVariants.{Room}
use Rattle.ring.specs.Refusals.{first_refusal, on_accept, Range}
use Rattle.ring.specs.Answers.{answered}
use Rattle.linear_transformation.specs.declared.rotations.BsgsRotations.{BsgsRotations}
use Rattle.linear_transformation.specs.declared.rotations.PassSizes.{PassSizes}
use Rattle.linear_transformation.specs.Closures.{cleared, closure, Pass, passes}
use Rattle.linear_transformation.specs.Listed.{baby_refusals, baby_step_of, no_baby, multiples_of, closure_of, pass_record, pass_words, move_words}
use Rattle.linear_transformation.specs.Calls.{pass_sizes}
use Rattle.linear_transformation.specs.Steps.Tables.{Bounded}

-- ---- refusals

-- babies that are accepted for a step
pub record Babies (step : ℕ) (bs : List ℤ) : Type 0 where
  pub range : Range step
  pub each : Each (λ z. no_baby z step ≡ false) bs

-- an accepted list of babies: no refusal applies, and its parts are those that the call was given
pub record BabiesAccepted (rotations : BsgsRotations) (bs : List ℤ) (step₁ : ℕ) (bs₁ : List ℤ) : Type 0 where
  pub none : first_refusal (baby_refusals rotations bs) ≡ None
  pub step_is : step₁ ≡ baby_step_of rotations
  pub babies_are : bs₁ ≡ bs

-- neither negative nor above 65,535
pub record Small (z : ℤ) : Type 0 where
  pub low : lt_z z (pos 0) ≡ false
  pub high : lt_z (pos 65535) z ≡ false

-- ---- tables

-- for each marked k between p and 2p, k - p is marked too, and nothing else is new
pub record Folded (p n : ℕ) (old new : List Bool) : Type 0 where
  pub bounded : Bounded new n
  pub grows : (k : ℕ) → marks old k ≡ true → marks new k ≡ true
  pub moved : (k : ℕ) → p < k → k < 2 * p → marks old k ≡ true → marks new (k - p) ≡ true
  pub origin : (k : ℕ) → marks new k ≡ true → (marks old k ≡ true) ⊎ ((1 ≤ k) × ((k < p) × (marks old (k + p) ≡ true)))

-- a set that has, with each number, that number with its top bit cleared, if it is not 0
abbrev pub Clears : (ℕ → Bool) → Type 0
Clears p = (k : ℕ) → p k ≡ true → 1 ≤ cleared k → p (cleared k) ≡ true

-- `close`: the least such set that has the marks. `closes_closure` says that it is the closure of any list with these marks
pub record Closes (n : ℕ) (old new : List Bool) : Type 0 where
  pub bounded : Bounded new n
  pub grows : (k : ℕ) → marks old k ≡ true → marks new k ≡ true
  pub clears : Clears (marks new)
  pub least : (p : ℕ → Bool) → Clears p → ((k : ℕ) → marks old k ≡ true → p k ≡ true) → (k : ℕ) → marks new k ≡ true → p k ≡ true

-- the marks of the babies' multiples
pub record Marked (step : ℕ) (bs : List ℤ) (seen : List Bool) (n : ℕ) : Type 0 where
  pub bounded : Bounded seen n
  pub marked : (k : ℕ) → marks seen k ≡ among k (multiples_of step bs)

-- the marks of their closure
pub record Enclosed (step : ℕ) (bs : List ℤ) (seen : List Bool) (n : ℕ) : Type 0 where
  pub bounded : Bounded seen n
  pub is : below (marks seen) n ≡ closure 16 (multiples_of step bs)

-- the marks of what `baby_closure` writes
pub record Reached (rotations : BsgsRotations) (bs : List ℤ) (seen : List Bool) (n : ℕ) : Type 0 where
  pub bounded : Bounded seen n
  pub is : map (λ k. k * baby_step_of rotations) (below (marks seen) n) ≡ closure_of rotations bs

-- ---- passes

-- k is at least p and below 2p: where p is a power of two, it is the top bit of k
abbrev pub in_pass : ℕ → ℕ → Bool
in_pass p k = leb p k && ltb k (2 * p)

-- the words of k's move in the pass p, if k is its target
abbrev pub moves_at : ℕ → ℕ → ℕ → List ℕ
moves_at step p k = cond (in_pass p k) ((k - p) * step ∷ k * step ∷ []) []

-- the words of a pass of n moves; there is no pass of no moves
abbrev pub pass_if_any : ℕ → ℕ → List ℕ
pass_if_any rotation n = cond (eqb n 0) [] (pass_record rotation n)

-- there is room for the moves of the pass p
pub record Moving (step : ℕ) (bs : List ℤ) (p from : ℕ) (moves : List ℕ) : Type 0 where
  pub low : p ≤ 32768
  pub room : from + length (join (moves_at step p) (multiples_of step bs)) ≤ length moves

pub record PassRoom (rotation n at : ℕ) (old : List ℕ) : Type 0 where
  pub word : rotation < 2 ^ 32
  pub room : at + length (pass_if_any rotation n) ≤ length old

-- there is room for all passes and their moves
pub record PassesRoom (step : ℕ) (bs : List ℤ) (old moves : List ℕ) : Type 0 where
  pub passes_room : length (pass_words (passes 16 step (multiples_of step bs))) ≤ length old
  pub moves_room : length (move_words (passes 16 step (multiples_of step bs))) ≤ length moves

pub record PassesLeft (step : ℕ) (bs : List ℤ) (old new moves moves' : List ℕ) : Type 0 where
  pub passes_are : new ≡ in_front (pass_words (passes 16 step (multiples_of step bs))) old
  pub moves_are : moves' ≡ in_front (move_words (passes 16 step (multiples_of step bs))) moves

-- `baby_passes` of accepted babies, with powers of two
abbrev pub room_refusal : List Pass → List ℕ → List ℕ → Option Refusal
room_refusal ps old moves = first_refusal ((ltb (length old) (length (pass_words ps)), Room) ∷ (ltb (length moves) (length (move_words ps)), Room) ∷ [])

pub record PowerPasses (step : ℕ) (bs : List ℤ) (old new moves moves' : List ℕ) (r : Result PassSizes Refusal) : Type 0 where
  pub answer : r ≡ answered (room_refusal (passes 16 step (multiples_of step bs)) old moves) (pass_sizes (passes 16 step (multiples_of step bs)))
  pub passes_are : new ≡ on_accept (room_refusal (passes 16 step (multiples_of step bs)) old moves) (in_front (pass_words (passes 16 step (multiples_of step bs))) old) old
  pub moves_are : moves' ≡ on_accept (room_refusal (passes 16 step (multiples_of step bs)) old moves) (in_front (move_words (passes 16 step (multiples_of step bs))) moves) moves
