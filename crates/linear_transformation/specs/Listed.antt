-- Document 01, "Keys" (`BsgsRotations`): closure, passes, tree and keys of lists of babies and giants, in any order and
-- with repeats.
-- Assumes nothing.
use Rattle.std.specs.Prelude.{ℕ, ◌/◌, ◌%◌, ◌^◌, Bool, not, ◌||◌, List, [], ◌∷◌, ◌++◌, map, ℤ, pos, nat_abs, length}
use Rattle.std.specs.Int.Signed.{lt_z}
use Rattle.ring.specs.Lists.{join, some, among}
use Rattle.ring.specs.Residues.{residue_of}
use Rattle.ring.specs.Divisors.{divides}
use Rattle.ring.specs.Searches.{below}
use Rattle.ring.specs.declared.refusal.Refusal.{Refusal}
use Rattle.ring.specs.declared.refusal.Refusal.TheVariants.{Slots, OutOfRange, Baby, Giant}
use Rattle.ring.specs.Refusals.{outside}
use Rattle.linear_transformation.specs.declared.rotations.BsgsRotations.{BsgsRotations}
use Rattle.linear_transformation.specs.declared.rotations.BsgsRotations.TheVariants.{PerRotation, PowersOfTwo}
use Rattle.linear_transformation.specs.Closures.{closure, baby_closure, Pass, passes, pass_rotations, nonzeros}
use Rattle.linear_transformation.specs.Digits.{rot_of}
use Rattle.linear_transformation.specs.Trees.{Tree, tree_of, tree_keys, tree_switches}

-- slots or a step is out of range
abbrev pub step_refusals : BsgsRotations → List (Bool × Refusal)
step_refusals PerRotation = []
step_refusals (PowersOfTwo baby_step giant_step slots) = (outside slots, Slots) ∷ (outside baby_step || outside giant_step, OutOfRange) ∷ []

-- ---- babies

-- the step that a listed baby is a multiple of
abbrev pub baby_step_of : BsgsRotations → ℕ
baby_step_of PerRotation = 1
baby_step_of (PowersOfTwo baby_step giant_step slots) = baby_step

-- refusal 9 of a baby: it is negative, above 65,535 or no multiple of the step
abbrev pub no_baby : ℤ → ℕ → Bool
no_baby baby step = lt_z baby (pos 0) || lt_z (pos 65535) baby || not (divides step (nat_abs baby))

-- the multiple of the step that a baby is
abbrev pub baby_multiple : ℤ → ℕ → ℕ
baby_multiple baby step = nat_abs baby / step

-- the refusals of a list of babies, before the room is known
abbrev pub baby_refusals : BsgsRotations → List ℤ → List (Bool × Refusal)
baby_refusals rotations bs = step_refusals rotations ++ (some (λ z. no_baby z (baby_step_of rotations)) bs, Baby) ∷ []

-- the multiples of the step that the babies are, in their order
abbrev pub multiples_of : ℕ → List ℤ → List ℕ
multiples_of step bs = map (λ z. baby_multiple z step) bs

-- `baby_closure`: sorted and distinct; with powers of two also what is met by clearing top bits
abbrev pub closure_of : BsgsRotations → List ℤ → List ℕ
closure_of PerRotation bs = below (λ k. among k (multiples_of 1 bs)) 65536
closure_of (PowersOfTwo baby_step giant_step slots) bs = baby_closure 16 baby_step (multiples_of baby_step bs)

-- `baby_passes`: order and repeats are the list's
abbrev pub passes_of : BsgsRotations → List ℤ → List Pass
passes_of PerRotation bs = []
passes_of (PowersOfTwo baby_step giant_step slots) bs = passes 16 baby_step (multiples_of baby_step bs)

-- the words of a pass of n moves; n takes two, least first: a list with repeats may be longer than 2^32
abbrev pub pass_record : ℕ → ℕ → List ℕ
pass_record rotation n = rotation ∷ n % 2 ^ 32 ∷ n / 2 ^ 32 ∷ []

-- how many they are
abbrev pub pass_size : ℕ
pass_size = 3

-- for each pass its rotation and its number of moves, in two words, least first
abbrev pub pass_words : List Pass → List ℕ
pass_words ps = join (λ p. pass_record p.rotation (length p.moves)) ps

-- the moves, source and target, pass after pass
abbrev pub move_words : List Pass → List ℕ
move_words ps = join (λ p. join (λ m. m.0 ∷ m.1 ∷ []) p.moves) ps

-- `baby_key_rotations`: the nonzero babies as listed, or the pass rotations of the closure
abbrev pub baby_keys_of : BsgsRotations → List ℤ → List ℕ
baby_keys_of PerRotation bs = nonzeros (multiples_of 1 bs)
baby_keys_of (PowersOfTwo baby_step giant_step slots) bs =
    pass_rotations 16 baby_step (closure 16 (multiples_of baby_step bs))

-- ---- giants

-- the refusals of a list of giants, before the room is known
abbrev pub giant_refusals : BsgsRotations → List ℤ → List (Bool × Refusal)
giant_refusals PerRotation gs = []
giant_refusals (PowersOfTwo baby_step giant_step slots) gs =
    step_refusals (PowersOfTwo baby_step giant_step slots)
    ++ (some (λ z. not (divides giant_step (residue_of z slots))) gs, Giant) ∷ []

-- the tree of a list of giants
abbrev pub list_tree : ℕ → ℕ → List ℤ → Tree
list_tree slots step gs = tree_of slots step (map (rot_of slots) gs)

-- `giant_key_rotations`: none per rotation
abbrev pub giant_keys_of : BsgsRotations → List ℤ → List ℕ
giant_keys_of PerRotation gs = []
giant_keys_of (PowersOfTwo baby_step giant_step slots) gs = tree_keys (list_tree slots giant_step gs)

-- `giant_key_switches`: the entries that are not 0, taken as listed, not modulo slots; or the pairs of all levels
abbrev pub giant_switches_of : BsgsRotations → List ℤ → ℕ
giant_switches_of PerRotation gs = length (nonzeros (map nat_abs gs))
giant_switches_of (PowersOfTwo baby_step giant_step slots) gs = tree_switches (list_tree slots giant_step gs)
