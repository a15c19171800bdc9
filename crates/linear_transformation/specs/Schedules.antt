-- Document 01, "Plan" and "Keys": what a strategy makes of a list of diagonals: babies, words, keys and switches.
-- Assumes nothing.
use Rattle.std.specs.Prelude.{ℕ, ◌+◌, ◌/◌, ℤ, pos, ◌≤ℤ◌, length}
use mathlib.Core.List.{List, ◌++◌, map, Memᴰ}
use Rattle.ring.specs.Divisors.{gcd_all}
use Rattle.ring.specs.Searches.{or_else}
use Rattle.linear_transformation.specs.declared.LinearTransformationStrategy.{LinearTransformationStrategy}
use Rattle.linear_transformation.specs.declared.LinearTransformationStrategy.TheVariants.{Bsgs, BsgsPowersOfTwo, Direct}
use Rattle.linear_transformation.specs.Plans.{width_of, babies, giants, words_with}
use Rattle.linear_transformation.specs.Closures.{closure, baby_closure, pass_rotations, nonzeros}
use Rattle.linear_transformation.specs.declared.digits.Rot.{Rot}
use Rattle.linear_transformation.specs.declared.digits.Digit.{Digit}
use Rattle.linear_transformation.specs.Trees.{Tree, digits_of, tree_of, tree_keys, tree_switches}

-- the baby step: the greatest common divisor of the plan's babies, or 1 if that is 0
unfoldable pub baby_step : ℕ → ℕ → List ℕ → ℕ
baby_step slots width diagonals = or_else (gcd_all (babies slots width diagonals)) 1

-- the baby multiples: the babies before the closure, 0 among them, each divided by the baby step
unfoldable pub baby_multiples : ℕ → ℕ → List ℕ → List ℕ
baby_multiples slots width diagonals = map (λ b. b / baby_step slots width diagonals) (babies slots width diagonals)

-- the plan's babies: with powers of two the closure
unfoldable pub plan_babies : ℕ → LinearTransformationStrategy → List ℕ → List ℕ
plan_babies slots (Bsgs width) diagonals = babies slots width diagonals
plan_babies slots (BsgsPowersOfTwo width) diagonals =
    baby_closure 16 (baby_step slots width diagonals) (baby_multiples slots width diagonals)
plan_babies slots Direct diagonals = babies slots 1 diagonals

-- the plan's giants and words
abbrev pub plan_giants : ℕ → LinearTransformationStrategy → List ℕ → List ℕ
plan_giants slots strategy diagonals = giants slots (width_of strategy) diagonals

unfoldable pub plan_words : ℕ → LinearTransformationStrategy → List ℕ → List ℕ
plan_words slots strategy diagonals =
    words_with (plan_babies slots strategy diagonals) slots (width_of strategy) diagonals

-- the plan's giants as rotations: they are residues already
abbrev pub plan_rots : ℕ → ℕ → List ℕ → List Rot
plan_rots slots width diagonals = map (λ g. record { 0 = g }) (giants slots width diagonals)

-- the giant digits: those of the plan's giants, 0 only if a giant has it
abbrev pub giant_digits : ℕ → ℕ → List ℕ → List Digit
giant_digits slots width diagonals = digits_of slots width (plan_rots slots width diagonals)

-- the tree over a plan's giants; the giant step is the width
unfoldable pub plan_tree : ℕ → ℕ → List ℕ → Tree
plan_tree slots width diagonals = tree_of slots width (plan_rots slots width diagonals)

-- the key rotations of babies and giants where each has its own key
abbrev pub keys_per_rotation : List ℕ → List ℕ → List ℕ
keys_per_rotation bs gs = nonzeros bs ++ nonzeros gs

-- the plan's key rotations: the pass rotations, then those of the levels that have pairs; otherwise the nonzero babies,
-- then the nonzero giants
unfoldable pub plan_keys : ℕ → LinearTransformationStrategy → List ℕ → List ℕ
plan_keys slots (Bsgs width) diagonals = keys_per_rotation (babies slots width diagonals) (giants slots width diagonals)
plan_keys slots (BsgsPowersOfTwo width) diagonals =
    pass_rotations 16 (baby_step slots width diagonals) (closure 16 (baby_multiples slots width diagonals))
    ++ tree_keys (plan_tree slots width diagonals)
plan_keys slots Direct diagonals = keys_per_rotation (babies slots 1 diagonals) (giants slots 1 diagonals)

-- the giant switches of a plan
unfoldable pub giant_switches : ℕ → LinearTransformationStrategy → List ℕ → ℕ
giant_switches slots (Bsgs width) diagonals = length (nonzeros (giants slots width diagonals))
giant_switches slots (BsgsPowersOfTwo width) diagonals = tree_switches (plan_tree slots width diagonals)
giant_switches slots Direct diagonals = length (nonzeros (giants slots 1 diagonals))

-- the plan's switches: its nonzero babies, and the giant switches
unfoldable pub plan_switches : ℕ → LinearTransformationStrategy → List ℕ → ℕ
plan_switches slots strategy diagonals =
    length (nonzeros (plan_babies slots strategy diagonals)) + giant_switches slots strategy diagonals

-- ---- gaps

-- no gap: every whole number between two of the list is in it
abbrev pub NoGap : List ℤ → Type 0
NoGap zs = (x y z : ℤ) → Memᴰ x zs → Memᴰ y zs → x ≤ℤ z → z ≤ℤ y → Memᴰ z zs

-- neither the baby multiples nor the giant digits of a plan have a gap
pub record NoGaps (slots width : ℕ) (diagonals : List ℕ) : Type 0 where
  pub multiples : NoGap (map pos (baby_multiples slots width diagonals))
  pub digits : NoGap (map (λ d. d.0) (giant_digits slots width diagonals))
