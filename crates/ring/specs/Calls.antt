-- The refusals of this crate's calls, in checking order, and what a call leaves in the buffers lent to it.
-- Assumes nothing.
use Rattle.std.specs.Prelude.{◌≡◌, ℕ, ◌≤◌, min, Bool, false, not, ◌||◌, List, [], ◌∷◌, length, ◌==◌, slice_index, Option, Result}
use Rattle.ring.specs.Slots.{modulus, addm, mulm}
use Rattle.ring.specs.Vectors.{tabulate}
use Rattle.ring.specs.Searches.{below}
use Rattle.ring.specs.Marks.{marks}
use Rattle.ring.specs.declared.refusal.Refusal.{Refusal}
use Rattle.ring.specs.declared.refusal.Refusal.TheVariants.{OutOfRange, Length}
use Rattle.ring.specs.Refusals.{first_refusal, on_accept, outside}
use Rattle.ring.specs.Answers.{judged}

-- `is_outside` of n, with what its answer no tells the caller
pub record IsOutside (n : ℕ) (r : Bool) : Type 0 where
  pub answer : r ≡ outside n
  pub inside : r ≡ false → (1 ≤ n) × (n ≤ 65536)

-- `count_marks`: the table has 65,536 places, so no number from there on is marked
pub record MarksCounted (seen : List Bool) (n r : ℕ) : Type 0 where
  pub answer : r ≡ length (below (marks seen) (min n 65536))
  pub within : n ≤ 65536 → r ≡ length (below (marks seen) n)

-- `period_lcm` of a and b
abbrev pub lcm_refusal : ℕ → ℕ → Option Refusal
lcm_refusal a b = first_refusal ((outside a || outside b, OutOfRange) ∷ [])

-- `min_period` of v
abbrev pub period_refusal : List ℕ → Option Refusal
period_refusal v = first_refusal ((outside (length v), OutOfRange) ∷ [])

-- out[i] + a[i]·b[i]
abbrev pub product_added : List ℕ → List ℕ → List ℕ → ℕ → ℕ
product_added a b out i = addm modulus (slice_index out i) (mulm modulus (slice_index a i) (slice_index b i))

-- `multiply_add_into` of a and b, each as long as out
abbrev pub multiply_refusal : List ℕ → List ℕ → List ℕ → Option Refusal
multiply_refusal a b out = first_refusal ((not (length a == length out) || not (length b == length out), Length) ∷ [])

pub record MultiplyAdd (a b old new : List ℕ) (r : Result Unit Refusal) : Type 0 where
  pub answer : r ≡ judged (multiply_refusal a b old)
  pub out : new ≡ on_accept (multiply_refusal a b old) (tabulate (length old) (product_added a b old)) old
