-- What the private steps of the products by public matrices ask and ensure.
-- Assumes nothing.
use Rattle.std.specs.Prelude.{◌≡◌, ℕ, ◌+◌, ◌*◌, ◌/◌, ◌%◌, ◌<◌, Bool, List, [], ◌∷◌, ◌++◌, None, Some, Result, Ok, Err, slice_index}
use Rattle.ring.specs.declared.refusal.Refusal.{Refusal}
use Rattle.ring.specs.declared.refusal.Refusal.TheVariants.{Length}
use Rattle.ring.specs.Refusals.{first_refusal}
use Rattle.maps.specs.declared.rules.Product.{Product}
use Rattle.maps.specs.declared.publics.Sums.{Sums}
use Rattle.maps.specs.declared.building.Summand.{Summand}
use Rattle.maps.specs.Entries.{place, slot_of}
use Rattle.maps.specs.Sums.{factors}
use Rattle.maps.specs.Calls.{tile_refusals, no_matrices}

-- the l-th summand of output t, where every matrix slot has a matrix of its own
abbrev pub plain_summand : Product → ℕ → List ℕ → ℕ → ℕ → Summand
plain_summand p d b t l =
    let f = factors p d (t / d % d) (t % d) l in
    record { j = slot_of d t * (d * d) + place d f.input; w = slice_index b (slot_of d t * (d * d) + place d f.public) }

-- where the matrix slot of output t starts, and its entry
pub record OutputIs (d t base row col : ℕ) : Type 0 where
  pub base_is : base ≡ slot_of d t * (d * d)
  pub row_is : row ≡ t / d % d
  pub col_is : col ≡ t % d

-- a place within the matrix slot at base
pub record SpotIs (base d r c at : ℕ) : Type 0 where
  pub is : at ≡ base + (r * d + c)
  pub low : at < base + d * d

-- the input and the public entry of a summand
pub record FactorsAt (p : Product) (d base row col l input public : ℕ) : Type 0 where
  pub input_is : input ≡ base + place d (factors p d row col l).input
  pub public_is : public ≡ base + place d (factors p d row col l).public
  pub public_low : public < base + d * d

-- ---- refusals

-- before the room is known
abbrev pub product_refusals : ℕ → ℕ → ℕ → List ℕ → List (Bool × Refusal)
product_refusals slots log_d count b = tile_refusals slots log_d count ++ (no_matrices log_d count b, Length) ∷ []

-- an accepted product
pub record ProductTaken (p : Product) (slots log_d count : ℕ) (b : List ℕ) (m : Sums) : Type 0 where
  pub none : first_refusal (product_refusals slots log_d count b) ≡ None
  pub product_is : m.product ≡ p
  pub log_is : m.side.log_d ≡ log_d
  pub count_is : m.count ≡ count
  pub words_are : m.b.now ≡ b

-- the test of a product
pub record ProductJudged (p : Product) (slots log_d count : ℕ) (b : List ℕ) (r : Result Sums Refusal) : Type 0 where
  pub refused : (x : Refusal) → r ≡ Err x → first_refusal (product_refusals slots log_d count b) ≡ Some x
  pub accepted : (m : Sums) → r ≡ Ok m → ProductTaken p slots log_d count b m
