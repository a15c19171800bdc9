-- The refusals of this crate's calls, in checking order, and what a call leaves in the buffers lent to it.
-- Assumes nothing.
use Rattle.std.specs.Prelude.{◌≡◌, ℕ, ◌-◌, ◌*◌, ◌^◌, Bool, not, ◌||◌, List, [], ◌∷◌, ◌++◌, length, take, drop, ℤ, ◌==◌, nat_lt, Option, Result}
use Rattle.ring.specs.declared.refusal.Refusal.{Refusal}
use Rattle.ring.specs.declared.refusal.Refusal.TheVariants.{Slots, Period, Matrices, Shift, Length, Term, Room}
use Rattle.ring.specs.Slots.{modulus}
use Rattle.ring.specs.Vectors.{in_front}
use Rattle.ring.specs.Divisors.{divides}
use Rattle.ring.specs.Refusals.{first_refusal, on_accept, outside, no_period}
use Rattle.ring.specs.Answers.{answered}
use Rattle.diagonals.specs.Maps.{Diagonal, pair_words, value_words}
use Rattle.diagonals.specs.SlotMaps.{terms_of, in_range, slot_map}
use Rattle.diagonals.specs.Shrinking.{shrunk}
use Rattle.diagonals.specs.Calls.{map_room, MapWritten}
use Rattle.maps.specs.declared.rules.Rule.{Rule}
use Rattle.maps.specs.declared.rules.Product.{Product}
use Rattle.maps.specs.Readings.{whole_map, shift_of, shift_limit, rotate_rows_rep}
use Rattle.maps.specs.Sums.{product_map, left_mul_rep}
use Rattle.maps.specs.Values.{skewed_values, slot_product}

-- log_d is above 8, count is 0, or count·d² doesn't divide slots
abbrev pub no_tiles : ℕ → ℕ → ℕ → Bool
no_tiles slots log_d count = nat_lt 8 log_d || count == 0 || not (divides (count * (2 ^ log_d * 2 ^ log_d)) slots)

-- the refusals of every map of matrices, before the shift, the lists and the room
abbrev pub tile_refusals : ℕ → ℕ → ℕ → List (Bool × Refusal)
tile_refusals slots log_d count = (outside slots, Slots) ∷ (no_tiles slots log_d count, Matrices) ∷ []

-- ---- maps that shrink

-- a result in front of n words, of which those behind it are left free: they are what the buffer holds now
abbrev pub free_behind : ℕ → List ℕ → List ℕ → List ℕ
free_behind n result new = result ++ take (n - length result) (drop (length result) new)

-- a call with refusal e that builds the map `whole` and shrinks it in its place
pub record ShrunkWritten (e : Option Refusal) (whole : List Diagonal) (pairs₀ pairs₁ values₀ values₁ : List ℕ) (r : Result ℕ Refusal) : Type 0 where
  pub answer : r ≡ answered e (length whole)
  pub pairs : pairs₁ ≡ on_accept e (in_front (pair_words (shrunk whole)) pairs₀) pairs₀
  pub values : values₁ ≡ on_accept e (in_front (free_behind (length (value_words whole)) (value_words (shrunk whole)) values₁) values₀) values₀

-- the maps that read one entry or none: the shift exceeds the rule's limit
abbrev pub no_shift : ℕ → Rule → Bool
no_shift log_d rule = nat_lt (shift_limit rule (2 ^ log_d)) (shift_of rule)

abbrev pub rule_refusal : ℕ → ℕ → Rule → List ℕ → List ℕ → Option Refusal
rule_refusal slots log_d rule pairs values =
    first_refusal
    (tile_refusals slots log_d 1
    ++ (no_shift log_d rule, Shift)
    ∷ map_room (whole_map modulus slots (2 ^ log_d) rule) pairs values)

abbrev pub RuleWritten : ℕ → ℕ → Rule → List ℕ → List ℕ → List ℕ → List ℕ → Result ℕ Refusal → Type 0
RuleWritten slots log_d rule pairs₀ pairs₁ values₀ values₁ r =
    ShrunkWritten (rule_refusal slots log_d rule pairs₀ values₀) (whole_map modulus slots (2 ^ log_d) rule) pairs₀ pairs₁ values₀ values₁ r

-- `per_matrix_map`: slot-map terms at period d²
abbrev pub matrix_terms_map : ℕ → ℕ → List ℕ → List ℕ → List ℕ → List Diagonal
matrix_terms_map slots log_d is js ws = slot_map modulus slots (2 ^ log_d * 2 ^ log_d) (terms_of is js ws)

abbrev pub per_matrix_refusal : ℕ → ℕ → List ℕ → List ℕ → List ℕ → List ℕ → List ℕ → Option Refusal
per_matrix_refusal slots log_d is js ws pairs values =
    first_refusal
    (tile_refusals slots log_d 1
    ++ (not (length is == length js) || not (length is == length ws), Length)
    ∷ (not (in_range slots (2 ^ log_d * 2 ^ log_d) is js), Term)
    ∷ map_room (matrix_terms_map slots log_d is js ws) pairs values)

abbrev pub PerMatrixWritten : ℕ → ℕ → List ℕ → List ℕ → List ℕ → List ℕ → List ℕ → List ℕ → List ℕ → Result ℕ Refusal → Type 0
PerMatrixWritten slots log_d is js ws pairs₀ pairs₁ values₀ values₁ r =
    ShrunkWritten (per_matrix_refusal slots log_d is js ws pairs₀ values₀) (matrix_terms_map slots log_d is js ws) pairs₀ pairs₁ values₀ values₁ r

-- ---- products by public matrices

-- the public matrices are not count·d² words
abbrev pub no_matrices : ℕ → ℕ → List ℕ → Bool
no_matrices log_d count b = not (length b == count * (2 ^ log_d * 2 ^ log_d))

abbrev pub product_refusal : ℕ → ℕ → ℕ → Product → List ℕ → List ℕ → List ℕ → Option Refusal
product_refusal slots log_d count p b pairs values =
    first_refusal
    (tile_refusals slots log_d count
    ++ (no_matrices log_d count b, Length)
    ∷ map_room (product_map modulus slots (2 ^ log_d) count p b) pairs values)

abbrev pub ProductWritten : ℕ → ℕ → ℕ → Product → List ℕ → List ℕ → List ℕ → List ℕ → List ℕ → Result ℕ Refusal → Type 0
ProductWritten slots log_d count p b pairs₀ pairs₁ values₀ values₁ r =
    MapWritten (product_refusal slots log_d count p b pairs₀ values₀) (product_map modulus slots (2 ^ log_d) count p b) pairs₀ pairs₁ values₀ values₁ r

-- `left_mul_rep`
abbrev pub left_mul_rep_refusal : ℕ → ℕ → List ℕ → List ℕ → List ℕ → Option Refusal
left_mul_rep_refusal slots log_d b pairs values =
    first_refusal (tile_refusals slots log_d 1 ++ (no_matrices log_d 1 b, Length) ∷ map_room (left_mul_rep (2 ^ log_d) b) pairs values)

abbrev pub LeftMulRepWritten : ℕ → ℕ → List ℕ → List ℕ → List ℕ → List ℕ → List ℕ → Result ℕ Refusal → Type 0
LeftMulRepWritten slots log_d b pairs₀ pairs₁ values₀ values₁ r =
    MapWritten (left_mul_rep_refusal slots log_d b pairs₀ values₀) (left_mul_rep (2 ^ log_d) b) pairs₀ pairs₁ values₀ values₁ r

-- ---- maps of known diagonals: `tau_rep`, `first_row`, `first_col`
abbrev pub tiled_refusal : ℕ → ℕ → List Diagonal → List ℕ → List ℕ → Option Refusal
tiled_refusal slots log_d ds pairs values = first_refusal (tile_refusals slots log_d 1 ++ map_room ds pairs values)

abbrev pub TiledWritten : ℕ → ℕ → List Diagonal → List ℕ → List ℕ → List ℕ → List ℕ → Result ℕ Refusal → Type 0
TiledWritten slots log_d ds pairs₀ pairs₁ values₀ values₁ r = MapWritten (tiled_refusal slots log_d ds pairs₀ values₀) ds pairs₀ pairs₁ values₀ values₁ r

-- `rotate_rows_rep`: the shift isn't in 1..d-1
abbrev pub rows_rep_refusal : ℕ → ℕ → ℕ → List ℕ → List ℕ → Option Refusal
rows_rep_refusal slots log_d k pairs values =
    first_refusal
    (tile_refusals slots log_d 1
    ++ (nat_lt k 1 || not (nat_lt k (2 ^ log_d)), Shift)
    ∷ map_room (rotate_rows_rep slots (2 ^ log_d) k) pairs values)

abbrev pub RowsRepWritten : ℕ → ℕ → ℕ → List ℕ → List ℕ → List ℕ → List ℕ → Result ℕ Refusal → Type 0
RowsRepWritten slots log_d k pairs₀ pairs₁ values₀ values₁ r =
    MapWritten (rows_rep_refusal slots log_d k pairs₀ values₀) (rotate_rows_rep slots (2 ^ log_d) k) pairs₀ pairs₁ values₀ values₁ r

-- `slot_product`
abbrev pub slot_product_refusal : ℕ → List ℕ → ℤ → List ℕ → List ℕ → Option Refusal
slot_product_refusal slots v rotation pairs values =
    first_refusal ((outside slots, Slots) ∷ (no_period slots (length v), Period) ∷ map_room (slot_product v rotation) pairs values)

abbrev pub SlotProductWritten : ℕ → List ℕ → ℤ → List ℕ → List ℕ → List ℕ → List ℕ → Result ℕ Refusal → Type 0
SlotProductWritten slots v rotation pairs₀ pairs₁ values₀ values₁ r =
    MapWritten (slot_product_refusal slots v rotation pairs₀ values₀) (slot_product v rotation) pairs₀ pairs₁ values₀ values₁ r

-- `tau_values`, `sigma_values`: log_d is above 8, count is 0, or count·d² exceeds 65,536
abbrev pub no_values : ℕ → ℕ → Bool
no_values log_d count = nat_lt 8 log_d || count == 0 || nat_lt 65536 (count * (2 ^ log_d * 2 ^ log_d))

abbrev pub values_refusal : Bool → ℕ → ℕ → List ℕ → List ℕ → Option Refusal
values_refusal rows log_d count b out =
    first_refusal
    ((no_values log_d count, Matrices)
    ∷ (no_matrices log_d count b, Length)
    ∷ (nat_lt (length out) (length (skewed_values rows (2 ^ log_d) count b)), Room)
    ∷ [])

pub record ValuesWritten (rows : Bool) (log_d count : ℕ) (b old new : List ℕ) (r : Result ℕ Refusal) : Type 0 where
  pub answer : r ≡ answered (values_refusal rows log_d count b old) (length (skewed_values rows (2 ^ log_d) count b))
  pub out : new ≡ on_accept (values_refusal rows log_d count b old) (in_front (skewed_values rows (2 ^ log_d) count b) old) old
