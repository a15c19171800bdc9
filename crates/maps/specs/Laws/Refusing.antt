-- What a call leaves that is refused for its tiling, its shift or its matrix: every word as it was.
-- Assumes nothing.
use Rattle.std.specs.Prelude.{◌≡◌, ℕ, ◌*◌, ◌^◌, Bool, true, not, ◌||◌, List, ◌∷◌, ◌++◌, nat_lt, length, ◌==◌, Err, None, Some}
use Rattle.std.proofs.Common.{◌∙◌, refl}
use Rattle.ring.specs.declared.refusal.Refusal.{Refusal}
use Rattle.ring.specs.declared.refusal.Refusal.TheVariants.{Shift, Length, Term}
use Rattle.ring.specs.Refusals.{first_refusal}
use Rattle.ring.specs.Laws.Refusals.{first_later, still_refused}
use Rattle.diagonals.specs.Maps.{Diagonal}
use Rattle.diagonals.specs.Calls.{map_room}
use Rattle.diagonals.specs.Laws.Calls.{written_refused}
use Rattle.maps.specs.Readings.{rotate_rows_rep}
use Rattle.maps.specs.Sums.{left_mul_rep}
use Rattle.diagonals.specs.SlotMaps.{in_range}
use Rattle.maps.specs.Calls.{tile_refusals, no_matrices, matrix_terms_map, PerMatrixWritten, RowsRepWritten, LeftMulRepWritten, TiledWritten}
use Rattle.maps.specs.Laws.Narrow.{shrunk_refused}

-- the tiling's refusals come first, and none of them leads to the further ones
pub tiles_first : (slots l count : ℕ) (cs : List (Bool × Refusal)) {x : Refusal} → first_refusal (tile_refusals slots l count) ≡ Some x → first_refusal (tile_refusals slots l count ++ cs) ≡ Some x
tiles_first slots l count cs h = still_refused (tile_refusals slots l count) cs h

pub tiles_later : (slots l count : ℕ) (cs : List (Bool × Refusal)) → first_refusal (tile_refusals slots l count) ≡ None → first_refusal (tile_refusals slots l count ++ cs) ≡ first_refusal cs
tiles_later slots l count cs h = first_later (tile_refusals slots l count) cs h

module _ (slots l : ℕ) (pairs values : List ℕ) where
  pub tiled_refused : (ds : List Diagonal) {x : Refusal} → first_refusal (tile_refusals slots l 1) ≡ Some x → TiledWritten slots l ds pairs pairs values values (Err x)
  tiled_refused ds h = written_refused (tiles_first slots l 1 (map_room ds pairs values) h)

  pub rows_refused : (k : ℕ) {x : Refusal} → first_refusal (tile_refusals slots l 1) ≡ Some x → RowsRepWritten slots l k pairs pairs values values (Err x)
  rows_refused k h = written_refused (tiles_first slots l 1 ((nat_lt k 1 || not (nat_lt k (2 ^ l)), Shift) ∷ map_room (rotate_rows_rep slots (2 ^ l) k) pairs values) h)

  pub rows_no_shift : (k : ℕ) → first_refusal (tile_refusals slots l 1) ≡ None → (nat_lt k 1 || not (nat_lt k (2 ^ l))) ≡ true → RowsRepWritten slots l k pairs pairs values values (Err Shift)
  rows_no_shift k z h = written_refused (tiles_later slots l 1 ((nat_lt k 1 || not (nat_lt k (2 ^ l)), Shift) ∷ map_room (rotate_rows_rep slots (2 ^ l) k) pairs values) z ∙ rw h refl)

  pub left_refused : (b : List ℕ) {x : Refusal} → first_refusal (tile_refusals slots l 1) ≡ Some x → LeftMulRepWritten slots l b pairs pairs values values (Err x)
  left_refused b h = written_refused (tiles_first slots l 1 ((no_matrices l 1 b, Length) ∷ map_room (left_mul_rep (2 ^ l) b) pairs values) h)

  pub left_no_matrix : (b : List ℕ) → first_refusal (tile_refusals slots l 1) ≡ None → no_matrices l 1 b ≡ true → LeftMulRepWritten slots l b pairs pairs values values (Err Length)
  left_no_matrix b z h = written_refused (tiles_later slots l 1 ((no_matrices l 1 b, Length) ∷ map_room (left_mul_rep (2 ^ l) b) pairs values) z ∙ rw h refl)

  pub terms_refused : (is js ws : List ℕ) {x : Refusal} → first_refusal (tile_refusals slots l 1) ≡ Some x → PerMatrixWritten slots l is js ws pairs pairs values values (Err x)
  terms_refused is js ws h =
      shrunk_refused
      (tiles_first slots l 1
      ((not (length is == length js) || not (length is == length ws), Length)
      ∷ (not (in_range slots (2 ^ l * 2 ^ l) is js), Term)
      ∷ map_room (matrix_terms_map slots l is js ws) pairs values)
      h)
