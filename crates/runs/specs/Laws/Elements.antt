-- A law of the elements of lists.
-- Assumes nothing.
use Rattle.std.specs.Prelude.{◌≡◌, ℕ, zero, suc, ◌<◌, List, [], ◌∷◌, map, length, slice_index_or, refl}
use Rattle.std.proofs.Common.{not-suc-le-zero, le_of_suc-le-suc}

-- an element of a list mapped
pub mapped_at : {A B : Type 0} (f : A → B) (xs : List A) (i : ℕ) (a : A) (b : B) → i < length xs → slice_index_or (map f xs) i b ≡ f (slice_index_or xs i a)
mapped_at f [] i a b l = absurd (not-suc-le-zero l)
mapped_at f (x ∷ xs) zero a b l = refl
mapped_at f (x ∷ xs) (suc i) a b l = mapped_at f xs i a b (le_of_suc-le-suc l)
