-- Document 01, "Map store": rotation by k.
-- Assumes nothing.
use Rattle.std.specs.Prelude.{ℕ, List, length, ℤ, pos, ◌+ℤ◌, slice_index}
use Rattle.ring.specs.Vectors.{tabulate}
use Rattle.ring.specs.Residues.{residue_of}

-- n slots, the j-th of which is that of v at (j + k) mod its length
unfoldable pub rotated : List ℕ → ℤ → ℕ → List ℕ
rotated v k n = tabulate n (λ j. slice_index v (residue_of (pos j +ℤ k) (length v)))
