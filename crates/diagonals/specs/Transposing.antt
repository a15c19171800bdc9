-- Document 01, "Transpose": offset k to -k mod slots, its period rotated left by (-k) mod slots.
-- Assumes nothing.
use Rattle.std.specs.Prelude.{ℕ, ◌-◌, ◌%◌, cond, List, [], ◌∷◌, map, reverse, length, pos, ◌==◌}
use Rattle.ring.specs.Rotations.{rotated}
use Rattle.diagonals.specs.Maps.{Diagonal}

-- -k mod slots
abbrev pub opposite : ℕ → ℕ → ℕ
opposite slots k = (slots - k) % slots

abbrev pub turned : ℕ → Diagonal → Diagonal
turned slots d = record { offset = opposite slots d.offset; values = rotated d.values (pos (opposite slots d.offset)) (length d.values) }

-- the order of the diagonals turns round, but offset 0 stays first
unfoldable pub transposed : ℕ → List Diagonal → List Diagonal
transposed slots [] = []
transposed slots (d ∷ ds) = cond (d.offset == 0) (turned slots d ∷ reverse (map (turned slots) ds)) (reverse (map (turned slots) (d ∷ ds)))
