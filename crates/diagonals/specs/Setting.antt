-- Document 01, "Map store": setting a diagonal replaces or inserts.
-- Assumes nothing.
use Rattle.std.specs.Prelude.{ℕ, cond, List, [], ◌∷◌, ◌==◌, nat_lt}
use Rattle.diagonals.specs.Maps.{Diagonal}

-- the map with `values` at offset k, in the place that keeps offsets rising
abbrev pub placed : ℕ → List ℕ → List Diagonal → List Diagonal
placed k values [] = record { offset = k; values = values } ∷ []
placed k values (d ∷ ds) =
    cond (nat_lt d.offset k)
    (d ∷ placed k values ds)
    (record { offset = k; values = values } ∷ cond (d.offset == k) ds (d ∷ ds))
