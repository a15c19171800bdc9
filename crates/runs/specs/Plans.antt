-- Document 01, "Plan" and "Keyed run": the plan of a map is that of its stored offsets, as they stand.
-- Assumes nothing.
use Rattle.std.specs.Prelude.{ℕ, List}
use Rattle.diagonals.specs.Maps.{Diagonal, offsets_of}
use Rattle.linear_transformation.specs.declared.LinearTransformationStrategy.{LinearTransformationStrategy}
use Rattle.linear_transformation.specs.Schedules.{plan_babies, plan_giants, plan_words, plan_keys, plan_switches}

abbrev pub map_babies : ℕ → LinearTransformationStrategy → List Diagonal → List ℕ
map_babies slots strategy ds = plan_babies slots strategy (offsets_of ds)

abbrev pub map_giants : ℕ → LinearTransformationStrategy → List Diagonal → List ℕ
map_giants slots strategy ds = plan_giants slots strategy (offsets_of ds)

-- babies, giants, pairs and index
abbrev pub map_plan : ℕ → LinearTransformationStrategy → List Diagonal → List ℕ
map_plan slots strategy ds = plan_words slots strategy (offsets_of ds)

-- the rotations that it asks keys for, and its number of switches
abbrev pub map_keys : ℕ → LinearTransformationStrategy → List Diagonal → List ℕ
map_keys slots strategy ds = plan_keys slots strategy (offsets_of ds)

abbrev pub map_switches : ℕ → LinearTransformationStrategy → List Diagonal → ℕ
map_switches slots strategy ds = plan_switches slots strategy (offsets_of ds)
