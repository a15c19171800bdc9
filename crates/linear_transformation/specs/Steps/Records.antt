-- What the steps that turn a heap into pair records ask and ensure.
-- Assumes nothing.
use Rattle.std.specs.Prelude.{ℕ, Bool, List}
use Rattle.ring.specs.Lists.{join}
use Rattle.ring.specs.Vectors.{tabulate}
use Rattle.linear_transformation.specs.declared.records.PairRecord.{PairRecord}
use Rattle.linear_transformation.specs.declared.tree.Tree.{Tree}
use Rattle.linear_transformation.specs.Steps.Trees.{level_pairs}

-- all pairs, level after level
unfoldable pub heap_records : ℕ → List Bool → List PairRecord
heap_records b heap = join (level_pairs heap b) (tabulate b (λ i. i))

abbrev pub records_in : Tree → List PairRecord
records_in t = heap_records t.bits t.nodes.now
