-- `map_file::reading::File::read_pairs` meets its contract. Assumes nothing.
use Prim.Native.Nat.{◌≤◌}
use mathlib.Core.Path.{◌≡◌}
use lib.ListN.{length}
use Rattle.map_file.proofs.FilePairs.{Reading}
use Rattle.map_file.proofs.reading.File.read_pairs.Given as goal

abbrev pub invariant-loop-i : goal.invariant-loop-i
invariant-loop-i l = Reading l.self.bytes.now l.initial.pairs l.pairs l.i × ((l.i ≤ l.self.count) × (length l.pairs ≡ length l.initial.pairs))
