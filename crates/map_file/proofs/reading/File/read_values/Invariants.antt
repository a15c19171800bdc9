-- `map_file::reading::File::read_values` meets its contract. Assumes nothing.
use Prim.Native.Nat.{◌+◌, ◌*◌}
use Rattle.ring.specs.Vectors.{Filling}
use Rattle.map_file.specs.Files.{number_at}
use Rattle.map_file.proofs.reading.File.read_values.Given as goal

abbrev pub invariant-loop-j : goal.invariant-loop-j
invariant-loop-j l = Filling (λ k. number_at 8 l.self.bytes.now (l.from + 8 * k)) l.fn.values l.values l.j
