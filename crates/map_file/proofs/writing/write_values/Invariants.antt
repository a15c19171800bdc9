-- `map_file::writing::write_values` meets its contract. Assumes nothing.
use mathlib.Core.Path.{◌≡◌}
use lib.ListN.{length}
use Rattle.map_file.specs.Files.{bytes_of}
use Rattle.map_file.proofs.Filing.{Filing}
use Rattle.map_file.proofs.writing.write_values.Given as goal

abbrev pub invariant-loop-j : goal.invariant-loop-j
invariant-loop-j l = Filing (bytes_of 8) l.from l.values l.initial.out l.out l.j × (l.j-end ≡ length l.values)
