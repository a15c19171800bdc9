-- `map_file::writing::write_pairs` meets its contract. Assumes nothing.
use Rattle.diagonals.specs.Maps.{view}
use Rattle.map_file.specs.Files.{pair_bytes}
use Rattle.map_file.proofs.Filing.{Filing}
use Rattle.map_file.proofs.writing.write_pairs.Given as goal

abbrev pub invariant-loop-i : goal.invariant-loop-i
invariant-loop-i l = Filing pair_bytes 8 (view l.map.count l.map.pairs.now l.map.values.now) l.initial.out l.out l.i
