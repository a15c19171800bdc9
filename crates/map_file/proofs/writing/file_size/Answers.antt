-- `map_file::writing::file_size` meets its contract. Assumes nothing.
use Rattle.std.proofs.Common.{arith}
use Rattle.map_file.proofs.StoredMaps.{stored_of, stored_small}
use Rattle.map_file.proofs.writing.file_size.Goals as goal

pub overflow_mul-result : goal.overflow_mul-result
overflow_mul-result c =
    let m = c.args.map.now in
    record { fits = omega (arith, stored_small (stored_of m.in_range m.formed m.total_is)) }

pub overflow_add-result : goal.overflow_add-result
overflow_add-result c =
    let m = c.args.map.now in
    record { fits = omega (arith, stored_small (stored_of m.in_range m.formed m.total_is)) }

pub overflow_mul-result-2 : goal.overflow_mul-result-2
overflow_mul-result-2 c =
    let m = c.args.map.now in
    record { fits = omega (arith, stored_small (stored_of m.in_range m.formed m.total_is)) }

pub overflow_add-result-2 : goal.overflow_add-result-2
overflow_add-result-2 c =
    let m = c.args.map.now in
    record { fits = omega (arith, stored_small (stored_of m.in_range m.formed m.total_is)) }
