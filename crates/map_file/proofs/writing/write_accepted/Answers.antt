-- `map_file::writing::write_accepted` meets its contract. Assumes nothing.
use Rattle.std.proofs.Common.{sym, arith, length-take-le}
use Rattle.std.specs.Int.{w32}
use Rattle.map_file.proofs.Filing.{put_le}
use Rattle.map_file.proofs.StoredMaps.{stored_of, stored_count, stored_total, file_no_room, file_put}
use Rattle.map_file.proofs.writing.write_accepted.Goals as goal

pub returns-then-out-size : goal.returns-then-out-size
returns-then-out-size c =
    let m = c.args.map.now in
    file_no_room _ _ _ _ _ (stored_of m.in_range m.formed m.total_is) c.file_size-size.ensures c.if-out-size.true

pub overflow_cast-map-2 : goal.overflow_cast-map-2
overflow_cast-map-2 c =
    let m = c.args.map.now in
    record { fits = omega (arith, stored_count (stored_of m.in_range m.formed m.total_is)) }

pub slice_bounds-write_values-end : goal.slice_bounds-write_values-end
slice_bounds-write_values-end c =
    let m = c.args.map.now in
    sym (length-take-le _ _ (stored_total (stored_of m.in_range m.formed m.total_is)).1)

pub returns : goal.returns
returns c =
    let m = c.args.map.now in
    file_put _ _ _ _ _ (stored_of m.in_range m.formed m.total_is) c.file_size-size.ensures c.if-out-size.false (put_le w32 _ _ _ _ _ c.to_le_bytes.ensures c.put.ensures) (put_le w32 _ _ _ _ _ c.to_le_bytes-2.ensures c.put-2.ensures) c.write_pairs.ensures c.write_values.ensures
