-- `map_file::reading::read_map_file` meets its contract. Assumes nothing.
use Rattle.map_file.proofs.Judging.{read_done}
use Rattle.map_file.proofs.reading.read_map_file.Goals as goal

pub returns : goal.returns
returns c =
    let f = c.in_ok-file.file in
    rw c.in_ok-file.ensures at (read_done _ _ _ f.accepted f.slots_is f.count_is f.total_is c.check_room.ensures c.in_ok-check_room.was c.read_pairs.ensures c.read_values.ensures)
