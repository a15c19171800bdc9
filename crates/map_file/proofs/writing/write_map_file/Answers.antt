-- `map_file::writing::write_map_file` meets its contract. Assumes nothing.
use Rattle.map_file.proofs.writing.write_map_file.Goals as goal

pub returns : goal.returns
returns c =
    let same = c.in_ok-accept.ensures in
    rw (same.slots_is, same.count_is, same.pairs_is, same.values_is) at c.write_accepted.ensures
