-- `map_file::writing::map_file_size` meets its contract. Assumes nothing.
use Rattle.std.proofs.Common.{◌∙◌}
use Rattle.ring.specs.Laws.Answers.{answered_accepted}
use Rattle.diagonals.specs.Laws.Calls.{same_accepted}
use Rattle.map_file.proofs.StoredMaps.{stored_of, stored_size}
use Rattle.map_file.proofs.writing.map_file_size.Goals as goal

pub returns : goal.returns
returns c =
    let m = c.in_ok-accept.field-0 in
    let same = c.in_ok-accept.ensures in
    rw (c.file_size.ensures ∙ stored_size (stored_of m.in_range m.formed m.total_is), same.slots_is, same.count_is, same.pairs_is, same.values_is) (answered_accepted _ _ (same_accepted same m.in_range m.formed))
