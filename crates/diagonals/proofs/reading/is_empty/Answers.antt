-- `diagonals::reading::is_empty` meets its contract. Assumes nothing.
use Rattle.ring.specs.Laws.Answers.{answered_accepted}
use Rattle.diagonals.specs.Laws.Calls.{same_accepted}
use Rattle.diagonals.specs.Laws.Maps.{length_view}
use Rattle.diagonals.proofs.reading.is_empty.Goals as goal

pub returns : goal.returns
returns c =
    let map = c.in_ok-accept.field-0 in
    let same = c.in_ok-accept.ensures in
    rw (length_view, same.count_is) (answered_accepted _ _ (same_accepted same map.in_range map.formed))
