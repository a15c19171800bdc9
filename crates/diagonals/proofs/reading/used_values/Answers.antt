-- `diagonals::reading::used_values` meets its contract. Assumes nothing.
use Rattle.std.proofs.Common.{length, ap, ◌∙◌, length-take-le}
use Rattle.ring.specs.Laws.Answers.{answered_accepted}
use Rattle.diagonals.specs.Laws.Calls.{same_accepted, same_formed, same_total}
use Rattle.diagonals.specs.Laws.Maps.{formed_means, values_inside}
use Rattle.diagonals.specs.Laws.Words.{values_view}
use Rattle.diagonals.proofs.reading.used_values.Goals as goal

pub returns : goal.returns
returns c =
    let map = c.in_ok-accept.field-0 in
    let same = c.in_ok-accept.ensures in
    let w = formed_means _ _ _ _ (same_formed same map.formed) in
    rw (same_total same map.total_is, ap length (values_view _ _ _) ∙ length-take-le _ _ (values_inside w)) (answered_accepted _ _ (same_accepted same map.in_range map.formed))
