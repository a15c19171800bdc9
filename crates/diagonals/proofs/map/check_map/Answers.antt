-- `diagonals::map::check_map` meets its contract. Assumes nothing.
use Rattle.diagonals.specs.Laws.Calls.{judged_accepted, same_outside, same_formed}
use Rattle.diagonals.proofs.map.check_map.Goals as goal

pub returns : goal.returns
returns c =
    let m = c.in_ok-accept.field-0 in
    judged_accepted (same_outside c.in_ok-accept.ensures m.in_range) (same_formed c.in_ok-accept.ensures m.formed)
