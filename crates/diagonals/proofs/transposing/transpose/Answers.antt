-- `diagonals::transposing::transpose` meets its contract. Assumes nothing.
use Rattle.std.proofs.Common.{◌≡◌, Err, rules, sym}
use Rattle.diagonals.specs.Laws.Maps.{formed_means}
use Rattle.diagonals.specs.Laws.Calls.{same_accepted, same_formed, same_total, second_no_room, second_written}
use Rattle.diagonals.proofs.Leading.{length_transposed, transposed_room}
use Rattle.diagonals.proofs.transposing.transpose.Goals as goal

pub returns-in_err-check_room : goal.returns-in_err-check_room
returns-in_err-check_room c =
    let a = c.args in
    let w = formed_means a.slots a.count a.pairs.now a.values.now (same_formed c.in_ok-map.ensures c.in_ok-map.map.formed) in
    let total = same_total c.in_ok-map.ensures c.in_ok-map.map.total_is in
    let e : c.from_residual-in_err-check_room.result ≡ Err c.in_err-check_room.field-0.0 = search rules in
    rw e (second_no_room a.slots a.count a.pairs.now a.values.now _ _ _ (same_accepted c.in_ok-map.ensures c.in_ok-map.map.in_range c.in_ok-map.map.formed) (transposed_room w total a.pairs_out.now a.values_out.now c.check_room.ensures) c.in_err-check_room.was)

pub returns : goal.returns
returns c =
    let a = c.args in
    let same = c.in_ok-map.ensures in
    let w = formed_means a.slots a.count a.pairs.now a.values.now (same_formed same c.in_ok-map.map.formed) in
    let total = same_total same c.in_ok-map.map.total_is in
    second_written a.slots a.count a.pairs.now a.values.now _ _ _ (same_accepted same c.in_ok-map.map.in_range c.in_ok-map.map.formed) (transposed_room w total a.pairs_out.now a.values_out.now c.check_room.ensures) c.in_ok-check_room.was
    (sym (length_transposed w)) (rw (← same.slots_is, ← same.count_is, ← same.pairs_is, ← same.values_is) c.write_transposed.ensures.pairs_is) (rw (← same.slots_is, ← same.count_is, ← same.pairs_is, ← same.values_is) c.write_transposed.ensures.values_is)
