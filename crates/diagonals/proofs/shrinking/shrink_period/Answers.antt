-- `diagonals::shrinking::shrink_period` meets its contract. Assumes nothing.
use Rattle.std.proofs.Common.{◌≡◌, Err, rules, sym, arith}
use Rattle.diagonals.specs.Laws.Calls.{same_accepted, second_no_room, second_written}
use Rattle.diagonals.proofs.Shrinkage.{length_shrunk, shrunk_room, shrunk_words, common_of, total_small, shrunk_of}
use Rattle.diagonals.proofs.shrinking.shrink_period.Goals as goal

pub overflow_mul-count : goal.overflow_mul-count
overflow_mul-count c = record { fits = omega (arith, total_small c.in_ok-map.ensures c.in_ok-map.map.in_range c.in_ok-map.map.formed c.common_period-period.ensures) }

pub returns-in_err-check_room : goal.returns-in_err-check_room
returns-in_err-check_room c =
    let a = c.args in
    let p = common_of c.in_ok-map.ensures c.common_period-period.ensures in
    let e : c.from_residual-in_err-check_room.result ≡ Err c.in_err-check_room.field-0.0 = search rules in
    rw e (second_no_room a.slots a.count a.pairs.now a.values.now _ _ _ (same_accepted c.in_ok-map.ensures c.in_ok-map.map.in_range c.in_ok-map.map.formed) (shrunk_room a.count a.pairs.now a.values.now p a.pairs_out.now a.values_out.now c.check_room.ensures) c.in_err-check_room.was)

pub returns : goal.returns
returns c =
    let a = c.args in
    let p = common_of c.in_ok-map.ensures c.common_period-period.ensures in
    let w = shrunk_words a.count a.pairs.now a.values.now p (shrunk_of c.in_ok-map.ensures _ c.write_shrunk.ensures) in
    second_written a.slots a.count a.pairs.now a.values.now _ _ _ (same_accepted c.in_ok-map.ensures c.in_ok-map.map.in_range c.in_ok-map.map.formed) (shrunk_room a.count a.pairs.now a.values.now p a.pairs_out.now a.values_out.now c.check_room.ensures) c.in_ok-check_room.was
    (sym (length_shrunk a.count a.pairs.now a.values.now p)) w.pairs_is w.values_is
