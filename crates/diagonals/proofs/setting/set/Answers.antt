-- `diagonals::setting::set` meets its contract. Assumes nothing.
use Rattle.std.proofs.Common.{◌≡◌, Err, sym, refl, ◌∙◌, arith, rules}
use Rattle.diagonals.specs.Laws.Calls.{same_outside}
use Rattle.diagonals.specs.Laws.Changes.{place_order, place_next, pairs_fit, values_fit, refused_room, accepted}
use Rattle.diagonals.proofs.Deciding.{small_divisor, decided_by}
use Rattle.diagonals.proofs.setting.set.Goals as goal

pub change_of-change-requires-clause-len_bound : goal.change_of-change-requires-clause-len_bound
change_of-change-requires-clause-len_bound c = small_divisor _ _ (same_outside c.in_ok-map.ensures c.in_ok-map.map.in_range) (c.is_no_period.ensures.divisor c.if-is_no_period.false)

pub returns-in_err-check_room : goal.returns-in_err-check_room
returns-in_err-check_room c =
    let map = c.in_ok-map.map in
    let d = decided_by c.in_ok-map.ensures map.in_range map.formed c.args.index c.args.new.now (sym c.is_no_period.ensures.answer ∙ c.if-is_no_period.false) c.ranges.index c.residue-k.ensures c.change_of-change.ensures in
    let e : c.from_residual-in_err-check_room.result ≡ Err c.in_err-check_room.field-0.0 = search rules in
    rw e (refused_room d c.check_room.ensures c.in_err-check_room.was)

pub overflow_cast-len : goal.overflow_cast-len
overflow_cast-len c = record { fits = omega (arith, small_divisor _ _ (same_outside c.in_ok-map.ensures c.in_ok-map.map.in_range) (c.is_no_period.ensures.divisor c.if-is_no_period.false)) }

pub write_pair-requires : goal.write_pair-requires
write_pair-requires c =
    let map = c.in_ok-map.map in
    let d = decided_by c.in_ok-map.ensures map.in_range map.formed c.args.index c.args.new.now (sym c.is_no_period.ensures.answer ∙ c.if-is_no_period.false) c.ranges.index c.residue-k.ensures c.change_of-change.ensures in
    record {
      inside = pairs_fit d.formed d.change (c.check_room.ensures.pairs_fit c.in_ok-check_room.was);
      order = place_order d.change.here d.change.above;
      next = place_next d.change.here d.change.above d.formed.rising;
      end = d.change.above.inside;
    }

pub splice-requires : goal.splice-requires
splice-requires c =
    let map = c.in_ok-map.map in
    let d = decided_by c.in_ok-map.ensures map.in_range map.formed c.args.index c.args.new.now (sym c.is_no_period.ensures.answer ∙ c.if-is_no_period.false) c.ranges.index c.residue-k.ensures c.change_of-change.ensures in
    values_fit d.formed d.change (c.check_room.ensures.values_fit c.in_ok-check_room.was)

pub returns : goal.returns
returns c =
    let map = c.in_ok-map.map in
    let d = decided_by c.in_ok-map.ensures map.in_range map.formed c.args.index c.args.new.now (sym c.is_no_period.ensures.answer ∙ c.if-is_no_period.false) c.ranges.index c.residue-k.ensures c.change_of-change.ensures in
    accepted d c.check_room.ensures c.in_ok-check_room.was (c.write_pair.ensures.is (record { offset = _; values = _ }) refl refl) c.splice.ensures
