-- `maps::readings::rule_map` meets its contract. Assumes nothing.
use Rattle.std.proofs.Common.{◌≡◌, Err, rules}
use Rattle.maps.proofs.Answering.{rule_refused, rule_period, rule_no_room, rule_asked, rule_written}
use Rattle.maps.proofs.readings.rule_map.Goals as goal

pub returns-in_err-reads : goal.returns-in_err-reads
returns-in_err-reads c =
    let e : c.from_residual.result ≡ Err c.in_err-reads.field-0.0 = search rules in
    rw e (rule_refused _ _ _ _ _ (c.check_rule.ensures.refused _ c.in_err-reads.was))

pub build-requires : goal.build-requires
build-requires c = rule_period (c.check_rule.ensures.accepted _ c.in_ok-reads.was)

pub returns-in_err-count : goal.returns-in_err-count
returns-in_err-count c =
    let e : c.from_residual-in_err-count.result ≡ Err c.in_err-count.field-0.0 = search rules in
    rw e (rule_no_room (c.check_rule.ensures.accepted _ c.in_ok-reads.was) c.build.ensures c.in_err-count.was)

pub shrink_in_place-requires : goal.shrink_in_place-requires
shrink_in_place-requires c = rw c.size.ensures (rule_asked (c.check_rule.ensures.accepted _ c.in_ok-reads.was) c.build.ensures c.in_ok-count.was)

pub returns : goal.returns
returns c = rule_written (c.check_rule.ensures.accepted _ c.in_ok-reads.was) c.build.ensures c.in_ok-count.was (rw c.size.ensures at c.shrink_in_place.ensures)
