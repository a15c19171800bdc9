-- `maps::readings::check_rule` meets its contract. Assumes nothing.
use Rattle.std.proofs.Common.{arith, ◌≡◌, ◌^◌, ◌≤◌, Err, refl, rules}
use Rattle.maps.specs.Readings.{shift_of, shift_limit}
use Rattle.maps.proofs.Entering.{tiles_refuse, rule_accepted}
use Rattle.maps.proofs.readings.check_rule.Goals as goal

pub returns-in_err-side : goal.returns-in_err-side
returns-in_err-side c =
    let e : c.from_residual.result ≡ Err c.in_err-side.field-0.0 = search rules in
    rw e (tiles_refuse _ _ _ (c.check_tiles.ensures.refused _ c.in_err-side.was))

pub returns : goal.returns
returns c =
    let low : shift_of c.args.rule ≤ shift_limit c.args.rule (2 ^ c.in_ok-side.side.log_d) = omega (arith, c.shift.ensures, c.shift_limit.ensures) in
    rule_accepted c.args.rule (c.check_tiles.ensures.accepted _ c.in_ok-side.was) _ refl refl low
