-- `maps::building::build` meets its contract. Assumes nothing.
use Rattle.std.proofs.Common.{◌≡◌, Err, rules}
use Rattle.diagonals.specs.Laws.Terms.{unmarked}
use Rattle.maps.proofs.Walks.{table_size, built_refused, zeros_placed, built}
use Rattle.maps.proofs.building.build.Goals as goal

pub mark-requires-clause-unmarked : goal.mark-requires-clause-unmarked
mark-requires-clause-unmarked g c = unmarked

pub add-requires : goal.add-requires
add-requires g c =
    let m = g.T.Summands in
    zeros_placed (m.summand c.args.map.now) (m.width c.args.map.now) c.requires c.mark.ensures table_size (rw c.period.ensures at c.zero_map.ensures) c.in_ok-count.was

pub returns-in_err-count : goal.returns-in_err-count
returns-in_err-count g c =
    let m = g.T.Summands in
    let e : c.from_residual.result ≡ Err c.in_err-count.field-0.0 = search rules in
    rw e (built_refused (m.summand c.args.map.now) (m.width c.args.map.now) c.requires c.mark.ensures table_size (rw c.period.ensures at c.zero_map.ensures) c.in_err-count.was)

pub returns : goal.returns
returns g c =
    let m = g.T.Summands in
    built (m.summand c.args.map.now) (m.width c.args.map.now) c.requires c.mark.ensures table_size (rw c.period.ensures at c.zero_map.ensures) c.in_ok-count.was c.add.ensures
