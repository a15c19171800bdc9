-- `linear_transformation::stored::plan_needs` meets its contract. Assumes nothing.
use Rattle.linear_transformation.proofs.Judgings.{passed_on}
use Rattle.linear_transformation.proofs.Missings.{needs_refused, needs_told}
use Rattle.linear_transformation.proofs.stored.plan_needs.Goals as goal

pub returns-in_err-sorted : goal.returns-in_err-sorted
returns-in_err-sorted c = rw (passed_on c.from_residual.ensures.1) (needs_refused c.args.slots c.args.strategy c.args.offsets.now c.args.held.now c.in_err-sorted.ensures)

pub returns-then-turns_each : goal.returns-then-turns_each
returns-then-turns_each c = needs_told c.args.slots c.args.strategy c.args.offsets.now c.args.held.now c.in_ok-sorted.ensures c.turn_needs.ensures

pub returns : goal.returns
returns c = needs_told c.args.slots c.args.strategy c.args.offsets.now c.args.held.now c.in_ok-sorted.ensures c.power_needs.ensures
