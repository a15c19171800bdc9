-- `linear_transformation::stored::stored_plan` meets its contract. Assumes nothing.
use Rattle.linear_transformation.proofs.Judgings.{passed_on}
use Rattle.linear_transformation.proofs.Storings.{stored_plan_refused, stored_plan_written}
use Rattle.linear_transformation.proofs.stored.stored_plan.Goals as goal

pub returns-in_err-accept : goal.returns-in_err-accept
returns-in_err-accept c = rw (passed_on c.from_residual.ensures.1) (stored_plan_refused c.in_err-accept.ensures)

pub returns : goal.returns
returns c = stored_plan_written c.in_ok-accept.ensures c.plan.ensures
