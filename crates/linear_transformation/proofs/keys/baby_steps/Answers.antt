-- `linear_transformation::keys::baby_steps` meets its contract. Assumes nothing.
use Rattle.linear_transformation.specs.Schedules.{plan_babies}
use Rattle.linear_transformation.specs.Calls.{plan_refusals}
use Rattle.linear_transformation.proofs.Judgings.{some_of, passed_on}
use Rattle.linear_transformation.proofs.BabyLists.{list_refused_by}
use Rattle.linear_transformation.proofs.KeyAnswers.{plan_later}
use Rattle.linear_transformation.proofs.keys.baby_steps.Goals as goal

pub returns-in_err-check_plan : goal.returns-in_err-check_plan
returns-in_err-check_plan c =
    rw (passed_on c.from_residual.ensures.1) (list_refused_by (plan_refusals c.args.slots c.args.strategy) _ _ (some_of c.check_plan.ensures c.in_err-check_plan.was))

pub returns : goal.returns
returns c = plan_later c.sort.ensures plan_babies c.write_babies.ensures
