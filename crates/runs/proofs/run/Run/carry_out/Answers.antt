-- `runs::run::Run::carry_out` meets its contract. Assumes nothing.
use Rattle.std.proofs.Common.{arith, refl}
use Rattle.runs.proofs.Running.{some_baby, plan_parts, same_asked}
use Rattle.runs.proofs.Machining.{babies_asked, first_babies, first_logged, stopped, gone_on}
use Rattle.runs.proofs.KeyedRunning.{ready_planned, plan_asked, all_left}
use Rattle.runs.proofs.run.Run.carry_out.Goals as goal

pub unwrap-requires : goal.unwrap-requires
unwrap-requires c = ready_planned c.requires.ready c.requires.offsets_value c.stored_plan.ensures

pub baby_switches-own-requires : goal.baby_switches-own-requires
baby_switches-own-requires c = some_baby (plan_asked c.requires.ready c.requires.offsets_value c.stored_plan.ensures).written

pub parts-requires : goal.parts-requires
parts-requires c = plan_parts (plan_asked c.requires.ready c.requires.offsets_value c.stored_plan.ensures).written

pub make_babies-requires-clause-caching : goal.make_babies-requires-clause-caching
make_babies-requires-clause-caching c = babies_asked (plan_asked c.requires.ready c.requires.offsets_value c.stored_plan.ensures) c.parts.ensures

pub make_babies-requires-clause-n_in_bounds : goal.make_babies-requires-clause-n_in_bounds
make_babies-requires-clause-n_in_bounds c = first_babies (plan_asked c.requires.ready c.requires.offsets_value c.stored_plan.ensures) c.parts.ensures c.args.n (omega (arith, c.min-first.ensures, c.baby_switches-own.ensures))

pub make_babies-requires-clause-n_in_bounds_2 : goal.make_babies-requires-clause-n_in_bounds_2
make_babies-requires-clause-n_in_bounds_2 c = first_logged (plan_asked c.requires.ready c.requires.offsets_value c.stored_plan.ensures) c.parts.ensures c.args.n (omega (arith, c.min-first.ensures, c.baby_switches-own.ensures))

pub returns-then-n-own-clause-left : goal.returns-then-n-own-clause-left
returns-then-n-own-clause-left c =
    let a = plan_asked c.requires.ready c.requires.offsets_value c.stored_plan.ensures in
    all_left c.requires.ready c.requires.offsets_value c.stored_plan.ensures _
    (stopped a c.parts.ensures c.args.n (omega (arith, c.min-first.ensures, c.baby_switches-own.ensures)) c.make_babies.ensures (omega (arith, c.if-n-own.true, c.baby_switches-own.ensures)))

pub run_giants-requires-clause-run_asked : goal.run_giants-requires-clause-run_asked
run_giants-requires-clause-run_asked c = same_asked (plan_asked c.requires.ready c.requires.offsets_value c.stored_plan.ensures) c.make_babies.auto.cache refl c.make_babies.auto.log

-- the check finds it alone; it stands here so that a wrong program is refused at it
pub run_giants-requires-clause-babies_bound : goal.run_giants-requires-clause-babies_bound
run_giants-requires-clause-babies_bound c = omega arith

pub returns-clause-left : goal.returns-clause-left
returns-clause-left c =
    let a = plan_asked c.requires.ready c.requires.offsets_value c.stored_plan.ensures in
    all_left c.requires.ready c.requires.offsets_value c.stored_plan.ensures _
    (gone_on a c.parts.ensures c.args.n (omega (arith, c.min-first.ensures, c.baby_switches-own.ensures)) c.make_babies.ensures (omega (arith, c.baby_switches-own.ensures)) c.run_giants.ensures.left)
