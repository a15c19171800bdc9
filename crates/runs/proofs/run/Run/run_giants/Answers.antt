-- `runs::run::Run::run_giants` meets its contract. Assumes nothing.
use Rattle.std.proofs.Common.{arith, refl}
use Rattle.runs.proofs.Running.{plan_parts, nodes_asked, nodes_are, some_baby, own_low, same_asked, unfinished, finished}
use Rattle.runs.proofs.run.Run.run_giants.Goals as goal

pub parts-requires : goal.parts-requires
parts-requires c = plan_parts c.requires.run_asked.written

pub invariant_of-sums : goal.invariant_of-sums
invariant_of-sums c = record { whole = c.args.self.now.whole }

pub make_nodes-requires : goal.make_nodes-requires
make_nodes-requires c = nodes_asked c.requires.run_asked.written c.parts.ensures

pub baby_switches-own-requires : goal.baby_switches-own-requires
baby_switches-own-requires c = some_baby c.requires.run_asked.written

pub overflow_sub-made : goal.overflow_sub-made
overflow_sub-made c = omega (arith, c.min.ensures, c.requires.babies_bound, own_low c.requires.run_asked.written)

pub turn_nodes-requires-clause-run_asked : goal.turn_nodes-requires-clause-run_asked
turn_nodes-requires-clause-run_asked c = same_asked c.requires.run_asked refl c.make_nodes.auto.nodes refl

pub turn_nodes-requires-clause-made_bound : goal.turn_nodes-requires-clause-made_bound
turn_nodes-requires-clause-made_bound c = omega (arith, c.min.ensures, c.requires.babies_bound, own_low c.requires.run_asked.written)

pub returns-then-n-survey-clause-left : goal.returns-then-n-survey-clause-left
returns-then-n-survey-clause-left c =
    unfinished c.requires.run_asked (nodes_are c.requires.run_asked.written c.parts.ensures c.make_nodes.ensures) c.make_nodes.auto.nodes _ c.requires.babies_bound (omega (arith, c.min.ensures, c.baby_switches-own.ensures)) c.turn_nodes.ensures.turned c.if-n-survey.true

pub returns-clause-left : goal.returns-clause-left
returns-clause-left c =
    finished c.requires.run_asked (nodes_are c.requires.run_asked.written c.parts.ensures c.make_nodes.ensures) c.make_nodes.auto.nodes _ c.requires.babies_bound (omega (arith, c.min.ensures, c.baby_switches-own.ensures)) c.turn_nodes.ensures.turned c.if-n-survey.false c.give_answer.ensures
