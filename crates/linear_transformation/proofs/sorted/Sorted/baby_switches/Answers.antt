-- `linear_transformation::sorted::Sorted::baby_switches` meets its contract. Assumes nothing.
use native.Mathlib.Omega.{arith}
use Rattle.linear_transformation.proofs.Facts.{accepted}
use Rattle.linear_transformation.proofs.Writings.{unmarked}
use Rattle.linear_transformation.proofs.KeyAnswers.{some_babies, baby_switches}
use Rattle.linear_transformation.proofs.sorted.Sorted.baby_switches.Goals as goal

pub mark-requires : goal.mark-requires
mark-requires c = unmarked

pub overflow_sub-result : goal.overflow_sub-result
overflow_sub-result c = omega (arith, some_babies _ _ (accepted c.args.self.now).slots_in_fact.low c.mark.ensures c.count.ensures)

pub returns : goal.returns
returns c = baby_switches _ _ (accepted c.args.self.now).slots_in_fact.low c.mark.ensures c.count.ensures
