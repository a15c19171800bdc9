-- `linear_transformation::sorted::Sorted::power_needs` meets its contract. Assumes nothing.
use Rattle.std.proofs.Common.{arith}
use Rattle.linear_transformation.proofs.Facts.{accepted, sizable}
use Rattle.linear_transformation.proofs.Writings.{unmarked}
use Rattle.linear_transformation.proofs.Planting.{blank}
use Rattle.linear_transformation.proofs.KeyAnswers.{pairs_counted}
use Rattle.linear_transformation.proofs.Missings.{keys_missing, keys_held, power_needs_are}
use Rattle.linear_transformation.proofs.sorted.Sorted.power_needs.Goals as goal

pub of-requires : goal.of-requires
of-requires c = unmarked

pub plant-tree-requires : goal.plant-tree-requires
plant-tree-requires c = blank

pub returns-then-lacks_power : goal.returns-then-lacks_power
returns-then-lacks_power c = keys_missing _ _ _ c.of.ensures c.lacks_power.ensures c.if-lacks_power.true

pub overflow_add-result-2 : goal.overflow_add-result-2
overflow_add-result-2 c =
    let few = pairs_counted (sizable c.args.self.now) c.plant-tree.ensures.planted c.size-pairs.ensures in
    record { fits = omega (arith, c.baby_switches-made.ensures.few, few.few) }

pub returns : goal.returns
returns c =
    keys_held _ _ _ c.of.ensures c.lacks_power.ensures c.if-lacks_power.false
    (power_needs_are (accepted c.args.self.now) c.baby_switches-made.ensures c.count_giants.ensures c.requires c.plant-tree.ensures.planted c.size-pairs.ensures c.baby_step.ensures)
