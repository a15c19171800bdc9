-- `linear_transformation::sorted::Sorted::own_keys` meets its contract. Assumes nothing.
use Rattle.std.proofs.Common.{arith}
use Rattle.linear_transformation.proofs.Writings.{unmarked}
use Rattle.linear_transformation.proofs.KeyAnswers.{cleared_bounded}
use Rattle.linear_transformation.proofs.OwnKeys.{own_babies, keys_small, keys_short, keys_written}
use Rattle.linear_transformation.proofs.sorted.Sorted.own_keys.Goals as goal

pub mark_babies-requires-clause-unmarked : goal.mark_babies-requires-clause-unmarked
mark_babies-requires-clause-unmarked c = unmarked

pub invariant_of-babies : goal.invariant_of-babies
invariant_of-babies c =
    let t = own_babies c.args.self.now c.mark_babies.ensures c.multiples_end.ensures in
    record { bounded = cleared_bounded t.bounded; range = t.range }

pub overflow_add-count : goal.overflow_add-count
overflow_add-count c = omega (arith, keys_small c.args.self.now c.mark_babies.ensures c.multiples_end.ensures c.turned-giants.ensures c.count-count.ensures c.count_giants-turns.ensures)

pub returns-then-out-count : goal.returns-then-out-count
returns-then-out-count c =
    keys_short c.args.self.now c.mark_babies.ensures c.multiples_end.ensures c.turned-giants.ensures c.count-count.ensures c.count_giants-turns.ensures _ c.requires c.if-out-count.true

pub returns : goal.returns
returns c =
    keys_written c.args.self.now c.mark_babies.ensures c.multiples_end.ensures c.turned-giants.ensures c.count-count.ensures c.count_giants-turns.ensures _ (omega (arith, c.if-out-count.false)) c.write.ensures c.requires c.write_giants.ensures
