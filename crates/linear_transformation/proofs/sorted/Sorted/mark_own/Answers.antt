-- `linear_transformation::sorted::Sorted::mark_own` meets its contract. Assumes nothing.
use Rattle.linear_transformation.proofs.Keyings.{own_table}
use Rattle.linear_transformation.proofs.Facts.{sizable}
use Rattle.linear_transformation.proofs.sorted.Sorted.mark_own.Goals as goal

pub invariant_of-result : goal.invariant_of-result
invariant_of-result c =
    let t = own_table (sizable c.args.self.now) c.mark_babies.ensures c.multiples_end-end.ensures in
    record { bounded = t.bounded; range = t.range }

pub returns : goal.returns
returns c = own_table (sizable c.args.self.now) c.mark_babies.ensures c.multiples_end-end.ensures
