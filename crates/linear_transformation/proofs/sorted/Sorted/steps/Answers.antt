-- `linear_transformation::sorted::Sorted::steps` meets its contract. Assumes nothing.
use Rattle.linear_transformation.proofs.Facts.{sizable}
use Rattle.linear_transformation.proofs.Keyings.{is_stepped}
use Rattle.linear_transformation.proofs.sorted.Sorted.steps.Goals as goal

pub invariant_of-result : goal.invariant_of-result
invariant_of-result c = rw c.width.ensures (record { stepped = is_stepped (sizable c.args.self.now) })
