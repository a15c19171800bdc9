-- `linear_transformation::sorted::Sorted::mark_closure` meets its contract. Assumes nothing.
use Rattle.linear_transformation.proofs.Keyings.{may_close, closure_table}
use Rattle.linear_transformation.proofs.Facts.{sizable}
use Rattle.linear_transformation.proofs.sorted.Sorted.mark_closure.Goals as goal

pub close-requires : goal.close-requires
close-requires c = may_close (sizable c.args.self.now) c.mark_babies.ensures c.multiples_end-end.ensures

pub returns : goal.returns
returns c = closure_table (sizable c.args.self.now) c.baby_step-step.ensures c.multiples_end-end.ensures c.mark_babies.ensures c.close.ensures
