-- `linear_transformation::sorted::Sorted::write_babies` meets its contract. Assumes nothing.
use native.Mathlib.Omega.{arith}
use Rattle.linear_transformation.proofs.Writings.{unmarked}
use Rattle.linear_transformation.proofs.KeyAnswers.{babies_written}
use Rattle.linear_transformation.proofs.sorted.Sorted.write_babies.Goals as goal

pub mark-marked-requires : goal.mark-marked-requires
mark-marked-requires c = unmarked

pub returns : goal.returns
returns c = babies_written c.mark-marked.ensures c.count-count.ensures (omega (arith, c.if-out-count.false)) c.write.ensures
