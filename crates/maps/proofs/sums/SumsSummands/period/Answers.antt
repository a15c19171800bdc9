-- `maps::sums::SumsSummands::period` meets its contract. Assumes nothing.
use Rattle.maps.proofs.Summing.{period_one, period_many, period_whole}
use Rattle.maps.proofs.sums.SumsSummands.period.Goals as goal

pub returns-then-self-eq1 : goal.returns-then-self-eq1
returns-then-self-eq1 c = rw c.rows-d.ensures (period_one _ _ c.in-RightMul.is c.if-self-eq1.true)

pub returns-else-self-eq1 : goal.returns-else-self-eq1
returns-else-self-eq1 c = rw c.size.ensures (period_many _ _ c.in-RightMul.is c.if-self-eq1.false)

pub returns-in-LeftMul : goal.returns-in-LeftMul
returns-in-LeftMul c = rw c.size.ensures (period_whole _ _ c.in-LeftMul.is)
