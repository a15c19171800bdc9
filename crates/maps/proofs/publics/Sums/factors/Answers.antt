-- `maps::publics::Sums::factors` meets its contract. Assumes nothing.
use Rattle.std.proofs.Common.{rules}
use Rattle.maps.proofs.Summing.{right_mul, left_mul, right_jkls, left_jkls}
use Rattle.maps.proofs.publics.Sums.factors.Goals as goal

pub returns-in-RightMul : goal.returns-in-RightMul
returns-in-RightMul c = rw (← c.rows-d.ensures) (search (right_mul, rules))

pub returns-in-LeftMul : goal.returns-in-LeftMul
returns-in-LeftMul c = rw (← c.rows-d.ensures) (search (left_mul, rules))

pub returns-in-RightJkls : goal.returns-in-RightJkls
returns-in-RightJkls c = rw (← c.rows-d.ensures) (search (right_jkls, rules))

pub returns-in-LeftJkls : goal.returns-in-LeftJkls
returns-in-LeftJkls c = rw (← c.rows-d.ensures) (search (left_jkls, rules))
