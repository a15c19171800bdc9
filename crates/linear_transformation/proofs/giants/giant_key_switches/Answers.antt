-- `linear_transformation::giants::giant_key_switches` meets its contract. Assumes nothing.
use Rattle.linear_transformation.proofs.Growth.{switches_right}
use Rattle.linear_transformation.proofs.giants.giant_key_switches.Goals as goal

pub returns : goal.returns
returns c = rw c.in-PowersOfTwo.is (switches_right c.in-PowersOfTwo.baby_step _ _ _ c.in_ok-list.ensures c.pairs.ensures)
