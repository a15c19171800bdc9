-- `linear_transformation::giants::giant_key_rotations` meets its contract. Assumes nothing.
use Rattle.std.proofs.Common.{arith}
use Rattle.linear_transformation.proofs.Planting.{blank}
use Rattle.linear_transformation.proofs.Growth.{tree_accepted, keys_small, keys_written, no_keys}
use Rattle.linear_transformation.proofs.giants.giant_key_rotations.Goals as goal

pub returns-in_default : goal.returns-in_default
returns-in_default c = rw c.in_default.is no_keys

pub plant-tree-requires : goal.plant-tree-requires
plant-tree-requires c = blank

pub returns-then-out-count : goal.returns-then-out-count
returns-then-out-count c =
    let a = c.in_ok-list.ensures in
    rw c.in-PowersOfTwo.is (keys_small c.in-PowersOfTwo.baby_step _ _ _ _ a.none (tree_accepted a c.plant-tree.ensures) c.keys_count-count.ensures c.if-out-count.true)

pub returns : goal.returns
returns c =
    let a = c.in_ok-list.ensures in
    rw c.in-PowersOfTwo.is (keys_written c.in-PowersOfTwo.baby_step _ _ _ _ a.none (tree_accepted a c.plant-tree.ensures) c.keys_count-count.ensures (omega (arith, c.if-out-count.false)) c.write_keys.ensures)
