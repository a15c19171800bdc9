-- `linear_transformation::giants::giant_tree` meets its contract. Assumes nothing.
use Rattle.std.proofs.Common.{arith}
use Rattle.linear_transformation.proofs.Planting.{blank}
use Rattle.linear_transformation.proofs.Growth.{tree_accepted, sizes, records_counted, leaves_small, levels_small, pairs_small, tree_written}
use Rattle.linear_transformation.proofs.giants.giant_tree.Goals.{then-leaves-giants-via-then-leaves-giants, then-leaves-giants-via-else-leaves-giants+then-levels-bits, then-leaves-giants-via-else-leaves-giants+else-levels-bits+then-records-pairs}
use Rattle.linear_transformation.proofs.giants.giant_tree.Goals as goal

pub plant-tree-requires : goal.plant-tree-requires
plant-tree-requires c = blank

pub returns-then-leaves-giants : goal.returns-then-leaves-giants
returns-then-leaves-giants c =
    let b = c.in-PowersOfTwo.baby_step in
    let a = c.in_ok-list.ensures in
    let t = tree_accepted a c.plant-tree.ensures in
    rw c.in-PowersOfTwo.is
    (elim c.then-leaves-giants.branch [
      | then-leaves-giants-via-then-leaves-giants w ↦ leaves_small b _ _ _ _ _ _ a.none t c.size-pairs.ensures w.if-leaves-giants.true
      | then-leaves-giants-via-else-leaves-giants+then-levels-bits w ↦ levels_small b _ _ _ _ _ _ a.none t c.size-pairs.ensures (omega (arith, w.if-leaves-giants.false)) w.if-levels-bits.true
      | then-leaves-giants-via-else-leaves-giants+else-levels-bits+then-records-pairs w ↦ pairs_small b _ _ _ _ _ _ a.none t c.size-pairs.ensures (omega (arith, w.if-leaves-giants.false)) (omega (arith, w.if-levels-bits.false)) w.if-records-pairs.true
    ])

pub write_records-requires : goal.write_records-requires
write_records-requires c = omega (arith, records_counted (sizes c.plant-tree.ensures.planted c.size-pairs.ensures), c.if-records-pairs.false)

pub returns : goal.returns
returns c =
    let a = c.in_ok-list.ensures in
    rw c.in-PowersOfTwo.is
    (tree_written c.in-PowersOfTwo.baby_step _ _ _ _ _ _ a.none (tree_accepted a c.plant-tree.ensures) c.size-pairs.ensures
    (omega (arith, c.if-leaves-giants.false)) (omega (arith, c.if-levels-bits.false)) (omega (arith, c.if-records-pairs.false)) (rw (a.step_is, a.slots_is, a.giants_are) at c.write_leaves.ensures) c.write_levels.ensures c.write_records.ensures)
