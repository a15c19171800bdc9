-- `linear_transformation::widths::weigh` meets its contract. Assumes nothing.
use borrow.Author.Rules.{rules}
use native.Mathlib.Omega.{arith}
use Rattle.linear_transformation.proofs.Weighings.{weighing_none, weighing_babies, weighing_giants, weighing_new, weighing_old, weighing_next, weighing_same, weighing_done}
use Rattle.linear_transformation.proofs.widths.weigh.Goals as goal
use Rattle.linear_transformation.proofs.widths.weigh.Goals.{then-stamps-baby, else-stamps-baby, then-edge-k, else-edge-k}

pub loop-k-init : goal.loop-k-init
loop-k-init c = search (weighing_none, rules)

pub overflow_add-babies : goal.overflow_add-babies
overflow_add-babies c = omega (arith, weighing_babies c.loop-k.invariant)

pub overflow_add-giants : goal.overflow_add-giants
overflow_add-giants c = omega (arith, weighing_giants c.loop-k.invariant)

pub loop-k-preserved : goal.loop-k-preserved
loop-k-preserved c =
    let l = c.loop-k in
    let d = c.requires.diagonals in
    record {
      room = search rules;
      stamping = elim c.if-stamps-baby.branch [ then-stamps-baby w ↦ rw (w.stamps-is, w.babies-is) (weighing_new l.invariant d c.loop-k-test.true w.if-stamps-baby.true) | else-stamps-baby w ↦ rw (w.stamps-is, w.babies-is) (weighing_old l.invariant d c.loop-k-test.true w.if-stamps-baby.false) ];
      edging = elim c.if-edge-k.branch [ then-edge-k w ↦ rw w.giants-is (weighing_next l.invariant d c.loop-k-test.true w.if-edge-k.true) | else-edge-k w ↦ rw w.giants-is (weighing_same l.invariant d c.loop-k-test.true w.if-edge-k.false) ];
    }

pub returns : goal.returns
returns c = search (weighing_done, rules)
