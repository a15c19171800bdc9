-- `linear_transformation::widths::cheapest_multiple` meets its contract. Assumes nothing.
use Rattle.std.proofs.Common.{refl, rules, arith}
use Rattle.linear_transformation.proofs.Weighings.{fresh_none, choosing_none, choosing_yes, choosing_no, choosing_done}
use Rattle.linear_transformation.proofs.widths.cheapest_multiple.Goals as goal
use Rattle.linear_transformation.proofs.widths.cheapest_multiple.Goals.{then-weight-least, else-weight-least}

pub loop-width-init : goal.loop-width-init
loop-width-init c = choosing_none c.requires (fresh_none 65536 refl c.requires.narrowest.positive) (omega arith)

pub weigh-weight-requires-clause-fresh : goal.weigh-weight-requires-clause-fresh
weigh-weight-requires-clause-fresh c = c.loop-width.invariant.fresh

pub loop-width-preserved : goal.loop-width-preserved
loop-width-preserved c =
    let s = c.loop-width.invariant in
    let h = c.weigh-weight.ensures in
    elim c.if-weight-least.branch [
      | then-weight-least w ↦ rw (w.best-is, w.least-is) (choosing_yes c.requires s c.loop-width-test.true h (omega (arith, w.if-weight-least.true)))
      | else-weight-least w ↦ rw (w.best-is, w.least-is) (choosing_no c.requires s c.loop-width-test.true h c.weigh-weight.type_inv (omega (arith, w.if-weight-least.false)))
    ]

pub returns-after-weight-least : goal.returns-after-weight-least
returns-after-weight-least c =
    let s = c.loop-width.invariant in
    let h = c.weigh-weight.ensures in
    elim c.if-weight-least.branch [
      | then-weight-least w ↦ rw w.best-is (choosing_done c.requires (choosing_yes c.requires s c.loop-width-test.true h (omega (arith, w.if-weight-least.true))) (search rules))
      | else-weight-least w ↦ rw w.best-is (choosing_done c.requires (choosing_no c.requires s c.loop-width-test.true h c.weigh-weight.type_inv (omega (arith, w.if-weight-least.false))) (search rules))
    ]

pub returns : goal.returns
returns c = choosing_done c.requires c.loop-width.invariant c.loop-width-test.false
