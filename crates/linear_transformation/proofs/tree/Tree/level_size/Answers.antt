-- `linear_transformation::tree::Tree::level_size` meets its contract. Assumes nothing.
use Rattle.std.proofs.Common.{[], ap, refl, ◌∙◌, arith}
use Rattle.std.specs.List.{count_by}
use Rattle.linear_transformation.proofs.Heaps.{has_odd, twos_counted, level_counted}
use Rattle.linear_transformation.proofs.Tallies.{tally_none, tally_low, tally_yes, tally_no, tally_done}
use Rattle.linear_transformation.proofs.tree.Tree.level_size.Goals as goal
use Rattle.linear_transformation.proofs.tree.Tree.level_size.Goals.{else-odd, then-odd}

pub loop-odd-init : goal.loop-odd-init
loop-odd-init c = tally_none _ _

pub overflow_add-count : goal.overflow_add-count
overflow_add-count c = omega (arith, tally_low c.loop-odd.invariant, c.loop-odd-test.true, c.loop-odd.auto.odd-index-end)

pub loop-odd-preserved : goal.loop-odd-preserved
loop-odd-preserved c =
    let l = c.loop-odd-test.true in
    elim c.if-odd.branch [
      | then-odd w ↦ rw w.count-is (tally_yes c.loop-odd.invariant [] l w.if-odd.true)
      | else-odd w ↦ rw w.count-is (tally_no c.loop-odd.invariant [] l w.if-odd.false)
    ]

pub returns : goal.returns
returns c =
    let heap = c.args.self.now.nodes.now in
    tally_done c.loop-odd.invariant c.loop-odd-test.false ∙ ap (count_by has_odd) c.level_nodes-odd-items.ensures ∙ twos_counted heap _ _ ∙ level_counted heap c.args.self.now.bits c.args.level refl
