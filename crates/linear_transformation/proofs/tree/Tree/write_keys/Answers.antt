-- `linear_transformation::tree::Tree::write_keys` meets its contract. Assumes nothing.
use borrow.Author.Rules.{rules}
use native.Mathlib.Omega.{arith}
use Rattle.linear_transformation.proofs.Writing.{writing_none, writing_room, writing_yes, writing_no}
use Rattle.linear_transformation.proofs.tree.Tree.write_keys.Goals as goal
use Rattle.linear_transformation.proofs.tree.Tree.write_keys.Goals.{else-level_size-ne0, then-level_size-ne0}

pub loop-i-init : goal.loop-i-init
loop-i-init c = (writing_none _ _ _ _ _ _ c.requires)

pub offset_bounds-out-to : goal.offset_bounds-out-to
offset_bounds-out-to c = omega (arith, writing_room c.loop-i.invariant c.loop-i-test.true c.level_size.ensures c.requires c.if-level_size-ne0.true)

pub bounds-out-to : goal.bounds-out-to
bounds-out-to c = omega (arith, writing_room c.loop-i.invariant c.loop-i-test.true c.level_size.ensures c.requires c.if-level_size-ne0.true, c.loop-i.invariant.len)

pub overflow_add-to : goal.overflow_add-to
overflow_add-to c = omega (arith, writing_room c.loop-i.invariant c.loop-i-test.true c.level_size.ensures c.requires c.if-level_size-ne0.true)

pub loop-i-preserved : goal.loop-i-preserved
loop-i-preserved c = elim c.if-level_size-ne0.branch [ then-level_size-ne0 w ↦ rw (w.out-is, w.to-is) (search (writing_yes, rules)) | else-level_size-ne0 w ↦ rw (w.out-is, w.to-is) (search (writing_no, rules)) ]
