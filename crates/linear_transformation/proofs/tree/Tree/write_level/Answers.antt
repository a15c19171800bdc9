-- `linear_transformation::tree::Tree::write_level` meets its contract. Assumes nothing.
use Rattle.std.proofs.Common.{refl, arith}
use Rattle.linear_transformation.proofs.Heaps.{walked, place_of, odd_is, pair_is}
use Rattle.linear_transformation.proofs.Recording.{pairing_none, pairing_room, pairing_yes, pairing_no, pairing_done}
use Rattle.linear_transformation.proofs.tree.Tree.write_level.Goals.{then-odd, else-odd}
use Rattle.linear_transformation.proofs.tree.Tree.write_level.Goals as goal

pub loop-k-init : goal.loop-k-init
loop-k-init c = pairing_none _ _ _ _

pub offset_bounds-records-to : goal.offset_bounds-records-to
offset_bounds-records-to c =
    let e = c.level_nodes-even-items.ensures in
    let l = c.loop-k-test.true in
    record { fits = omega (arith, pairing_room c.loop-k.invariant (place_of _ _ e l) (odd_is _ _ e l c.if-odd.true) c.requires.room, c.loop-k.auto.records, c.well_formed) }

pub bounds-records-to : goal.bounds-records-to
bounds-records-to c =
    let e = c.level_nodes-even-items.ensures in
    let l = c.loop-k-test.true in
    pairing_room c.loop-k.invariant (place_of _ _ e l) (odd_is _ _ e l c.if-odd.true) c.requires.room

pub overflow_add-to : goal.overflow_add-to
overflow_add-to c =
    let e = c.level_nodes-even-items.ensures in
    let l = c.loop-k-test.true in
    record { fits = omega (arith, pairing_room c.loop-k.invariant (place_of _ _ e l) (odd_is _ _ e l c.if-odd.true) c.requires.room, c.loop-k.auto.records, c.well_formed) }

pub loop-k-preserved : goal.loop-k-preserved
loop-k-preserved c =
    let e = c.level_nodes-even-items.ensures in
    let l = c.loop-k-test.true in
    let i = place_of _ _ e l in
    elim c.if-odd.branch [
      | then-odd w ↦ rw (w.records-is, w.to-is) (pairing_yes c.loop-k.invariant i (pair_is _ _ e l) (odd_is _ _ e l w.if-odd.true) (pairing_room c.loop-k.invariant i (odd_is _ _ e l w.if-odd.true) c.requires.room))
      | else-odd w ↦ rw (w.records-is, w.to-is) (pairing_no c.loop-k.invariant i (odd_is _ _ e l w.if-odd.false))
    ]

pub returns : goal.returns
returns c = pairing_done c.args.self.now.bits c.args.level c.loop-k.invariant refl (walked _ _ c.level_nodes-even-items.ensures c.loop-k-test.false)
