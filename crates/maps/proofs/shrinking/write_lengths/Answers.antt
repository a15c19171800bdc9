-- `maps::shrinking::write_lengths` meets its contract. Assumes nothing.
use Rattle.std.proofs.Common.{◌+◌, refl, ◌∙◌, arith}
use Rattle.diagonals.specs.Laws.Pairs.{room_mono}
use Rattle.maps.specs.Laws.Rows.{pairing_none, pairing_more, pairing_next}
use Rattle.maps.proofs.shrinking.write_lengths.Goals as goal

pub loop-i-init : goal.loop-i-init
loop-i-init c = (pairing_none _ _ _, omega arith)

pub loop-i-preserved : goal.loop-i-preserved
loop-i-preserved c =
    let s = c.loop-i in
    (rw c.put_pair.ensures (pairing_more s.invariant.0 (omega (arith, room_mono (s.i + 1) c.args.count (omega arith))) (c.offset_at-offset.ensures ∙ pairing_next s.invariant.0) refl), omega arith)
