-- `maps::replicated::write_pairs` meets its contract. Assumes nothing.
use Rattle.std.proofs.Common.{◌+◌, refl, arith}
use Rattle.diagonals.specs.Laws.Pairs.{room_mono}
use Rattle.maps.specs.Laws.Rows.{pairing_none, pairing_more}
use Rattle.maps.proofs.replicated.write_pairs.Goals as goal

pub loop-i-init : goal.loop-i-init
loop-i-init c = (pairing_none _ _ _, omega arith)

pub loop-i-preserved : goal.loop-i-preserved
loop-i-preserved c =
    let s = c.loop-i in
    (rw c.put_pair.ensures (pairing_more s.invariant.0 (omega (arith, room_mono (s.i + 1) c.args.d (omega arith))) refl refl), omega arith)
