-- `maps::shrinking::move_rows` meets its contract. Assumes nothing.
use Rattle.std.proofs.Common.{◌≡◌, ◌+◌, ◌-◌, ◌*◌, zero-mul, arith}
use Rattle.ring.specs.Laws.Vectors.{filling_none}
use Rattle.maps.specs.Laws.Narrow.{row_moved}
use Rattle.maps.proofs.shrinking.move_rows.Goals as goal

pub loop-i-init : goal.loop-i-init
loop-i-init c = (rw (zero-mul c.args.p) (filling_none _ _), omega arith)

pub loop-i-preserved : goal.loop-i-preserved
loop-i-preserved c =
    let size : c.loop-i.i * c.args.period + c.args.p - c.loop-i.i * c.args.period ≡ c.args.p = omega arith in
    (rw (c.copy_within.ensures.after, size) (row_moved c.requires c.loop-i-test.true c.loop-i.invariant.0), omega arith)
