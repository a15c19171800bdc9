-- `maps::values::write_skewed` meets its contract. Assumes nothing.
use Rattle.std.proofs.Common.{ℕ, ◌<◌, length, get_or, ap, arith, rules}
use Rattle.ring.specs.Laws.Vectors.{filling_none, filling_more, filling_done}
use Rattle.maps.specs.Steps.Values.{turns_rows}
use Rattle.maps.specs.Laws.Skewing.{skewed_read}
use Rattle.maps.proofs.values.write_skewed.Goals as goal

pub loop-t-init : goal.loop-t-init
loop-t-init c = filling_none _ _

pub bounds-b-place : goal.bounds-b-place
bounds-b-place c =
    let inside : c.place.result < length c.args.b.now = skewed_read (turns_rows c.args.skew) _ _ c.args.b.now c.requires.fact (omega arith) c.place.ensures in
    inside

pub loop-t-preserved : goal.loop-t-preserved
loop-t-preserved c = filling_more c.loop-t.invariant (search rules) (ap (λ (x : ℕ). get_or c.args.b.now x 0) c.place.ensures)

pub returns : goal.returns
returns c = filling_done c.loop-t.invariant (search rules)
