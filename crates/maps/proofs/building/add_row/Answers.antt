-- `maps::building::add_row` meets its contract. Assumes nothing.
use Rattle.std.proofs.Common.{sym, refl, ◌∙◌, arith}
use Rattle.ring.specs.Slots.{addm}
use Rattle.maps.proofs.Walks.{summing_none, summing_some, summing_same, summing_done}
use Rattle.maps.proofs.building.add_row.Goals as goal
use Rattle.maps.proofs.building.add_row.Goals.{in-Some, in_default}

pub loop-l-init : goal.loop-l-init
loop-l-init g c = (rw c.period-period.ensures (summing_none c.requires.placed), c.width-l-end.ensures, c.period-period.ensures)

pub loop-l-preserved : goal.loop-l-preserved
unfolding addm
loop-l-preserved g c =
    let v = c.loop-l.invariant in
    let s = c.summand.ensures in
    let ll = c.loop-l-test.true in (
      elim c.match-summand.branch [
        | in-Some w ↦ rw w.values-is (summing_some v.0 (sym s ∙ w.in-Some.is) w.offset_of-k.ensures refl (rw v.2 c.requires.t_low) (rw (← v.1) ll) refl)
        | in_default w ↦ rw w.values-is (summing_same v.0 (sym s ∙ w.in_default.is))
      ],
      v.1,
      v.2,
    )

pub returns : goal.returns
returns g c =
    let v = c.loop-l.invariant in
    rw v.2 at (summing_done v.0 (omega (arith, v.1, c.loop-l-test.false, c.loop-l.auto.l-end)))
