-- `maps::building::mark_row` meets its contract. Assumes nothing.
use Rattle.std.proofs.Common.{sym, ◌∙◌, arith}
use Rattle.maps.proofs.Walks.{marking_none, marking_some, marking_same, marking_done}
use Rattle.maps.proofs.building.mark_row.Goals as goal
use Rattle.maps.proofs.building.mark_row.Goals.{in-Some, in_default}

pub loop-l-init : goal.loop-l-init
loop-l-init g c = (marking_none c.requires.marked, c.width-l-end.ensures)

pub loop-l-preserved : goal.loop-l-preserved
loop-l-preserved g c =
    let v = c.loop-l.invariant in
    let s = c.summand.ensures in (
      elim c.match-summand.branch [
        | in-Some w ↦ rw w.seen-is (marking_some v.0 c.requires.range (sym s ∙ w.in-Some.is) w.offset_of.ensures)
        | in_default w ↦ rw w.seen-is (marking_same v.0 (sym s ∙ w.in_default.is))
      ],
      v.1,
    )

pub returns : goal.returns
returns g c = marking_done c.loop-l.invariant.0 (omega (arith, c.loop-l.invariant.1, c.loop-l-test.false, c.loop-l.auto.l-end))
