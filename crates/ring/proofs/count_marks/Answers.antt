-- `ring::count_marks` meets its contract. Assumes nothing.
use Rattle.std.proofs.Common.{◌≡◌, ◌<◌, min, sym, ◌∙◌, length-take-le, arith}
use Rattle.ring.proofs.Counting.{counting_none, counting_low, counting_yes, counting_no, counting_done, mark_before}
use Rattle.ring.proofs.count_marks.Goals as goal
use Rattle.ring.proofs.count_marks.Goals.{else-marked, then-marked}

pub loop-marked-init : goal.loop-marked-init
loop-marked-init c = counting_none _ _

pub overflow_add-count : goal.overflow_add-count
overflow_add-count c = omega (arith, counting_low c.loop-marked.invariant, c.loop-marked.invariant.room)

pub loop-marked-preserved : goal.loop-marked-preserved
loop-marked-preserved c =
    let m = mark_before c.min.result c.args.seen.now c.loop-marked.marked-index c.loop-marked-test.true in
    let l : c.loop-marked.marked-index < min c.args.n 65536 = omega (arith, m.0, c.min.ensures) in
    elim c.if-marked.branch [
      | then-marked w ↦ rw w.count-is (counting_yes c.loop-marked.invariant l (sym m.1 ∙ w.if-marked.true))
      | else-marked w ↦ rw w.count-is (counting_no c.loop-marked.invariant l (sym m.1 ∙ w.if-marked.false))
    ]

pub returns : goal.returns
returns c =
    let e = counting_done c.loop-marked.invariant (omega (arith, length-take-le c.min.result c.args.seen.now (omega (arith, c.min.ensures, c.told-seen)), c.min.ensures, c.loop-marked-test.false)) in
    record { answer = e; within = λ l. let m : min c.args.n 65536 ≡ c.args.n = omega arith in rw (← m) e }
