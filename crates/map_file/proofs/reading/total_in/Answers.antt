-- `map_file::reading::total_in` meets its contract. Assumes nothing.
use mathlib.Core.Path.{sym, ◌∙◌}
use native.Mathlib.Omega.{arith}
use Rattle.diagonals.specs.Laws.Checking.{checking_more, fails_rise, fails_low, fails_len}
use Rattle.map_file.proofs.FilePairs.{items_length, item_low, offset_read, length_read, pair_read, told_unformed, told_formed}
use Rattle.map_file.proofs.reading.total_in.Goals as goal
use Rattle.map_file.proofs.reading.total_in.Goals.{then-offset-next-via-then-offset-next, then-offset-next-via-else-offset-next+then-slots-offset, then-offset-next-via-else-offset-next+else-slots-offset+then-not-is_period}

pub returns-then-offset-next : goal.returns-then-offset-next
returns-then-offset-next c =
    let e = c.first_pairs-pair-items.ensures in
    let l = item_low _ _ e c.loop-pair-test.true in
    let p = pair_read c.requires l (offset_read _ _ e c.loop-pair-test.true c.u32_at-offset.ensures) (length_read _ _ e c.loop-pair-test.true c.u32_at-len.ensures) in
    told_unformed c.requires
    (elim c.then-offset-next.branch [
      | then-offset-next-via-then-offset-next w ↦ fails_rise c.loop-pair.invariant l p.0 p.1 _ w.if-offset-next.true
      | then-offset-next-via-else-offset-next+then-slots-offset w ↦ fails_low c.loop-pair.invariant l p.0 p.1 _ w.if-slots-offset.true
      | then-offset-next-via-else-offset-next+else-slots-offset+then-not-is_period w ↦ fails_len c.loop-pair.invariant l p.0 p.1 _ (sym w.is_period.ensures ∙ w.if-not-is_period.true)
    ])

pub loop-pair-preserved : goal.loop-pair-preserved
loop-pair-preserved c =
    let e = c.first_pairs-pair-items.ensures in
    let l = item_low _ _ e c.loop-pair-test.true in
    let s = c.requires.slots_in_fact in
    let p = pair_read c.requires l (offset_read _ _ e c.loop-pair-test.true c.u32_at-offset.ensures) (length_read _ _ e c.loop-pair-test.true c.u32_at-len.ensures) in
    checking_more c.loop-pair.invariant l p.0 p.1 (s.low, s.high) c.if-offset-next.false c.if-slots-offset.false (sym c.is_period.ensures ∙ c.if-not-is_period.false)

pub returns : goal.returns
returns c = told_formed c.requires c.loop-pair.invariant (omega (arith, items_length _ _ c.first_pairs-pair-items.ensures, c.loop-pair-test.false))
