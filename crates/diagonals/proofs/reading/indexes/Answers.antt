-- `diagonals::reading::indexes` meets its contract: the loop keeps `Filling`. Assumes nothing.
use Rattle.std.proofs.Common.{◌≡◌, ap, ◌∙◌, arith}
use Rattle.ring.specs.Vectors.{filled}
use Rattle.ring.specs.Laws.Vectors.{filling_none, filling_more}
use Rattle.diagonals.specs.Maps.{offset_at}
use Rattle.diagonals.specs.Laws.Calls.{indexes_written, same_accepted, indexes_no_room}
use Rattle.diagonals.specs.Laws.Entries.{entries_length, entry_low, entry_offset}
use Rattle.diagonals.proofs.reading.indexes.Goals as goal

pub loop-i-init : goal.loop-i-init
loop-i-init c = filling_none _ _

pub bounds-out-i : goal.bounds-out-i
bounds-out-i c = omega (arith, c.loop-i.invariant.len, c.if-out-count.false, entry_low _ _ c.entries-offset-items.ensures c.loop-i-test.true, c.in_ok-map.ensures.count_is)

pub loop-i-preserved : goal.loop-i-preserved
loop-i-preserved c =
    filling_more c.loop-i.invariant
    (omega (arith, c.loop-i.invariant.len, c.if-out-count.false, entry_low _ _ c.entries-offset-items.ensures c.loop-i-test.true, c.in_ok-map.ensures.count_is))
    (entry_offset _ _ c.entries-offset-items.ensures c.loop-i-test.true ∙ ap (λ p. offset_at p c.loop-i.i) c.in_ok-map.ensures.pairs_is)

pub returns : goal.returns
returns c =
    let same = c.in_ok-map.ensures in
    let e : c.loop-i.i ≡ c.args.count = omega (arith, entries_length _ _ c.entries-offset-items.ensures, same.count_is) in
    indexes_written _ _ _ _ _ (same_accepted same c.in_ok-map.map.in_range c.in_ok-map.map.formed) (omega arith) (c.loop-i.invariant.so_far ∙ ap (λ n. filled (offset_at c.args.pairs.now) n c.args.out.now) e)

pub returns-then-out-count : goal.returns-then-out-count
returns-then-out-count c = indexes_no_room _ _ _ _ _ (same_accepted c.in_ok-map.ensures c.in_ok-map.map.in_range c.in_ok-map.map.formed) (omega arith)
