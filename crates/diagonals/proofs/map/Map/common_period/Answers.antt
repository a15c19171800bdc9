-- `diagonals::map::Map::common_period` meets its contract. Assumes nothing.
use Rattle.std.proofs.Common.{refl, sym, ◌∙◌, arith}
use Rattle.ring.specs.Laws.Answers.{same_value}
use Rattle.diagonals.specs.Laws.Maps.{formed_means}
use Rattle.diagonals.specs.Laws.Entries.{entries_length, entry_low, entry_length}
use Rattle.diagonals.specs.Laws.Entries.{walk_part, walk_rest, walk_fits}
use Rattle.diagonals.proofs.Folding.{folding_none, folding_more, folding_done, range_of, smallest_given, smallest_is, common_given}
use Rattle.diagonals.proofs.map.Map.common_period.Goals as goal

pub loop-len-init : goal.loop-len-init
loop-len-init c = folding_none _ _ _ _

pub split_at-requires : goal.split_at-requires
split_at-requires c =
    let m = c.args.self.now in
    let e = c.entries-len-items.ensures in
    walk_fits _ _ _ c.loop-len.invariant.rest_is (entry_length _ _ e c.loop-len-test.true) (formed_means m.slots m.count m.pairs.now m.values.now m.formed) (entry_low _ _ e c.loop-len-test.true)

pub unwrap-smallest-requires : goal.unwrap-smallest-requires
unwrap-smallest-requires c =
    let m = c.args.self.now in
    let e = c.entries-len-items.ensures in
    let part = c.split_at.ensures.front ∙ walk_part m.pairs.now m.values.now c.loop-len.len-index c.loop-len.invariant.rest_is (entry_length _ _ e c.loop-len-test.true) in
    rw (smallest_given (formed_means m.slots m.count m.pairs.now m.values.now m.formed) c.loop-len.invariant (entry_low _ _ e c.loop-len-test.true) m.in_range _ part c.min_period.ensures) refl

pub unwrap-period-requires : goal.unwrap-period-requires
unwrap-period-requires c =
    let m = c.args.self.now in
    let e = c.entries-len-items.ensures in
    let w = formed_means m.slots m.count m.pairs.now m.values.now m.formed in
    let l = entry_low _ _ e c.loop-len-test.true in
    let part = c.split_at.ensures.front ∙ walk_part m.pairs.now m.values.now c.loop-len.len-index c.loop-len.invariant.rest_is (entry_length _ _ e c.loop-len-test.true) in
    let s = smallest_is w c.loop-len.invariant l m.in_range _ part c.min_period.ensures c.unwrap-smallest.ensures in
    rw (common_given w c.loop-len.invariant l m.in_range c.unwrap-smallest.result s c.period_lcm.ensures) refl

pub loop-len-preserved : goal.loop-len-preserved
loop-len-preserved c =
    let m = c.args.self.now in
    let e = c.entries-len-items.ensures in
    let w = formed_means m.slots m.count m.pairs.now m.values.now m.formed in
    let l = entry_low _ _ e c.loop-len-test.true in
    let part = c.split_at.ensures.front ∙ walk_part m.pairs.now m.values.now c.loop-len.len-index c.loop-len.invariant.rest_is (entry_length _ _ e c.loop-len-test.true) in
    let s = smallest_is w c.loop-len.invariant l m.in_range _ part c.min_period.ensures c.unwrap-smallest.ensures in
    folding_more w c.loop-len.invariant l (c.split_at.ensures.back ∙ walk_rest _ _ _ c.loop-len.invariant.rest_is (entry_length _ _ e c.loop-len-test.true)) s
    (same_value (sym c.unwrap-period.ensures ∙ common_given w c.loop-len.invariant l m.in_range c.unwrap-smallest.result s c.period_lcm.ensures))

pub returns : goal.returns
returns c =
    let m = c.args.self.now in
    folding_done c.loop-len.invariant (range_of m.slots m.in_range) (omega (arith, entries_length _ _ c.entries-len-items.ensures))
