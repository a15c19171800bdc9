-- `diagonals::map::Map::write_shrunk` meets its contract. Assumes nothing.
use Rattle.std.proofs.Common.{◌∙◌, arith}
use Rattle.diagonals.specs.Laws.Maps.{formed_means}
use Rattle.diagonals.specs.Laws.Entries.{entries_length, entry_low, entry_offset, entry_length}
use Rattle.diagonals.specs.Laws.Entries.{walk_part, walk_rest, walk_fits}
use Rattle.diagonals.proofs.Shrinkage.{shrinkage_none, shrinkage_more, shrinkage_appending, shrinkage_done}
use Rattle.diagonals.proofs.map.Map.write_shrunk.Goals as goal

pub loop-n-init : goal.loop-n-init
loop-n-init c = shrinkage_none _ _ _ _ _ _

pub split_at-requires : goal.split_at-requires
split_at-requires c =
    let m = c.args.self.now in
    let e = c.entries-offset-items.ensures in
    walk_fits _ _ _ c.loop-n.invariant.rest_is (entry_length _ _ e c.loop-n-test.true) (formed_means m.slots m.count m.pairs.now m.values.now m.formed) (entry_low _ _ e c.loop-n-test.true)

pub append-requires : goal.append-requires
append-requires c =
    let m = c.args.self.now in
    let e = c.entries-offset-items.ensures in
    let part = c.split_at.ensures.front ∙ walk_part m.pairs.now m.values.now c.loop-n.n c.loop-n.invariant.rest_is (entry_length _ _ e c.loop-n-test.true) in
    shrinkage_appending (formed_means m.slots m.count m.pairs.now m.values.now m.formed) c.requires c.loop-n.invariant (entry_low _ _ e c.loop-n-test.true) part

pub loop-n-preserved : goal.loop-n-preserved
loop-n-preserved c =
    let m = c.args.self.now in
    let e = c.entries-offset-items.ensures in
    let part = c.split_at.ensures.front ∙ walk_part m.pairs.now m.values.now c.loop-n.n c.loop-n.invariant.rest_is (entry_length _ _ e c.loop-n-test.true) in
    let behind = c.split_at.ensures.back ∙ walk_rest m.pairs.now m.values.now c.loop-n.n c.loop-n.invariant.rest_is (entry_length _ _ e c.loop-n-test.true) in
    shrinkage_more (formed_means m.slots m.count m.pairs.now m.values.now m.formed) c.requires c.loop-n.invariant (entry_low _ _ e c.loop-n-test.true) behind part (entry_offset _ _ e c.loop-n-test.true) c.append.ensures

pub returns : goal.returns
returns c =
    let m = c.args.self.now in
    shrinkage_done (formed_means m.slots m.count m.pairs.now m.values.now m.formed) c.requires c.loop-n.invariant (omega (arith, entries_length _ _ c.entries-offset-items.ensures))
