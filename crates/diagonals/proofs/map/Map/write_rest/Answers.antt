-- `diagonals::map::Map::write_rest` meets its contract. Assumes nothing.
use Rattle.std.proofs.Common.{◌≡◌, ◌+◌, ◌-◌, ◌++◌, ◌∷◌, [], length, arith, rules}
use Rattle.std.proofs.lemmas.Iterator.Consumers.{YieldsList-turn, YieldsList-end}
use Rattle.std.proofs.lemmas.List.{length_push}
use Rattle.diagonals.specs.Laws.Maps.{formed_means, values_inside}
use Rattle.diagonals.specs.Laws.Entries.{entries_length}
use Rattle.diagonals.proofs.Folding.{range_of}
use Rattle.diagonals.proofs.Reversing.{road, taken_of, all_taken}
use Rattle.diagonals.proofs.Turnings.{turnings_fits, turnings_inside, turnings_turning, turnings_room, turnings_more, turnings_done}
use Rattle.diagonals.proofs.map.Map.write_rest.Goals as goal

pub slice_bounds-iter-count : goal.slice_bounds-iter-count
slice_bounds-iter-count c = omega (arith, c.requires.inside, entries_length _ _ c.entries.ensures)

pub slice_bounds-iter-start : goal.slice_bounds-iter-start
slice_bounds-iter-start c =
    let e = entries_length _ _ c.entries.ensures in
    let i = c.requires.inside in
    search rules

pub overflow_sub-start : goal.overflow_sub-start
overflow_sub-start c =
    let m = c.args.self.now in
    let w = formed_means m.slots m.count m.pairs.now m.values.now m.formed in
    let way = road m.pairs.now m.count c.args.first c.entries.ensures c.requires.inside c.into_iter-n-iterator.ensures.into_iter_gives c.enumerate-n-items.ensures.source c.enumerate-n-items.ensures.count c.rev.ensures.source c.iter.ensures.rest in
    let t = taken_of m.pairs.now m.count c.args.first c.entries.ensures c.requires.inside (YieldsList-turn way c.loop-n.yielded _ c.loop-n.yielded_by _ _ _ c.in-Some.is c.next.ensures.steps) in
    turnings_fits (range_of m.slots m.in_range) w c.requires c.loop-n.invariant (omega (arith, t.low)) t.length_is

pub offset_bounds-self-start : goal.offset_bounds-self-start
offset_bounds-self-start c =
    let m = c.args.self.now in
    let w = formed_means m.slots m.count m.pairs.now m.values.now m.formed in
    let way = road m.pairs.now m.count c.args.first c.entries.ensures c.requires.inside c.into_iter-n-iterator.ensures.into_iter_gives c.enumerate-n-items.ensures.source c.enumerate-n-items.ensures.count c.rev.ensures.source c.iter.ensures.rest in
    let t = taken_of m.pairs.now m.count c.args.first c.entries.ensures c.requires.inside (YieldsList-turn way c.loop-n.yielded _ c.loop-n.yielded_by _ _ _ c.in-Some.is c.next.ensures.steps) in
    record { fits = omega (arith, turnings_inside (range_of m.slots m.in_range) w c.requires c.loop-n.invariant (omega (arith, t.low)) t.length_is, c.well_formed) }

pub slice_bounds-part-end : goal.slice_bounds-part-end
slice_bounds-part-end c =
    let m = c.args.self.now in
    let w = formed_means m.slots m.count m.pairs.now m.values.now m.formed in
    let way = road m.pairs.now m.count c.args.first c.entries.ensures c.requires.inside c.into_iter-n-iterator.ensures.into_iter_gives c.enumerate-n-items.ensures.source c.enumerate-n-items.ensures.count c.rev.ensures.source c.iter.ensures.rest in
    let t = taken_of m.pairs.now m.count c.args.first c.entries.ensures c.requires.inside (YieldsList-turn way c.loop-n.yielded _ c.loop-n.yielded_by _ _ _ c.in-Some.is c.next.ensures.steps) in
    let i = turnings_inside (range_of m.slots m.in_range) w c.requires c.loop-n.invariant (omega (arith, t.low)) t.length_is in
    search rules

pub append_turned-requires : goal.append_turned-requires
append_turned-requires c =
    let m = c.args.self.now in
    let w = formed_means m.slots m.count m.pairs.now m.values.now m.formed in
    let way = road m.pairs.now m.count c.args.first c.entries.ensures c.requires.inside c.into_iter-n-iterator.ensures.into_iter_gives c.enumerate-n-items.ensures.source c.enumerate-n-items.ensures.count c.rev.ensures.source c.iter.ensures.rest in
    let t = taken_of m.pairs.now m.count c.args.first c.entries.ensures c.requires.inside (YieldsList-turn way c.loop-n.yielded _ c.loop-n.yielded_by _ _ _ c.in-Some.is c.next.ensures.steps) in
    rw (t.offset_is, t.n_is) (turnings_turning (range_of m.slots m.in_range) w c.requires c.loop-n.invariant (omega (arith, t.low)) t.length_is)

pub overflow_add-at : goal.overflow_add-at
overflow_add-at c =
    let m = c.args.self.now in
    let w = formed_means m.slots m.count m.pairs.now m.values.now m.formed in
    let way = road m.pairs.now m.count c.args.first c.entries.ensures c.requires.inside c.into_iter-n-iterator.ensures.into_iter_gives c.enumerate-n-items.ensures.source c.enumerate-n-items.ensures.count c.rev.ensures.source c.iter.ensures.rest in
    let t = taken_of m.pairs.now m.count c.args.first c.entries.ensures c.requires.inside (YieldsList-turn way c.loop-n.yielded _ c.loop-n.yielded_by _ _ _ c.in-Some.is c.next.ensures.steps) in
    record { fits = omega (arith, turnings_room (range_of m.slots m.in_range) w c.requires c.loop-n.invariant (omega (arith, t.low)) t.length_is, values_inside w, c.well_formed) }

pub loop-n-preserved : goal.loop-n-preserved
loop-n-preserved c =
    let m = c.args.self.now in
    let w = formed_means m.slots m.count m.pairs.now m.values.now m.formed in
    let way = road m.pairs.now m.count c.args.first c.entries.ensures c.requires.inside c.into_iter-n-iterator.ensures.into_iter_gives c.enumerate-n-items.ensures.source c.enumerate-n-items.ensures.count c.rev.ensures.source c.iter.ensures.rest in
    let t = taken_of m.pairs.now m.count c.args.first c.entries.ensures c.requires.inside (YieldsList-turn way c.loop-n.yielded _ c.loop-n.yielded_by _ _ _ c.in-Some.is c.next.ensures.steps) in
    let n = length_push c.loop-n.yielded (c.in-Some.n, c.in-Some.field-0-1) in
    let a : m.count - length (c.loop-n.yielded ++ ((c.in-Some.n, c.in-Some.field-0-1) ∷ [])) ≡ m.count - length c.loop-n.yielded - 1 = omega (arith, n) in
    let b : c.args.first + length (c.loop-n.yielded ++ ((c.in-Some.n, c.in-Some.field-0-1) ∷ [])) ≡ c.args.first + length c.loop-n.yielded + 1 = omega (arith, n) in
    rw (a, b) (turnings_more (range_of m.slots m.in_range) w c.requires c.loop-n.invariant (omega (arith, t.low)) t.length_is (rw (← t.offset_is, ← t.n_is) c.append_turned.ensures))

pub returns : goal.returns
returns c =
    let m = c.args.self.now in
    let w = formed_means m.slots m.count m.pairs.now m.values.now m.formed in
    let way = road m.pairs.now m.count c.args.first c.entries.ensures c.requires.inside c.into_iter-n-iterator.ensures.into_iter_gives c.enumerate-n-items.ensures.source c.enumerate-n-items.ensures.count c.rev.ensures.source c.iter.ensures.rest in
    let t = all_taken m.pairs.now m.count c.args.first c.entries.ensures c.requires.inside (YieldsList-end way c.loop-n.yielded _ c.loop-n.yielded_by _ _ c.in-None.is c.next.ensures.steps).1 in
    turnings_done (range_of m.slots m.in_range) w c.requires c.loop-n.invariant (omega (arith, t))
