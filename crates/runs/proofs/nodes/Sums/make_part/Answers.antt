-- `runs::nodes::Sums::make_part` meets its contract. Assumes nothing.
use Rattle.std.proofs.Common.{ℕ, rules, arith, refl}
use lib.ListN.{length-replicate}
use Rattle.runs.proofs.Entries.{map_few, entries_length, length_from, entry_from}
use Rattle.runs.proofs.GiantSums.{running_none, above, reading, values_inside, len_some, around, running_more, running_done, vector_length, sums_formed}
use Rattle.runs.proofs.nodes.Sums.make_part.Goals as goal

pub loop-offset-init : goal.loop-offset-init
loop-offset-init c = running_none c.requires.giant_asked (c.fill.ensures.after (λ y h. h)) (length-replicate {A = ℕ} 512 0)

pub overflow_add-offset-items : goal.overflow_add-offset-items
overflow_add-offset-items c = record { fits = omega (arith, c.requires.giant_asked.run.inside, map_few c.args.self.now.map) }

pub offset_bounds-entries-first : goal.offset_bounds-entries-first
offset_bounds-entries-first c = record { fits = omega (arith, c.requires.giant_asked.run.inside, map_few c.args.self.now.map) }

pub slice_bounds-offset-items-end : goal.slice_bounds-offset-items-end
slice_bounds-offset-items-end c =
    let i = c.requires.giant_asked.run.inside in
    let e = entries_length _ _ c.entries.ensures in
    search rules

pub overflow_add-end : goal.overflow_add-end
overflow_add-end c =
    let a = c.requires.giant_asked in
    let t = entry_from _ _ c.entries.ensures c.args.first c.args.n a.run.inside c.loop-offset-test.true in
    record { fits = omega (arith, values_inside (sums_formed c.args.self.now) a c.requires.part_asked.inside c.loop-offset.invariant t.low t.length_is, c.well_formed) }

pub overflow_sub-offset : goal.overflow_sub-offset
overflow_sub-offset c =
    let a = c.requires.giant_asked in
    let t = entry_from _ _ c.entries.ensures c.args.first c.args.n a.run.inside c.loop-offset-test.true in
    above (sums_formed c.args.self.now) a c.requires.part_asked.inside c.loop-offset.invariant t.low t.offset_is

pub rotated_input-vector-requires : goal.rotated_input-vector-requires
rotated_input-vector-requires c =
    let a = c.requires.giant_asked in
    let t = entry_from _ _ c.entries.ensures c.args.first c.args.n a.run.inside c.loop-offset-test.true in
    reading (sums_formed c.args.self.now) a c.requires.part_asked.inside c.loop-offset.invariant t.low t.offset_is

pub offset_bounds-self-at : goal.offset_bounds-self-at
offset_bounds-self-at c =
    let a = c.requires.giant_asked in
    let t = entry_from _ _ c.entries.ensures c.args.first c.args.n a.run.inside c.loop-offset-test.true in
    record { fits = omega (arith, values_inside (sums_formed c.args.self.now) a c.requires.part_asked.inside c.loop-offset.invariant t.low t.length_is, c.well_formed) }

pub slice_bounds-add_period-end : goal.slice_bounds-add_period-end
slice_bounds-add_period-end c =
    let a = c.requires.giant_asked in
    let t = entry_from _ _ c.entries.ensures c.args.first c.args.n a.run.inside c.loop-offset-test.true in
    let i = values_inside (sums_formed c.args.self.now) a c.requires.part_asked.inside c.loop-offset.invariant t.low t.length_is in
    search rules

pub nonzero_rem-back : goal.nonzero_rem-back
nonzero_rem-back c =
    let a = c.requires.giant_asked in
    let t = entry_from _ _ c.entries.ensures c.args.first c.args.n a.run.inside c.loop-offset-test.true in
    len_some (sums_formed c.args.self.now) a c.requires.part_asked.inside c.loop-offset.invariant t.low t.length_is

pub slice_bounds-add_period-end-in-loop-offset : goal.slice_bounds-add_period-end-in-loop-offset
slice_bounds-add_period-end-in-loop-offset c =
    let a = c.requires.giant_asked in
    let t = entry_from _ _ c.entries.ensures c.args.first c.args.n a.run.inside c.loop-offset-test.true in
    omega (arith, a.run.low, c.requires.part_asked.inside, vector_length (sums_formed c.args.self.now) a c.requires.part_asked.inside c.loop-offset.invariant t.low t.length_is t.offset_is c.rotated_input-vector.ensures)

pub add_period-requires-clause-around : goal.add_period-requires-clause-around
add_period-requires-clause-around c =
    let a = c.requires.giant_asked in
    let t = entry_from _ _ c.entries.ensures c.args.first c.args.n a.run.inside c.loop-offset-test.true in
    around (sums_formed c.args.self.now) a c.requires.part_asked.inside c.loop-offset.invariant t.low t.length_is t.offset_is c.rotated_input-vector.ensures _

pub loop-offset-preserved : goal.loop-offset-preserved
loop-offset-preserved c =
    let m = c.args.self.now in
    let a = c.requires.giant_asked in
    let t = entry_from _ _ c.entries.ensures c.args.first c.args.n a.run.inside c.loop-offset-test.true in
    running_more (sums_formed m) a c.requires.part_asked.inside c.loop-offset.invariant t.low t.length_is t.offset_is c.rotated_input-vector.ensures refl c.add_period.ensures c.add_period.auto.table

pub returns : goal.returns
returns c =
    running_done c.loop-offset.invariant (omega (arith, length_from _ _ c.entries.ensures c.args.first c.args.n c.requires.giant_asked.run.inside))
