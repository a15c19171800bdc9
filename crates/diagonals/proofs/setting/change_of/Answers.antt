-- `diagonals::setting::change_of` meets its contract. Assumes nothing.
use Rattle.std.proofs.Common.{arith}
use Rattle.diagonals.specs.Laws.Changes.{start_within}
use Rattle.diagonals.proofs.Deciding.{few_pairs, few_values}
use Rattle.diagonals.proofs.setting.change_of.Goals as goal

pub overflow_add-from : goal.overflow_add-from
overflow_add-from c =
    let m = c.args.map.now in
    record { fits = omega (arith, c.values_between-start.ensures, c.values_between.ensures, start_within c.place_of-behind.ensures, few_values m.slots m.count m.pairs.now m.values.now m.formed, c.well_formed) }

pub overflow_add-result : goal.overflow_add-result
overflow_add-result c =
    let m = c.args.map.now in
    record { fits = omega (arith, c.place_of-index.ensures.inside, few_pairs m.slots m.count m.pairs.now m.values.now m.in_range m.formed) }

pub overflow_add-result-2 : goal.overflow_add-result-2
overflow_add-result-2 c =
    let m = c.args.map.now in
    record { fits = omega (arith, c.place_of-index.ensures.inside, few_pairs m.slots m.count m.pairs.now m.values.now m.in_range m.formed) }

pub overflow_add-result-3 : goal.overflow_add-result-3
overflow_add-result-3 c =
    let m = c.args.map.now in
    record { fits = omega (arith, c.values_between-start.ensures, start_within c.place_of-index.ensures, few_values m.slots m.count m.pairs.now m.values.now m.formed, c.requires.len_bound, c.well_formed) }

pub overflow_sub-result-2 : goal.overflow_sub-result-2
overflow_sub-result-2 c = omega (arith, c.values_between-start.ensures, c.values_between.ensures, start_within c.place_of-behind.ensures, c.args.map.now.total_is)

pub overflow_add-result-4 : goal.overflow_add-result-4
overflow_add-result-4 c =
    let m = c.args.map.now in
    record { fits = omega (arith, c.values_between-start.ensures, c.values_between.ensures, start_within c.place_of-index.ensures, m.total_is, few_values m.slots m.count m.pairs.now m.values.now m.formed, c.requires.len_bound, c.well_formed) }
