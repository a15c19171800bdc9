-- `diagonals::map::Map::values_between` meets its contract. Assumes nothing.
use Rattle.std.proofs.Common.{◌≡◌, List, ℕ, ◌-◌, take, drop, slice_index_or, arith, rules}
use Rattle.std.specs.List.{sum_by}
use Rattle.std.proofs.lemmas.Iterator.{YieldsList-from_map, YieldsList-from_slice}
use Rattle.std.proofs.lemmas.Iterator.Consumers.{sum_by_from_yields_List, fits_by_from_yields_list}
use Rattle.diagonals.specs.Laws.Maps.{start_mono}
use Rattle.diagonals.proofs.Deciding.{few_pairs, few_values}
use Rattle.diagonals.specs.Laws.Entries.{entries_length}
use Rattle.diagonals.proofs.Chunks.{lengths_between}
use Rattle.diagonals.proofs.map.Map.values_between.Goals as goal

pub offset_bounds-entries-first : goal.offset_bounds-entries-first
offset_bounds-entries-first c =
    let m = c.args.self.now in
    record { fits = omega (arith, c.requires, few_pairs m.slots m.count m.pairs.now m.values.now m.in_range m.formed) }

pub slice_bounds-iter-end : goal.slice_bounds-iter-end
slice_bounds-iter-end c =
    let e = entries_length _ _ c.entries.ensures in
    search rules

pub sum-requires-clause-fits : goal.sum-requires-clause-fits
sum-requires-clause-fits c =
    let m = c.args.self.now in
    let a = c.args in
    let whole = lengths_between m.pairs.now m.count c.entries.ensures a.first a.end c.requires.order c.requires.inside in
    let low = start_mono m.pairs.now a.end m.count c.requires.inside in
    fits_by_from_yields_list (λ (p : List ℕ). slice_index_or p 1 0) _ _ _
    (YieldsList-from_map _ (λ (p : List ℕ). slice_index_or p 1 0) (YieldsList-from_slice (take (a.end - a.first) (drop a.first c.entries.result.now)) cc) c.map.ensures.closure (λ x r q k. search rules))
    (omega (arith, whole, low, few_values m.slots m.count m.pairs.now m.values.now m.formed, c.well_formed))

pub returns : goal.returns
returns c =
    let m = c.args.self.now in
    let a = c.args in
    let whole = lengths_between m.pairs.now m.count c.entries.ensures a.first a.end c.requires.order c.requires.inside in
    let total : c.sum.result ≡ sum_by (λ (p : List ℕ). slice_index_or p 1 0) (take (a.end - a.first) (drop a.first c.entries.result.now)) =
    sum_by_from_yields_List (λ (p : List ℕ). slice_index_or p 1 0) _ _ _ c.sum.ensures.ran
    (YieldsList-from_map _ (λ (p : List ℕ). slice_index_or p 1 0) (YieldsList-from_slice (take (a.end - a.first) (drop a.first c.entries.result.now)) cc) c.map.ensures.closure (λ x r q k. search rules)) in
    rw total whole
