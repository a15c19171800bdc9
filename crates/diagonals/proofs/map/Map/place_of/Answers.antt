-- `diagonals::map::Map::place_of` meets its contract. Assumes nothing.
use Rattle.std.proofs.Common.{ltb, slice_index_or, rules, arith}
use Rattle.std.proofs.lemmas.Fn.{always_returns_same}
use Rattle.diagonals.specs.Laws.Maps.{formed_means}
use Rattle.diagonals.specs.Laws.Entries.{entries_length}
use Rattle.diagonals.proofs.Chunks.{point_placed}
use Rattle.diagonals.proofs.map.Map.place_of.Goals as goal

pub returns : goal.returns
returns c =
    let w = formed_means _ _ _ _ c.args.self.now.formed in
    let e = c.entries.ensures in
    point_placed e w.rising (omega (arith, entries_length _ _ e, c.partition_point.ensures.bound)) (c.partition_point.ensures.partitioned (λ p. ltb (slice_index_or p 0 0) c.args.k) (always_returns_same _ _ _ (λ a r f k. search rules)))
