-- `maps::per_matrix::per_matrix_map` meets its contract. Assumes nothing.
use Rattle.std.proofs.Common.{◌≡◌, Err, rules}
use Rattle.maps.specs.Laws.Tiling.{size_is}
use Rattle.maps.specs.Laws.SharedTerms.{not_built, built_even, built_shrunk}
use Rattle.maps.proofs.per_matrix.per_matrix_map.Goals as goal

pub returns-in_err-count : goal.returns-in_err-count
returns-in_err-count c =
    let t = c.check_tiles.ensures.accepted _ c.in_ok-check_tiles.was in
    let e : c.from_residual-in_err-count.result ≡ Err c.in_err-count.field-0.0 = search rules in
    rw e (not_built _ _ _ _ _ _ _ t.none (rw (size_is t c.size-period.ensures) at c.from_slot_map.ensures) c.in_err-count.was)

pub shrink_in_place-requires : goal.shrink_in_place-requires
shrink_in_place-requires c =
    let t = c.check_tiles.ensures.accepted _ c.in_ok-check_tiles.was in
    let period = size_is t c.size-period.ensures in
    rw period (built_even _ _ _ _ _ _ _ t.none (rw period at c.from_slot_map.ensures) c.in_ok-count.was)

pub returns : goal.returns
returns c =
    let t = c.check_tiles.ensures.accepted _ c.in_ok-check_tiles.was in
    let period = size_is t c.size-period.ensures in
    built_shrunk _ _ _ _ _ _ _ t.none (rw period at c.from_slot_map.ensures) c.in_ok-count.was (rw period at c.shrink_in_place.ensures)
