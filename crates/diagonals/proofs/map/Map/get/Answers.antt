-- `diagonals::map::Map::get` meets its contract. Assumes nothing.
use Rattle.std.proofs.Common.{sym, arith, w64, rules}
use native.Mathlib.Nat.{add-sub_cancel_left}
use mir.ValLaws.{to_z-of_z}
use Rattle.diagonals.specs.Laws.Entries.{entries_length}
use Rattle.diagonals.specs.Laws.Maps.{formed_means, placed_none, placed_other, placed_here}
use Rattle.diagonals.proofs.Chunks.{start_first, gotten_low, gotten_offset, gotten_length, gotten_fits}
use Rattle.diagonals.proofs.map.Map.get.Goals as goal
use Rattle.diagonals.proofs.map.Map.get.Goals.{in_default-via-in-Some+else-offset-k, in_default-via-in_default}

pub overflow_add-result : goal.overflow_add-result
overflow_add-result c =
    record { fits = omega (arith, gotten_fits _ _ c.entries.ensures c.in-Some.ensures.lookup.3 _ _ _ _ c.args.self.now.formed c.place_of-place.ensures c.values_between-start.ensures, c.well_formed) }

pub offset_bounds-values-start : goal.offset_bounds-values-start
offset_bounds-values-start c =
    record { fits = omega (arith, gotten_fits _ _ c.entries.ensures c.in-Some.ensures.lookup.3 _ _ _ _ c.args.self.now.formed c.place_of-place.ensures c.values_between-start.ensures, c.well_formed) }

pub slice_bounds-result-end : goal.slice_bounds-result-end
slice_bounds-result-end c =
    let e = gotten_fits _ _ c.entries.ensures c.in-Some.ensures.lookup.3 _ _ _ _ c.args.self.now.formed c.place_of-place.ensures c.values_between-start.ensures in
    search rules

pub returns-in-Some : goal.returns-in-Some
returns-in-Some c =
    let e = c.entries.ensures in
    let f = c.in-Some.ensures.lookup.3 in
    rw (add-sub_cancel_left, gotten_length _ _ e f, start_first _ _ c.values_between-start.ensures, ← (to_z-of_z w64 c.args.index c.ranges.index), ← c.residue-k.ensures)
    (sym (placed_here (formed_means _ _ _ _ c.args.self.now.formed) c.place_of-place.ensures (gotten_low _ _ e f) (omega (arith, gotten_offset _ _ e f, c.if-offset-k.true))))

pub returns-in_default : goal.returns-in_default
returns-in_default c =
    let w = formed_means _ _ _ _ c.args.self.now.formed in
    let p = c.place_of-place.ensures in
    let e = c.entries.ensures in
    rw (← (to_z-of_z w64 c.args.index c.ranges.index), ← c.residue-k.ensures)
    (elim c.in_default.branch [
      | in_default-via-in-Some+else-offset-k w' ↦
          let f = w'.in-Some.ensures.lookup.3 in
          sym (placed_other w p (gotten_low _ _ e f) (λ h. omega (arith, h, gotten_offset _ _ e f, w'.if-offset-k.false)))
      | in_default-via-in_default w' ↦ sym (placed_none w p (omega (arith, w'.in_default.ensures.lookup.3, entries_length _ _ e)))
    ])
