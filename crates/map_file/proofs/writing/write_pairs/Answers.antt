-- `map_file::writing::write_pairs` meets its contract. Assumes nothing.
use Prim.Native.Nat.{ℕ, ◌+◌, ◌≤◌, ◌<◌}
use mathlib.Core.Path.{◌≡◌, refl, sym, ap, ◌∙◌}
use mathlib.Core.List.{List}
use native.Mathlib.Omega.{arith}
use lib.ListN.{length, get_or}
use Rattle.std.specs.Int.{w32}
use Rattle.ring.specs.Vectors.{put_at}
use Rattle.ring.specs.Laws.Vectors.{get_or_tabulate}
use Rattle.ring.specs.Laws.Places.{put_both}
use Rattle.diagonals.specs.Maps.{Diagonal, offset_at, length_at, diagonal_at, view, WellFormed}
use Rattle.diagonals.specs.Laws.Maps.{length_view, formed_means}
use Rattle.diagonals.specs.Laws.Entries.{entries_length, entry_low, entry_offset, entry_length}
use Rattle.map_file.specs.Files.{bytes_of, pair_bytes}
use Rattle.map_file.specs.Laws.Numbers.{length_bytes_of}
use Rattle.map_file.specs.Laws.Telling.{length_pair_bytes}
use Rattle.map_file.proofs.Filing.{filing_none, filing_more, filing_done, put_le}
use Rattle.map_file.proofs.writing.write_pairs.Goals as goal

-- the two numbers of the i-th pair, put one behind the other, are its bytes
pair_put : {slots count i at to x y : ℕ} {pairs values mid new : List ℕ} (d : Diagonal) (old : List ℕ) → WellFormed slots count pairs values → i < count → to ≡ at + 4 → at ≤ length old → x ≡ offset_at pairs i → y ≡ length_at pairs i → mid ≡ put_at at (bytes_of 4 x) old → new ≡ put_at to (bytes_of 4 y) mid → new ≡ put_at at (pair_bytes (get_or (view count pairs values) i d)) old
unfolding pair_bytes view
pair_put {slots} {count} {i} {at} {to} {x} {y} {pairs} {values} d old w l e room eo el h k =
    k
    ∙ ap (put_at to (bytes_of 4 y)) h
    ∙ put_both at to (bytes_of 4 x) (bytes_of 4 y) old room (e ∙ ap (λ (n : ℕ). at + n) (sym (length_bytes_of 4 x)))
    ∙ rw (get_or_tabulate count (diagonal_at pairs values) i d l, w.whole i l, eo, el)

pub loop-i-init : goal.loop-i-init
loop-i-init c = filing_none _ _ _ _

pub put-requires : goal.put-requires
put-requires c = omega (arith, c.requires, c.loop-i.invariant.len, entry_low _ _ c.entries-offset-items.ensures c.loop-i-test.true)

pub put-requires-in-loop-i : goal.put-requires-in-loop-i
put-requires-in-loop-i c = omega (arith, c.requires, c.loop-i.invariant.len, entry_low _ _ c.entries-offset-items.ensures c.loop-i-test.true)

pub loop-i-preserved : goal.loop-i-preserved
loop-i-preserved c =
    let m = c.args.map.now in
    let e = c.entries-offset-items.ensures in
    let l = c.loop-i-test.true in
    let n : c.loop-i.i < m.count = entry_low _ _ e l in
    filing_more c.loop-i.invariant 8 length_pair_bytes (diagonal_at m.pairs.now m.values.now c.loop-i.i) refl (omega (arith, length_view m.count m.pairs.now m.values.now, n)) (omega (arith, c.requires, n))
    (pair_put _ c.loop-i.out (formed_means _ _ _ _ m.formed) (entry_low _ _ e l) refl (omega arith) (entry_offset _ _ e l) (entry_length _ _ e l) (put_le w32 _ _ _ _ _ c.to_le_bytes.ensures c.put.ensures) (put_le w32 _ _ _ _ _ c.to_le_bytes-in-loop-i.ensures c.put-in-loop-i.ensures))

pub returns : goal.returns
returns c =
    let m = c.args.map.now in
    filing_done c.loop-i.invariant (omega (arith, length_view m.count m.pairs.now m.values.now, entries_length _ _ c.entries-offset-items.ensures))
