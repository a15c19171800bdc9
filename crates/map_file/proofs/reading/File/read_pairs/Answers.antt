-- `map_file::reading::File::read_pairs` meets its contract. Assumes nothing.
use Prim.Native.Nat.{◌+◌}
use mathlib.Core.Path.{refl, ◌∙◌}
use native.Mathlib.Omega.{arith}
use Rattle.diagonals.specs.Laws.Pairs.{room_mono, length_put}
use Rattle.map_file.proofs.Judging.{whole_size}
use Rattle.map_file.proofs.FilePairs.{reading_none, reading_more, reading_done, items_length, item_low, offset_read, length_read}
use Rattle.map_file.proofs.reading.File.read_pairs.Goals as goal

pub loop-i-init : goal.loop-i-init
loop-i-init c = (reading_none _ _, (omega arith, refl))

pub first_pairs-pair-items-requires : goal.first_pairs-pair-items-requires
first_pairs-pair-items-requires c =
    let f = c.args.self.now in
    omega (arith, whole_size _ f.accepted f.count_is f.total_is)

pub loop-i-preserved : goal.loop-i-preserved
loop-i-preserved c =
    let e = c.first_pairs-pair-items.ensures in
    let l = c.loop-i-test.true in
    let n = item_low _ _ e l in
    let v = c.loop-i.invariant in
    let p = c.put_pair.ensures in (
      rw p (reading_more v.0 (omega (arith, room_mono (c.loop-i.i + 1) c.args.self.now.count (omega arith), c.requires)) (offset_read _ _ e l c.u32_at.ensures) (length_read _ _ e l c.u32_at-in-loop-i.ensures)),
      (omega (arith, n), rw p (length_put _ _ _ _ ∙ v.1.1)),
    )

pub returns : goal.returns
returns c =
    reading_done c.loop-i.invariant.0 (omega (arith, c.args.self.now.count_is, items_length _ _ c.first_pairs-pair-items.ensures))
