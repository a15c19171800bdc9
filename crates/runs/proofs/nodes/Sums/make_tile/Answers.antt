-- `runs::nodes::Sums::make_tile` meets its contract. Assumes nothing.
use Rattle.std.proofs.Common.{refl}
use Rattle.runs.proofs.GiantNodes.{tiling_more, part_room, part_length}
use Rattle.runs.proofs.nodes.Sums.make_tile.Goals as goal

pub loop-p-preserved : goal.loop-p-preserved
loop-p-preserved c = tiling_more _ _ _ _ _ _ _ c.requires c.loop-p.invariant c.loop-p-test.true refl refl refl (part_length c.loop-p.nodes _ _ (part_room _ _ _ _ _ _ _ c.requires c.loop-p.invariant c.loop-p-test.true)) c.make_part-values_at.ensures
