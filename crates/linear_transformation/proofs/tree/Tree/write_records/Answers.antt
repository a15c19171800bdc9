-- `linear_transformation::tree::Tree::write_records` meets its contract. Assumes nothing.
use Rattle.std.proofs.Common.{rules}
use Rattle.linear_transformation.proofs.Recording.{recorded_none, recorded_room, recorded_more, recorded_all}
use Rattle.linear_transformation.proofs.tree.Tree.write_records.Goals as goal

pub loop-level-init : goal.loop-level-init
loop-level-init c = recorded_none _ _ _

pub write_level-at-requires-clause-room : goal.write_level-at-requires-clause-room
write_level-at-requires-clause-room c = recorded_room c.loop-level.invariant c.loop-level-test.true c.requires

pub loop-level-preserved : goal.loop-level-preserved
loop-level-preserved c = recorded_more c.loop-level.invariant c.loop-level-test.true c.write_level-at.ensures

pub returns : goal.returns
returns c = recorded_all c.loop-level.invariant (search rules)
