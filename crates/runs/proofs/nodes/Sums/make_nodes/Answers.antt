-- `runs::nodes::Sums::make_nodes` meets its contract. Assumes nothing.
use Rattle.std.proofs.Common.{arith}
use Rattle.runs.proofs.GiantNodes.{noding_more, noding_done}
use Rattle.runs.proofs.nodes.Sums.make_nodes.Goals as goal

pub returns : goal.returns
returns c = noding_done _ _ _ _ _ _ _ c.requires c.loop-slot.invariant c.loop-slot-test.false

pub returns-2 : goal.returns-2
returns-2 c = noding_done _ _ _ _ _ _ _ c.requires (noding_more _ _ _ _ _ _ _ c.requires c.loop-slot.invariant (omega arith) c.make_tile.ensures) (omega arith)
