-- `runs::answering::sum_nodes` meets its contract. Assumes nothing.
use Rattle.std.proofs.Common.{length}
use Rattle.runs.proofs.NodeAnswers.{Summed}
use Rattle.runs.proofs.answering.sum_nodes.Given as goal

abbrev pub invariant-loop-node : goal.invariant-loop-node
invariant-loop-node l = Summed l.n l.nodes l.slots l.out l.node-iterator.rest.now l.node-iterator.size (length l.yielded)
