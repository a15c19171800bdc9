-- `runs::answering::sum_nodes` meets its contract. Assumes nothing.
use Rattle.std.proofs.lemmas.List.{length_push}
use Rattle.runs.proofs.NodeAnswers.{summed_none, node_length, summed_more, summed_done}
use Rattle.runs.proofs.answering.sum_nodes.Goals as goal

pub loop-node-init : goal.loop-node-init
loop-node-init c =
    let e = c.into_iter-node-iterator.ensures.into_iter_gives in
    rw e (summed_none _ _ _ (c.fill.ensures.after (λ y h. h)) c.chunks_exact-node-items.ensures.rest c.chunks_exact-node-items.ensures.size)

pub add_vector-requires : goal.add_vector-requires
add_vector-requires c =
    let s = c.in-Some.ensures.steps in
    node_length c.loop-node.invariant c.requires.room c.requires.some _ _ s.1.0 s.1.1

pub loop-node-preserved : goal.loop-node-preserved
loop-node-preserved c =
    let s = c.in-Some.ensures.steps in
    summed_more c.loop-node.invariant c.requires.room c.requires.some _ _ s.1.0 s.1.1 c.add_vector.ensures s.0 (length_push c.loop-node.yielded c.in-Some.node)

pub returns : goal.returns
returns c = summed_done c.loop-node.invariant c.requires.room c.requires.some c.in-None.ensures.steps.1.0
