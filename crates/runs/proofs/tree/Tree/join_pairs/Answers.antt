-- `runs::tree::Tree::join_pairs` meets its contract. Assumes nothing.
use Rattle.std.proofs.Common.{sym, ◌∙◌, arith}
use Rattle.runs.proofs.Joining.{walking_none, walking_yes, walking_no, walking_done}
use Rattle.runs.proofs.tree.Tree.join_pairs.Goals as goal
use Rattle.runs.proofs.tree.Tree.join_pairs.Goals.{else-starts_pair, then-starts_pair}

pub loop-q-init : goal.loop-q-init
loop-q-init c = walking_none c.requires

pub loop-q-preserved : goal.loop-q-preserved
loop-q-preserved c =
    let v = c.loop-q.invariant in
    let l = c.loop-q-test.true in
    elim c.if-starts_pair.branch [ then-starts_pair w ↦ rw (w.nodes-is, w.log-is, w.q-is) (walking_yes c.requires v (omega (arith, l, v.logs.len)) l (sym c.starts_pair.ensures ∙ w.if-starts_pair.true) w.join_pair-turn.ensures) | else-starts_pair w ↦ rw (w.nodes-is, w.log-is, w.q-is) (walking_no c.requires v (omega (arith, l, v.logs.len)) (sym c.starts_pair.ensures ∙ w.if-starts_pair.false)) ]

pub returns : goal.returns
returns c = walking_done c.requires c.loop-q.invariant (omega (arith, c.loop-q-test.false))
