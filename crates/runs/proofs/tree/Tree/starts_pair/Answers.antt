-- `runs::tree::Tree::starts_pair` meets its contract. Assumes nothing.
use Rattle.std.proofs.Common.{◌∙◌, eq-eqb, ne_eqb}
use Rattle.runs.proofs.Pairing.{starts_not, starts_zero, starts_later}
use Rattle.runs.proofs.tree.Tree.starts_pair.Goals as goal

pub returns-then-place-eq0 : goal.returns-then-place-eq0
returns-then-place-eq0 c = eq-eqb _ 0 c.if-place-eq0.true ∙ starts_zero _ _ _ c.node_at-node.ensures c.if-node-eq1.true c.if-place-eq0.true

pub returns-else-place-eq0 : goal.returns-else-place-eq0
returns-else-place-eq0 c = starts_later _ _ _ c.node_at-node.ensures c.if-node-eq1.true c.if-place-eq0.false c.node_at.ensures

pub returns-else-node-eq1 : goal.returns-else-node-eq1
returns-else-node-eq1 c = ne_eqb _ 1 c.if-node-eq1.false ∙ starts_not _ _ _ c.node_at-node.ensures c.if-node-eq1.false
