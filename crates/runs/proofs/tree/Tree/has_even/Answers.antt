-- `runs::tree::Tree::has_even` meets its contract. Assumes nothing.
use Rattle.std.proofs.Common.{not, ap, ◌∙◌, eq-eqb, arith}
use Rattle.runs.proofs.Pairing.{before_asked, node_small, even_zero, even_later}
use Rattle.runs.proofs.tree.Tree.has_even.Goals as goal

pub overflow_add-result : goal.overflow_add-result
overflow_add-result c = omega (arith, c.node_at.ensures, node_small (before_asked c.requires))

pub returns-then-place-ne0 : goal.returns-then-place-ne0
returns-then-place-ne0 c = even_later _ _ _ c.node_at-then-place-ne0.ensures c.if-place-ne0.true c.node_at.ensures

pub returns-else-place-ne0 : goal.returns-else-place-ne0
returns-else-place-ne0 c = ap not (eq-eqb _ 0 c.if-place-ne0.false) ∙ even_zero _ _ _ c.if-place-ne0.false
