-- `runs::answering::top_node` meets its contract. Assumes nothing.
use Rattle.runs.proofs.NodeAnswers.{none_by}
use Rattle.runs.proofs.answering.top_node.Goals as goal

pub returns-then-giants-eq0 : goal.returns-then-giants-eq0
returns-then-giants-eq0 c = none_by _ _ _ c.if-giants-eq0.true (c.fill.ensures.after (λ y h. h))
