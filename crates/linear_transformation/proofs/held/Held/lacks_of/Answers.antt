-- `linear_transformation::held::Held::lacks_of` meets its contract. Assumes nothing.
use Rattle.std.proofs.Common.{sym, ◌∙◌}
use Rattle.linear_transformation.specs.Plans.{baby_of, giant_of}
use Rattle.linear_transformation.proofs.held.Held.lacks_of.Goals as goal

pub returns-then-lacks : goal.returns-then-lacks
unfolding baby_of giant_of
returns-then-lacks c = rw (sym c.lacks.ensures ∙ c.if-lacks.true) c.if-lacks.true

pub returns-else-lacks : goal.returns-else-lacks
unfolding baby_of giant_of
returns-else-lacks c = rw (sym c.lacks.ensures ∙ c.if-lacks.false) c.lacks-else-lacks.ensures
