-- `linear_transformation::widths::best_width` meets its contract. Assumes nothing.
use mathlib.Core.Path.{sym}
use Rattle.linear_transformation.specs.Laws.Widths.{best_few}
use Rattle.linear_transformation.proofs.widths.best_width.Goals as goal

pub returns-then-ds-lt2 : goal.returns-then-ds-lt2
returns-then-ds-lt2 c = sym (best_few _ _ c.if-ds-lt2.true)
