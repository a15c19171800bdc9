-- `linear_transformation::sorted::Sorted::mark` meets its contract. Assumes nothing.
use Rattle.std.proofs.Common.{refl, sym, ◌∙◌}
use Rattle.linear_transformation.proofs.Strategies.{own, powers}
use Rattle.linear_transformation.proofs.Keyings.{table_own, table_powers}
use Rattle.linear_transformation.proofs.sorted.Sorted.mark.Goals as goal

pub returns-then-turns_each : goal.returns-then-turns_each
returns-then-turns_each c = table_own _ _ (own (sym c.turns_each.ensures ∙ c.if-turns_each.true) _ _) refl c.mark_own.ensures

pub returns : goal.returns
returns c = table_powers _ _ (powers (sym c.turns_each.ensures ∙ c.if-turns_each.false) refl) c.mark_closure.ensures
