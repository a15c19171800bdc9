-- `linear_transformation::sorted::Sorted::giant_switches` meets its contract. Assumes nothing.
use Rattle.std.proofs.Common.{refl, sym, ap, ◌∙◌, length}
use Rattle.linear_transformation.proofs.Facts.{sizable}
use Rattle.linear_transformation.proofs.Strategies.{own}
use Rattle.linear_transformation.proofs.KeyAnswers.{own_switches}
use Rattle.linear_transformation.proofs.sorted.Sorted.giant_switches.Goals as goal

pub returns-then-turns_each : goal.returns-then-turns_each
returns-then-turns_each c = own_switches (sizable c.args.self.now) (c.count_giants.ensures ∙ ap length c.turned.ensures) (own (sym c.turns_each.ensures ∙ c.if-turns_each.true) _ _) refl
