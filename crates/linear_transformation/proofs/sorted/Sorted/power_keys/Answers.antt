-- `linear_transformation::sorted::Sorted::power_keys` meets its contract. Assumes nothing.
use native.Mathlib.Omega.{arith}
use Rattle.std.proofs.Common.{refl}
use Rattle.linear_transformation.proofs.Facts.{sizable}
use Rattle.linear_transformation.proofs.Writings.{unmarked}
use Rattle.linear_transformation.proofs.Strategies.{powers}
use Rattle.linear_transformation.proofs.KeyAnswers.{keys_powers, power_small, power_short, power_written}
use Rattle.linear_transformation.proofs.sorted.Sorted.power_keys.Goals as goal

pub mark_closure-closed-requires : goal.mark_closure-closed-requires
mark_closure-closed-requires c = unmarked

pub overflow_add-passes : goal.overflow_add-passes
overflow_add-passes c = omega (arith, power_small (sizable c.args.self.now) c.mark_closure-closed.ensures c.requires.planted c.count_tops-passes.ensures c.keys_count-levels.ensures)

pub returns-then-out-passes : goal.returns-then-out-passes
returns-then-out-passes c =
    keys_powers _ _ (powers c.requires.powers refl)
    (power_short (sizable c.args.self.now) c.mark_closure-closed.ensures c.requires.planted c.count_tops-passes.ensures c.keys_count-levels.ensures _ c.if-out-passes.true)

pub returns : goal.returns
returns c =
    keys_powers _ _ (powers c.requires.powers refl)
    (power_written (sizable c.args.self.now) c.mark_closure-closed.ensures c.requires.planted c.count_tops-passes.ensures c.keys_count-levels.ensures _ (omega (arith, c.if-out-passes.false)) c.write_tops.ensures c.write_keys.ensures)
