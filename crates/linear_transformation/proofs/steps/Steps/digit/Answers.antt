-- `linear_transformation::steps::Steps::digit` meets its contract, by the three cases of `digit`. Assumes nothing.
use Prim.Native.Nat.{ℕ, ◌/◌, ◌%◌, ◌<◌, ◌≤◌}
use mathlib.Core.Path.{◌≡◌, sym}
use native.Mathlib.Nat.{div-le_self}
use native.Mathlib.Omega.{arith}
use lib.IntN.{pos, ◌-ℤ◌}
use mir.Syntax.{w64}
use mir.Val.{SFits, to_z}
use mir.ValLaws.{to_z-of_z}
use Rattle.linear_transformation.specs.Steps.Numbers.{Stepped}
use Rattle.linear_transformation.specs.Laws.Digits.{digit_undivided, digit_below, digit_from, below_period, minus}
use Rattle.linear_transformation.proofs.steps.Steps.digit.Goals as goal
use Rattle.linear_transformation.proofs.steps.Steps.digit.Goals.{then-slots-step-ne0-via-then-slots-step-ne0, then-slots-step-ne0-via-else-slots-step-ne0+then-j-period}

module _ {slots step rot : ℕ} (s : Stepped slots step) (l : rot < slots) where
  j-small : rot / step < 65536
  j-small = omega (arith, div-le_self rot step, l, s.small)

  period-small : slots / step ≤ 65536
  period-small = omega (arith, div-le_self slots step, s.small)

  j-fits : SFits w64 (pos (rot / step))
  j-fits = record { sfits = omega (arith, j-small) }

  period_fits : SFits w64 (pos (slots / step))
  period_fits = record { sfits = omega (arith, period-small) }

  j_is : to_z w64 (rot / step) ≡ pos (rot / step)
  j_is = to_z-of_z w64 (pos (rot / step)) j-fits

  difference-is : to_z w64 (rot / step) -ℤ to_z w64 (slots / step) ≡ pos (rot / step) -ℤ pos (slots / step)
  difference-is = rw (j_is, to_z-of_z w64 (pos (slots / step)) period_fits)

  difference-fits : slots % step ≡ 0 → SFits w64 (pos (rot / step) -ℤ pos (slots / step))
  difference-fits d = rw (minus (rot / step) (slots / step) (below_period slots step rot d l)) (record { sfits = omega (arith, period-small) })

pub returns-then-slots-step-ne0 : goal.returns-then-slots-step-ne0
returns-then-slots-step-ne0 c = elim c.then-slots-step-ne0.branch [
  | then-slots-step-ne0-via-then-slots-step-ne0 w ↦ rw (j_is c.args.self.now.stepped c.requires) (sym (digit_undivided _ _ c.args.rot w.if-slots-step-ne0.true))
  | then-slots-step-ne0-via-else-slots-step-ne0+then-j-period w ↦ rw (j_is c.args.self.now.stepped c.requires) (sym (digit_below _ _ c.args.rot w.if-slots-step-ne0.false (omega (arith, w.if-j-period.true))))
]

pub returns : goal.returns
returns c = rw (difference-is c.args.self.now.stepped c.requires, to_z-of_z w64 _ (difference-fits c.args.self.now.stepped c.requires c.if-slots-step-ne0.false)) (sym (digit_from _ _ c.args.rot c.if-slots-step-ne0.false (omega (arith, c.if-j-period.false))))
