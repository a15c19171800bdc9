-- `linear_transformation::sorted::Sorted::turn_needs` meets its contract. Assumes nothing.
use Rattle.std.proofs.Common.{ap, length, ◌∙◌, arith}
use Rattle.linear_transformation.proofs.Facts.{accepted, sizable}
use Rattle.linear_transformation.proofs.Writings.{unmarked}
use Rattle.linear_transformation.proofs.Strategies.{own}
use Rattle.linear_transformation.proofs.KeyAnswers.{own_few}
use Rattle.linear_transformation.proofs.Missings.{keys_missing, keys_held, turn_needs_are}
use Rattle.linear_transformation.proofs.sorted.Sorted.turn_needs.Goals as goal

pub of-requires : goal.of-requires
of-requires c = unmarked

pub returns-then-lacks_turn : goal.returns-then-lacks_turn
returns-then-lacks_turn c = keys_missing _ _ _ c.of.ensures c.lacks_turn.ensures c.if-lacks_turn.true

pub overflow_add-result-2 : goal.overflow_add-result-2
overflow_add-result-2 c =
    let few = own_few (sizable c.args.self.now) (c.count_giants-2.ensures ∙ ap length c.turned.ensures) in
    record { fits = omega (arith, c.baby_switches-made.ensures.few, few) }

pub returns : goal.returns
returns c =
    let a = accepted c.args.self.now in
    keys_held _ _ _ c.of.ensures c.lacks_turn.ensures c.if-lacks_turn.false
    (turn_needs_are a c.baby_switches-made.ensures c.count_giants.ensures (own c.requires _ _) (c.count_giants-2.ensures ∙ ap length c.turned.ensures))
