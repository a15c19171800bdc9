-- `linear_transformation::stored::are_rising` meets its contract. Assumes nothing.
use Rattle.std.proofs.Common.{rules}
use Rattle.std.proofs.lemmas.Fn.{always_returns_same}
use Rattle.linear_transformation.proofs.Storings.{next_fits, none_rises, first_outside, next_decides}
use Rattle.linear_transformation.proofs.stored.are_rising.Goals as goal

pub returns-in_default : goal.returns-in_default
returns-in_default c = none_rises c.args.slots c.args.offsets.now c.in_default.ensures.item.3

pub returns-then-first-slots : goal.returns-then-first-slots
returns-then-first-slots c =
    let i = c.in-Some.ensures.item.3 in
    next_decides c.args.slots c.args.offsets.now i.0 (i.1 0) c.if-first-slots.true (c.is_sorted_by.ensures.cases (next_fits c.args.slots c.args.offsets.now) (always_returns_same _ _ _ (λ a r f k. search rules)))

pub returns-else-first-slots : goal.returns-else-first-slots
returns-else-first-slots c =
    let i = c.in-Some.ensures.item.3 in
    first_outside c.args.slots c.args.offsets.now i.0 (i.1 0) c.if-first-slots.false
