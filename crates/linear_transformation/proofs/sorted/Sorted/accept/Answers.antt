-- `linear_transformation::sorted::Sorted::accept` meets its contract. Assumes nothing.
use Rattle.std.proofs.Common.{sym, ◌∙◌}
use Rattle.linear_transformation.proofs.Storings.{stored_accepted}
use Rattle.linear_transformation.proofs.sorted.Sorted.accept.Goals as goal

pub invariant_of-result : goal.invariant_of-result
invariant_of-result c =
    let a = stored_accepted {s = c.args.strategy} (sym c.is_outside.ensures.answer ∙ c.if-is_outside.false) (sym c.are_rising.ensures ∙ c.if-not-are_rising.false) (sym c.is_width_outside.ensures ∙ c.if-is_width_outside.false) in
    record { slots_range = a.slots_in_fact; width_in = a.width_in; rises = a.planned.rises; low = a.planned.low }
