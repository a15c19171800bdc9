-- `linear_transformation::stored::plan_records` meets its contract. Assumes nothing.
use Rattle.std.proofs.Common.{sym, ◌∙◌, arith}
use Rattle.linear_transformation.proofs.Judgings.{passed_on}
use Rattle.linear_transformation.proofs.Planting.{blank}
use Rattle.linear_transformation.proofs.Storings.{each_written, plan_refused, plan_short, plan_room, plan_told}
use Rattle.linear_transformation.proofs.stored.plan_records.Goals as goal

pub returns-then-turns_each : goal.returns-then-turns_each
returns-then-turns_each c = each_written c.args.slots c.args.strategy _ _ (sym c.turns_each.ensures ∙ c.if-turns_each.true)

pub returns-in_err-giants : goal.returns-in_err-giants
returns-in_err-giants c =
    rw (passed_on c.from_residual.ensures.1, ← c.part.ensures) (plan_refused c.args.slots c.args.strategy _ _ (sym c.turns_each.ensures ∙ c.if-turns_each.false) c.in_err-giants.ensures)

pub plant-tree-requires : goal.plant-tree-requires
plant-tree-requires c = blank

pub returns-then-records-pairs : goal.returns-then-records-pairs
returns-then-records-pairs c =
    rw (← c.part.ensures) (plan_short c.in_ok-giants.giants c.in_ok-giants.ensures (sym c.turns_each.ensures ∙ c.if-turns_each.false) c.plant-tree.ensures c.size-pairs.ensures _ c.if-records-pairs.true)

pub write_records-requires : goal.write_records-requires
write_records-requires c =
    omega (arith, c.if-records-pairs.false, plan_room c.in_ok-giants.giants c.in_ok-giants.ensures (sym c.turns_each.ensures ∙ c.if-turns_each.false) c.plant-tree.ensures c.size-pairs.ensures)

pub returns : goal.returns
returns c =
    rw (← c.part.ensures)
    (plan_told c.in_ok-giants.giants c.in_ok-giants.ensures (sym c.turns_each.ensures ∙ c.if-turns_each.false) c.plant-tree.ensures c.size-pairs.ensures _ (omega (arith, c.if-records-pairs.false)) c.write_records.ensures)
