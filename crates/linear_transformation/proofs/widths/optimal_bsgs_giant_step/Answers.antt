-- `linear_transformation::widths::optimal_bsgs_giant_step` meets its contract. Assumes nothing.
use Rattle.std.proofs.Common.{arith}
use Rattle.linear_transformation.proofs.Sortings.{diagonals_few}
use Rattle.linear_transformation.proofs.Weighings.{named_distinct}
use Rattle.linear_transformation.proofs.widths.optimal_bsgs_giant_step.Goals as goal

pub sort_into-ds-requires-clause-indexes_in_bounds : goal.sort_into-ds-requires-clause-indexes_in_bounds
sort_into-ds-requires-clause-indexes_in_bounds c = omega (arith, diagonals_few c.args.slots c.args.indexes.now, (c.is_outside.ensures.inside c.if-is_outside.false).1)

pub best_width-requires-clause-distinct : goal.best_width-requires-clause-distinct
best_width-requires-clause-distinct c = named_distinct c.args.indexes.now c.sort_into-ds.ensures
