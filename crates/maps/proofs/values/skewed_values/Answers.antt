-- `maps::values::skewed_values` meets its contract. Assumes nothing.
use Rattle.std.proofs.Common.{length-take-le}
use Rattle.maps.specs.Steps.Values.{turns_rows}
use Rattle.maps.specs.Laws.Skewing.{values_no_room, square_divides, values_written}
use Rattle.maps.proofs.values.skewed_values.Goals as goal

pub returns-then-out-b : goal.returns-then-out-b
returns-then-out-b c = values_no_room _ _ _ _ _ (c.check_values.ensures.accepted _ c.in_ok-side.was) c.if-out-b.true

pub write_skewed-requires-clause-fact : goal.write_skewed-requires-clause-fact
write_skewed-requires-clause-fact c = square_divides (turns_rows c.args.skew) _ _ _ c.args.out.now (c.check_values.ensures.accepted _ c.in_ok-side.was)

pub returns : goal.returns
returns c = values_written _ _ _ _ _ (c.check_values.ensures.accepted _ c.in_ok-side.was) c.if-out-b.false (rw (length-take-le _ _ c.if-out-b.false) at c.write_skewed.ensures)
