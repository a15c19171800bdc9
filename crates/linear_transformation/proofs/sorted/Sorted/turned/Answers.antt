-- `linear_transformation::sorted::Sorted::turned` meets its contract. Assumes nothing.
use Rattle.linear_transformation.specs.Plans.{width_of}
use Rattle.linear_transformation.specs.Steps.Plans.{RunEnd}
use Rattle.linear_transformation.specs.Laws.Turns.{planned_rest}
use Rattle.linear_transformation.proofs.Facts.{accepted, diagonals}
use Rattle.linear_transformation.proofs.Keyings.{rest_giants}
use Rattle.linear_transformation.proofs.sorted.Sorted.turned.Goals as goal

pub invariant_of-result : goal.invariant_of-result
invariant_of-result c =
    let s = c.args.self.now in
    let e : RunEnd s.ds.now 0 (width_of s.strategy) c.run_end-start.result = rw c.width.ensures at c.run_end-start.ensures in
    let p = planned_rest (accepted s).planned e in
    record { slots_range = s.slots_range; width_in = s.width_in; rises = p.rises; low = p.low }

pub returns : goal.returns
returns c = rest_giants (diagonals c.args.self.now) (rw c.width.ensures at c.run_end-start.ensures)
