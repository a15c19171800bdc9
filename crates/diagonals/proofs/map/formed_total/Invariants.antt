-- `diagonals::map::formed_total` meets its contract. Assumes nothing.
use Rattle.diagonals.specs.Laws.Checking.{Checking}
use Rattle.diagonals.specs.Steps.Reading.{Divisor}
use Rattle.diagonals.proofs.map.formed_total.Given as goal

abbrev pub invariant-loop-offset : goal.invariant-loop-offset
invariant-loop-offset l = Checking l.slots l.count l.pairs l.total l.next l.offset-index × Divisor l.slots l.last
