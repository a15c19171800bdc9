-- `runs::multiply` meets its contract. Assumes nothing.
use Rattle.runs.proofs.Adding.{Adding}
use Rattle.runs.proofs.multiply.Given as goal

abbrev pub invariant-loop-offset : goal.invariant-loop-offset
invariant-loop-offset l = Adding l.map.slots l.map.count l.map.pairs.now l.map.values.now l.input l.out l.table l.rest l.offset-index
