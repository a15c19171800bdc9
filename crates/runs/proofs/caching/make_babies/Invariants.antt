-- `runs::caching::make_babies` meets its contract. Assumes nothing.
use Rattle.runs.proofs.Babies.{Making}
use Rattle.runs.proofs.caching.make_babies.Given as goal

abbrev pub invariant-loop-p : goal.invariant-loop-p
invariant-loop-p l = Making l.babies l.powers l.input l.n l.initial.cache l.cache l.initial.turns l.turns l.p
