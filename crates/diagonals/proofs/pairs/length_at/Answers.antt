-- `diagonals::pairs::length_at` meets its contract. Assumes nothing.
use Rattle.std.proofs.Common.{◌+◌, ◌*◌, sym, refl, arith}
use lib.ListN.{get_or-eq_default}
use Rattle.diagonals.specs.Maps.{length_at}
use Rattle.diagonals.proofs.pairs.length_at.Goals as goal

pub returns-else-i-pairs : goal.returns-else-i-pairs
unfolding length_at
returns-else-i-pairs c = sym (get_or-eq_default c.args.pairs.now 0 {n = 2 * c.args.i + 1} (omega arith))

pub returns-then-i-pairs : goal.returns-then-i-pairs
unfolding length_at
returns-then-i-pairs c = refl
