-- `diagonals::pairs::offset_at` meets its contract. Assumes nothing.
use Rattle.std.proofs.Common.{◌*◌, sym, refl, arith}
use lib.ListN.{get_or-eq_default}
use Rattle.diagonals.specs.Maps.{offset_at}
use Rattle.diagonals.proofs.pairs.offset_at.Goals as goal

pub returns-else-i-div_ceil : goal.returns-else-i-div_ceil
unfolding offset_at
returns-else-i-div_ceil c = sym (get_or-eq_default c.args.pairs.now 0 {n = 2 * c.args.i} (omega arith))

pub returns-then-i-div_ceil : goal.returns-then-i-div_ceil
unfolding offset_at
returns-then-i-div_ceil c = refl
