-- `diagonals::pairs::put_pair` meets its contract. Assumes nothing.
use Rattle.std.proofs.Common.{suc, ◌*◌, length, add-one, arith, le-leb}
use borrow.Author.Tests.{lt-leb}
use Rattle.diagonals.specs.Maps.{pair_room, put_pair}
use Rattle.diagonals.proofs.pairs.put_pair.Goals as goal

pub returns-else-i-pairs : goal.returns-else-i-pairs
unfolding put_pair pair_room
returns-else-i-pairs c = rw (lt-leb (2 * suc c.args.i) (length c.args.pairs.now) (omega arith))

pub returns-then-i-pairs : goal.returns-then-i-pairs
unfolding put_pair pair_room
returns-then-i-pairs c = rw (add-one (2 * c.args.i), le-leb (2 * suc c.args.i) (length c.args.pairs.now) (omega arith))
