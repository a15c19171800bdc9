-- `runs::products::add_period` meets its contract. Assumes nothing.
use Rattle.std.proofs.Common.{arith}
use Rattle.runs.proofs.Copies.{copies_added}
use Rattle.runs.proofs.products.add_period.Goals as goal

pub returns : goal.returns
returns c = copies_added c.args.period.now c.args.table.now _ (omega arith) c.requires.table_len_bound (omega arith) (omega (arith, c.requires.around.low)) c.rotate_slots_into.ensures c.requires.around c.add_around-2.ensures
