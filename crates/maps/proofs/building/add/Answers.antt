-- `maps::building::add` meets its contract. Assumes nothing.
use Rattle.maps.proofs.Walks.{row_asked, row_summed}
use Rattle.maps.proofs.building.add.Goals as goal

pub add_row-requires-clause-placed : goal.add_row-requires-clause-placed
add_row-requires-clause-placed g c = row_asked c.loop-t.invariant.0

pub loop-t-preserved : goal.loop-t-preserved
loop-t-preserved g c = (row_summed c.loop-t.invariant.0 c.add_row.ensures, c.loop-t.invariant.1)
