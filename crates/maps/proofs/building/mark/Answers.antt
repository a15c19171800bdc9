-- `maps::building::mark` meets its contract. Assumes nothing.
use Rattle.diagonals.specs.Laws.Terms.{marks_none}
use Rattle.maps.proofs.building.mark.Goals as goal

pub loop-t-init : goal.loop-t-init
loop-t-init g c = (marks_none _ c.requires.unmarked, c.period-t-end.ensures)
