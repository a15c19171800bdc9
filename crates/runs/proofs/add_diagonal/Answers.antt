-- `runs::add_diagonal` meets its contract. Assumes nothing.
use Rattle.runs.proofs.Parts.{both}
use Rattle.runs.proofs.add_diagonal.Goals as goal

pub returns : goal.returns
returns c = both c.requires.repeated c.add_period.ensures c.add_period-2.ensures
