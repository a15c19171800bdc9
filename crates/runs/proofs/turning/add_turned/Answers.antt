-- `runs::turning::add_turned` meets its contract. Assumes nothing.
use Rattle.std.proofs.Common.{refl}
use Rattle.runs.proofs.TwoRuns.{add_done}
use Rattle.runs.proofs.turning.add_turned.Goals as goal

pub returns : goal.returns
returns c = add_done c.requires c.split_at_mut-before.ensures.front c.split_at_mut-before.ensures.back c.add_vector.ensures refl c.add_vector-2.ensures refl
