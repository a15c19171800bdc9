-- `runs::caching::rotated_input` meets its contract. Assumes nothing.
use Rattle.std.proofs.Common.{arith}
use Rattle.runs.proofs.Babies.{vector_is}
use Rattle.runs.proofs.caching.rotated_input.Goals as goal

pub returns : goal.returns
returns c = vector_is c.requires (omega arith) c.place_of.ensures
