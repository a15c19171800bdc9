-- `runs::turning::rotate_at` meets its contract. Assumes nothing.
use Rattle.std.proofs.Common.{◌+◌, ◌-◌, ◌*◌, arith}
use Rattle.runs.proofs.TwoRuns.{turn_done}
use Rattle.runs.proofs.turning.rotate_at.Goals as goal

pub returns : goal.returns
returns c = turn_done c.requires (c.args.place * c.args.slots + c.args.slots - c.args.place * c.args.slots) (omega arith) c.rotate_in_place.ensures
