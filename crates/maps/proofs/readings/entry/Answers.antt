-- `maps::readings::entry` meets its contract. Assumes nothing.
use Rattle.std.proofs.Common.{◌∙◌}
use Rattle.maps.proofs.Entering.{entry_there}
use Rattle.maps.proofs.readings.entry.Goals as goal

pub returns : goal.returns
returns c = c.then_some.ensures ∙ entry_there c.args.there c.args.d c.args.r c.args.c
