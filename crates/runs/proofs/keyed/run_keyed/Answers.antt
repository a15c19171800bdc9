-- `runs::keyed::run_keyed` meets its contract. Assumes nothing.
use Rattle.std.proofs.Common.{ℕ, arith}
use lib.ListN.{length-replicate}
use Rattle.runs.proofs.Entries.{map_few}
use Rattle.runs.proofs.keyed.run_keyed.Goals as goal

pub run_listed-requires-2 : goal.run_listed-requires-2
run_listed-requires-2 c = omega (arith, map_few c.args.asked.now.map, length-replicate {A = ℕ} 65536 0)
