-- `runs::run::Run::progress` meets its contract. Assumes nothing.
use Rattle.std.proofs.Common.{arith}
use Rattle.runs.proofs.Running.{sized}
use Rattle.runs.proofs.run.Run.progress.Goals as goal

pub overflow_cast-result : goal.overflow_cast-result
overflow_cast-result c = let r = c.args.self.now in omega (arith, (sized r.asked.map r.asked.strategy r.survey_is).babies_low)

pub overflow_cast-result-2 : goal.overflow_cast-result-2
overflow_cast-result-2 c = let r = c.args.self.now in omega (arith, (sized r.asked.map r.asked.strategy r.survey_is).giants_low)

pub overflow_cast-result-3 : goal.overflow_cast-result-3
overflow_cast-result-3 c = let r = c.args.self.now in omega (arith, (sized r.asked.map r.asked.strategy r.survey_is).diagonals_low)
