-- `map_file::reading::File::room` meets its contract. Assumes nothing.
use native.Mathlib.Omega.{arith}
use Rattle.map_file.proofs.Judging.{few_pairs}
use Rattle.map_file.proofs.reading.File.room.Goals as goal

pub overflow_cast-self : goal.overflow_cast-self
overflow_cast-self c =
    let f = c.args.self.now in
    record { fits = omega (arith, few_pairs _ f.accepted f.count_is f.total_is) }
