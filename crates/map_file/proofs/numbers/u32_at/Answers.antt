-- `map_file::numbers::u32_at` meets its contract. Assumes nothing.
use Rattle.std.proofs.Common.{refl, arith}
use Rattle.map_file.specs.Laws.Numbers.{number_four, number_whole}
use Rattle.map_file.proofs.numbers.u32_at.Goals as goal

pub returns : goal.returns
returns c =
    let p = c.bytes_at.result in
    omega (arith, c.from_le_bytes.ensures, number_four p 0 {i = 1} {j = 2} {k = 3} refl refl refl, number_whole 4 c.args.bytes.now p c.args.at c.bytes_at.ensures)
