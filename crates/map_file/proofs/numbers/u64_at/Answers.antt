-- `map_file::numbers::u64_at` meets its contract. Assumes nothing.
use Rattle.std.proofs.Common.{refl, arith}
use Rattle.map_file.specs.Laws.Numbers.{number_add, number_four, number_whole}
use Rattle.map_file.proofs.numbers.u64_at.Goals as goal

pub returns : goal.returns
returns c =
    let p = c.bytes_at.result in
    omega (
      arith,
      c.from_le_bytes.ensures,
      number_add 4 4 p 0,
      number_four p 0 {i = 1} {j = 2} {k = 3} refl refl refl,
      number_four p 4 {i = 5} {j = 6} {k = 7} refl refl refl,
      number_whole 8 c.args.bytes.now p c.args.at c.bytes_at.ensures,
    )
