-- `map_file::numbers::put` meets its contract. Assumes nothing.
use Rattle.std.proofs.Common.{◌≡◌, ◌+◌, ◌-◌, arith, length}
use Rattle.ring.specs.Vectors.{in_front, put_at}
use Rattle.map_file.proofs.numbers.put.Goals as goal

pub returns : goal.returns
unfolding put_at in_front
returns g c =
    let size : c.args.at + g.row.N - c.args.at ≡ g.row.N = omega arith in
    let n : length c.args.bytes ≡ g.row.N = omega (arith, c.copy_from_slice.ensures.len) in
    rw (c.copy_from_slice.ensures.after, size, n)
