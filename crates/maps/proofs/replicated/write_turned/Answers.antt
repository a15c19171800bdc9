-- `maps::replicated::write_turned` meets its contract. Assumes nothing.
use Rattle.std.proofs.Common.{ℕ, ◌*◌, ◌^◌, ◌≤◌, get_or, ap, mul-le-mul, arith, rules}
use Rattle.ring.specs.Laws.Vectors.{filling_none, filling_more, filling_done}
use Rattle.maps.specs.Laws.Tiling.{side_pos, side_low, square_low}
use Rattle.maps.specs.Laws.Blocks.{turned_low}
use Rattle.maps.proofs.replicated.write_turned.Goals as goal

pub loop-x-init : goal.loop-x-init
loop-x-init c = filling_none _ _

pub turned_place-requires : goal.turned_place-requires
turned_place-requires c =
    let s = c.args.side in
    let small : 2 ^ s.log_d * (2 ^ s.log_d * 2 ^ s.log_d) ≤ 16777216 = mul-le-mul {n₂ = 256} {m₂ = 65536} (side_low s.log_d s.low) (square_low s.log_d s.low) in
    omega (arith, small, c.requires.out_len)

pub bounds-b-turned_place : goal.bounds-b-turned_place
bounds-b-turned_place c =
    let low = turned_low (2 ^ c.args.side.log_d) c.loop-x.x (side_pos c.args.side.log_d) in
    rw (c.turned_place.ensures, c.requires.b_len) low

pub loop-x-preserved : goal.loop-x-preserved
loop-x-preserved c = filling_more c.loop-x.invariant (search rules) (ap (λ (y : ℕ). get_or c.args.b.now y 0) c.turned_place.ensures)

pub returns : goal.returns
returns c = filling_done c.loop-x.invariant (search rules)
