-- `maps::sums::SumsSummands::summand` meets its contract. Assumes nothing.
use Rattle.std.proofs.Common.{◌<◌, length, arith, rules}
use Rattle.maps.specs.Laws.Tiling.{side_pos}
use Rattle.maps.proofs.Summing.{period_inside, base_inside}
use Rattle.maps.proofs.sums.SumsSummands.summand.Goals as goal

pub factors-f-requires-clause-base_bound : goal.factors-f-requires-clause-base_bound
factors-f-requires-clause-base_bound c =
    let m = c.args.self.now in
    let d = side_pos m.side.log_d in
    omega (arith, base_inside c.output.ensures m.count d (period_inside m.product _ m.count c.args.t d c.requires.t_low), m.small)

pub bounds-self-f : goal.bounds-self-f
bounds-self-f c =
    let m = c.args.self.now in
    let d = side_pos m.side.log_d in
    omega (arith, base_inside c.output.ensures m.count d (period_inside m.product _ m.count c.args.t d c.requires.t_low), m.whole, c.factors-f.ensures.public_low)

pub offset_bounds-self-f : goal.offset_bounds-self-f
offset_bounds-self-f c =
    let m = c.args.self.now in
    let d = side_pos m.side.log_d in
    let inside : c.factors-f.result.public < length m.b.now = omega (arith, base_inside c.output.ensures m.count d (period_inside m.product _ m.count c.args.t d c.requires.t_low), m.whole, c.factors-f.ensures.public_low) in
    search rules
