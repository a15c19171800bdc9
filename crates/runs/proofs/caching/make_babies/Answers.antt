-- `runs::caching::make_babies` meets its contract. Assumes nothing.
use Rattle.std.proofs.Common.{◌<◌, arith}
use Rattle.runs.proofs.Babies.{making_none, making_more, making_done, making_many}
use Rattle.runs.proofs.caching.make_babies.Goals as goal

pub loop-p-init : goal.loop-p-init
loop-p-init c = making_none _ _ _ _ _ _

pub loop-p-preserved : goal.loop-p-preserved
loop-p-preserved c =
    let many = making_many c.args.log.now c.requires.n_in_bounds_2 c.loop-p.invariant in
    let l : c.loop-p.p < c.args.n = omega (arith, c.loop-p-test.true, many) in
    making_more c.loop-p.invariant c.requires.caching (omega (arith, c.requires.n_in_bounds)) l (omega (arith, many, c.loop-p.invariant.log_len)) c.baby_switch.ensures

pub returns : goal.returns
returns c =
    let many = making_many c.args.log.now c.requires.n_in_bounds_2 c.loop-p.invariant in
    making_done c.requires.n_in_bounds_2 c.loop-p.invariant (omega (arith, c.loop-p-test.false, many))
