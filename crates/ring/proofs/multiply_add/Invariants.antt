-- `ring::multiply_add` meets its contract: the loop keeps `Filling`. Assumes nothing.
use Rattle.ring.specs.Vectors.{Filling}
use Rattle.ring.specs.Calls.{product_added}
use Rattle.ring.proofs.multiply_add.Given as goal

abbrev pub invariant-loop-i : goal.invariant-loop-i
invariant-loop-i l = Filling (product_added l.a l.b l.fn.out) l.fn.out l.out l.i
