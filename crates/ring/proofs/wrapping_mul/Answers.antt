-- `ring::wrapping_mul` meets its contract: the products of halves fit, and the two sums are the product. Assumes nothing.
use Rattle.std.proofs.Common.{◌^◌, refl}
use Rattle.ring.specs.Slots.{mulm}
use Rattle.ring.proofs.Product.{wraps}
use Rattle.ring.proofs.wrapping_mul.Goals as goal

pub returns : goal.returns
unfolding mulm
returns c = wraps (2 ^ 32) _ _ _ _ refl refl
