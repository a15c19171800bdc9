-- `linear_transformation::giants::bits_for` meets its contract. Assumes nothing.
use Rattle.std.proofs.Common.{rules}
use Rattle.linear_transformation.proofs.Listings.{bits_are}
use Rattle.linear_transformation.proofs.giants.bits_for.Goals as goal

pub returns : goal.returns
returns c = search (bits_are, rules)
