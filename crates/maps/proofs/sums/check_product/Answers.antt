-- `maps::sums::check_product` meets its contract. Assumes nothing.
use Rattle.std.proofs.Common.{◌≡◌, Err, refl, rules}
use Rattle.maps.proofs.Answering.{product_tiles_refuse, product_accepted}
use Rattle.maps.proofs.sums.check_product.Goals as goal

pub returns-in_err-side : goal.returns-in_err-side
returns-in_err-side c =
    let e : c.from_residual.result ≡ Err c.in_err-side.field-0.0 = search rules in
    rw e (product_tiles_refuse _ _ _ _ _ (c.check_tiles.ensures.refused _ c.in_err-side.was))

pub returns : goal.returns
returns c = product_accepted _ _ _ _ _ (c.check_tiles.ensures.accepted _ c.in_ok-side.was) _ refl refl refl refl (rw (← c.size.ensures) c.if-b-count.false)
