-- `maps::sums::product_map` meets its contract. Assumes nothing.
use Rattle.std.proofs.Common.{◌≡◌, Err, rules}
use Rattle.maps.proofs.Answering.{product_refused, product_period, product_written}
use Rattle.maps.proofs.sums.product_map.Goals as goal

pub returns-in_err-sums : goal.returns-in_err-sums
returns-in_err-sums c =
    let e : c.from_residual.result ≡ Err c.in_err-sums.field-0.0 = search rules in
    rw e (product_refused _ _ _ _ _ _ _ (c.check_product.ensures.refused _ c.in_err-sums.was))

pub build-requires : goal.build-requires
build-requires c = product_period (c.check_product.ensures.accepted _ c.in_ok-sums.was)

pub returns : goal.returns
returns c = product_written (c.check_product.ensures.accepted _ c.in_ok-sums.was) c.build.ensures
