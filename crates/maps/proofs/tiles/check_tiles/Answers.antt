-- `maps::tiles::check_tiles` meets its contract. Assumes nothing.
use Rattle.std.proofs.Common.{◌≡◌, false, sym, ◌∙◌, lt-ltb, le-ltb, eq-eqb, ne_eqb}
use Rattle.ring.specs.Refusals.{outside}
use Rattle.maps.specs.Laws.Tiling.{few_slots, tiles_refused}
use Rattle.maps.proofs.tiles.check_tiles.Goals as goal
use Rattle.maps.proofs.tiles.check_tiles.Goals.{then-log_d-gt8-via-then-log_d-gt8, then-log_d-gt8-via-else-log_d-gt8+then-count-eq0, then-log_d-gt8-via-else-log_d-gt8+else-count-eq0+then-slots-count}

pub returns-then-log_d-gt8 : goal.returns-then-log_d-gt8
returns-then-log_d-gt8 c =
    let slots-inside : outside c.args.slots ≡ false = sym c.is_outside.ensures.answer ∙ c.if-is_outside.false in
    elim c.then-log_d-gt8.branch [
      | then-log_d-gt8-via-then-log_d-gt8 w ↦ tiles_refused (rw (slots-inside, lt-ltb _ _ w.if-log_d-gt8.true))
      | then-log_d-gt8-via-else-log_d-gt8+then-count-eq0 w ↦ tiles_refused (rw (slots-inside, le-ltb _ _ w.if-log_d-gt8.false, eq-eqb _ _ w.if-count-eq0.true))
      | then-log_d-gt8-via-else-log_d-gt8+else-count-eq0+then-slots-count w ↦ tiles_refused (rw (slots-inside, le-ltb _ _ w.if-log_d-gt8.false, ne_eqb _ _ w.if-count-eq0.false, few_slots _ _ _ (c.is_outside.ensures.inside c.if-is_outside.false).0 w.if-slots-count.true))
    ]
