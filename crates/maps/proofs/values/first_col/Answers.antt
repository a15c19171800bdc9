-- `maps::values::first_col` meets its contract. Assumes nothing.
use Rattle.maps.specs.Laws.Skewing.{first_col_then}
use Rattle.maps.proofs.values.first_col.Goals as goal

pub returns : goal.returns
returns c =
    let t = c.check_tiles.ensures.accepted _ c.in_ok-side.was in
    first_col_then c.args.slots _ t.none (rw (← t.log_is) c.rows.ensures) c.project.ensures
