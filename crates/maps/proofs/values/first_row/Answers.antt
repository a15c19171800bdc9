-- `maps::values::first_row` meets its contract. Assumes nothing.
use Rattle.maps.specs.Laws.Skewing.{first_row_then}
use Rattle.maps.proofs.values.first_row.Goals as goal

pub returns : goal.returns
returns c =
    let t = c.check_tiles.ensures.accepted _ c.in_ok-side.was in
    first_row_then c.args.slots _ t.none (rw (← t.log_is) c.rows.ensures) (rw (← t.log_is) c.size.ensures) c.project.ensures
