-- `maps::shrinking::shrink_in_place` meets its contract. Assumes nothing.
use Rattle.std.proofs.Common.{refl, ◌∙◌}
use Rattle.maps.specs.Laws.Narrow.{even_answer, even_period, even_narrowing, even_small, shrank, shrank_same}
use Rattle.maps.proofs.shrinking.shrink_in_place.Goals as goal

pub unwrap-p-requires : goal.unwrap-p-requires
unwrap-p-requires c = rw (c.shrunk_period.ensures ∙ even_answer c.requires _) refl

pub returns-then-p-period : goal.returns-then-p-period
returns-then-p-period c = shrank_same c.requires (even_period c.requires c.unwrap-p.ensures c.shrunk_period.ensures) c.if-p-period.true

pub write_lengths-requires : goal.write_lengths-requires
write_lengths-requires c = record { p_bound = even_small c.requires (even_period c.requires c.unwrap-p.ensures c.shrunk_period.ensures); count_in_bounds = c.requires.formed.pairs_inside }

pub move_rows-requires : goal.move_rows-requires
move_rows-requires c = even_narrowing c.requires (even_period c.requires c.unwrap-p.ensures c.shrunk_period.ensures)

pub returns : goal.returns
returns c = shrank c.requires (even_period c.requires c.unwrap-p.ensures c.shrunk_period.ensures) c.write_lengths.ensures c.move_rows.ensures
