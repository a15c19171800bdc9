-- `diagonals::setting::write_pair` meets its contract. Assumes nothing.
use Rattle.std.proofs.Common.{arith}
use Rattle.diagonals.specs.Maps.{pair_room, pair_of}
use Rattle.diagonals.proofs.setting.write_pair.Goals as goal

pub overflow_mul-index : goal.overflow_mul-index
unfolding pair_room
overflow_mul-index c = record { fits = omega (arith, c.requires, c.well_formed) }

pub overflow_mul-behind : goal.overflow_mul-behind
unfolding pair_room
overflow_mul-behind c = record { fits = omega (arith, c.requires, c.well_formed) }

pub overflow_mul-count : goal.overflow_mul-count
unfolding pair_room
overflow_mul-count c = record { fits = omega (arith, c.requires, c.well_formed) }

pub splice-requires : goal.splice-requires
unfolding pair_room
splice-requires c = c.requires.inside

pub returns : goal.returns
unfolding pair_room pair_of
returns c = record { is = λ d k l. rw (← k, ← l) c.splice.ensures }
