-- `runs::caching::baby_switch` meets its contract. Assumes nothing.
use Rattle.runs.proofs.Babies.{source_asked, turn_signed, made_lem}
use Rattle.runs.proofs.caching.baby_switch.Goals as goal

pub rotated_input-source-requires : goal.rotated_input-source-requires
rotated_input-source-requires c = source_asked c.requires.caching _ c.requires.p_in_bounds c.turn_of-turn.ensures c.split_at_mut-made.ensures.front_len

pub unwrap-requires : goal.unwrap-requires
unwrap-requires c = let s = c.split_at_mut-made.ensures in (made_lem c.requires.caching _ c.requires.p_in_bounds c.turn_of-turn.ensures s.front s.back c.rotated_input-source.ensures (turn_signed c.requires.caching _ c.requires.p_in_bounds c.turn_of-turn.ensures) c.rotate_slots_into.ensures).0

pub returns : goal.returns
returns c = let s = c.split_at_mut-made.ensures in (made_lem c.requires.caching _ c.requires.p_in_bounds c.turn_of-turn.ensures s.front s.back c.rotated_input-source.ensures (turn_signed c.requires.caching _ c.requires.p_in_bounds c.turn_of-turn.ensures) c.rotate_slots_into.ensures).1
