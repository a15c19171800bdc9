-- `diagonals::pairs::first_pairs` meets its contract. Assumes nothing.
use Rattle.std.proofs.Common.{sym, arith, length-take-le}
use Rattle.diagonals.specs.Maps.{pair_room}
use Rattle.diagonals.proofs.Chunks.{chunks_are}
use Rattle.diagonals.proofs.pairs.first_pairs.Goals as goal

pub slice_bounds-result-end : goal.slice_bounds-result-end
unfolding pair_room
slice_bounds-result-end c = sym (length-take-le _ _ (omega (arith, c.as_chunks.ensures.front_len)))

pub returns : goal.returns
unfolding pair_room
returns c = rw c.as_chunks.ensures.front (chunks_are c.args.n _ c.args.words.now (omega arith) c.requires)
