-- `runs::multiply` meets its contract. Assumes nothing.
use Rattle.std.proofs.Common.{ℕ, arith}
use lib.ListN.{length-replicate}
use Rattle.runs.proofs.Adding.{adding_none, adding_fits, adding_repeated, adding_more, adding_done}
use Rattle.runs.proofs.Entries.{map_formed, entries_length}
use Rattle.runs.proofs.multiply.Goals as goal

pub loop-offset-init : goal.loop-offset-init
loop-offset-init c = adding_none _ _ _ _ _ (c.fill.ensures.after (λ y h. h)) c.requires.out_len (length-replicate {A = ℕ} 512 0)

pub split_at-requires : goal.split_at-requires
split_at-requires c = adding_fits (map_formed c.args.map.now) c.requires.input_len c.loop-offset.invariant c.entries-offset-items.ensures c.loop-offset-test.true

pub add_diagonal-requires-clause-repeated : goal.add_diagonal-requires-clause-repeated
add_diagonal-requires-clause-repeated c = adding_repeated (map_formed c.args.map.now) c.requires.input_len c.loop-offset.invariant c.entries-offset-items.ensures c.loop-offset-test.true c.split_at.ensures.front

pub loop-offset-preserved : goal.loop-offset-preserved
loop-offset-preserved c = adding_more (map_formed c.args.map.now) c.requires.input_len c.loop-offset.invariant c.entries-offset-items.ensures c.loop-offset-test.true c.split_at.ensures.front c.split_at.ensures.back c.add_diagonal.ensures c.add_diagonal.auto.table

pub returns : goal.returns
returns c = adding_done c.loop-offset.invariant (omega (arith, entries_length _ _ c.entries-offset-items.ensures))
