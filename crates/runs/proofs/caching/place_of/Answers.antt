-- `runs::caching::place_of` meets its contract. Assumes nothing.
use Rattle.std.proofs.Common.{suc, ltb, rules}
use Rattle.std.proofs.lemmas.List.Sorted.{IsPartitionedBy-leb, IsPartitionPoint-from_clause}
use Rattle.runs.proofs.Babies.{place_is_point, rising_order}
use Rattle.runs.proofs.caching.place_of.Goals as goal

pub returns : goal.returns
returns c =
    place_is_point c.requires
    (IsPartitionPoint-from_clause (λ b. ltb b c.args.baby) _ _ c.partition_point.ensures.partitioned (IsPartitionedBy-leb suc c.args.babies.now c.args.baby (rising_order c.args.babies.now c.requires.rises)) (λ a r q k. search rules))
