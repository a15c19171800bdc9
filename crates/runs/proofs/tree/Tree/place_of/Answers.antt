-- `runs::tree::Tree::place_of` meets its contract. Assumes nothing.
use Rattle.std.proofs.Common.{ℕ, suc, ◌*◌, ◌^◌, ◌%◌, ltb, rules, arith, mod-eq_of_lt}
use Rattle.std.proofs.lemmas.List.Sorted.{IsPartitionedBy-leb, IsPartitionPoint-from_clause}
use Rattle.runs.specs.Steps.Giants.{leaf_or_zero}
use Rattle.runs.proofs.Pairing.{leaves_order, point_is_place}
use Rattle.runs.proofs.tree.Tree.place_of.Goals as goal

pub returns : goal.returns
returns c =
    let t = c.args.self.now in
    let least : ℕ = c.args.node * 2 ^ c.args.level % 4294967296 in
    point_is_place c.requires (mod-eq_of_lt {m = 4294967296} (omega (arith, c.requires.small)))
    (IsPartitionPoint-from_clause (λ g. ltb (leaf_or_zero t g) least) _ _ c.partition_point.ensures.partitioned (IsPartitionedBy-leb (λ g. suc (leaf_or_zero t g)) t.giants.now least (leaves_order t)) (λ a r q k. search rules))
