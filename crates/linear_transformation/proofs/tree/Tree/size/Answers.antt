-- `linear_transformation::tree::Tree::size` meets its contract. Assumes nothing.
use Rattle.std.proofs.Common.{◌≡◌, ◌∙◌, ◌<◌, ◌^◌, length, rules}
use Rattle.std.specs.List.{sum_by}
use Rattle.std.proofs.iter.runs.Sources.{ranges}
use Rattle.linear_transformation.specs.Steps.Trees.{level_pairs}
use Rattle.linear_transformation.proofs.Ranges.{upto, range_folds}
use Rattle.linear_transformation.proofs.Heaps.{switches_counted, total_low}
use Rattle.linear_transformation.proofs.tree.Tree.size.Goals as goal

pub sum-requires-clause-fits : goal.sum-requires-clause-fits
sum-requires-clause-fits c =
    let low : sum_by (λ i. length (level_pairs c.args.self.now.nodes.now c.args.self.now.bits i)) (upto c.args.self.now.bits) < 2 ^ 64 = total_low c.args.self.now.nodes.now c.args.self.now.low in
    search (rules, range_folds, ranges)

pub returns : goal.returns
returns c =
    let h : c.sum.result ≡ sum_by (λ i. length (level_pairs c.args.self.now.nodes.now c.args.self.now.bits i)) (upto c.args.self.now.bits) = search (rules, range_folds, ranges) in
    h ∙ switches_counted c.args.self.now.bits c.args.self.now.nodes.now c.args.self.now.bits
