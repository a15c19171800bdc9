-- `linear_transformation::tree::Tree::keys_count` meets its contract. Assumes nothing.
use Rattle.std.proofs.Common.{◌≡◌, ◌∙◌, length, not, eqb, rules}
use Rattle.std.specs.List.{count_by}
use Rattle.std.proofs.iter.runs.Sources.{ranges}
use Rattle.linear_transformation.specs.Steps.Trees.{level_pairs}
use Rattle.linear_transformation.proofs.Ranges.{upto, range_folds, counted}
use Rattle.linear_transformation.proofs.Writing.{keys_counted}
use Rattle.linear_transformation.proofs.tree.Tree.keys_count.Goals as goal

pub returns : goal.returns
returns c =
    let h : c.count.result ≡ count_by (λ i. not (eqb (length (level_pairs c.args.self.now.nodes.now c.args.self.now.bits i)) 0)) (upto c.args.self.now.bits) = search (rules, range_folds, ranges) in
    h ∙ counted _ c.args.self.now.bits ∙ keys_counted c.args.self.now.steps.slots c.args.self.now.steps.step c.args.self.now.bits c.args.self.now.nodes.now c.args.self.now.bits
