-- `linear_transformation::held::Held::lacks_turn` meets its contract. Assumes nothing.
use Rattle.std.proofs.Common.{◌≡◌, ◌<◌, ◌≤◌, rules, arith, ◌∙◌}
use Rattle.std.specs.List.{list_any}
use Rattle.std.proofs.lemmas.Iterator.{YieldsList-from_slice}
use Rattle.std.proofs.lemmas.Iterator.Adapters.{serves_from_places}
use Rattle.std.proofs.lemmas.Iterator.Search.{any_from_yields_List}
use Rattle.ring.specs.Laws.Lists.{each_at}
use Rattle.linear_transformation.specs.Plans.{width_of}
use Rattle.linear_transformation.specs.Steps.Stored.{turns_lacked}
use Rattle.linear_transformation.proofs.Strategies.{own}
use Rattle.linear_transformation.proofs.Facts.{accepted, diagonals}
use Rattle.linear_transformation.proofs.BabyChecks.{any_some}
use Rattle.linear_transformation.proofs.Missings.{turns_lacking, lacks_each}
use Rattle.linear_transformation.proofs.held.Held.lacks_turn.Goals as goal

pub any-requires-clause-callable : goal.any-requires-clause-callable
any-requires-clause-callable c =
    let g = diagonals c.args.sorted.now in
    serves_from_places (YieldsList-from_slice c.args.sorted.now.ds.now c.iter.ensures.rest) (λ x q h. search rules)
    (λ x k l e.
    let h : x.now < 65536 = omega (arith, e, each_at (λ k. k < 65536) c.args.sorted.now.ds.now x.now g.planned.low k l) in
    let m : 1 ≤ c.width-width.result = omega (arith, c.width-width.ensures, g.planned.positive) in
    search rules)

pub returns : goal.returns
returns c =
    let w = width_of c.args.sorted.now.strategy in
    let any : c.any.result ≡ list_any (turns_lacked w c.args.self.now.seen.now) c.args.sorted.now.ds.now = any_from_yields_List (turns_lacked w c.args.self.now.seen.now) _ _ _ c.any.ensures.ran (YieldsList-from_slice c.args.sorted.now.ds.now c.iter.ensures.rest) (λ x b q k. search rules) in
    lacks_each (accepted c.args.sorted.now) (own c.requires _ _) (turns_lacking (diagonals c.args.sorted.now) (any ∙ any_some (turns_lacked w c.args.self.now.seen.now) c.args.sorted.now.ds.now))
