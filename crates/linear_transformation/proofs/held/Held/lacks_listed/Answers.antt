-- `linear_transformation::held::Held::lacks_listed` meets its contract. Assumes nothing.
use Rattle.std.proofs.Common.{◌≡◌, ◌<◌, ℕ, not, rules, arith, ◌∙◌}
use Rattle.std.specs.List.{list_any}
use Rattle.std.proofs.lemmas.Iterator.{YieldsList-from_slice}
use Rattle.std.proofs.lemmas.Iterator.Adapters.{serves_from_places}
use Rattle.std.proofs.lemmas.Iterator.Search.{any_from_yields_List}
use Rattle.ring.specs.Marks.{marks}
use Rattle.ring.specs.Laws.Lists.{each_at}
use Rattle.linear_transformation.proofs.BabyChecks.{any_some}
use Rattle.linear_transformation.proofs.Missings.{listed_lacking}
use Rattle.linear_transformation.proofs.held.Held.lacks_listed.Goals as goal

pub any-requires-clause-callable : goal.any-requires-clause-callable
any-requires-clause-callable c =
    serves_from_places (YieldsList-from_slice c.args.keys.now c.iter.ensures.rest) (λ x q h. search rules)
    (λ x k l e. let h : x.now < 65536 = omega (arith, e, each_at (λ k. k < 65536) c.args.keys.now x.now c.requires k l) in search rules)

pub returns : goal.returns
returns c =
    let any : c.any.result ≡ list_any (λ (k : ℕ). not (marks c.args.self.now.seen.now k)) c.args.keys.now = any_from_yields_List (λ (k : ℕ). not (marks c.args.self.now.seen.now k)) _ _ _ c.any.ensures.ran (YieldsList-from_slice c.args.keys.now c.iter.ensures.rest) (λ x b q k. search rules) in
    listed_lacking c.requires (any ∙ any_some (λ (k : ℕ). not (marks c.args.self.now.seen.now k)) c.args.keys.now)
