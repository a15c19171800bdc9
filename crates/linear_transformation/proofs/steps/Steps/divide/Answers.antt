-- `linear_transformation::steps::Steps::divide` meets its contract. Assumes nothing.
use Rattle.std.proofs.Common.{◌≡◌, ℤ, ◌∙◌, rules}
use Rattle.std.specs.List.{list_all}
use Rattle.std.proofs.lemmas.Iterator.{YieldsList-from_slice}
use Rattle.std.proofs.lemmas.Iterator.Search.{all_from_yields_List}
use Rattle.ring.specs.Divisors.{divides}
use Rattle.ring.specs.Residues.{residue_of}
use Rattle.linear_transformation.proofs.Listings.{all_multiples}
use Rattle.linear_transformation.proofs.steps.Steps.divide.Goals as goal

pub returns : goal.returns
returns c =
    let a = c.args.self.now in
    let gs = c.args.giants.now in
    let e : c.all.result ≡ list_all (λ (z : ℤ). divides a.step (residue_of z a.slots)) gs =
    all_from_yields_List (λ (z : ℤ). divides a.step (residue_of z a.slots)) _ _ _ c.all.ensures.ran (YieldsList-from_slice gs c.iter.ensures.rest) (λ x b q k. search rules) in
    e ∙ all_multiples a.slots a.step gs
