-- `diagonals::map::Map::accept` meets its contract. Assumes nothing.
use Rattle.std.proofs.Common.{◌≡◌, ℕ, Bool, true, false, None, Some, refl, sym, ◌∙◌}
use Rattle.std.specs.Bool.{then_some}
use Rattle.diagonals.proofs.map.Map.accept.Goals as goal

-- what the test of a map tells
passed : (b : Bool) (n : ℕ) {total : ℕ} → Some total ≡ then_some b n → (b ≡ true) × (total ≡ n)
passed true n e = (refl, cc)
passed false n e = cc

failed : (b : Bool) (n : ℕ) → None ≡ then_some b n → b ≡ false
failed true n e = cc
failed false n e = refl

pub returns-in_default : goal.returns-in_default
returns-in_default c = rw (sym c.is_outside.ensures.answer ∙ c.if-is_outside.false, failed _ _ c.in_default.ensures) refl

pub invariant_of-result : goal.invariant_of-result
invariant_of-result c =
    let p = passed _ _ c.in-Some.ensures in
    record { in_range = sym c.is_outside.ensures.answer ∙ c.if-is_outside.false; formed = p.0; total_is = p.1 }
