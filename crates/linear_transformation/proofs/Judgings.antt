-- What the answer of a check tells: there is no refusal, or which it is.
-- Assumes nothing.
use Rattle.std.specs.Prelude.{◌≡◌, Option, None, Some, Result, Ok, Err}
use Rattle.std.specs.Result.{IsErrAnd}
use Rattle.std.proofs.Common.{sym, ◌∙◌}
use Rattle.ring.specs.declared.refusal.Refusal.{Refusal}
use Rattle.ring.specs.Answers.{judged}
use Rattle.ring.specs.Laws.Answers.{when_ok, when_refused}

module _ {e : Option Refusal} {r : Result Unit Refusal} (j : r ≡ judged e) where
  pub none_of : r ≡ Ok tt → e ≡ None
  none_of h = (when_ok e tt tt (sym h ∙ j)).0

  pub some_of : {x : Refusal} → r ≡ Err x → e ≡ Some x
  some_of {x} h = when_refused e tt x (sym h ∙ j)

-- what `?` passes on
pub passed_on : {A : Type 0} {x : Refusal} {r : Result A Refusal} → IsErrAnd r (λ y. y ≡ x) → r ≡ Err x
passed_on {r = Ok v} h = absurd h
passed_on {r = Err y} h = rw h
