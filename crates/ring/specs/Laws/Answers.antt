-- An answer tells its refusal and its value, and these tell the answer.
-- Assumes nothing.
use Rattle.std.specs.Prelude.{◌≡◌, ◌≢◌, Option, None, Some, Result, Ok, Err}
use Rattle.std.proofs.Common.{refl}
use native.Mathlib.Nat.{suc-ne-zero}
use Rattle.ring.specs.declared.refusal.Refusal.{Refusal}
use Rattle.ring.specs.declared.refusal.Refusal.TheVariants.{Slots, NotAMap, OutOfRange, Period, Matrices, Shift, Length, Term, Baby, Giant, Key, Room, File}
use Rattle.ring.specs.Refusals.{number_of, number, on_accept}
use Rattle.ring.specs.Answers.{numbered, answered, judged, code_of}

module _ {A : Type 0} where
  -- the number of the refusal and the value that an answer was made of
  pub numbers_answered : (empty : A) (e : Option Refusal) (v : A) → numbered empty (answered e v) ≡ (number e, on_accept e v empty)
  numbers_answered empty None v = refl
  numbers_answered empty (Some e) v = refl

  -- in the arms of a match on an answer
  pub when_ok : (e : Option Refusal) (v n : A) → Ok n ≡ answered e v → (e ≡ None) × (n ≡ v)
  when_ok None v n h = (refl, cc)
  when_ok (Some e) v n h = cc

  pub when_refused : (e : Option Refusal) (v : A) (x : Refusal) → Err x ≡ answered e v → e ≡ Some x
  when_refused None v x h = cc
  when_refused (Some e) v x h = cc

  -- at a return
  pub answered_refused : (e : Option Refusal) (v : A) (x : Refusal) → e ≡ Some x → Err x ≡ answered e v
  answered_refused e v x h = rw h

  pub answered_accepted : (e : Option Refusal) (v : A) → e ≡ None → Ok v ≡ answered e v
  answered_accepted e v h = rw h

  -- the cases tell themselves apart
  pub no_refused {ℓ} : {X : Type ℓ} {x : Refusal} {v : A} → ◌≡◌ {A = Result A Refusal} (Err x) (Ok v) → X
  no_refused h = cc

  pub same_value : {n v : A} → ◌≡◌ {A = Result A Refusal} (Ok n) (Ok v) → n ≡ v
  same_value h = cc

-- a refusal says nothing of the value
pub refused_alike : {A B : Type 0} (e : Option Refusal) (v : A) (w : B) (x : Refusal) → Err x ≡ answered e v → Err x ≡ answered e w
refused_alike None v w x h = cc
refused_alike (Some e) v w x h = cc

-- ---- the numbers: 0 says that there is no refusal

pub number_some : (e : Refusal) → number_of e ≢ 0
number_some Slots = suc-ne-zero 0
number_some NotAMap = suc-ne-zero 1
number_some OutOfRange = suc-ne-zero 2
number_some Period = suc-ne-zero 3
number_some Matrices = suc-ne-zero 4
number_some Shift = suc-ne-zero 5
number_some Length = suc-ne-zero 6
number_some Term = suc-ne-zero 7
number_some Baby = suc-ne-zero 8
number_some Giant = suc-ne-zero 9
number_some Key = suc-ne-zero 10
number_some Room = suc-ne-zero 11
number_some File = suc-ne-zero 12

pub number_none : (e : Option Refusal) → number e ≡ 0 → e ≡ None
number_none None h = refl
number_none (Some e) h = absurd (number_some e h)

-- the number that a call without a value gives
pub code_judged : (e : Option Refusal) → code_of (judged e) ≡ number e
code_judged None = refl
code_judged (Some e) = refl
