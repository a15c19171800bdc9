-- An answer that is a refusal or a value: for each case document 01's number and value.
-- Assumes nothing.
use Rattle.std.specs.Prelude.{ℕ, Option, None, Some, Result, Ok, Err}
use Rattle.ring.specs.declared.refusal.Refusal.{Refusal}
use Rattle.ring.specs.Refusals.{number_of}

-- the answer of a call with a refusal, if one applies, and a value: an accepted call is no `Err`, a refused one no `Ok`
abbrev pub answered : {A : Type 0} → Option Refusal → A → Result A Refusal
answered None v = Ok v
answered (Some e) v = Err e

-- the answer of a call that gives no value
abbrev pub judged : Option Refusal → Result Unit Refusal
judged e = answered e tt

-- the refusal's number (0: none) and the value, which is `empty` where refused
abbrev pub numbered : {A : Type 0} → A → Result A Refusal → ℕ × A
numbered empty (Ok v) = (0, v)
numbered empty (Err e) = (number_of e, empty)

-- of a value that is a number: 0 where refused
abbrev pub numbers : Result ℕ Refusal → ℕ × ℕ
numbers r = numbered 0 r

-- of a call that gives no value: the refusal's number alone
abbrev pub code_of : Result Unit Refusal → ℕ
code_of (Ok v) = 0
code_of (Err e) = number_of e
