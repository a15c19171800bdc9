-- Document 01, "Refusals, in checking order".
-- Assumes nothing.
use Rattle.std.specs.Prelude.{ℕ, suc, ◌≤◌, Bool, true, false, cond, not, ◌&&◌, ◌||◌, ltb, List, [], ◌∷◌, ◌==◌, nat_lt, Option, None, Some}
use Rattle.ring.specs.Lists.{some}
use Rattle.ring.specs.Divisors.{divides}
use Rattle.ring.specs.declared.refusal.Refusal.{Refusal}
use Rattle.ring.specs.declared.refusal.Refusal.TheVariants.{Slots, NotAMap, OutOfRange, Period, Matrices, Shift, Length, Term, Baby, Giant, Key, Room, File}

-- a refusal's number in the documents: document 01's, and 13 of document 02's A1
abbrev pub number_of : Refusal → ℕ
number_of Slots = 1
number_of NotAMap = 2
number_of OutOfRange = 3
number_of Period = 4
number_of Matrices = 5
number_of Shift = 6
number_of Length = 7
number_of Term = 8
number_of Baby = 9
number_of Giant = 10
number_of Key = 11
number_of Room = 12
number_of File = 13

-- the number of a call's refusal, 0 if there is none
abbrev pub number : Option Refusal → ℕ
number None = 0
number (Some e) = number_of e

abbrev pub pick : Bool → Refusal → Option Refusal → Option Refusal
pick true e next = Some e
pick false e next = next

-- the refusals of a call, each its condition and its name, in checking order: the first that applies, none if none does
abbrev pub first_refusal : List (Bool × Refusal) → Option Refusal
first_refusal [] = None
first_refusal (c ∷ cs) = pick c.0 c.1 (first_refusal cs)

-- the numbers in checking order: document 01's, and 13 of document 02's A1 after 1 and before 3
abbrev pub checking_order : List ℕ
checking_order = 1 ∷ 2 ∷ 13 ∷ 3 ∷ 4 ∷ 5 ∷ 6 ∷ 7 ∷ 8 ∷ 9 ∷ 10 ∷ 11 ∷ 12 ∷ []

abbrev pub place_in : List ℕ → ℕ → ℕ
place_in [] n = 0
place_in (x ∷ xs) n = cond (x == n) 0 (suc (place_in xs n))

-- when a number is checked
abbrev pub turn_of : ℕ → ℕ
turn_of n = place_in checking_order n

-- the refusals of a call stand in checking order
abbrev pub in_order : List (Bool × Refusal) → Bool
in_order [] = true
in_order (c ∷ cs) = not (some (λ e. ltb (turn_of (number_of e.1)) (turn_of (number_of c.1))) cs) && in_order cs

-- by the refusal: a where there is none, else b. Of a lent buffer, a is what an accepted call leaves and b what it held
abbrev pub on_accept : {A : Type 0} → Option Refusal → A → A → A
on_accept None a b = a
on_accept (Some e) a b = b

-- below 1 or above 65,536: the condition of 1 for slots and of 3 for a width, a step, a period or a length
abbrev pub outside : ℕ → Bool
outside n = nat_lt n 1 || nat_lt 65536 n

-- what is not outside: in 1..=65536
pub record Range (n : ℕ) : Type 0 where
  pub low : 1 ≤ n
  pub high : n ≤ 65536

-- 0 or no divisor of slots: the condition of 4 for a period or a length of values
abbrev pub no_period : ℕ → ℕ → Bool
no_period slots p = p == 0 || not (divides p slots)
