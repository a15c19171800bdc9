-- Laws of refusals and of what a buffer holds after one.
-- Assumes nothing.
use Rattle.std.specs.Prelude.{◌≡◌, ◌≢◌, ℕ, ◌≤◌, Bool, true, false, not, ◌||◌, List, [], ◌∷◌, ◌++◌, nat_lt, Option, None, Some, refl}
use Rattle.std.proofs.Common.{sym, ◌∙◌, true≢false, le_refl, ltb-false, le-ltb}
use Rattle.std.proofs.lemmas.Bool.{not-true}
use Rattle.ring.specs.Lists.{some, Each}
use Rattle.ring.specs.declared.refusal.Refusal.{Refusal}
use Rattle.ring.specs.Refusals.{number_of, number, pick, first_refusal, turn_of, in_order, on_accept, outside}
use Rattle.ring.specs.Laws.Searches.{first, second}

-- a refused call leaves what was held
pub on_accept_refused : {A : Type 0} (e : Option Refusal) (new old : A) → (e ≢ None) → on_accept e new old ≡ old
on_accept_refused None new old h = absurd (h refl)
on_accept_refused (Some e) new old h = refl

-- and an accepted one the new
pub on_accept_accepted : {A : Type 0} (e : Option Refusal) (new old : A) → e ≡ None → on_accept e new old ≡ new
on_accept_accepted e new old h = rw h

-- ---- tests

pub either : (a b : Bool) → (a || b) ≡ false → (a ≡ false) × (b ≡ false)
either true b h = absurd (true≢false h)
either false b h = (refl, h)

-- ---- refusals, and further ones behind them

pick_refused : (b : Bool) (e : Refusal) (x y : Option Refusal) → ((x ≢ None) → y ≡ x) → (pick b e x ≢ None) → pick b e y ≡ pick b e x
pick_refused true e x y f h = refl
pick_refused false e x y f h = f h

pick_later : (b : Bool) (e : Refusal) (x y z : Option Refusal) → (x ≡ None → y ≡ z) → pick b e x ≡ None → pick b e y ≡ z
pick_later true e x y z f h = cc
pick_later false e x y z f h = f h

-- one of the first applies: the further ones do not count
pub first_refused : (cs ds : List (Bool × Refusal)) → (first_refusal cs ≢ None) → first_refusal (cs ++ ds) ≡ first_refusal cs
first_refused [] ds h = absurd (h refl)
first_refused (c ∷ cs) ds h = pick_refused c.0 c.1 (first_refusal cs) (first_refusal (cs ++ ds)) (first_refused cs ds) h

-- none of the first applies
pub first_later : (cs ds : List (Bool × Refusal)) → first_refusal cs ≡ None → first_refusal (cs ++ ds) ≡ first_refusal ds
first_later [] ds h = refl
first_later (c ∷ cs) ds h = pick_later c.0 c.1 (first_refusal cs) (first_refusal (cs ++ ds)) (first_refusal ds) (first_later cs ds) h

-- one of the first applies: the further ones do not count
pub still_refused : (cs ds : List (Bool × Refusal)) {x : Refusal} → first_refusal cs ≡ Some x → first_refusal (cs ++ ds) ≡ Some x
still_refused cs ds h = first_refused cs ds (λ q. cc (h, q)) ∙ h

pick_same : (b : Bool) (e : Refusal) (x y : Option Refusal) → x ≡ y → pick b e x ≡ pick b e y
pick_same b e x y h = rw h

-- none of the further ones applies
pub first_alone : (cs ds : List (Bool × Refusal)) → first_refusal ds ≡ None → first_refusal (cs ++ ds) ≡ first_refusal cs
first_alone [] ds h = h
first_alone (c ∷ cs) ds h = pick_same c.0 c.1 (first_refusal (cs ++ ds)) (first_refusal cs) (first_alone cs ds h)

pick_both : (b : Bool) (e : Refusal) (x y z : Option Refusal) → (y ≡ None → (x ≡ None) × (z ≡ None)) → pick b e y ≡ None → (pick b e x ≡ None) × (z ≡ None)
pick_both true e x y z f h = cc
pick_both false e x y z f h = f h

-- none of all applies: none of the first, none of the further ones
pub none_of_both : (cs ds : List (Bool × Refusal)) → first_refusal (cs ++ ds) ≡ None → (first_refusal cs ≡ None) × (first_refusal ds ≡ None)
none_of_both [] ds h = (refl, h)
none_of_both (c ∷ cs) ds h = pick_both c.0 c.1 (first_refusal cs) (first_refusal (cs ++ ds)) (first_refusal ds) (none_of_both cs ds) h

-- the first does not apply, nor a later one
pub pick_none : (b : Bool) (e : Refusal) (x : Option Refusal) → pick b e x ≡ None → (b ≡ false) × (x ≡ None)
pick_none true e x h = cc
pick_none false e x h = (refl, h)

-- an accepted call: no condition holds
pub none_holds : (cs : List (Bool × Refusal)) → first_refusal cs ≡ None → Each (λ c. c.0 ≡ false) cs
none_holds [] h = tt
none_holds (c ∷ cs) h =
    let q = pick_none c.0 c.1 (first_refusal cs) h in
    (q.0, none_holds cs q.1)

-- ---- the checking order

-- when a later refusal of the list is checked before n
abbrev earlier : ℕ → Bool × Refusal → Bool
earlier n c = nat_lt (turn_of (number_of c.1)) (turn_of n)

none_earlier : (n : ℕ) (cs : List (Bool × Refusal)) → some (earlier n) cs ≡ false → Each (λ c. c.0 ≡ true → turn_of n ≤ turn_of (number_of c.1)) cs
none_earlier n [] h = tt
none_earlier n (c ∷ cs) h =
    let q = either (earlier n c) (some (earlier n) cs) h in
    (λ _. ltb-false (turn_of (number_of c.1)) (turn_of n) q.0, none_earlier n cs q.1)

-- of a call whose refusals stand in checking order, the number that is given is checked no later than any that applies
pub checked_first : (cs : List (Bool × Refusal)) → in_order cs ≡ true → Each (λ c. c.0 ≡ true → turn_of (number (first_refusal cs)) ≤ turn_of (number_of c.1)) cs
checked_first [] h = tt
checked_first ((true, e) ∷ cs) h = (λ _. le_refl _, none_earlier (number_of e) cs (not-true _ (first (not (some (earlier (number_of e)) cs)) (in_order cs) h)))
checked_first ((false, e) ∷ cs) h = (λ q. absurd (true≢false (sym q)), checked_first cs (second (not (some (earlier (number_of e)) cs)) (in_order cs) h))

-- ---- bounds

-- what is not outside is in 1..=65536
pub inside : (n : ℕ) → outside n ≡ false → (1 ≤ n) × (n ≤ 65536)
inside n h =
    let e = either (nat_lt n 1) (nat_lt 65536 n) h in
    (ltb-false n 1 e.0, ltb-false 65536 n e.1)

pub not_outside : (n : ℕ) → 1 ≤ n → n ≤ 65536 → outside n ≡ false
not_outside n l h = rw (le-ltb n 1 l, le-ltb 65536 n h)
