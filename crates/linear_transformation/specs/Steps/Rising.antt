-- That numbers rise, and that they are below a bound, has one proof each, so that a struct may keep these facts.
-- Assumes nothing.
use Rattle.std.specs.Prelude.{ℕ, ◌<◌, List, [], ◌∷◌}
use mathlib.Core.HLevel.{×_prop, Unit-prop}
use native.Mathlib.Bridge.{le_prop}
use Rattle.ring.specs.Lists.{Each, Rising}

pub each_prop : {A : Type 0} (P : A → Type 0) → ((x : A) → IsProp (P x)) → (xs : List A) → IsProp (Each P xs)
each_prop P p [] = Unit-prop
each_prop P p (x ∷ xs) = ×_prop (p x) (each_prop P p xs)

pub rising_prop : (xs : List ℕ) → IsProp (Rising xs)
rising_prop [] = Unit-prop
rising_prop (x ∷ xs) = ×_prop (each_prop (λ y. x < y) (λ y. le_prop) xs) (rising_prop xs)

pub below_prop : (slots : ℕ) (xs : List ℕ) → IsProp (Each (λ k. k < slots) xs)
below_prop slots xs = each_prop (λ k. k < slots) (λ k. le_prop) xs
