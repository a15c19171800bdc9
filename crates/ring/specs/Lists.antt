-- Sums over a list, and statements about each of its elements.
-- Assumes nothing.
use Rattle.std.specs.Prelude.{ℕ, ◌<◌, Bool, false, ◌||◌, List, [], ◌∷◌, ◌++◌, nat_eq}
use Rattle.ring.specs.Slots.{addm}

-- f over the elements of a list, summed modulo m
abbrev pub sum_by : {A : Type 0} → ℕ → (A → ℕ) → List A → ℕ
sum_by m f [] = 0
sum_by m f (x ∷ xs) = addm m (f x) (sum_by m f xs)

-- f over the elements of a list, one list after the other
abbrev pub join : {A B : Type 0} → (A → List B) → List A → List B
join f [] = []
join f (x ∷ xs) = f x ++ join f xs

-- p of some element of the list
abbrev pub some : {A : Type 0} → (A → Bool) → List A → Bool
some p [] = false
some p (x ∷ xs) = p x || some p xs

-- k is one of the numbers
abbrev pub among : ℕ → List ℕ → Bool
among k xs = some (λ x. nat_eq x k) xs

-- each element of the list has P
abbrev pub Each : {A : Type 0} → (A → Type 0) → List A → Type 0
Each P [] = Unit {0}
Each P (x ∷ xs) = P x × Each P xs

-- the numbers rise strictly: each is below all that follow
abbrev pub Rising : List ℕ → Type 0
Rising [] = Unit {0}
Rising (x ∷ xs) = Each (λ y. x < y) xs × Rising xs
