-- A loop that counts the elements of a list that pass a test: what it keeps, and a turn.
-- Assumes nothing.
use Rattle.std.proofs.Common.{◌≡◌, ℕ, ◌+◌, ◌<◌, ◌≤◌, Bool, true, false, List, length, take, get_or, sym, refl, ap, ◌∙◌, take_all, length-take-le, arith}
use Rattle.std.specs.List.{count_by}
use Rattle.std.proofs.lemmas.List.Sums.{count_by-le-length, count_by_more_yes, count_by_more_no}

-- of the first t elements so many pass
pub record Tally {X : Type 0} (p : X → Bool) (xs : List X) (count t : ℕ) : Type 0 where
  pub inside : t ≤ length xs
  pub count_is : count ≡ count_by p (take t xs)

pub tally_none : {X : Type 0} (p : X → Bool) (xs : List X) → Tally p xs 0 0
tally_none p xs = record { inside = omega arith; count_is = refl }

module _ {X : Type 0} {p : X → Bool} {xs : List X} {count t : ℕ} (s : Tally p xs count t) where
  pub tally_low : count ≤ t
  tally_low = omega (arith, s.count_is, count_by-le-length p (take t xs), length-take-le t xs s.inside)

  pub tally_yes : (d : X) → t < length xs → p (get_or xs t d) ≡ true → Tally p xs (count + 1) (t + 1)
  tally_yes d l e = record { inside = omega arith; count_is = rw s.count_is (sym (count_by_more_yes p xs t d l e)) }

  pub tally_no : (d : X) → t < length xs → p (get_or xs t d) ≡ false → Tally p xs count (t + 1)
  tally_no d l e = record { inside = omega arith; count_is = s.count_is ∙ sym (count_by_more_no p xs t d l e) }

  pub tally_done : length xs ≤ t → count ≡ count_by p xs
  tally_done h = s.count_is ∙ ap (count_by p) (take_all t xs h)
