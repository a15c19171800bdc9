-- Laws of words put over a part of a buffer: they are read there, the others are kept, and parts that meet are one.
-- Assumes nothing.
use Rattle.std.specs.Prelude.{◌≡◌, ℕ, ◌+◌, ◌<◌, ◌≤◌, List, [], ◌∷◌, ◌++◌, length, get_or, take, drop, slice_index_or, slice_set}
use Rattle.std.proofs.Math.Path.{refl, sym, ap}
use Rattle.std.proofs.Common.{◌∙◌, append_assoc, arith, add-one, length-take, length-take-le, take_at, drop_at, drop-drop}
use Rattle.std.proofs.Math.ListN.{length-drop, length-append, get_or-append, take-append-drop}
use Rattle.std.proofs.Math.Seq.{get_or-take, get_or-drop, get_or-append-add}
use Rattle.std.proofs.lemmas.List.{set_split}
use Rattle.ring.specs.Vectors.{in_front, put_at}
use Rattle.ring.specs.Laws.Vectors.{length_in_front, in_front_new, in_front_old}

-- ---- one part

module _ {A : Type 0} (at : ℕ) (new old : List A) (fit : at + length new ≤ length old) where
  pub length_put_at : length (put_at at new old) ≡ length old
  unfolding put_at
  length_put_at =
      length-append (take at old) (in_front new (drop at old))
      ∙ rw (length_in_front new (drop at old) (rw length-drop (omega arith)))
      (simp (length-take, length-drop) (omega arith))

  front : length (take at old) ≡ at
  front = length-take-le at old (omega arith)

  pub put_at_before : (i : ℕ) (d : A) → i < at → slice_index_or (put_at at new old) i d ≡ slice_index_or old i d
  unfolding put_at
  put_at_before i d h = get_or-append (take at old) (in_front new (drop at old)) d i (omega (arith, front)) ∙ get_or-take at old i d h

  pub put_at_new : (i : ℕ) (d : A) → i < length new → slice_index_or (put_at at new old) (at + i) d ≡ slice_index_or new i d
  unfolding put_at
  put_at_new i d h =
      ap (λ (x : ℕ). get_or (take at old ++ in_front new (drop at old)) (x + i) d) (sym front)
      ∙ get_or-append-add (take at old) (in_front new (drop at old)) i d
      ∙ in_front_new new (drop at old) i d h

  pub put_at_behind : (i : ℕ) (d : A) → length new ≤ i → slice_index_or (put_at at new old) (at + i) d ≡ slice_index_or old (at + i) d
  unfolding put_at
  put_at_behind i d h =
      ap (λ (x : ℕ). get_or (take at old ++ in_front new (drop at old)) (x + i) d) (sym front)
      ∙ get_or-append-add (take at old) (in_front new (drop at old)) i d
      ∙ in_front_old new (drop at old) i d h
      ∙ get_or-drop at old i d

-- ---- two parts, one behind the other

pub put_both : {A : Type 0} (at to : ℕ) (xs ys old : List A) → at ≤ length old → to ≡ at + length xs → put_at to ys (put_at at xs old) ≡ put_at at (xs ++ ys) old
unfolding put_at in_front
put_both {A} at to xs ys old h e =
    let front = take at old in
    let rest = drop at old in
    let len : length (front ++ xs) ≡ to = length-append front xs ∙ rw (length-take-le at old h) (sym e) in
    rw (← (append_assoc front xs (drop (length xs) rest)))
    (ap (λ (t : List A). t ++ (ys ++ drop (length ys) (drop to ((front ++ xs) ++ drop (length xs) rest)))) (take_at (front ++ xs) (drop (length xs) rest) to len)
    ∙ ap (λ (t : List A). (front ++ xs) ++ (ys ++ drop (length ys) t)) (drop_at (front ++ xs) (drop (length xs) rest) to len)
    ∙ ap (λ (t : List A). (front ++ xs) ++ (ys ++ t)) (drop-drop (length ys) (length xs) rest)
    ∙ append_assoc front xs (ys ++ drop (length xs + length ys) rest)
    ∙ ap (λ (t : List A). front ++ t) (sym (append_assoc xs ys (drop (length xs + length ys) rest)))
    ∙ ap (λ (n : ℕ). front ++ ((xs ++ ys) ++ drop n rest)) (sym (length-append xs ys)))

-- no words, words from the front, and one word after the other
module _ {A : Type 0} where
  pub put_none : (at : ℕ) (old : List A) → put_at at [] old ≡ old
  unfolding put_at in_front
  put_none at old = take-append-drop at old

  pub put_front : (new old : List A) → put_at 0 new old ≡ in_front new old
  unfolding put_at
  put_front new old = refl

  pub put_one : (at : ℕ) (a : A) (old : List A) → at < length old → put_at at (a ∷ []) old ≡ slice_set old at a
  unfolding put_at in_front
  put_one at a old l = ap (λ (t : List A). take at old ++ (a ∷ t)) (drop-drop 1 at old ∙ ap (λ (n : ℕ). drop n old) (add-one at)) ∙ sym (set_split old at a l)

  pub put_cons : (at to : ℕ) (a : A) (rest old : List A) → to ≡ at + 1 → at < length old → put_at at (a ∷ rest) old ≡ put_at to rest (slice_set old at a)
  put_cons at to a rest old e l = sym (put_both at to (a ∷ []) rest old (omega arith) e) ∙ ap (put_at to rest) (put_one at a old l)
