-- Laws of the pairs of a map: the room that they take, and a pair that is put. Only these open where a pair's words stand.
-- Assumes nothing.
use Rattle.std.specs.Prelude.{◌≡◌, ℕ, suc, ◌+◌, ◌*◌, ◌/◌, ◌<◌, ◌≤◌, Bool, true, false, cond, List, [], ◌∷◌, ◌++◌, length, take, drop, nat_le}
use Rattle.std.proofs.Math.Path.{refl}
use Rattle.std.proofs.Common.{sym, ap, ◌∙◌, add-one, le-leb, length-append, length-drop, take-append-drop, drop-cons, take_at, drop-drop}
use mathlib.Core.List.{append_assoc, append-nil}
use native.Mathlib.Omega.{arith}
use Rattle.std.proofs.Math.Decide.{dec_le}
use Rattle.std.proofs.lemmas.Bool.{lt-leb}
use Rattle.std.proofs.lemmas.List.Edits.{sets, sets-eq}
use Rattle.std.proofs.Math.Seq.{length-sets, drop-append-add, get_or-take}
use Rattle.ring.specs.Vectors.{in_front}
use Rattle.ring.specs.Laws.Vectors.{in_front_old}
use Rattle.diagonals.specs.Maps.{Diagonal, pair_room, offset_at, length_at, put_pair, pair_of, pair_words}

-- ---- room

pub room_none : pair_room 0 ≡ 0
unfolding pair_room
room_none = refl

pub room_add : (m n : ℕ) → pair_room (m + n) ≡ pair_room m + pair_room n
unfolding pair_room
room_add m n = omega arith

pub room_mono : (m n : ℕ) → m ≤ n → pair_room m ≤ pair_room n
unfolding pair_room
room_mono m n h = omega arith

-- as many pairs fit as there are halves
pub room_halves : (n len : ℕ) → nat_le n (len / 2) ≡ nat_le (pair_room n) len
unfolding pair_room
room_halves n len = by (dec_le n (len / 2))
  where
    by : Dec (n ≤ len / 2) → nat_le n (len / 2) ≡ nat_le (2 * n) len
    by (yes l) = le-leb n (len / 2) l ∙ sym (le-leb (2 * n) len (omega arith))
    by (no l) = lt-leb n (len / 2) (omega arith) ∙ sym (lt-leb (2 * n) len (omega arith))

pub length_pair_of : (d : Diagonal) → length (pair_of d) ≡ pair_room 1
unfolding pair_of pair_room
length_pair_of d = refl

pub length_pair_words : (ds : List Diagonal) → length (pair_words ds) ≡ pair_room (length ds)
unfolding pair_words pair_of pair_room
length_pair_words [] = refl
length_pair_words (d ∷ ds) = omega (arith, length_pair_words ds)

-- diagonals of one offset and length have one pair
pub pair_alike : (d e : Diagonal) → d.offset ≡ e.offset → length d.values ≡ length e.values → pair_of d ≡ pair_of e
unfolding pair_of
pair_alike d e p q = rw (p, q)

-- ---- the first pair, and those behind it

module _ (d : Diagonal) (pairs : List ℕ) where
  pub offset_first : offset_at (pair_of d ++ pairs) 0 ≡ d.offset
  unfolding offset_at pair_of
  offset_first = refl

  pub length_first : length_at (pair_of d ++ pairs) 0 ≡ length d.values
  unfolding length_at pair_of
  length_first = refl

  pub offset_behind : (i : ℕ) → offset_at (pair_of d ++ pairs) (suc i) ≡ offset_at pairs i
  unfolding offset_at pair_of
  offset_behind i = let e : 2 * suc i ≡ suc (suc (2 * i)) = omega arith in rw e

  pub length_behind : (i : ℕ) → length_at (pair_of d ++ pairs) (suc i) ≡ length_at pairs i
  unfolding length_at pair_of
  length_behind i = let e : 2 * suc i + 1 ≡ suc (suc (2 * i + 1)) = omega arith in rw e

-- ---- a pair that is put

module _ (pairs : List ℕ) (i offset len : ℕ) where
  pub length_put : length (put_pair pairs i offset len) ≡ length pairs
  unfolding put_pair
  length_put = by (nat_le (pair_room (suc i)) (length pairs))
    where
      by : (b : Bool) → length (cond b (sets pairs (2 * i) (offset ∷ len ∷ [])) pairs) ≡ length pairs
      by true = length-sets pairs (2 * i) (offset ∷ len ∷ [])
      by false = refl

  pub put_is : pair_room (i + 1) ≤ length pairs → put_pair pairs i offset len ≡ take (pair_room i) pairs ++ (offset ∷ len ∷ drop (pair_room (i + 1)) pairs)
  unfolding put_pair pair_room
  put_is h =
      let e : 2 * (i + 1) ≡ 2 * i + 2 = omega arith in
      rw (le-leb (2 * suc i) (length pairs) (omega arith), e) (sets-eq (offset ∷ len ∷ []) pairs (2 * i) (omega arith) ∙ append_assoc (take (2 * i) pairs) (offset ∷ len ∷ []) (drop (2 * i + 2) pairs))

-- behind the pairs that stand in front
pub put_front : (front old : List ℕ) (i offset len : ℕ) → length front ≡ pair_room i → pair_room (i + 1) ≤ length old → put_pair (in_front front old) i offset len ≡ in_front (front ++ (offset ∷ len ∷ [])) old
unfolding in_front pair_room
put_front front old i offset len e h =
    let size : length (front ++ drop (length front) old) ≡ length old = length-append front (drop (length front) old) ∙ omega (arith, length-drop (length front) old) in
    let m : length front + 2 ≡ 2 * (i + 1) = omega arith in
    put_is (front ++ drop (length front) old) i offset len (omega arith)
    ∙ rw (take_at front (drop (length front) old) (2 * i) e, ← m, drop-append-add, drop-drop, length-append) (sym (append_assoc front (offset ∷ len ∷ []) (drop (length front + 2) old)))

pub put_more : (ds : List Diagonal) (d : Diagonal) (old : List ℕ) (i : ℕ) → i ≡ length ds → pair_room (i + 1) ≤ length old → put_pair (in_front (pair_words ds) old) i d.offset (length d.values) ≡ in_front (pair_words ds ++ pair_of d) old
unfolding pair_of
put_more ds d old i e h = put_front (pair_words ds) old i d.offset (length d.values) (length_pair_words ds ∙ ap pair_room (sym e)) h

-- the only pair of a map
pub put_only : (d : Diagonal) (old : List ℕ) → pair_room 1 ≤ length old → put_pair old 0 d.offset (length d.values) ≡ in_front (pair_words (d ∷ [])) old
unfolding pair_words in_front
put_only d old h = put_more [] d old 0 refl h ∙ ap (λ (ws : List ℕ). ws ++ drop (length ws) old) (sym (append-nil (pair_of d)))

-- ---- a pair that is read

pub pair_at_lem : (pairs : List ℕ) (i : ℕ) → pair_room (i + 1) ≤ length pairs → take (pair_room 1) (drop (pair_room i) pairs) ≡ offset_at pairs i ∷ length_at pairs i ∷ []
unfolding pair_room offset_at length_at
pair_at_lem pairs i h = rw (add-one (2 * i), drop-cons pairs (2 * i) 0 (omega arith), drop-cons pairs (suc (2 * i)) 0 (omega arith))

-- behind the pairs that stand in front
pub offset_old : (front old : List ℕ) (i : ℕ) → length front ≡ pair_room i → offset_at (in_front front old) i ≡ offset_at old i
unfolding offset_at pair_room
offset_old front old i e = in_front_old front old (2 * i) 0 (omega arith)

-- a pair that is put as it is
pub put_same : (pairs : List ℕ) (i : ℕ) → pair_room (i + 1) ≤ length pairs → put_pair pairs i (offset_at pairs i) (length_at pairs i) ≡ pairs
put_same pairs i h =
    put_is pairs i (offset_at pairs i) (length_at pairs i) h
    ∙ ap (λ (ws : List ℕ). take (pair_room i) pairs ++ (ws ++ drop (pair_room (i + 1)) pairs)) (sym (pair_at_lem pairs i h))
    ∙ ap (λ (ws : List ℕ). take (pair_room i) pairs ++ (take (pair_room 1) (drop (pair_room i) pairs) ++ ws)) (ap (λ (n : ℕ). drop n pairs) (room_add i 1) ∙ sym (drop-drop (pair_room 1) (pair_room i) pairs))
    ∙ ap (λ (ws : List ℕ). take (pair_room i) pairs ++ ws) (take-append-drop (pair_room 1) (drop (pair_room i) pairs))
    ∙ take-append-drop (pair_room i) pairs

-- the pairs before a place are those of the front
module _ (pairs : List ℕ) (n i : ℕ) (l : i < n) where
  pub offset_take : offset_at (take (pair_room n) pairs) i ≡ offset_at pairs i
  unfolding offset_at pair_room
  offset_take = get_or-take (2 * n) pairs (2 * i) 0 (omega arith)

  pub length_take_pairs : length_at (take (pair_room n) pairs) i ≡ length_at pairs i
  unfolding length_at pair_room
  length_take_pairs = get_or-take (2 * n) pairs (2 * i + 1) 0 (omega arith)
