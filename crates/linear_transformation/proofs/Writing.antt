-- The walks that write a tree's words and keys from the heap: what each loop keeps, a turn, and the end.
-- Assumes nothing.
use Prim.Native.Nat.{ℕ, zero, suc, ◌+◌, ◌*◌, ◌-◌, ◌≤◌, ◌<◌}
use mathlib.Core.Path.{◌≡◌, refl, sym, ap, ◌∙◌}
use mathlib.Core.Bool.{Bool, not}
use mathlib.Core.List.{List, [], ◌∷◌, ◌++◌, append-nil, append_assoc}
use native.Mathlib.Nat.{suc-ne-zero}
use native.Mathlib.Decide.{ℕ_discrete}
use native.Mathlib.Numerals.{add-one}
use native.Mathlib.Omega.{arith}
use borrow.Author.Tests.{eq-eqb, ne_eqb}
use lib.Dec.{eqb}
use lib.ListN.{length, set, take, drop, length-set, length-append, take-append-drop}
use lib.Seq.{length-take-le, take_at}
use lib.IntN.{pos, ◌*ℤ◌}
use Rattle.ring.specs.Lists.{join}
use Rattle.ring.specs.Vectors.{tabulate, in_front}
use Rattle.ring.specs.Searches.{below}
use Rattle.ring.specs.Laws.Below.{below_no, length_below_yes}
use Rattle.ring.specs.Laws.Lists.{join_append, length_join}
use Rattle.ring.specs.Laws.Vectors.{tabulate_more, tabulate_add, in_front_more, length_tabulate}
use Rattle.linear_transformation.specs.declared.digits.Rot.{Rot}
use Rattle.linear_transformation.specs.declared.digits.Digit.{Digit}
use Rattle.linear_transformation.specs.Digits.{rot_of, level_digit, level_rotation}
use Rattle.linear_transformation.specs.declared.records.PairRecord.{PairRecord}
use Rattle.linear_transformation.specs.Trees.{level_words, keyed}
use Rattle.linear_transformation.specs.Steps.Trees.{level_pairs, heap_level, heap_levels, keys_of}

-- ---- lists that a table makes, one after the other

module _ {A B : Type 0} (F : A → List B) (f : ℕ → A) where
  pub joined_more : (i : ℕ) → join F (tabulate (i + 1) f) ≡ join F (tabulate i f) ++ F (f i)
  joined_more i = rw (tabulate_more i f) (join_append F (tabulate i f) (f i ∷ []) ∙ ap (λ (t : List B). join F (tabulate i f) ++ t) (append-nil (F (f i))))

  pub joined_le : (i n : ℕ) → i ≤ n → length (join F (tabulate i f)) ≤ length (join F (tabulate n f))
  joined_le i n h =
      let e : n ≡ i + (n - i) = omega arith in
      let q : length (join F (tabulate n f)) ≡ length (join F (tabulate i f)) + length (join F (tabulate (n - i) (λ k. f (i + k)))) =
      ap (λ (x : ℕ). length (join F (tabulate x f))) e ∙ ap (λ (t : List A). length (join F t)) (tabulate_add i (n - i) f) ∙ ap length (join_append F (tabulate i f) (tabulate (n - i) (λ k. f (i + k)))) ∙ length-append (join F (tabulate i f)) (join F (tabulate (n - i) (λ k. f (i + k)))) in
      omega (arith, q)

-- ---- words behind a place

-- one word more
pub behind_more : (at : ℕ) (ws old : List ℕ) (to v : ℕ) → to ≡ at + length ws → to < length old → set (in_front (take at old ++ ws) old) to v ≡ in_front (take at old ++ (ws ++ (v ∷ []))) old
behind_more at ws old to v e l =
    let a : length (take at old ++ ws) ≡ to = length-append (take at old) ws ∙ rw (length-take-le at old (omega arith)) (sym e) in
    in_front_more (take at old ++ ws) old to v a l ∙ ap (λ (t : List ℕ). in_front t old) (append_assoc (take at old) ws (v ∷ []))

-- nothing yet
pub behind_none : (at : ℕ) (old : List ℕ) → at ≤ length old → old ≡ in_front (take at old ++ []) old
unfolding in_front
behind_none at old l = sym (rw (append-nil (take at old), length-take-le at old l) (take-append-drop at old))

-- what is in front
front_is : (ws old : List ℕ) (at : ℕ) → length ws ≡ at → take at (in_front ws old) ≡ ws
unfolding in_front
front_is ws old at e = take_at ws (drop (length ws) old) at e

-- ---- the levels' words

words_more : (slots step b : ℕ) (heap : List Bool) (i : ℕ) → level_words (heap_levels slots step b heap (i + 1)) ≡ level_words (heap_levels slots step b heap i) ++ ((level_rotation slots step b i).0 ∷ length (level_pairs heap b i) ∷ [])
unfolding heap_levels
words_more slots step b heap i = joined_more (λ l. l.rotation.0 ∷ length l.pairs ∷ []) (heap_level slots step b heap) i

pub words_length : (slots step b : ℕ) (heap : List Bool) (i : ℕ) → length (level_words (heap_levels slots step b heap i)) ≡ i * 2
unfolding heap_levels
words_length slots step b heap i = length_join (λ l. l.rotation.0 ∷ length l.pairs ∷ []) 2 (λ l. refl) (tabulate i (heap_level slots step b heap)) ∙ ap (λ (n : ℕ). n * 2) (length_tabulate i (heap_level slots step b heap))

pub record Levelling (slots step b : ℕ) (heap : List Bool) (old new : List ℕ) (i : ℕ) : Type 0 where
  pub room : i ≤ b
  pub so_far : new ≡ in_front (level_words (heap_levels slots step b heap i)) old
  pub len : length new ≡ length old

pub levelling_none : (slots step b : ℕ) (heap : List Bool) (old : List ℕ) → Levelling slots step b heap old old 0
unfolding heap_levels in_front
levelling_none slots step b heap old = record { room = omega arith; so_far = refl; len = refl }

module _ {slots step b : ℕ} {heap : List Bool} {old new : List ℕ} {i : ℕ} (s : Levelling slots step b heap old new i) where
  pub levelling_more : {rot : Rot} {n : ℕ} → i < b → 2 * b ≤ length old → rot ≡ level_rotation slots step b i → n ≡ length (level_pairs heap b i)
      → Levelling slots step b heap old (set (set new (2 * i) rot.0) (2 * i + 1) n) (i + 1)
  levelling_more {rot} {n} l r e p =
      let ws = level_words (heap_levels slots step b heap i) in
      let a : length ws ≡ 2 * i = omega (arith, words_length slots step b heap i) in
      record {
        room = omega arith;
        so_far =
            rw (s.so_far, in_front_more ws old (2 * i) rot.0 a (omega arith), in_front_more (ws ++ (rot.0 ∷ [])) old (2 * i + 1) n (rw length-append (omega arith)) (omega arith), append_assoc, e, p)
            (ap (λ (t : List ℕ). in_front t old) (sym (words_more slots step b heap i)));
        len = simp length-set s.len;
      }

-- ---- keys

abbrev keys_up_to : ℕ → ℕ → ℕ → List Bool → ℕ → List ℕ
keys_up_to slots step b heap n = keys_of (heap_levels slots step b heap n)

module _ (slots step b : ℕ) (heap : List Bool) where
  keys_more : (i : ℕ) → keys_up_to slots step b heap (i + 1) ≡ keys_up_to slots step b heap i ++ keyed (level_rotation slots step b i) (level_pairs heap b i)
  unfolding heap_levels
  keys_more i = joined_more (λ l. keyed l.rotation l.pairs) (heap_level slots step b heap) i

  keyed_no : (rot : Rot) (ps : List PairRecord) → length ps ≡ 0 → keyed rot ps ≡ []
  keyed_no rot [] e = refl
  keyed_no rot (p ∷ ps) e = absurd (suc-ne-zero _ e)

  keyed_yes : (rot : Rot) (ps : List PairRecord) → (length ps ≡ 0 → ⊥) → keyed rot ps ≡ rot.0 ∷ []
  keyed_yes rot [] n = absurd (n refl)
  keyed_yes rot (p ∷ ps) n = refl

  pub keys_yes : (i : ℕ) → (length (level_pairs heap b i) ≡ 0 → ⊥) → keys_up_to slots step b heap (i + 1) ≡ keys_up_to slots step b heap i ++ ((level_rotation slots step b i).0 ∷ [])
  keys_yes i n = keys_more i ∙ ap (λ (t : List ℕ). keys_up_to slots step b heap i ++ t) (keyed_yes (level_rotation slots step b i) (level_pairs heap b i) n)

  pub keys_no : (i : ℕ) → length (level_pairs heap b i) ≡ 0 → keys_up_to slots step b heap (i + 1) ≡ keys_up_to slots step b heap i
  keys_no i e = keys_more i ∙ ap (λ (t : List ℕ). keys_up_to slots step b heap i ++ t) (keyed_no (level_rotation slots step b i) (level_pairs heap b i) e) ∙ append-nil (keys_up_to slots step b heap i)

  keys_le : (i n : ℕ) → i ≤ n → length (keys_up_to slots step b heap i) ≤ length (keys_up_to slots step b heap n)
  unfolding heap_levels
  keys_le i n h = joined_le (λ l. keyed l.rotation l.pairs) (heap_level slots step b heap) i n h

-- as many as there are levels with pairs
pub keys_counted : (slots step b : ℕ) (heap : List Bool) (n : ℕ) → length (below (λ i. not (eqb (length (level_pairs heap b i)) 0)) n) ≡ length (keys_of (heap_levels slots step b heap n))
unfolding below heap_levels
keys_counted slots step b heap zero = refl
keys_counted slots step b heap (suc n) =
    ap (λ k. length (below (λ i. not (eqb (length (level_pairs heap b i)) 0)) k)) (sym (add-one n))
    ∙ by (ℕ_discrete (length (level_pairs heap b n)) 0) (keys_counted slots step b heap n)
    ∙ ap (λ k. length (keys_up_to slots step b heap k)) (add-one n)
  where
    q : ℕ → Bool
    q i = not (eqb (length (level_pairs heap b i)) 0)

    by : Dec (length (level_pairs heap b n) ≡ 0) → length (below q n) ≡ length (keys_up_to slots step b heap n) → length (below q (n + 1)) ≡ length (keys_up_to slots step b heap (n + 1))
    by (yes e) h = ap length (below_no q n (rw (eq-eqb _ 0 e))) ∙ h ∙ sym (ap length (keys_no slots step b heap n e))
    by (no e) h = length_below_yes q n (rw (ne_eqb _ 0 e)) ∙ ap (λ x. x + 1) h ∙ sym (rw (keys_yes slots step b heap n e) (length-append _ _))

pub record KeyWriting (slots step b : ℕ) (heap : List Bool) (at : ℕ) (old new : List ℕ) (to i : ℕ) : Type 0 where
  pub room : i ≤ b
  pub so_far : new ≡ in_front (take at old ++ keys_up_to slots step b heap i) old
  pub len : length new ≡ length old
  pub to_is : to ≡ at + length (keys_up_to slots step b heap i)

pub writing_none : (slots step b : ℕ) (heap : List Bool) (at : ℕ) (old : List ℕ) → at + length (keys_of (heap_levels slots step b heap b)) ≤ length old → KeyWriting slots step b heap at old old at 0
unfolding heap_levels
writing_none slots step b heap at old h = record { room = omega arith; so_far = behind_none at old (omega arith); len = refl; to_is = omega arith }

module _ {slots step b : ℕ} {heap : List Bool} {at : ℕ} {old new : List ℕ} {to i : ℕ} (s : KeyWriting slots step b heap at old new to i) (l : i < b) {r : ℕ} (q : r ≡ length (level_pairs heap b i)) where
  one_key : (r ≡ 0 → ⊥) → keys_up_to slots step b heap (i + 1) ≡ keys_up_to slots step b heap i ++ ((level_rotation slots step b i).0 ∷ [])
  one_key e = keys_yes slots step b heap i (λ z. e (q ∙ z))

  pub writing_room : at + length (keys_of (heap_levels slots step b heap b)) ≤ length old → (r ≡ 0 → ⊥) → to < length old
  writing_room h e = omega (arith, s.to_is, keys_le slots step b heap (i + 1) b (omega arith), ap length (one_key e) ∙ length-append (keys_up_to slots step b heap i) ((level_rotation slots step b i).0 ∷ []))

  pub writing_yes : {rot : Rot} → at + length (keys_of (heap_levels slots step b heap b)) ≤ length old → (r ≡ 0 → ⊥) → rot ≡ level_rotation slots step b i → KeyWriting slots step b heap at old (set new to rot.0) (to + 1) (i + 1)
  writing_yes {rot} h e p =
      let ks = keys_up_to slots step b heap i in
      let w : keys_up_to slots step b heap (i + 1) ≡ ks ++ (rot.0 ∷ []) = rw p (one_key e) in
      record {
        room = omega arith;
        so_far = rw (s.so_far, behind_more at ks old to rot.0 s.to_is (writing_room h e)) (ap (λ (t : List ℕ). in_front (take at old ++ t) old) (sym w));
        len = simp length-set s.len;
        to_is = rw (w, length-append) (omega (arith, s.to_is));
      }

  pub writing_no : r ≡ 0 → KeyWriting slots step b heap at old new to (i + 1)
  writing_no e =
      let w = keys_no slots step b heap i (sym (q) ∙ e) in
      record { room = omega arith; so_far = rw w s.so_far; len = s.len; to_is = rw w s.to_is }

-- ---- a level's rotation

pub rotation_from : (slots step b i : ℕ) {d : Digit} {r : Rot} → d ≡ level_digit b i → r ≡ rot_of slots (d.0 *ℤ pos step) → r ≡ level_rotation slots step b i
unfolding level_rotation
rotation_from slots step b i e q = q ∙ ap (λ (x : Digit). rot_of slots (x.0 *ℤ pos step)) e
