-- The walks over a list of giants: refusals, digits, b and leaves.
-- Assumes nothing.
use Prim.Native.Nat.{ℕ, zero, suc, ◌+◌, ◌*◌, ◌-◌, ◌^◌, ◌≤◌, ◌<◌, max}
use mathlib.Core.Path.{◌≡◌, refl, sym, ap, ◌∙◌}
use mathlib.Core.Bool.{Bool, true, false, not, ◌||◌, ◌&&◌, true≢false}
use mathlib.Core.Logic.{⊎_elim}
use mathlib.Core.List.{List, [], ◌∷◌, ◌++◌, map, map-append}
use native.Mathlib.Nat.{not-suc-le-zero, le-max_left, le-max_right, max_comm}
use native.Mathlib.Decide.{ℕ_discrete}
use native.Mathlib.Omega.{arith}
use Rattle.std.specs.Int.Count.{count_leading_zeros}
use Rattle.std.proofs.lemmas.Nat.{leading_length}
use borrow.Author.Tests.{eq-eqb, ne_eqb, eqb-true}
use lib.Dec.{eqb}
use lib.Pow.{pow_pos, pow_mono}
use lib.IntN.{ℤ, pos}
use lib.Signed.{mag}
use lib.ListN.{length, get_or, set, take, length-set}
use lib.Seq.{get_or-set_same, get_or-set_other}
use mir.Syntax.{w64}
use mir.Val.{of_z, to_z}
use mir.ValLaws.{to_z-of_z}
use Rattle.ring.specs.Lists.{Each, some, among}
use Rattle.ring.specs.Marks.{marks}
use Rattle.ring.specs.Vectors.{tabulate, in_front, Filling}
use Rattle.ring.specs.Laws.Vectors.{filling_none, filling_more, filled_front, map_tabulate, tabulate_get_or}
use Rattle.ring.specs.Residues.{residue_of}
use Rattle.std.specs.List.{list_all}
use Rattle.ring.specs.Divisors.{divides}
use Rattle.ring.specs.Laws.Searches.{lt_or_ge}
use Rattle.ring.specs.Laws.Residues.{residue_lt}
use Rattle.std.specs.Ordering.{ord_max, nat_cmp}
use Rattle.linear_transformation.specs.declared.digits.Digit.{Digit}
use Rattle.linear_transformation.specs.Digits.{rot_of, digit, largest, bits_of, leaf, Giant}
use Rattle.linear_transformation.specs.Steps.Numbers.{Stepped}
use Rattle.linear_transformation.specs.Steps.Trees.{Listed, digit_at, DigitIs, LargestIs, BitsAre, LeafIs, leaves_at, Blank, LeavesMarked}
use Rattle.linear_transformation.specs.Laws.Bits.{digit_small, bits_positive, bits_least, bits_small, small_all}
use Rattle.linear_transformation.proofs.Signs.{max_is}

-- a giant that is read and handed on
pub read_is : (z : ℤ) → mag z < 2 ^ 63 → to_z w64 (of_z w64 z) ≡ z
read_is z h = to_z-of_z w64 z (record { sfits = h })

max_lt : {a b n : ℕ} → a < n → b < n → max a b < n
max_lt h k = omega arith

max_assoc : (a b c : ℕ) → max (max a b) c ≡ max a (max b c)
max_assoc a b c = omega arith

-- ---- refusals

abbrev bad : ℕ → ℕ → ℤ → Bool
bad slots step z = not (divides step (residue_of z slots))

-- every giant is a multiple of the step: none is not
neither : (a b : Bool) → (not a || b) ≡ false → (a ≡ true) × (b ≡ false)
neither true b e = (refl, e)
neither false b e = absurd (true≢false e)

pub each_listed : (slots step : ℕ) (gs : List ℤ) → some (bad slots step) gs ≡ false → Each (Listed slots step) gs
each_listed slots step [] e = tt
each_listed slots step (g ∷ gs) e =
    let p = neither (divides step (residue_of g slots)) (some (bad slots step) gs) e in
    (eqb-true _ _ p.0, each_listed slots step gs p.1)

pub all_multiples : (slots step : ℕ) (gs : List ℤ) → list_all (λ z. divides step (residue_of z slots)) gs ≡ not (some (bad slots step) gs)
all_multiples slots step [] = refl
all_multiples slots step (g ∷ gs) = rw (all_multiples slots step gs) (both (divides step (residue_of g slots)))
  where
    both : (a : Bool) → (a && not (some (bad slots step) gs)) ≡ not (not a || some (bad slots step) gs)
    both true = refl
    both false = refl

-- ---- digits

module _ {slots step : ℕ} {z : ℤ} (s : Stepped slots step) (l : Listed slots step z) where
  pub digit_made : {r : ℕ} {d : Digit} → r ≡ residue_of z slots → d ≡ digit slots step (record { 0 = r }) → DigitIs slots step z d
  digit_made {r} {d} e q =
      let f : d ≡ digit_at slots step z = q ∙ ap (λ (x : ℕ). digit slots step (record { 0 = x })) e in
      let a : Giant slots step (rot_of slots z) = record { reduced = residue_lt z slots s.some; multiple = l } in
      record { is = f; small = rw f (digit_small slots step s.positive s.small (rot_of slots z) a) }

-- ---- the largest digit

pub record Measuring (slots step : ℕ) (gs : List ℤ) (x t : ℕ) : Type 0 where
  pub room : t ≤ length gs
  pub so_far : LargestIs slots step (take t gs) x

pub take_more : {A : Type 0} (xs : List A) (t : ℕ) (d : A) → t < length xs → take (t + 1) xs ≡ take t xs ++ (get_or xs t d ∷ [])
take_more [] t d l = absurd (not-suc-le-zero l)
take_more (x ∷ xs) zero d l = refl
take_more {A} (x ∷ xs) (suc t) d l = let e : suc t + 1 ≡ suc (t + 1) = omega arith in rw e (ap (λ (ys : List A). x ∷ ys) (take_more xs t d (omega arith)))

largest_snoc : (ds : List Digit) (d : Digit) → largest (ds ++ (d ∷ [])) ≡ max (largest ds) (mag d.0)
unfolding largest
largest_snoc [] d = max_comm (mag d.0) 0
largest_snoc (x ∷ ds) d = rw (largest_snoc ds d) (sym (max_assoc (mag x.0) (largest ds) (mag d.0)))

pub largest_none : (slots step : ℕ) → LargestIs slots step [] 0
unfolding largest
largest_none slots step = record { is = refl; small = omega arith }

-- one giant more
pub largest_more : {slots step : ℕ} {gs : List ℤ} {x : ℕ} → LargestIs slots step gs x → {z : ℤ} {d : Digit} {m y : ℕ} → DigitIs slots step z d → m ≡ mag d.0 → y ≡ max x m → LargestIs slots step (gs ++ (z ∷ [])) y
largest_more {slots} {step} {gs} {x} s {z} {d} {m} {y} q i j =
    let e : y ≡ max x (mag d.0) = j ∙ rw i refl in
    record {
      is = rw (map-append (rot_of slots) gs (z ∷ []), map-append (digit slots step) (map (rot_of slots) gs) (rot_of slots z ∷ []))
          (e ∙ rw (s.is, q.is) (sym (largest_snoc (map (digit slots step) (map (rot_of slots) gs)) (digit_at slots step z))));
      small = rw e (max_lt s.small q.small);
    }

pub measuring_none : (slots step : ℕ) (gs : List ℤ) → Measuring slots step gs 0 0
measuring_none slots step gs = record { room = omega arith; so_far = largest_none slots step }

module _ {slots step : ℕ} {gs : List ℤ} {x t : ℕ} (s : Measuring slots step gs x t) where
  pub measuring_more : {d : Digit} {m y : ℕ} → t < length gs → mag (get_or gs t (pos 0)) < 2 ^ 63 → DigitIs slots step (to_z w64 (of_z w64 (get_or gs t (pos 0)))) d → m ≡ mag d.0 → y ≡ ord_max nat_cmp x m → Measuring slots step gs y (t + 1)
  measuring_more {m = m} l f q i j =
      record {
        room = omega arith;
        so_far = rw (take_more gs t (pos 0) l) (largest_more s.so_far (rw (read_is (get_or gs t (pos 0)) f) at q) i (j ∙ max_is x m));
      }

-- ---- b

largest_lt : (n : ℕ) (ds : List Digit) → 0 < n → Each (λ d. mag d.0 < n) ds → largest ds < n
unfolding largest
largest_lt n [] p h = p
largest_lt n (d ∷ ds) p h = max_lt h.0 (largest_lt n ds p h.1)

lt_largest : (n : ℕ) (ds : List Digit) → largest ds < n → Each (λ d. mag d.0 < n) ds
unfolding largest
lt_largest n [] h = tt
lt_largest n (d ∷ ds) h = (omega (arith, le-max_left (mag d.0) (largest ds)), lt_largest n ds (omega (arith, le-max_right (mag d.0) (largest ds))))

-- x has m bits
module _ {x m : ℕ} (high : x < 2 ^ m) (low : 2 ^ m ≤ 2 * x + 1) where
  least_is : (ds : List Digit) → largest ds ≡ x → bits_of ds ≡ suc m
  least_is ds e =
      let h : largest ds < 2 ^ m = omega (arith, high) in
      let most : bits_of ds ≤ suc m = bits_least ds (suc m) (omega arith) (small_all m ds (lt_largest (2 ^ m) ds h)) in
      let c = bits_of ds - 1 in
      let q : bits_of ds ≡ suc c = omega (arith, bits_positive ds) in
      let k : largest ds < 2 ^ c = largest_lt (2 ^ c) ds (pow_pos c) (bits_small ds c q) in
      ⊎_elim (λ (l : c < m). absurd (omega (arith, low, pow_mono {i = suc c} {j = m} l))) (λ (l : m ≤ c). omega arith) (lt_or_ge c m)

  bits_by : x < 2 ^ 15 → BitsAre x (suc m)
  bits_by h =
      record {
        positive = omega arith;
        small = ⊎_elim (λ (l : m < 16). omega arith) (λ (l : 16 ≤ m). absurd (omega (arith, low, pow_mono {i = 16} {j = m} l))) (lt_or_ge m 16);
        is = λ ds e. least_is ds e;
      }

pub bits_are : (x : ℕ) → x < 2 ^ 15 → BitsAre x (33 - count_leading_zeros 32 x)
bits_are x h =
    let d = leading_length 32 x (omega arith) in
    let e : 33 - count_leading_zeros 32 x ≡ suc d.0 = omega (arith, d.1) in
    rw e (bits_by d.2 d.3 h)

-- ---- leaves

pub record Marking (slots step bits : ℕ) (gs : List ℤ) (heap : List Bool) (t : ℕ) : Type 0 where
  pub room : t ≤ length gs
  pub so_far : LeavesMarked bits (leaves_at slots step bits (take t gs)) heap

pub leaves_marked_none : (slots step bits : ℕ) {heap : List Bool} → Blank heap → LeavesMarked bits (leaves_at slots step bits []) heap
leaves_marked_none slots step bits b = record { size = b.size; marked = λ n. b.none (2 ^ bits + n) }

among_snoc : (n l : ℕ) (ls : List ℕ) → among n (ls ++ (l ∷ [])) ≡ (eqb l n || among n ls)
among_snoc n l [] = refl
among_snoc n l (x ∷ ls) = rw (among_snoc n l ls) (swap (eqb x n) (eqb l n) (among n ls))
  where
    swap : (a b c : Bool) → (a || (b || c)) ≡ (b || (a || c))
    swap true true c = refl
    swap true false c = refl
    swap false b c = refl

mark_by : (heap : List Bool) (s l n : ℕ) → s + l < length heap → Dec (l ≡ n) → marks (set heap (s + l) true) (s + n) ≡ (eqb l n || marks heap (s + n))
mark_by heap s l n h (yes e) = rw (eq-eqb l n e, ← e) (get_or-set_same heap (s + l) true false h)
mark_by heap s l n h (no m) = rw (ne_eqb l n m) (get_or-set_other heap (s + l) (s + n) true false (λ q. m (omega arith)))

pub leaves_marked_more : {slots step bits : ℕ} (gs : List ℤ) {heap : List Bool} → LeavesMarked bits (leaves_at slots step bits gs) heap → {z : ℤ} {p l : ℕ} → bits ≤ 16 → p ≡ 2 ^ bits → LeafIs slots step bits z l → LeavesMarked bits (leaves_at slots step bits (gs ++ (z ∷ []))) (set heap (p + l) true)
leaves_marked_more {slots} {step} {bits} gs {heap} s {z} {p} {l} b e q =
    record {
      size = simp length-set s.size;
      marked = λ n.
          rw (e, map-append (λ z. leaf bits (digit_at slots step z)) gs (z ∷ []), among_snoc n (leaf bits (digit_at slots step z)) (leaves_at slots step bits gs), ← q.is, ← s.marked n)
          (mark_by heap (2 ^ bits) l n (omega (arith, q.low, s.size, pow_mono {i = bits} {j = 16} b)) (ℕ_discrete l n));
    }

module _ {slots step bits : ℕ} {gs : List ℤ} {heap : List Bool} {t : ℕ} (s : Marking slots step bits gs heap t) where
  pub marking_more : {p l : ℕ} → t < length gs → bits ≤ 16 → p ≡ 2 ^ bits → mag (get_or gs t (pos 0)) < 2 ^ 63 → LeafIs slots step bits (to_z w64 (of_z w64 (get_or gs t (pos 0)))) l → Marking slots step bits gs (set heap (p + l) true) (t + 1)
  marking_more k b e f q =
      record {
        room = omega arith;
        so_far = rw (take_more gs t (pos 0) k) (leaves_marked_more (take t gs) s.so_far b e (rw (read_is (get_or gs t (pos 0)) f) at q));
      }

abbrev pub leaf_of_lem : ℕ → ℕ → ℕ → List ℤ → ℕ → ℕ
leaf_of_lem slots step bits gs t = leaf bits (digit_at slots step (get_or gs t (pos 0)))

pub record LeafWriting (slots step bits : ℕ) (gs : List ℤ) (old new : List ℕ) (t : ℕ) : Type 0 where
  pub filling : Filling (leaf_of_lem slots step bits gs) old new t
  pub room : t ≤ length gs

pub leaves_none : (slots step bits : ℕ) (gs : List ℤ) (old : List ℕ) → LeafWriting slots step bits gs old old 0
leaves_none slots step bits gs old = record { filling = filling_none _ old; room = omega arith }

module _ {slots step bits : ℕ} {gs : List ℤ} {old new : List ℕ} {t : ℕ} (s : LeafWriting slots step bits gs old new t) where
  pub leaves_more : {l : ℕ} → t < length gs → length gs ≤ length old → mag (get_or gs t (pos 0)) < 2 ^ 63 → LeafIs slots step bits (to_z w64 (of_z w64 (get_or gs t (pos 0)))) l → LeafWriting slots step bits gs old (set new t l) (t + 1)
  leaves_more {l} k h f q =
      let e : l ≡ leaf_of_lem slots step bits gs t = q.is ∙ ap (λ (z : ℤ). leaf bits (digit_at slots step z)) (read_is (get_or gs t (pos 0)) f) in
      record { filling = filling_more s.filling (omega (arith, s.filling.len)) e; room = omega arith }

  pub leaves_done : length gs ≤ t → new ≡ in_front (leaves_at slots step bits gs) old
  leaves_done l =
      let e : t ≡ length gs = omega (arith, s.room) in
      let m : tabulate (length gs) (leaf_of_lem slots step bits gs) ≡ leaves_at slots step bits gs =
      sym (map_tabulate (λ z. leaf bits (digit_at slots step z)) (length gs) (λ i. get_or gs i (pos 0))) ∙ ap (map (λ z. leaf bits (digit_at slots step z))) (sym (tabulate_get_or gs (pos 0))) in
      s.filling.so_far ∙ filled_front (leaf_of_lem slots step bits gs) t old ∙ rw e (ap (λ (x : List ℕ). in_front x old) m)
