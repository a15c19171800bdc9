-- Counting the numbers below a bound that pass a test; a set of numbers, its halves, and its odd members.
-- Assumes nothing.
use Rattle.std.specs.Prelude.{ℕ, zero, suc, ◌+◌, ◌*◌, ◌≤◌, ◌<◌, ◌≡◌, refl, Bool, true, false, not, cond, ◌||◌, ◌&&◌, List, [], ◌∷◌, ◌++◌, map, eqb, length}
use Rattle.std.proofs.Common.{zero-le, sym, ap, ap₂, ◌∙◌, ⊎_elim, le_refl, eq-or-lt_of_le, not-suc-le-zero, le_of_suc-le-suc, add-zero, zero-add, add_assoc, add-sub_cancel, add-one, arith, ne_eqb, eq-eqb, length-append}
use Rattle.std.proofs.lemmas.List.{map-append}
use Rattle.ring.specs.Searches.{below, only}
use Rattle.linear_transformation.specs.declared.records.PairRecord.{PairRecord}
use Rattle.linear_transformation.specs.Laws.Trees.{odds, odds_more, with_even}

abbrev pub bit : Bool → ℕ
bit true = 1
bit false = 0

-- how many v < n have p v
unfoldable pub count : (ℕ → Bool) → ℕ → ℕ
count p zero = 0
count p (suc n) = count p n + bit (p n)

length_only : (b : Bool) (v : ℕ) → length (only b v) ≡ bit b
length_only true v = refl
length_only false v = refl

pub length_below : (p : ℕ → Bool) (n : ℕ) → length (below p n) ≡ count p n
unfolding below count
length_below p zero = refl
length_below p (suc n) = length-append (below p n) (only (p n) n) ∙ ap₂ ◌+◌ (length_below p n) (length_only (p n) n)

pub count_ext : (p q : ℕ → Bool) (n : ℕ) → ((v : ℕ) → v < n → p v ≡ q v) → count p n ≡ count q n
unfolding count
count_ext p q zero h = refl
count_ext p q (suc n) h = rw (count_ext p q n (λ v l. h v (omega arith)), h n (le_refl (suc n)))

-- one number more in the set
pub count_with : (p : ℕ → Bool) (k n : ℕ) → k < n → p k ≡ false → count (λ v. eqb k v || p v) n ≡ count p n + 1
unfolding count
count_with p k zero h e = absurd (not-suc-le-zero h)
count_with p k (suc n) h e =
    ⊎_elim
    (λ (j : k ≡ n).
    rw (count_ext (λ v. eqb k v || p v) p n (λ v l. rw (ne_eqb k v (λ x. omega arith))), eq-eqb k n j, (rw j at e)) (omega arith))
    (λ (l : k < n). rw (ne_eqb k n (λ x. omega arith)) (omega (arith, count_with p k n l e)))
    (eq-or-lt_of_le (le_of_suc-le-suc h))

pub count_none : (p : ℕ → Bool) (n : ℕ) → ((v : ℕ) → v < n → p v ≡ false) → count p n ≡ 0
unfolding count
count_none p zero h = refl
count_none p (suc n) h = rw (count_none p n (λ v l. h v (omega arith)), h n (le_refl (suc n)))

-- at most one number has p: the count is at most 1
count_one_by : (p : ℕ → Bool) (n : ℕ) (t : Bool) → p n ≡ t → ((u v : ℕ) → p u ≡ true → p v ≡ true → u ≡ v) → count p n ≤ 1 → count p (suc n) ≤ 1
unfolding count
count_one_by p n true e h r = rw (e, count_none p n (λ v l. other v l (p v) refl)) (le_refl 1)
  where
    other : (v : ℕ) → v < n → (t : Bool) → p v ≡ t → p v ≡ false
    other v l true f = absurd (omega (arith, h v n f e))
    other v l false f = f
count_one_by p n false e h r = rw (e, add-zero) r

pub count_one : (p : ℕ → Bool) (n : ℕ) → ((u v : ℕ) → p u ≡ true → p v ≡ true → u ≡ v) → count p n ≤ 1
unfolding count
count_one p zero h = zero-le
count_one p (suc n) h = count_one_by p n (p n) refl h (count_one p n h)

bit_either : (x y : Bool) → bit (x || y) ≤ bit x + bit y
bit_either true y = omega arith
bit_either false y = omega arith

-- a union has at most the members of the one set and those of the other
pub count_either : (p q : ℕ → Bool) (n : ℕ) → count (λ v. p v || q v) n ≤ count p n + count q n
unfolding count
count_either p q zero = zero-le
count_either p q (suc n) = omega (arith, count_either p q n, bit_either (p n) (q n))

-- ---- a set and its halves

bits_of : (x y : Bool) → bit y + bit (x || y) ≡ bit x + bit y + bit (y && not x)
bits_of true true = refl
bits_of true false = refl
bits_of false true = refl
bits_of false false = refl

double : (n : ℕ) → 2 * suc n ≡ suc (suc (2 * n))
double n = omega arith

-- the odd members and the halves are together as many as the members and those odd ones whose even one is missing
pub halves : (p q : ℕ → Bool) (n : ℕ) → ((w : ℕ) → q w ≡ (p (2 * w) || p (2 * w + 1)))
    → count (λ w. p (2 * w + 1)) n + count q n ≡ count p (2 * n) + count (λ w. p (2 * w + 1) && not (p (2 * w))) n
unfolding count
halves p q zero h = refl
halves p q (suc n) h = rw (double n, h n, add-one (2 * n)) (omega (arith, halves p q n h, bits_of (p (2 * n)) (p (suc (2 * n)))))

-- ---- the odd members

-- the odd members, counted
pub count_odd : (p : ℕ → Bool) (n : ℕ) → length (odds (below p (2 * n))) ≡ count (λ w. p (2 * w + 1)) n
unfolding count below
count_odd p zero = refl
count_odd p (suc n) =
    ap length (odds_more p n) ∙ length-append (odds (below p (2 * n))) (only (p (2 * n + 1)) (2 * n + 1)) ∙ ap₂ ◌+◌ (count_odd p n) (length_only (p (2 * n + 1)) (2 * n + 1))

-- the number of pairs whose even node is missing
unfoldable pub lone : List PairRecord → ℕ
lone [] = 0
lone (p ∷ ps) = cond p.even_there 0 1 + lone ps

lone_append : (ps qs : List PairRecord) → lone (ps ++ qs) ≡ lone ps + lone qs
unfolding lone
lone_append [] qs = sym (zero-add (lone qs))
lone_append (p ∷ ps) qs = rw (lone_append ps qs) (sym (add_assoc (cond p.even_there 0 1) (lone ps) (lone qs)))

lone_only : (p : ℕ → Bool) (n : ℕ) (t e : Bool) → p (2 * n) ≡ e → lone (map (with_even p) (only t (2 * n + 1))) ≡ bit (t && not e)
unfolding lone
lone_only p n true true e = rw (add-sub_cancel (2 * n) 1, e)
lone_only p n true false e = rw (add-sub_cancel (2 * n) 1, e)
lone_only p n false e f = refl

pub count_lone : (p : ℕ → Bool) (n : ℕ) → lone (map (with_even p) (odds (below p (2 * n)))) ≡ count (λ w. p (2 * w + 1) && not (p (2 * w))) n
unfolding count below lone
count_lone p zero = refl
count_lone p (suc n) =
    ap (λ (l : List ℕ). lone (map (with_even p) l)) (odds_more p n) ∙ ap lone (map-append (with_even p) (odds (below p (2 * n))) (only (p (2 * n + 1)) (2 * n + 1)))
    ∙ lone_append (map (with_even p) (odds (below p (2 * n)))) (map (with_even p) (only (p (2 * n + 1)) (2 * n + 1)))
    ∙ ap₂ ◌+◌ (count_lone p n) (lone_only p n (p (2 * n + 1)) (p (2 * n)) refl)
