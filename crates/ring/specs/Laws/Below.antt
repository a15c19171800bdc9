-- Laws of the rising list of the numbers below a bound that pass a test: its length, its members, their places, its
-- order, and sums over it.
-- Assumes nothing.
use Rattle.std.specs.Prelude.{◌≡◌, ℕ, zero, suc, ◌+◌, ◌%◌, ◌<◌, ◌≤◌, Bool, true, false, cond, ◌||◌, ◌⊎◌, List, [], ◌∷◌, ◌++◌, length, ◌==◌, ◌≢◌, slice_index_or}
use Prim.Native.Nat.{zero-le}
use Rattle.std.proofs.Math.Path.{refl}
use Rattle.std.proofs.Common.{sym, ap, ◌∙◌, append-nil, inl, inr, eq-or-lt_of_le, not-suc-le-zero, le_refl, zero-add, add-one}
use Rattle.std.proofs.Math.Logic.{⊎_elim}
use Rattle.std.proofs.Math.Nat.{le_of_eq, add-zero, zero-mod, mod-mod}
use native.Mathlib.Omega.{arith}
use borrow.Author.Tests.{eq-eqb, ne_eqb}
use Rattle.std.proofs.Math.ListN.{length-append, get_or-append}
use Rattle.std.proofs.Math.Seq.{get_or-append_seam}
use Rattle.ring.specs.Slots.{addm}
use Rattle.ring.specs.Lists.{sum_by, Each, Rising}
use Rattle.ring.specs.Searches.{below, only}
use Rattle.ring.specs.Laws.Lists.{each_then, each_append, rising_snoc, sum_by_append, sum_by_each, sum_by_zero}
use Rattle.ring.specs.Vectors.{tabulate}
use Rattle.ring.specs.Laws.Vectors.{tabulate_snoc}
use Rattle.ring.specs.Laws.Searches.{lt_or_ge}

module _ (p : ℕ → Bool) where
  pub below_yes : (v : ℕ) → p v ≡ true → below p (v + 1) ≡ below p v ++ (v ∷ [])
  unfolding below
  below_yes v e = rw (add-one, below, e)

  pub below_no : (v : ℕ) → p v ≡ false → below p (v + 1) ≡ below p v
  unfolding below
  below_no v e = rw (add-one, below, e, append-nil)

  pub length_below_yes : (v : ℕ) → p v ≡ true → length (below p (v + 1)) ≡ length (below p v) + 1
  length_below_yes v e = rw (below_yes v e, length-append)

  only_le : (b : Bool) (v : ℕ) → length (only b v) ≤ 1
  only_le true v = le_refl 1
  only_le false v = zero-le

  pub below_le : (n : ℕ) → length (below p n) ≤ n
  unfolding below
  below_le zero = zero-le
  below_le (suc n) = omega (arith, length-append (below p n) (only (p n) n), below_le n, only_le (p n) n)

  pub below_mono : (v n : ℕ) → v ≤ n → length (below p v) ≤ length (below p n)
  unfolding below
  below_mono zero n h = zero-le
  below_mono (suc v) (suc n) h =
      ⊎_elim
      (λ (e : suc v ≡ suc n). le_of_eq (ap (λ (k : ℕ). length (below p k)) e))
      (λ (l : suc v < suc n). omega (arith, length-append (below p n) (only (p n) n), below_mono (suc v) n (omega arith)))
      (eq-or-lt_of_le h)
  below_mono (suc v) zero h = absurd (not-suc-le-zero h)

  only_each : (b : Bool) (n v : ℕ) → v < n → b ≡ p v → Each (λ k. k < n) (only b v)
  only_each true n v l e = (l, tt)
  only_each false n v l e = tt

  -- its members are below the bound
  pub below_low : (n : ℕ) → Each (λ k. k < n) (below p n)
  unfolding below
  below_low zero = tt
  below_low (suc n) =
      each_append (λ k. k < suc n) (below p n) (only (p n) n)
      (each_then (λ k l. omega arith) (below p n) (below_low n))
      (only_each (p n) (suc n) n (le_refl (suc n)) refl)

  only_passes : (b : Bool) (v : ℕ) → p v ≡ b → Each (λ k. p k ≡ true) (only b v)
  only_passes true v e = (e, tt)
  only_passes false v e = tt

  -- its members pass the test
  pub below_passes : (n : ℕ) → Each (λ k. p k ≡ true) (below p n)
  unfolding below
  below_passes zero = tt
  below_passes (suc n) = each_append (λ k. p k ≡ true) (below p n) (only (p n) n) (below_passes n) (only_passes (p n) n refl)

  rising_only : (b : Bool) (xs : List ℕ) (n : ℕ) → Rising xs → Each (λ k. k < n) xs → Rising (xs ++ only b n)
  rising_only true xs n r l = rising_snoc xs n r l
  rising_only false xs n r l = rw append-nil r

  pub below_rising : (n : ℕ) → Rising (below p n)
  unfolding below
  below_rising zero = tt
  below_rising (suc n) = rising_only (p n) (below p n) n (below_rising n) (below_low n)

  -- the place of a member is the number of members below it
  pub below_before : (k n : ℕ) → k < n → p k ≡ true → length (below p k) < length (below p n)
  below_before k n l e = omega (arith, length_below_yes k e, below_mono (k + 1) n (omega arith))

  pub below_at : (n k d : ℕ) → k < n → p k ≡ true → slice_index_or (below p n) (length (below p k)) d ≡ k
  unfolding below
  below_at zero k d l e = absurd (not-suc-le-zero l)
  below_at (suc n) k d l e =
      ⊎_elim
      (λ (q : suc k ≡ suc n). let r : k ≡ n = omega arith in let t : p n ≡ true = rw r at e in rw (r, t) (get_or-append_seam (below p n) n [] d))
      (λ (m : suc k < suc n). get_or-append (below p n) (only (p n) n) d (length (below p k)) (below_before k n (omega arith) e) ∙ below_at n k d (omega arith) e)
      (eq-or-lt_of_le l)

  rank_more : (n r d : ℕ) (b : Bool) → (r < length (below p n) → length (below p (slice_index_or (below p n) r d)) ≡ r) → r < length (below p n ++ only b n) → (r < length (below p n)) ⊎ (length (below p n) ≤ r) → length (below p (slice_index_or (below p n ++ only b n) r d)) ≡ r
  rank_more n r d b ih l (inl h) = rw (get_or-append (below p n) (only b n) d r h) (ih h)
  rank_more n r d true ih l (inr h) =
      let e : r ≡ length (below p n) = omega (arith, length-append (below p n) (n ∷ [])) in
      rw (e, get_or-append_seam (below p n) n [] d)
  rank_more n r d false ih l (inr h) = omega (arith, length-append (below p n) [])

  -- and the number at a place has that many members below it
  pub below_rank : (n r d : ℕ) → r < length (below p n) → length (below p (slice_index_or (below p n) r d)) ≡ r
  unfolding below
  below_rank zero r d l = absurd (not-suc-le-zero l)
  below_rank (suc n) r d l = rank_more n r d (p n) (below_rank n r d) l (lt_or_ge r (length (below p n)))

pub below_ext : (p q : ℕ → Bool) (n : ℕ) → ((v : ℕ) → v < n → p v ≡ q v) → below p n ≡ below q n
unfolding below
below_ext p q zero h = refl
below_ext p q (suc n) h = rw (below_ext p q n (λ v l. h v (omega arith)), h n (le_refl (suc n)))

-- one number more passes
pub length_below_with : (p : ℕ → Bool) (k n : ℕ) → k < n → p k ≡ false → length (below (λ v. (k == v) || p v) n) ≡ suc (length (below p n))
unfolding below
length_below_with p k zero l e = absurd (not-suc-le-zero l)
length_below_with p k (suc n) l e =
    ⊎_elim
    (λ (q : suc k ≡ suc n).
    let r : k ≡ n = omega arith in
    let t : p n ≡ false = rw r at e in
    rw (below_ext (λ v. (k == v) || p v) p n (λ v m. rw (ne_eqb k v (λ x. omega arith))), eq-eqb k n r, t) (simp length-append (omega arith)))
    (λ (m : suc k < suc n). rw (ne_eqb k n (λ x. omega arith)) (simp length-append (omega (arith, length_below_with p k n (omega arith) e))))
    (eq-or-lt_of_le l)

-- ---- sums of terms that are 0 but at one number

module _ (m : ℕ) (p : ℕ → Bool) (k x : ℕ) where
  abbrev at_k : ℕ → ℕ
  at_k v = cond (k == v) x 0

  sum_before : (n : ℕ) → n ≤ k → sum_by m at_k (below p n) ≡ 0
  sum_before n l =
      sum_by_each m at_k (λ v. 0) (below p n) (each_then (λ v (h : v < n). rw (ne_eqb k v (λ e. omega arith))) (below p n) (below_low p n)) ∙ sum_by_zero m (below p n)

  sum_only : (b : Bool) (n : ℕ) → (k ≢ n) → sum_by m at_k (only b n) ≡ 0
  unfolding addm
  sum_only true n h = rw (ne_eqb k n h) (zero-mod m)
  sum_only false n h = refl

  -- of a member it is that term
  pub sum_below_one : (n : ℕ) → k < n → p k ≡ true → sum_by m at_k (below p n) ≡ x % m
  unfolding below addm
  sum_below_one zero l e = absurd (not-suc-le-zero l)
  sum_below_one (suc n) l e =
      sum_by_append m at_k (below p n) (only (p n) n)
      ∙ ⊎_elim
      (λ (q : suc k ≡ suc n).
      let r : k ≡ n = omega arith in
      let t : p n ≡ true = rw r at e in
      rw (sum_before n (omega arith), t, eq-eqb k n r) (simp (zero-add, add-zero, mod-mod)))
      (λ (h : suc k < suc n). rw (sum_below_one n (omega arith) e, sum_only (p n) n (λ q. omega arith)) (simp (add-zero, mod-mod)))
      (eq-or-lt_of_le l)

-- ---- all numbers below a bound, and none

pub below_none : (n : ℕ) → below (λ v. false) n ≡ []
unfolding below
below_none zero = refl
below_none (suc n) = append-nil (below (λ v. false) n) ∙ below_none n

pub below_all : (n : ℕ) → below (λ v. true) n ≡ tabulate n (λ v. v)
unfolding below
below_all zero = refl
below_all (suc n) = ap (λ (t : List ℕ). t ++ (n ∷ [])) (below_all n) ∙ sym (tabulate_snoc n (λ v. v))

-- of terms that are 0 but at k
pub sum_one : (m k x n : ℕ) → k < n → sum_by m (λ v. cond (k == v) x 0) (tabulate n (λ v. v)) ≡ x % m
sum_one m k x n l =
    ap (sum_by m (λ v. cond (k == v) x 0)) (sym (below_all n)) ∙ sum_below_one m (λ v. true) k x n l refl
