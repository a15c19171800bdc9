-- Laws of slot maps whose terms are listed output after output: the sum at an output is that of its own terms.
-- Assumes nothing.
use Rattle.std.specs.Prelude.{◌≡◌, ℕ, ◌+◌, ◌-◌, ◌*◌, ◌%◌, ◌<◌, ◌≤◌, Bool, true, false, cond, List, [], ◌∷◌, ◌++◌, ◌==◌, slice_index, refl}
use Rattle.std.proofs.Common.{sym, ap, ◌∙◌, add_comm, mod-lt, mod-eq_of_lt, arith, eq-eqb, ne_eqb, eqb-true}
use Rattle.std.proofs.Math.Nat.{mod-add-mod, add-mod_right}
use Rattle.std.proofs.lemmas.Bool.{eqb-false}
use Rattle.ring.specs.Slots.{mulm}
use Rattle.ring.specs.Lists.{sum_by, join, Each}
use Rattle.ring.specs.Vectors.{tabulate}
use Rattle.ring.specs.Laws.Slots.{addm_comm}
use Rattle.ring.specs.Laws.Lists.{each_then, each_tabulate, each_append, sum_by_each, sum_by_append, sum_by_join, sum_by_mod, sum_by_zero, sum_by_map}
use Rattle.ring.specs.Laws.Vectors.{map_tabulate, tabulate_add, tabulate_cong}
use Rattle.ring.specs.Laws.Below.{sum_one}
use Rattle.diagonals.specs.Products.{product}
use Rattle.diagonals.specs.SlotMaps.{Term, slot_map, slot_sum}
use Rattle.diagonals.specs.Laws.SlotMaps.{slot_map_product}

-- a sum over a table
pub sum_table : (m : ℕ) {A : Type 0} (n : ℕ) (g : ℕ → A) (f : A → ℕ) → sum_by m f (tabulate n g) ≡ sum_by m (λ i. f (g i)) (tabulate n (λ i. i))
sum_table m n g f = ap (sum_by m f) (sym (map_tabulate g n (λ i. i))) ∙ sum_by_map m g f (tabulate n (λ i. i))

-- two sums over the numbers below n
pub sum_same : (m n : ℕ) (f g : ℕ → ℕ) → ((i : ℕ) → i < n → f i ≡ g i) → sum_by m f (tabulate n (λ i. i)) ≡ sum_by m g (tabulate n (λ i. i))
sum_same m n f g same = sum_by_each m f g (tabulate n (λ i. i)) (each_tabulate (λ i. f i ≡ g i) n (λ i. i) same)

-- the numbers below d, begun at t and gone round, have the same sum
pub sum_turned : (m d t : ℕ) (f : ℕ → ℕ) → 1 ≤ d → sum_by m (λ k. f ((t + k) % d)) (tabulate d (λ k. k)) ≡ sum_by m f (tabulate d (λ k. k))
sum_turned m d t f h =
    sum_same m d (λ k. f ((t + k) % d)) (λ k. f ((t % d + k) % d)) (λ k l. ap f (sym (mod-add-mod t d k)))
    ∙ sym (sum_table m d (λ k. (t % d + k) % d) f)
    ∙ ap (λ (n : ℕ). sum_by m f (tabulate n (λ k. (t % d + k) % d))) (sym back)
    ∙ ap (sum_by m f) (tabulate_add (d - t % d) (t % d) (λ k. (t % d + k) % d))
    ∙ sum_by_append m f (tabulate (d - t % d) (λ k. (t % d + k) % d)) (tabulate (t % d) (λ k. (t % d + (d - t % d + k)) % d))
    ∙ addm_comm m (sum_by m f (tabulate (d - t % d) (λ k. (t % d + k) % d))) (sum_by m f (tabulate (t % d) (λ k. (t % d + (d - t % d + k)) % d)))
    ∙ sym (sum_by_append m f (tabulate (t % d) (λ k. (t % d + (d - t % d + k)) % d)) (tabulate (d - t % d) (λ k. (t % d + k) % d)))
    ∙ ap (λ (xs : List ℕ). sum_by m f (xs ++ tabulate (d - t % d) (λ k. (t % d + k) % d)))
    (tabulate_cong (t % d) (λ k. (t % d + (d - t % d + k)) % d) (λ k. k) (λ k l. ap (λ (x : ℕ). x % d) (let e : t % d + (d - t % d + k) ≡ k + d = omega (arith, low) in e) ∙ add-mod_right k d ∙ mod-eq_of_lt (omega (arith, low))))
    ∙ ap (λ (xs : List ℕ). sum_by m f (tabulate (t % d) (λ k. k) ++ xs))
    (tabulate_cong (d - t % d) (λ k. (t % d + k) % d) (λ k. t % d + k) (λ k l. mod-eq_of_lt (omega (arith, low))))
    ∙ ap (sum_by m f) (sym (tabulate_add (t % d) (d - t % d) (λ k. k)))
    ∙ ap (λ (n : ℕ). sum_by m f (tabulate n (λ k. k))) (add_comm (t % d) (d - t % d) ∙ back)
  where
    low : t % d < d
    low = mod-lt t (omega arith)

    back : d - t % d + t % d ≡ d
    back = omega (arith, low)

-- each element of lists one after the other
pub each_join : {A B : Type 0} (P : B → Type 0) (f : A → List B) (xs : List A) → Each (λ x. Each P (f x)) xs → Each P (join f xs)
each_join P f [] h = tt
each_join P f (x ∷ xs) h = each_append P (f x) (join f xs) h.0 (each_join P f xs h.1)

-- a term within one period
pub record InPeriod (period : ℕ) (x : Term) : Type 0 where
  pub i_low : x.i < period
  pub j_low : x.j < period

module _ (m slots period : ℕ) (g : ℕ → List Term) (own : (t : ℕ) → Each (λ x. x.i ≡ t) (g t)) (input : List ℕ) (i q : ℕ) where
  -- what a term of output i adds
  abbrev pub adds : Term → ℕ
  adds t = mulm m t.w (slice_index input ((t.j + q * period) % slots))

  abbrev terms : List Term
  terms = join g (tabulate period (λ t. t))

  abbrev part : Term → ℕ
  part t = cond (t.i == i) (adds t) 0

  -- the terms of an output count there alone
  of_output : (t : ℕ) (b : Bool) → (i == t) ≡ b → sum_by m part (g t) ≡ cond b (sum_by m adds (g i)) 0
  of_output t true e =
      sum_by_each m part adds (g t)
      (each_then (λ x (h : x.i ≡ t). ap (λ (b : Bool). cond b (adds x) 0) (eq-eqb x.i i (h ∙ sym (eqb-true i t e)))) (g t) (own t))
      ∙ ap (λ (x : ℕ). sum_by m adds (g x)) (sym (eqb-true i t e))
  of_output t false e =
      sum_by_each m part (λ x. 0) (g t)
      (each_then (λ x (h : x.i ≡ t). ap (λ (b : Bool). cond b (adds x) 0) (ne_eqb x.i i (λ k. eqb-false i t e (sym k ∙ h)))) (g t) (own t))
      ∙ sum_by_zero m (g t)

  slot_sum_own : i < period → slot_sum m slots period terms input i q ≡ sum_by m adds (g i)
  unfolding slot_sum
  slot_sum_own l =
      sum_by_join m g part (tabulate period (λ t. t))
      ∙ sum_same m period (λ t. sum_by m part (g t)) (λ t. cond (i == t) (sum_by m adds (g i)) 0) (λ t h. of_output t (i == t) refl)
      ∙ sum_one m i (sum_by m adds (g i)) period l
      ∙ sum_by_mod m adds (g i)

  pub own_product : 0 < slots → i < period → product m slots (slot_map m slots period terms) input (i + q * period) ≡ sum_by m adds (g i)
  own_product p l = slot_map_product m slots period terms input i q p l ∙ slot_sum_own l
