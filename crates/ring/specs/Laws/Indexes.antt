-- Laws of the diagonals that a list of indexes names: lists with the same residues name the same, and indexes that are
-- apart modulo slots name as many as they are.
-- Assumes nothing.
use Rattle.std.specs.Prelude.{◌≡◌, ℕ, zero, suc, ◌<◌, Bool, true, false, ◌||◌, List, [], ◌∷◌, map, length, ℤ, ◌==◌, ◌≢◌}
use Rattle.std.proofs.Math.Path.{refl, sym, ap}
use Rattle.std.proofs.Common.{◌∙◌, le_of_suc-le-suc, not-suc-le-zero, arith}
use Rattle.std.proofs.Math.Bool.{true≢false}
use mathlib.Core.List.{Memᴰ}
use Rattle.std.proofs.Math.Logic.{⊎_elim}
use borrow.Author.Tests.{eq-eqb, ne_eqb, eqb-true}
use Rattle.ring.specs.Lists.{Each, Rising, among}
use Rattle.ring.specs.Vectors.{tabulate}
use Rattle.ring.specs.Residues.{residue_of, named, diagonals_of}
use Rattle.ring.specs.Laws.Lists.{each_all, each_map, each_tabulate}
use Rattle.ring.specs.Laws.Searches.{by_false}
use Rattle.ring.specs.Laws.Residues.{residue_lt}
use Rattle.ring.specs.Laws.Below.{below_ext, below_none, length_below_with}
use Rattle.ring.specs.Laws.Members.{one_of, left, right, rising_below}

-- an element of a table
pub mem_tabulate : {A : Type 0} (n : ℕ) (f : ℕ → A) (i : ℕ) → i < n → Memᴰ (f i) (tabulate n f)
mem_tabulate zero f i l = absurd (not-suc-le-zero l)
mem_tabulate (suc n) f zero l = Memᴰ.head refl
mem_tabulate (suc n) f (suc i) l = Memᴰ.tail (mem_tabulate n (λ k. f (suc k)) i (le_of_suc-le-suc l))

module _ (slots : ℕ) where
  -- the residue of an index of the list is named
  pub mem_named : {z : ℤ} {zs : List ℤ} → Memᴰ z zs → named slots zs (residue_of z slots) ≡ true
  unfolding named
  mem_named {z} (Memᴰ.head {x} e) = left _ (eq-eqb (residue_of x slots) (residue_of z slots) (ap (λ (y : ℤ). residue_of y slots) (sym e)))
  mem_named {z} (Memᴰ.tail {x} m) = right (residue_of x slots == residue_of z slots) (mem_named m)

  -- what holds of the residues of all indexes holds of what they name
  named_each : (q : ℕ → Bool) (zs : List ℤ) → Each (λ z. q (residue_of z slots) ≡ true) zs → (k : ℕ) → named slots zs k ≡ true → q k ≡ true
  unfolding named
  named_each q [] h k e = absurd (true≢false (sym e))
  named_each q (z ∷ zs) h k e =
      ⊎_elim (λ a. let r : residue_of z slots ≡ k = eqb-true (residue_of z slots) k a in rw (← r) h.0) (λ a. named_each q zs h.1 k a) (one_of (residue_of z slots == k) _ e)

  -- lists that have each other's residues name the same diagonals
  pub same_diagonals : (xs ys : List ℤ) → Each (λ x. named slots ys (residue_of x slots) ≡ true) xs → Each (λ y. named slots xs (residue_of y slots) ≡ true) ys → diagonals_of slots xs ≡ diagonals_of slots ys
  unfolding diagonals_of
  same_diagonals xs ys to from = below_ext (named slots xs) (named slots ys) slots (λ k l. by (named slots xs k) (named slots ys k) (named_each (named slots ys) xs to k) (named_each (named slots xs) ys from k))
    where
      by : (a b : Bool) → (a ≡ true → b ≡ true) → (b ≡ true → a ≡ true) → a ≡ b
      by true b f g = sym (f refl)
      by false b f g = sym (by_false (λ e. true≢false (sym (g e))))

  -- no two of the indexes have the same residue
  abbrev pub Apart : List ℤ → Type 0
  Apart [] = Unit {0}
  Apart (z ∷ zs) = Each (λ y. residue_of z slots ≢ residue_of y slots) zs × Apart zs

  pub apart_tabulate : (n : ℕ) (f : ℕ → ℤ) → ((i j : ℕ) → i < j → j < n → residue_of (f i) slots ≢ residue_of (f j) slots) → Apart (tabulate n f)
  apart_tabulate zero f h = tt
  apart_tabulate (suc n) f h = (
    each_tabulate (λ y. residue_of (f 0) slots ≢ residue_of y slots) n (λ i. f (suc i)) (λ i l. h 0 (suc i) (omega arith) (omega arith)),
    apart_tabulate n (λ i. f (suc i)) (λ i j l m. h (suc i) (suc j) (omega arith) (omega arith)),
  )

  unnamed : (r : ℕ) (zs : List ℤ) → Each (λ y. r ≢ residue_of y slots) zs → named slots zs r ≡ false
  unfolding named
  unnamed r [] h = refl
  unnamed r (z ∷ zs) h = rw (ne_eqb (residue_of z slots) r (λ e. h.0 (sym e))) (unnamed r zs h.1)

  -- they are as many as the indexes
  pub apart_count : 0 < slots → (zs : List ℤ) → Apart zs → length (diagonals_of slots zs) ≡ length zs
  unfolding diagonals_of named
  apart_count p [] h = ap length (below_none slots)
  apart_count p (z ∷ zs) h =
      length_below_with (named slots zs) (residue_of z slots) slots (residue_lt z slots p) (unnamed (residue_of z slots) zs h.0) ∙ ap suc (apart_count p zs h.1)

  -- indexes whose residues rise name these
  pub rising_diagonals : 0 < slots → (zs : List ℤ) → Rising (map (λ z. residue_of z slots) zs) → diagonals_of slots zs ≡ map (λ z. residue_of z slots) zs
  unfolding diagonals_of named
  rising_diagonals p zs r =
      below_ext (named slots zs) (λ k. among k (map (λ z. residue_of z slots) zs)) slots (λ k l. by zs k)
      ∙ rising_below slots (map (λ z. residue_of z slots) zs) r (each_map _ (λ z. residue_of z slots) zs (each_all (λ z. residue_lt z slots p) zs))
    where
      by : (zs : List ℤ) (k : ℕ) → named slots zs k ≡ among k (map (λ z. residue_of z slots) zs)
      by [] k = refl
      by (z ∷ zs) k = ap (λ (b : Bool). (residue_of z slots == k) || b) (by zs k)

  -- one index
  pub one_diagonal : 0 < slots → (z : ℤ) → diagonals_of slots (z ∷ []) ≡ residue_of z slots ∷ []
  one_diagonal p z = rising_diagonals p (z ∷ []) (tt, tt)
