-- Laws of the baby step: a greatest common divisor depends on the members of a list alone.
-- Assumes nothing.
use Rattle.std.specs.Prelude.{ℕ, zero, suc, ◌≤◌, ◌<◌, ◌≡◌, ◌||◌, List, [], ◌∷◌, ◌++◌, map}
use Rattle.std.specs.Int.{◌∣◌}
use Rattle.std.proofs.Math.Path.{sym, ap}
use Rattle.std.proofs.Math.Logic.{⊎_elim}
use Rattle.std.proofs.Math.Nat.{one-dvd, dvd-zero, dvd_trans, dvd_antisymm, le_of_dvd}
use Rattle.std.proofs.Common.{eq-zero-or-pos, arith}
use borrow.Author.Tests.{eqb-true}
use Rattle.std.proofs.Math.Dec.{eqb}
use Rattle.ring.specs.Lists.{Each, some}
use Rattle.ring.specs.Searches.{or_else}
use Rattle.ring.specs.Divisors.{gcd_of, gcd_all}
use Rattle.ring.specs.Laws.Lists.{each_then, each_append, each_map, map_each}
use Rattle.ring.specs.Laws.Divisors.{is_gcd, gcd_zero}
use Rattle.linear_transformation.specs.Plans.{baby_of, babies, Planned}
use Rattle.linear_transformation.specs.Schedules.{baby_step}
use Rattle.ring.specs.Laws.Members.{one_of, among_each, each_among, below_among}
use Rattle.linear_transformation.specs.Laws.Plans.{babies_have}
use Rattle.linear_transformation.specs.Laws.Runs.{some_member, babies_bound}

-- ---- the greatest common divisor of a list

pub record Common (xs : List ℕ) (g : ℕ) : Type 0 where
  pub divides : Each (λ x. g ∣ x) xs
  pub most : (d : ℕ) → Each (λ x. d ∣ x) xs → d ∣ g

pub gcd_all_common : (xs : List ℕ) → Common xs (gcd_all xs)
gcd_all_common [] = record { divides = tt; most = λ d h. dvd-zero d }
gcd_all_common (x ∷ xs) =
    let i = is_gcd x (gcd_all xs) in
    let c = gcd_all_common xs in
    record {
      divides = (i.left, each_then (λ y h. dvd_trans (gcd_of x (gcd_all xs)) i.right h) xs c.divides);
      most = λ d h. i.most d h.0 (c.most d h.1);
    }

-- it is the only one
pub gcd_all_is : (xs : List ℕ) (g : ℕ) → Common xs g → gcd_all xs ≡ g
gcd_all_is xs g c = let k = gcd_all_common xs in dvd_antisymm (c.most (gcd_all xs) k.divides) (k.most g c.divides)

-- lists with the same common divisors have the same greatest one
pub gcd_all_same : (xs ys : List ℕ) → ((d : ℕ) → Each (λ x. d ∣ x) xs → Each (λ x. d ∣ x) ys) → ((d : ℕ) → Each (λ x. d ∣ x) ys → Each (λ x. d ∣ x) xs) → gcd_all xs ≡ gcd_all ys
gcd_all_same xs ys to from =
    let c = gcd_all_common ys in
    gcd_all_is xs (gcd_all ys) (record { divides = from (gcd_all ys) c.divides; most = λ d h. c.most d (to d h) })

each_front : (P : ℕ → Type 0) (xs ys : List ℕ) → Each P (xs ++ ys) → Each P xs
each_front P [] ys h = tt
each_front P (x ∷ xs) ys h = (h.0, each_front P xs ys h.1)

each_back : (P : ℕ → Type 0) (xs ys : List ℕ) → Each P (xs ++ ys) → Each P ys
each_back P [] ys h = h
each_back P (x ∷ xs) ys h = each_back P xs ys h.1

-- one number more
pub gcd_all_snoc : (xs : List ℕ) (x : ℕ) → gcd_all (xs ++ (x ∷ [])) ≡ gcd_of x (gcd_all xs)
gcd_all_snoc xs x =
    let i = is_gcd x (gcd_all xs) in
    let c = gcd_all_common xs in
    gcd_all_is (xs ++ (x ∷ [])) (gcd_of x (gcd_all xs))
    (record {
      divides = each_append (λ y. gcd_of x (gcd_all xs) ∣ y) xs (x ∷ []) (each_then (λ y h. dvd_trans (gcd_of x (gcd_all xs)) i.right h) xs c.divides) (i.left, tt);
      most = λ d h. i.most d (each_back (λ y. d ∣ y) xs (x ∷ []) h).0 (c.most d (each_front (λ y. d ∣ y) xs (x ∷ []) h));
    })

-- 1 stays 1, whatever comes behind
pub gcd_all_one : (xs ys : List ℕ) → gcd_all xs ≡ 1 → gcd_all (xs ++ ys) ≡ 1
gcd_all_one xs ys e =
    gcd_all_is (xs ++ ys) 1
    (record {
      divides = each_all (xs ++ ys);
      most = λ d h. let m : d ∣ gcd_all xs = (gcd_all_common xs).most d (each_front (λ y. d ∣ y) xs ys h) in rw e at m;
    })
  where
    each_all : (zs : List ℕ) → Each (λ z. 1 ∣ z) zs
    each_all [] = tt
    each_all (z ∷ zs) = (one-dvd z, each_all zs)

pub gcd_low : (a b n : ℕ) → a < n → b < n → gcd_of a b < n
gcd_low a b n l m =
    ⊎_elim
    (λ (e : a ≡ 0). ⊎_elim (λ (f : b ≡ 0). rw (e, f, gcd_zero 0) (omega arith)) (λ (f : 0 < b). omega (arith, le_of_dvd f (is_gcd a b).right)) (eq-zero-or-pos b))
    (λ (e : 0 < a). omega (arith, le_of_dvd e (is_gcd a b).left))
    (eq-zero-or-pos a)

-- ---- the baby step

module _ {slots width : ℕ} {ks : List ℕ} (p : Planned slots width ks) where
  to_babies : (d : ℕ) → Each (λ x. d ∣ x) (map (baby_of width) ks) → Each (λ x. d ∣ x) (babies slots width ks)
  unfolding babies
  to_babies d h =
      among_each (λ x. d ∣ x) (babies slots width ks)
      (λ b a.
      ⊎_elim
      (λ e. let q : b ≡ 0 = eqb-true b 0 e in rw q (dvd-zero d))
      (λ e. let x = some_member (λ k. eqb (baby_of width k) b) ks e in let q : b ≡ baby_of width x.0 = sym (eqb-true (baby_of width x.0) b x.1.1) in rw q (each_among (λ k. d ∣ baby_of width k) ks (map_each (λ x. d ∣ x) (baby_of width) ks h) x.0 x.1.0))
      (one_of (eqb b 0) (some (λ k. eqb (baby_of width k) b) ks) (below_among b (λ b. eqb b 0 || some (λ k. eqb (baby_of width k) b) ks) slots a).1))

  from_babies : (d : ℕ) → Each (λ x. d ∣ x) (babies slots width ks) → Each (λ x. d ∣ x) (map (baby_of width) ks)
  from_babies d h =
      each_map (λ x. d ∣ x) (baby_of width) ks
      (among_each (λ k. d ∣ baby_of width k) ks (λ k a. each_among (λ x. d ∣ x) (babies slots width ks) h (baby_of width k) (babies_have p k a)))

  -- the 0 that the babies always have does not count, nor do repeats
  pub baby_step_is : baby_step slots width ks ≡ or_else (gcd_all (map (baby_of width) ks)) 1
  unfolding baby_step
  baby_step_is = ap (λ (g : ℕ). or_else g 1) (gcd_all_same (babies slots width ks) (map (baby_of width) ks) from_babies to_babies)

  pub baby_step_bound : (n : ℕ) → slots ≤ n → 0 < slots → baby_step n width ks ≡ baby_step slots width ks
  unfolding baby_step
  baby_step_bound n l s = rw (babies_bound p n l s)

pub or_else_low : (g n : ℕ) → g < n → 1 < n → or_else g 1 < n
or_else_low zero n l m = m
or_else_low (suc g) n l m = l

pub or_else_some : (g : ℕ) → 1 ≤ or_else g 1
or_else_some zero = omega arith
or_else_some (suc g) = omega arith
