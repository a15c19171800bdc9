-- The greatest common divisor: it divides both, every common divisor divides it, and Euclid's step.
-- The least common multiple: a / gcd * b is a multiple of both and divides every common multiple.
-- Assumes nothing.
use Rattle.std.specs.Prelude.{◌≡◌, ℕ, zero, suc, ◌+◌, ◌*◌, ◌/◌, ◌%◌, ◌<◌, ◌≤◌, true, List, [], ◌∷◌, ◌++◌}
use Rattle.std.specs.Int.{◌∣◌}
use Rattle.std.proofs.Common.{sym, ap, ◌∙◌, ⊎_elim, mod-lt, zero-lt-suc, le_refl, eq-zero-or-pos, mul_assoc, mul-one, mul_comm, mul_right_comm, arith, eq-eqb, eqb-true}
use Rattle.std.proofs.Math.Nat.{dvd_refl, dvd-zero, dvd-mod_iff, le_of_dvd, mod-eq-zero_of_dvd, dvd_of_mod-eq-zero, eq-zero_of_zero-dvd, mod_def, mul-sub, div-mul_cancel, dvd-mul_right, dvd-sub, dvd-mul_left, dvd-mul_right_of_dvd, mul-pos, pos_of_dvd_of_pos, mul-div_cancel', mul-dvd-mul, dvd_of_mul-dvd-mul_right, dvd_antisymm, one-dvd, dvd_trans}
use Rattle.ring.specs.Divisors.{divides, gcd_of, lcm_of, lcm_all}
use Rattle.ring.specs.Lists.{Each}
use Rattle.ring.specs.Laws.Lists.{each_then}
use Rattle.ring.specs.Laws.Searches.{both, first, second, greatest_is, least_is}

pub divides_yes : (d n : ℕ) → d ∣ n → divides d n ≡ true
divides_yes d n h = eq-eqb _ _ (mod-eq-zero_of_dvd d h)

pub divides_dvd : (d n : ℕ) → divides d n ≡ true → d ∣ n
divides_dvd d n h = dvd_of_mod-eq-zero d (eqb-true _ _ h)

-- g divides a and b, and every divisor of a and b divides g
pub record IsGcd (a b g : ℕ) : Type 0 where
  pub left : g ∣ a
  pub right : g ∣ b
  pub most : (d : ℕ) → d ∣ a → d ∣ b → d ∣ g

pub gcd_base : (a : ℕ) → IsGcd a 0 a
gcd_base a = record { left = dvd_refl a; right = dvd-zero a; most = λ d x y. x }

pub gcd_step : {a b g : ℕ} → IsGcd b (a % b) g → IsGcd a b g
gcd_step {g} h =
    record {
      left = (dvd-mod_iff g h.left).0 h.right;
      right = h.left;
      most = λ d x y. h.most d y ((dvd-mod_iff d y).1 x);
    }

some : (f a b : ℕ) → b ≤ f → (g : ℕ) × IsGcd a b g
some zero a b h = let e : b ≡ 0 = omega arith in rw e (a, gcd_base a)
some (suc f) a b h =
    ⊎_elim
    (λ (e : b ≡ 0). rw e (a, gcd_base a))
    (λ (l : 0 < b). let r = some f b (a % b) (omega (arith, mod-lt a l)) in (r.0, gcd_step r.1))
    (eq-zero-or-pos b)

-- 0 alone is a divisor that every number divides
none_zero : {a b : ℕ} → IsGcd a b 0 → a + b ≡ 0
none_zero h = rw (eq-zero_of_zero-dvd h.left, eq-zero_of_zero-dvd h.right)

within : {a b g : ℕ} → IsGcd a b g → g ≤ a + b
within {a = zero} {b = zero} h = omega (arith, eq-zero_of_zero-dvd (h.most 0 (dvd-zero 0) (dvd-zero 0)))
within {a = zero} {b = suc b} h = omega (arith, le_of_dvd (zero-lt-suc b) h.right)
within {a = suc a} {b} h = omega (arith, le_of_dvd (zero-lt-suc a) h.left)

-- no common divisor is above g
none_above : {a b g k : ℕ} → IsGcd a b g → g < k → k ≤ a + b → k ∣ a → k ∣ b → ⊥
none_above {g = zero} h l m x y = omega (arith, none_zero h)
none_above {g = suc g} {k} h l m x y = omega (arith, le_of_dvd (zero-lt-suc g) (h.most k x y))

pub unique : {a b g : ℕ} → IsGcd a b g → gcd_of a b ≡ g
unfolding gcd_of
unique {a} {b} {g} h =
    greatest_is _ (a + b) g (within h)
    (λ _. both (divides_yes g a h.left) (divides_yes g b h.right))
    (λ k l m t. none_above h l m (divides_dvd k a (first (divides k a) (divides k b) t)) (divides_dvd k b (second (divides k a) (divides k b) t)))

-- ---- the laws

-- it divides both, and every common divisor divides it
pub is_gcd : (a b : ℕ) → IsGcd a b (gcd_of a b)
is_gcd a b =
    let r = some b a b (le_refl b) in
    rw (unique r.1) r.1

pub gcd_pos : (a b : ℕ) → 0 < a + b → 0 < gcd_of a b
gcd_pos a b h =
    ⊎_elim (λ (e : gcd_of a b ≡ 0). let z : IsGcd a b 0 = rw e at (is_gcd a b) in omega (arith, none_zero z)) (λ l. l) (eq-zero-or-pos (gcd_of a b))

-- it is the greatest
pub is_greatest : (a b d : ℕ) → 0 < a + b → d ∣ a → d ∣ b → d ≤ gcd_of a b
is_greatest a b d h x y = le_of_dvd (gcd_pos a b h) ((is_gcd a b).most d x y)

-- Euclid's step
pub euclid : (a b : ℕ) → gcd_of a b ≡ gcd_of b (a % b)
euclid a b = unique (gcd_step (is_gcd b (a % b)))

pub gcd_zero : (a : ℕ) → gcd_of a 0 ≡ a
gcd_zero a = unique (gcd_base a)

-- what remainders keep holds of the greatest common divisor
module _ (P : ℕ → Type 0) (keeps : (a b : ℕ) → P a → P b → P (a % b)) where
  closed_by : (f a b : ℕ) → b ≤ f → P a → P b → P (gcd_of a b)
  closed_by zero a b h x y = let e : b ≡ 0 = omega arith in rw (e, gcd_zero) x
  closed_by (suc f) a b h x y =
      ⊎_elim
      (λ (e : b ≡ 0). rw (e, gcd_zero) x)
      (λ (l : 0 < b). rw (euclid a b) (closed_by f b (a % b) (omega (arith, mod-lt a l)) y (keeps a b x y)))
      (eq-zero-or-pos b)

  pub closed : (a b : ℕ) → P a → P b → P (gcd_of a b)
  closed a b x y = closed_by b a b (le_refl b) x y

-- ---- products

pub quotient_dvd : (n f : ℕ) → f ∣ n → n / f ∣ n
quotient_dvd n f h = rw (div-mul_cancel f h) at (dvd-mul_right (n / f) f)

-- what divides x * u and x * w divides x * (u % w)
dvd_mul_mod : (n x u w : ℕ) → n ∣ x * u → n ∣ x * w → n ∣ x * (u % w)
dvd_mul_mod n x u w h k = rw (mod_def, mul-sub, ← mul_assoc) (dvd-sub n h (dvd-mul_right_of_dvd n k (u / w)))

-- what divides x * a and x * b divides x * gcd
pub dvd_mul_gcd : (n x a b : ℕ) → n ∣ x * a → n ∣ x * b → n ∣ x * gcd_of a b
dvd_mul_gcd n x a b h k = closed (λ y. n ∣ x * y) (λ u w. dvd_mul_mod n x u w) a b h k

-- a factor with no divisor in common is left out
pub coprime : (k f x : ℕ) → gcd_of k f ≡ 1 → k ∣ x * f → k ∣ x
coprime k f x e h =
    let q : k ∣ x * 1 = rw e at (dvd_mul_gcd k x k f (dvd-mul_left k x) h) in
    rw mul-one at q

-- ---- the least common multiple

-- m is a multiple of a and b, and divides every multiple of a and b
pub record IsLcm (a b m : ℕ) : Type 0 where
  pub left : a ∣ m
  pub right : b ∣ m
  pub most : (x : ℕ) → a ∣ x → b ∣ x → m ∣ x

module _ (a b : ℕ) (pa : 1 ≤ a) (pb : 1 ≤ b) where
  pub pos : 0 < gcd_of a b
  pos = gcd_pos a b (omega arith)

  -- a / gcd * b is a * (b / gcd)
  turn : a * (b / gcd_of a b) ≡ a / gcd_of a b * b
  turn =
      let g = gcd_of a b in
      ap (λ (x : ℕ). x * (b / g)) (sym (div-mul_cancel g (is_gcd a b).left))
      ∙ mul_assoc (a / g) g (b / g)
      ∙ ap (λ (x : ℕ). a / g * x) (mul-div_cancel' g (is_gcd a b).right)

  -- the product, with the divisor put back
  whole : a * b ≡ a / gcd_of a b * b * gcd_of a b
  whole = rw (mul_right_comm, div-mul_cancel (gcd_of a b) (is_gcd a b).left)

  pub is_lcm : IsLcm a b (a / gcd_of a b * b)
  is_lcm =
      record {
        left = rw (← turn) (dvd-mul_right a (b / gcd_of a b));
        right = dvd-mul_left b (a / gcd_of a b);
        most = λ x h k.
            dvd_of_mul-dvd-mul_right (a / gcd_of a b * b) pos
            (rw (← whole) (dvd_mul_gcd (a * b) x a b (rw (mul_comm x a) (mul-dvd-mul a b (dvd_refl a) k)) (mul-dvd-mul a b h (dvd_refl b))));
      }

  -- the search finds it
  pub lcm_is : lcm_of a b ≡ a / gcd_of a b * b
  unfolding lcm_of
  lcm_is =
      let h : a / gcd_of a b * b ∣ a * b = is_lcm.most (a * b) (dvd-mul_right a b) (dvd-mul_left b a) in
      let o : 0 < a * b = mul-pos pa pb in
      least_is _ (a * b) (a / gcd_of a b * b)
      (record {
        positive = pos_of_dvd_of_pos h o;
        within = le_of_dvd o h;
        yes = both (divides_yes a _ is_lcm.left) (divides_yes b _ is_lcm.right);
        below = λ k y l t. omega (arith, le_of_dvd y (is_lcm.most k (divides_dvd a k (first (divides a k) (divides b k) t)) (divides_dvd b k (second (divides a k) (divides b k) t))));
      })

  -- the law of the definition
  pub lcm_law : IsLcm a b (lcm_of a b)
  lcm_law = rw lcm_is is_lcm

-- every such number is the least common multiple
pub lcm_unique : (a b m : ℕ) → 1 ≤ a → 1 ≤ b → IsLcm a b m → lcm_of a b ≡ m
lcm_unique a b m pa pb h =
    let l = lcm_law a b pa pb in
    dvd_antisymm (l.most m h.left h.right) (h.most (lcm_of a b) l.left l.right)

pub lcm_pos : (a b : ℕ) → 1 ≤ a → 1 ≤ b → 1 ≤ lcm_of a b
lcm_pos a b pa pb =
    let h : lcm_of a b ∣ a * b = (lcm_law a b pa pb).most (a * b) (dvd-mul_right a b) (dvd-mul_left b a) in
    pos_of_dvd_of_pos h (mul-pos pa pb)

pub lcm_one : (a : ℕ) → 1 ≤ a → lcm_of a 1 ≡ a
lcm_one a pa = lcm_unique a 1 a pa (le_refl 1) (record { left = dvd_refl a; right = one-dvd a; most = λ x h k. h })

pub one_lcm : (a : ℕ) → 1 ≤ a → lcm_of 1 a ≡ a
one_lcm a pa = lcm_unique 1 a a (le_refl 1) pa (record { left = one-dvd a; right = dvd_refl a; most = λ x h k. k })

pub lcm_assoc : (a b c : ℕ) → 1 ≤ a → 1 ≤ b → 1 ≤ c → lcm_of (lcm_of a b) c ≡ lcm_of a (lcm_of b c)
lcm_assoc a b c pa pb pc =
    let ab = lcm_law a b pa pb in
    let bc = lcm_law b c pb pc in
    let r = lcm_law a (lcm_of b c) pa (lcm_pos b c pb pc) in
    lcm_unique (lcm_of a b) c (lcm_of a (lcm_of b c)) (lcm_pos a b pa pb) pc
    (record {
      left = ab.most _ r.left (dvd_trans b bc.left r.right);
      right = dvd_trans c bc.right r.right;
      most = λ x h k. r.most x (dvd_trans a ab.left h) (bc.most x (dvd_trans b ab.right h) k);
    })

-- ---- of a list

pub lcm_all_pos : (xs : List ℕ) → Each (λ x. 1 ≤ x) xs → 1 ≤ lcm_all xs
lcm_all_pos [] h = le_refl 1
lcm_all_pos (x ∷ xs) h = lcm_pos x (lcm_all xs) h.0 (lcm_all_pos xs h.1)

-- it divides every common multiple
pub lcm_all_most : (xs : List ℕ) (m : ℕ) → Each (λ x. 1 ≤ x) xs → Each (λ x. x ∣ m) xs → lcm_all xs ∣ m
lcm_all_most [] m p h = one-dvd m
lcm_all_most (x ∷ xs) m p h = (lcm_law x (lcm_all xs) p.0 (lcm_all_pos xs p.1)).most m h.0 (lcm_all_most xs m p.1 h.1)

-- and is one
pub lcm_all_multiple : (xs : List ℕ) → Each (λ x. 1 ≤ x) xs → Each (λ x. x ∣ lcm_all xs) xs
lcm_all_multiple [] p = tt
lcm_all_multiple (x ∷ xs) p =
    let l = lcm_law x (lcm_all xs) p.0 (lcm_all_pos xs p.1) in
    (l.left, each_then (λ y h. dvd_trans y h l.right) xs (lcm_all_multiple xs p.1))

-- one number more, as a loop takes it
pub lcm_all_snoc : (xs : List ℕ) (x : ℕ) → Each (λ y. 1 ≤ y) xs → 1 ≤ x → lcm_all (xs ++ (x ∷ [])) ≡ lcm_of (lcm_all xs) x
lcm_all_snoc [] x p h = lcm_one x h ∙ sym (one_lcm x h)
lcm_all_snoc (y ∷ xs) x p h = ap (lcm_of y) (lcm_all_snoc xs x p.1 h) ∙ sym (lcm_assoc y (lcm_all xs) x p.0 (lcm_all_pos xs p.1) h)
