-- Laws of top bits, of what clearing them meets, and of the closure: for any number of bits and any list of multiples.
-- Assumes nothing.
use Rattle.std.specs.Prelude.{ℕ, zero, suc, ◌*◌, ◌^◌, ◌≤◌, ◌<◌, ◌≡◌, refl, Bool, true, false, ◌⊎◌, List, ◌++◌, leb, eqb}
use Rattle.std.proofs.Common.{sym, subst, true≢false, inl, inr, ⊎_elim, not-suc-le-zero, le_refl, mul-lt-mul_of_pos_right, arith, eqb-true, leb-true, le-leb, pow_mono}
use Rattle.std.proofs.Math.Pow.{pow_pos}
use Rattle.ring.specs.Lists.{join, Each, Rising, among}
use Rattle.ring.specs.Laws.Searches.{by_false, lt_or_ge, greatest_is}
use Rattle.ring.specs.Laws.Lists.{rising_map}
use Rattle.ring.specs.Laws.Below.{below_ext, below_low, below_rising}
use Rattle.linear_transformation.specs.Closures.{top_bit, cleared, met_in, met, closure, baby_closure}
use Rattle.ring.specs.Laws.Members.{one_of, right, among_head, among_left, among_right, among_split, among_join, among_joined, among_below, below_among, each_among, among_each}

-- ---- the top bit

pub above : (n : ℕ) → n < 2 ^ n
above zero = pow_pos 0
above (suc n) = omega (arith, above n)

-- a number of at least 2^i and below 2^(i+1) has its top bit at i
pub top_unique : (k i : ℕ) → 2 ^ i ≤ k → k < 2 ^ suc i → top_bit k ≡ i
unfolding top_bit
top_unique k i l h =
    greatest_is (λ j. leb (2 ^ j) k) k i (omega (arith, above i))
    (λ p. le-leb (2 ^ i) k l)
    (λ j a b t. omega (arith, leb-true (2 ^ j) k t, pow_mono {i = suc i} {j = j} a))

record Top (k i : ℕ) : Type 0 where
  low : 2 ^ i ≤ k
  high : k < 2 ^ suc i

find : (n k : ℕ) → 1 ≤ k → k < 2 ^ n → (i : ℕ) × Top k i
find zero k p h = absurd (omega arith)
find (suc n) k p h = ⊎_elim (λ l. find n k p l) (λ l. (n, record { low = l; high = h })) (lt_or_ge k (2 ^ n))

module _ (k : ℕ) (p : 1 ≤ k) where
  top : Top k (top_bit k)
  top = let f = find k k p (above k) in rw (top_unique k f.0 f.1.low f.1.high) f.1

  pub top_low : 2 ^ top_bit k ≤ k
  top_low = top.low

  pub top_high : k < 2 ^ suc (top_bit k)
  top_high = top.high

  -- clearing the top bit lowers k, below the bit itself
  pub cleared_lower : cleared k < k
  unfolding cleared
  cleared_lower = omega (arith, top_low, pow_pos (top_bit k))

  pub cleared_low : cleared k < 2 ^ top_bit k
  unfolding cleared
  cleared_low = omega (arith, top_low, top_high)

  -- what fits in b bits has its top bit among them
  pub top_within : (b : ℕ) → k < 2 ^ b → top_bit k < b
  top_within b h = ⊎_elim (λ l. l) (λ l. absurd (omega (arith, top_low, pow_mono {i = b} {j = top_bit k} l))) (lt_or_ge (top_bit k) b)

-- the top bits fall
pub top_falls : (k : ℕ) → 1 ≤ k → 1 ≤ cleared k → top_bit (cleared k) < top_bit k
top_falls k p q = top_within (cleared k) q (top_bit k) (cleared_low k p)

-- two tests that say yes of the same
same : {a b : Bool} → (a ≡ true → b ≡ true) → (b ≡ true → a ≡ true) → a ≡ b
same {a = true} f g = sym (f refl)
same {a = false} f g = sym (by_false (λ h. true≢false (sym (g h))))

-- ---- clearing top bits

own_in : (n k : ℕ) → 1 ≤ n → 1 ≤ k → among k (met_in n k) ≡ true
unfolding met_in
own_in zero k p q = absurd (not-suc-le-zero p)
own_in (suc n) zero p q = absurd (not-suc-le-zero q)
own_in (suc n) (suc k) p q = among_head (suc k) (met_in n (cleared (suc k)))

-- k is met from k
pub met_own : (k : ℕ) → 1 ≤ k → among k (met k) ≡ true
met_own k p = own_in k k p p

cleared_in : (n k m : ℕ) → k ≤ n → among m (met_in n k) ≡ true → 1 ≤ cleared m → among (cleared m) (met_in n k) ≡ true
unfolding met_in
cleared_in zero k m l h q = absurd (true≢false (sym h))
cleared_in (suc n) zero m l h q = absurd (true≢false (sym h))
cleared_in (suc n) (suc k) m l h q =
    let d = cleared_lower (suc k) (omega arith) in
    right (eqb (suc k) (cleared m))
    (⊎_elim
    (λ a. let e : m ≡ suc k = sym (eqb-true (suc k) m a) in let o : 1 ≤ cleared (suc k) = rw (← e) q in subst (λ (x : ℕ). among (cleared x) (met_in n (cleared (suc k))) ≡ true) (sym e) (own_in n (cleared (suc k)) (omega arith) o))
    (λ a. cleared_in n (cleared (suc k)) m (omega arith) a q)
    (one_of (eqb (suc k) m) _ h))

-- what is met, with its top bit cleared, is met too, unless it is 0
pub met_cleared : (k m : ℕ) → among m (met k) ≡ true → 1 ≤ cleared m → among (cleared m) (met k) ≡ true
met_cleared k m h q = cleared_in k k m (le_refl k) h q

-- what is met is not 0
pub met_positive : (n k m : ℕ) → among m (met_in n k) ≡ true → 1 ≤ m
unfolding met_in
met_positive zero k m h = absurd (true≢false (sym h))
met_positive (suc n) zero m h = absurd (true≢false (sym h))
met_positive (suc n) (suc k) m h =
    ⊎_elim (λ a. omega (arith, eqb-true (suc k) m a)) (λ a. met_positive n (cleared (suc k)) m a) (one_of (eqb (suc k) m) _ h)

-- what holds of k, and goes on to hold when a top bit is cleared, holds of all that is met from k
pub met_least : (P : ℕ → Type 0) → ((k : ℕ) → P k → 1 ≤ cleared k → P (cleared k)) → (n k : ℕ) → (1 ≤ k → P k) → Each P (met_in n k)
unfolding met_in
met_least P c zero k h = tt
met_least P c (suc n) zero h = tt
met_least P c (suc n) (suc k) h =
    let x = h (omega arith) in
    (x, met_least P c n (cleared (suc k)) (λ q. c (suc k) x q))

-- ---- the closure

-- a list that has, with each number, that number with its top bit cleared, if it is not 0
abbrev pub Closed : List ℕ → Type 0
Closed cs = (k : ℕ) → among k cs ≡ true → 1 ≤ cleared k → among (cleared k) cs ≡ true

pub positive : (k : ℕ) → 1 ≤ cleared k → 1 ≤ k
unfolding cleared
positive k h = omega arith

module _ (b : ℕ) (ks : List ℕ) where
  pub closure_has : (m : ℕ) → m < 2 ^ b → among m (ks ++ join met ks) ≡ true → among m (closure b ks) ≡ true
  unfolding closure
  closure_has m l h = among_below m (λ k. among k (ks ++ join met ks)) (2 ^ b) l h

  pub closure_only : (m : ℕ) → among m (closure b ks) ≡ true → (m < 2 ^ b) × (among m (ks ++ join met ks) ≡ true)
  unfolding closure
  closure_only m h = below_among m (λ k. among k (ks ++ join met ks)) (2 ^ b) h

  -- its members fit in b bits and rise
  pub closure_low : Each (λ k. k < 2 ^ b) (closure b ks)
  unfolding closure
  closure_low = below_low (λ k. among k (ks ++ join met ks)) (2 ^ b)

  pub closure_rising : Rising (closure b ks)
  unfolding closure
  closure_rising = below_rising (λ k. among k (ks ++ join met ks)) (2 ^ b)

  -- the listed are in it
  pub closure_listed : Each (λ k. k < 2 ^ b) ks → Each (λ k. among k (closure b ks) ≡ true) ks
  closure_listed l =
      among_each (λ k. among k (closure b ks) ≡ true) ks (λ k a. closure_has k (each_among (λ k. k < 2 ^ b) ks l k a) (among_left k ks (join met ks) a))

  cleared_met : (m : ℕ) → 1 ≤ cleared m → among m (ks ++ join met ks) ≡ true → among (cleared m) (join met ks) ≡ true
  cleared_met m q h =
      ⊎_elim
      (λ a. among_join (cleared m) met m ks a (met_cleared m m (met_own m (positive m q)) q))
      (λ a. let r = among_joined m met ks a in among_join (cleared m) met r.0 ks r.1.0 (met_cleared r.0 m r.1.1 q))
      (among_split m ks (join met ks) h)

  -- clearing top bits stays in it
  pub closure_closed : Closed (closure b ks)
  closure_closed m h q =
      let r = closure_only m h in
      closure_has (cleared m) (omega (arith, r.0, cleared_lower m (positive m q))) (among_right (cleared m) ks (join met ks) (cleared_met m q r.1))

  -- and whatever has the listed and is closed under clearing top bits contains it
  pub closure_least : (P : ℕ → Type 0) → ((k : ℕ) → P k → 1 ≤ cleared k → P (cleared k)) → Each P ks → Each P (closure b ks)
  closure_least P c l = among_each P (closure b ks) (λ m h. by m (among_split m ks (join met ks) (closure_only m h).1))
    where
      by : (m : ℕ) → (among m ks ≡ true) ⊎ (among m (join met ks) ≡ true) → P m
      by m (inl a) = each_among P ks l m a
      by m (inr a) =
          let r = among_joined m met ks a in
          each_among P (met r.0) (met_least P c r.0 r.0 (λ q. each_among P ks l r.0 r.1.0)) m r.1.1

  -- so no member is above the largest listed
  pub closure_within : (n : ℕ) → Each (λ k. k ≤ n) ks → Each (λ k. k ≤ n) (closure b ks)
  closure_within n l = closure_least (λ k. k ≤ n) (λ k h q. omega (arith, cleared_lower k (positive k q))) l

  -- 0 is in it only if it is listed
  pub closure_zero : among 0 (closure b ks) ≡ true → among 0 ks ≡ true
  closure_zero h =
      ⊎_elim
      (λ a. a)
      (λ a. let r = among_joined 0 met ks a in absurd (not-suc-le-zero (met_positive r.0 r.0 0 r.1.1)))
      (among_split 0 ks (join met ks) (closure_only 0 h).1)

closure_ext : (b : ℕ) (cs ks : List ℕ) → ((k : ℕ) → k < 2 ^ b → among k (cs ++ join met cs) ≡ among k (ks ++ join met ks)) → closure b cs ≡ closure b ks
unfolding closure
closure_ext b cs ks h = below_ext (λ k. among k (cs ++ join met cs)) (λ k. among k (ks ++ join met ks)) (2 ^ b) h

-- the closure of the closure is the closure
pub closure_closure : (b : ℕ) (ks : List ℕ) → closure b (closure b ks) ≡ closure b ks
closure_closure b ks =
    closure_ext b (closure b ks) ks
    (λ k l. same
    (λ h. (closure_only b ks k (each_among Within (closure b (closure b ks)) within k (closure_has b (closure b ks) k l h))).1)
    (λ h. among_left k (closure b ks) (join met (closure b ks)) (closure_has b ks k l h)))
  where
    Within : ℕ → Type 0
    Within m = among m (closure b ks) ≡ true

    within : Each Within (closure b (closure b ks))
    within = closure_least b (closure b ks) Within (closure_closed b ks) (among_each Within (closure b ks) (λ m a. a))

-- the babies of the closure rise too
pub babies_rising : (b step : ℕ) (ks : List ℕ) → 1 ≤ step → Rising (baby_closure b step ks)
babies_rising b step ks p = rising_map (λ k. k * step) (λ x y l. mul-lt-mul_of_pos_right l p) (closure b ks) (closure_rising b ks)
