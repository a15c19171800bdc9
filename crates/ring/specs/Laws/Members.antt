-- Laws of the elements of a list: some element of which a test holds, rising lists with the same elements, and a rising
-- list grouped by a function that does not fall.
-- Assumes nothing.
use Rattle.std.specs.Prelude.{◌≡◌, ℕ, zero, suc, ◌<◌, ◌≤◌, Bool, true, false, ◌||◌, ◌⊎◌, List, [], ◌∷◌, ◌++◌, map, ◌==◌, ◌≢◌, nat_eq, nat_lt}
use Rattle.std.proofs.Math.Path.{refl, sym}
use Rattle.std.proofs.Common.{ap, ◌∙◌, inl, inr, true≢false, append-nil, le_refl, le_antisymm, not-suc-le-zero, eq-eqb, eqb-true, ne_eqb, lt-ltb, le-ltb}
use Rattle.std.proofs.Math.Logic.{⊎_elim}
use Rattle.std.proofs.Math.Bool.{or_assoc}
use Rattle.std.proofs.Math.Decide.{ℕ_discrete, dec_lt}
use native.Mathlib.Omega.{arith}
use Rattle.ring.specs.Lists.{join, Each, Rising, some, among}
use Rattle.ring.specs.Searches.{only, below}
use Rattle.ring.specs.Laws.Searches.{lt_or_ge}
use Rattle.ring.specs.Laws.Lists.{join_append, each_then}
use Rattle.ring.specs.Laws.Below.{below_passes, below_rising}
use Rattle.ring.specs.Laws.Refusals.{either}

-- ---- some element of a list

pub some_append : {A : Type 0} (p : A → Bool) (xs ys : List A) → some p (xs ++ ys) ≡ (some p xs || some p ys)
some_append p [] ys = refl
some_append p (x ∷ xs) ys = rw (some_append p xs ys) (sym (or_assoc (p x) (some p xs) (some p ys)))

-- an element of which p holds
pub some_witness : {A : Type 0} (p : A → Bool) (xs : List A) → some p xs ≡ true → (x : A) × (p x ≡ true)
some_witness p [] e = absurd (true≢false (sym e))
some_witness {A} p (x ∷ xs) e = by (p x) refl (some_witness p xs)
  where
    by : (b : Bool) → p x ≡ b → (some p xs ≡ true → (y : A) × (p y ≡ true)) → (y : A) × (p y ≡ true)
    by true q ih = (x, q)
    by false q ih = ih (sym (ap (λ (b : Bool). b || some p xs) q) ∙ e)

-- ---- members of a list of numbers

pub one_of : (a b : Bool) → (a || b) ≡ true → (a ≡ true) ⊎ (b ≡ true)
one_of true b h = inl refl
one_of false b h = inr h

pub left : {a : Bool} (b : Bool) → a ≡ true → (a || b) ≡ true
left b h = rw h

pub right : (a : Bool) {b : Bool} → b ≡ true → (a || b) ≡ true
right true h = refl
right false h = h

pub among_head : (x : ℕ) (xs : List ℕ) → among x (x ∷ xs) ≡ true
among_head x xs = left (among x xs) (eq-eqb x x refl)

module _ (k : ℕ) where
  pub among_left : (xs ys : List ℕ) → among k xs ≡ true → among k (xs ++ ys) ≡ true
  among_left [] ys h = absurd (true≢false (sym h))
  among_left (x ∷ xs) ys h = ⊎_elim (λ a. left _ a) (λ a. right (x == k) (among_left xs ys a)) (one_of (x == k) _ h)

  pub among_right : (xs ys : List ℕ) → among k ys ≡ true → among k (xs ++ ys) ≡ true
  among_right [] ys h = h
  among_right (x ∷ xs) ys h = right (x == k) (among_right xs ys h)

  pub among_split : (xs ys : List ℕ) → among k (xs ++ ys) ≡ true → (among k xs ≡ true) ⊎ (among k ys ≡ true)
  among_split [] ys h = inr h
  among_split (x ∷ xs) ys h =
      ⊎_elim
      (λ a. inl (left (among k xs) a))
      (λ a. ⊎_elim (λ c. inl (right (x == k) c)) (λ c. inr c) (among_split xs ys a))
      (one_of (x == k) _ h)

  pub among_join : (f : ℕ → List ℕ) (x : ℕ) (xs : List ℕ) → among x xs ≡ true → among k (f x) ≡ true → among k (join f xs) ≡ true
  among_join f x [] h m = absurd (true≢false (sym h))
  among_join f x (y ∷ ys) h m =
      ⊎_elim
      (λ a. let e : x ≡ y = sym (eqb-true y x a) in among_left (f y) (join f ys) (rw (← e) m))
      (λ a. among_right (f y) (join f ys) (among_join f x ys a m))
      (one_of (y == x) _ h)

  pub among_joined : (f : ℕ → List ℕ) (xs : List ℕ) → among k (join f xs) ≡ true → (x : ℕ) × ((among x xs ≡ true) × (among k (f x) ≡ true))
  among_joined f [] h = absurd (true≢false (sym h))
  among_joined f (y ∷ ys) h =
      ⊎_elim
      (λ a. (y, (among_head y ys, a)))
      (λ a. let r = among_joined f ys a in (r.0, (right (y == r.0) r.1.0, r.1.1)))
      (among_split (f y) (join f ys) h)

  pub only_yes : (t : Bool) (x : ℕ) → among k (only t x) ≡ true → (t ≡ true) × (k ≡ x)
  only_yes true x h = (refl, ⊎_elim (λ a. sym (eqb-true x k a)) (λ a. absurd (true≢false (sym a))) (one_of (x == k) false h))
  only_yes false x h = absurd (true≢false (sym h))

  pub only_among : (t : Bool) → t ≡ true → among k (only t k) ≡ true
  only_among t e = rw e (among_head k [])

  module _ (p : ℕ → Bool) where
    pub among_below : (n : ℕ) → k < n → p k ≡ true → among k (below p n) ≡ true
    unfolding below
    among_below zero l h = absurd (not-suc-le-zero l)
    among_below (suc n) l h =
        ⊎_elim
        (λ m. among_left (below p n) (only (p n) n) (among_below n m h))
        (λ m. let e : k ≡ n = omega arith in among_right (below p n) (only (p n) n) (rw (← e) (only_among (p k) h)))
        (lt_or_ge k n)

    pub below_among : (n : ℕ) → among k (below p n) ≡ true → (k < n) × (p k ≡ true)
    unfolding below
    below_among zero h = absurd (true≢false (sym h))
    below_among (suc n) h =
        ⊎_elim
        (λ a. let r = below_among n a in (omega (arith, r.0), r.1))
        (λ a. let r = only_yes (p n) n a in let e : k ≡ n = r.1 in (omega (arith, e), rw e r.0))
        (among_split (below p n) (only (p n) n) h)

pub each_among : (P : ℕ → Type 0) (xs : List ℕ) → Each P xs → (k : ℕ) → among k xs ≡ true → P k
each_among P [] h k a = absurd (true≢false (sym a))
each_among P (x ∷ xs) h k a =
    ⊎_elim (λ c. let e : k ≡ x = sym (eqb-true x k c) in rw e h.0) (λ c. each_among P xs h.1 k c) (one_of (x == k) _ a)

pub among_each : (P : ℕ → Type 0) (xs : List ℕ) → ((k : ℕ) → among k xs ≡ true → P k) → Each P xs
among_each P [] f = tt
among_each P (x ∷ xs) f = (f x (among_head x xs), among_each P xs (λ k a. f k (right (x == k) a)))

pub among_rest : (x : ℕ) (xs : List ℕ) (k : ℕ) → (x ≢ k) → among k (x ∷ xs) ≡ true → among k xs ≡ true
among_rest x xs k n h = sym (ap (λ (b : Bool). b || among k xs) (ne_eqb x k n)) ∙ h

-- an element of which p holds is some element of which it does
pub among_some : (p : ℕ → Bool) (xs : List ℕ) (k : ℕ) → among k xs ≡ true → p k ≡ true → some p xs ≡ true
among_some p [] k h e = h
among_some p (x ∷ xs) k h e = ⊎_elim (λ a. let q : x ≡ k = eqb-true x k a in left {a = p x} (some p xs) (rw q e)) (λ a. right (p x) (among_some p xs k a e)) (one_of (x == k) _ h)

-- rising lists with the same elements are equal
pub rising_same : (xs ys : List ℕ) → Rising xs → Rising ys → ((k : ℕ) → among k xs ≡ true → among k ys ≡ true) → ((k : ℕ) → among k ys ≡ true → among k xs ≡ true) → xs ≡ ys
rising_same [] [] r q to from = refl
rising_same [] (y ∷ ys) r q to from = absurd (true≢false (sym (from y (among_head y ys))))
rising_same (x ∷ xs) [] r q to from = absurd (true≢false (sym (to x (among_head x xs))))
rising_same (x ∷ xs) (y ∷ ys) r q to from =
    let a : y ≤ x = each_among (λ k. y ≤ k) (y ∷ ys) (le_refl y, each_then (λ k l. omega arith) ys q.0) x (to x (among_head x xs)) in
    let b : x ≤ y = each_among (λ k. x ≤ k) (x ∷ xs) (le_refl x, each_then (λ k l. omega arith) xs r.0) y (from y (among_head y ys)) in
    let e : x ≡ y = le_antisymm b a in
    let rest : xs ≡ ys = rising_same xs ys r.1 q.1
    (λ k h. let l : x < k = each_among (λ k. x < k) xs r.0 k h in among_rest y ys k (λ i. omega arith) (to k (right (x == k) h)))
    (λ k h. let l : y < k = each_among (λ k. y < k) ys q.0 k h in among_rest x xs k (λ i. omega arith) (from k (right (y == k) h)))
    in
    cc (e, rest)

-- a rising list is the list of its elements
pub rising_below : (n : ℕ) (xs : List ℕ) → Rising xs → Each (λ k. k < n) xs → below (λ k. among k xs) n ≡ xs
rising_below n xs r l =
    rising_same (below (λ k. among k xs) n) xs (below_rising (λ k. among k xs) n) r
    (λ k h. each_among (λ k. among k xs ≡ true) (below (λ k. among k xs) n) (below_passes (λ k. among k xs) n) k h)
    (λ k h. among_below k (λ k. among k xs) n (each_among (λ k. k < n) xs l k h) h)

-- ---- a rising list grouped by a function that does not fall

module _ (f : ℕ → ℕ) (climbs : (j k : ℕ) → j < k → f j ≤ f k) (h : ℕ → ℕ) where
  -- h of the elements with f below m
  abbrev under : ℕ → List ℕ → List ℕ
  under m ks = join (λ k. only (nat_lt (f k) m) (h k)) ks

  abbrev group : List ℕ → ℕ → List ℕ
  group ks g = join (λ k. only (f k == g) (h k)) ks

  -- nothing is below m behind an element that is not
  under_none : (m x : ℕ) (ks : List ℕ) → m ≤ f x → Each (λ k. x < k) ks → under m ks ≡ []
  under_none m x [] l e = refl
  under_none m x (k ∷ ks) l e = rw (le-ltb (f k) m (omega (arith, climbs x k e.0))) (under_none m x ks l e.1)

  -- one group more
  under_suc : (m : ℕ) (ks : List ℕ) → Rising ks → under m ks ++ group ks m ≡ under (suc m) ks
  under_suc m [] r = refl
  under_suc m (k ∷ ks) r = by (under_suc m ks r.1) (dec_lt (f k) m) (ℕ_discrete (f k) m)
    where
      by : under m ks ++ group ks m ≡ under (suc m) ks → Dec (f k < m) → Dec (f k ≡ m) → under m (k ∷ ks) ++ group (k ∷ ks) m ≡ under (suc m) (k ∷ ks)
      by ih (yes l) d = rw (lt-ltb (f k) m l, ne_eqb (f k) m (λ e. omega arith), lt-ltb (f k) (suc m) (omega arith)) (ap (λ (t : List ℕ). h k ∷ t) ih)
      by ih (no n) (yes e) =
          let none : under m ks ≡ [] = under_none m k ks (omega arith) r.0 in
          let rest : group ks m ≡ under (suc m) ks = sym (ap (λ (t : List ℕ). t ++ group ks m) none) ∙ ih in
          rw (le-ltb (f k) m (omega arith), eq-eqb (f k) m e, lt-ltb (f k) (suc m) (omega arith), none) (ap (λ (t : List ℕ). h k ∷ t) rest)
      by ih (no n) (no d) =
          rw (le-ltb (f k) m (omega arith), ne_eqb (f k) m d, le-ltb (f k) (suc m) (omega arith)) ih

  group_none : (ks : List ℕ) (m : ℕ) → some (λ k. nat_eq (f k) m) ks ≡ false → group ks m ≡ []
  group_none [] m e = refl
  group_none (k ∷ ks) m e = let b = either (f k == m) (some (λ k. nat_eq (f k) m) ks) e in rw b.0 (group_none ks m b.1)

  group_only : (ks : List ℕ) (m : ℕ) (b : Bool) → some (λ k. nat_eq (f k) m) ks ≡ b → join (group ks) (only b m) ≡ group ks m
  group_only ks m true e = append-nil (group ks m)
  group_only ks m false e = sym (group_none ks m e)

  groups_under : (ks : List ℕ) → Rising ks → (m : ℕ) → join (group ks) (below (λ g. some (λ k. nat_eq (f k) g) ks) m) ≡ under m ks
  unfolding below
  groups_under ks r zero = sym (all_out ks)
    where
      all_out : (ks : List ℕ) → under 0 ks ≡ []
      all_out [] = refl
      all_out (k ∷ ks) = rw (le-ltb (f k) 0 (omega arith)) (all_out ks)
  groups_under ks r (suc m) =
      join_append (group ks) (below (λ g. some (λ k. nat_eq (f k) g) ks) m) (only (some (λ k. nat_eq (f k) m) ks) m)
      ∙ rw (groups_under ks r m, group_only ks m (some (λ k. nat_eq (f k) m) ks) refl) (under_suc m ks r)

  under_all : (m : ℕ) (ks : List ℕ) → Each (λ k. f k < m) ks → under m ks ≡ map h ks
  under_all m [] l = refl
  under_all m (k ∷ ks) l = rw (lt-ltb (f k) m l.0) (ap (λ (t : List ℕ). h k ∷ t) (under_all m ks l.1))

  -- the groups, one after the other, are the list
  pub groups : (m : ℕ) (ks : List ℕ) → Rising ks → Each (λ k. f k < m) ks
      → join (λ g. join (λ k. only (f k == g) (h k)) ks) (below (λ g. some (λ k. nat_eq (f k) g) ks) m) ≡ map h ks
  groups m ks r l = groups_under ks r m ∙ under_all m ks l
