-- Laws of the best width: the smallest gap, the candidates, and the last of the cheapest.
-- Assumes nothing.
use Rattle.linear_transformation.specs.Steps.Widths.{Narrowest}
use Rattle.std.specs.Prelude.{ℕ, zero, suc, ◌+◌, ◌-◌, ◌≤◌, ◌<◌, ◌≡◌, refl, Bool, true, false, not, ◌&&◌, ◌||◌, List, [], ◌∷◌, ◌⊎◌, leb, length}
use Rattle.std.specs.Int.{◌∣◌}
use Rattle.std.proofs.Math.Bool.{Bool-discrete}
use Rattle.std.proofs.Common.{inl, inr, ⊎_elim, le_refl, le_of_lt, le_of_suc-le-suc, not-suc-le-zero, add-one, arith}
use Rattle.std.proofs.Math.Nat.{dvd_refl}
use borrow.Author.Tests.{eqb-true, lt-ltb, ltb-true, le-leb, leb-true}
use Rattle.std.proofs.Math.Dec.{eqb, ltb}
use Rattle.ring.specs.Divisors.{divides}
use Rattle.ring.specs.Lists.{Each, Rising, some, among}
use Rattle.ring.specs.Searches.{greatest, every}
use Rattle.ring.specs.Laws.Lists.{each_then}
use Rattle.ring.specs.Laws.Divisors.{divides_yes, divides_dvd}
use Rattle.ring.specs.Laws.Searches.{by_false, both, first, second, lt_or_ge, Found, greatest_is, least_is, least_found, every_at, every_all}
use Rattle.linear_transformation.specs.Plans.{baby_of, Planned, Distinct}
use Rattle.linear_transformation.specs.Widths.{gaps, smallest_gap, own_babies, cost, candidate, cheapest, best_width}
use Rattle.ring.specs.Laws.Members.{among_head, each_among}
use Rattle.linear_transformation.specs.Laws.Plans.{baby_le}
use Rattle.linear_transformation.specs.Laws.Runs.{below_between, some_member, giants_bound}

pub distinct_planned : {slots : ℕ} {ds : List ℕ} → Distinct slots ds → (width : ℕ) → 0 < width → Planned slots width ds
distinct_planned d width w = record { rises = d.rises; low = d.low; positive = w }

pub distinct_bound : {slots n : ℕ} {ds : List ℕ} → Distinct slots ds → slots ≤ n → Distinct n ds
distinct_bound {ds} d l = record { rises = d.rises; low = each_then (λ k h. omega arith) ds d.low }

-- ---- the last of the numbers where a function is least

-- w is the last of those numbers below n with p where f is least
pub record LastLeast (p : ℕ → Bool) (f : ℕ → ℕ) (n w : ℕ) : Type 0 where
  pub within : w < n
  pub is : p w ≡ true
  pub least : (v : ℕ) → v < n → p v ≡ true → f w ≤ f v
  pub last : (v : ℕ) → w < v → v < n → p v ≡ true → f w < f v

module _ {p : ℕ → Bool} {f : ℕ → ℕ} where
  -- the first number with p
  pub last_first : {n : ℕ} → p n ≡ true → ((v : ℕ) → v < n → p v ≡ true → ⊥) → LastLeast p f (n + 1) n
  last_first {n} e none =
      record {
        within = omega arith;
        is = e;
        least = λ v u q. ⊎_elim (λ a. absurd (none v a q)) (λ a. let i : v ≡ n = omega arith in rw i (le_refl (f n))) (lt_or_ge v n);
        last = λ v k u q. omega arith;
      }

  module _ {n w : ℕ} (s : LastLeast p f n w) where
    -- a tie goes to the later
    pub last_yes : p n ≡ true → f n ≤ f w → LastLeast p f (n + 1) n
    last_yes e l =
        record {
          within = omega arith;
          is = e;
          least = λ v u q. ⊎_elim (λ a. omega (arith, s.least v a q)) (λ a. let i : v ≡ n = omega arith in rw i (le_refl (f n))) (lt_or_ge v n);
          last = λ v k u q. omega arith;
        }

    pub last_no : f w < f n → LastLeast p f (n + 1) w
    last_no l =
        record {
          within = omega (arith, s.within);
          is = s.is;
          least = λ v u q. ⊎_elim (λ a. s.least v a q) (λ a. let i : v ≡ n = omega arith in rw i (le_of_lt l)) (lt_or_ge v n);
          last = λ v k u q. ⊎_elim (λ a. s.last v k a q) (λ a. let i : v ≡ n = omega arith in rw i l) (lt_or_ge v n);
        }

    -- numbers without p change nothing
    pub last_skip : (m : ℕ) → n ≤ m → ((v : ℕ) → n ≤ v → v < m → p v ≡ true → ⊥) → LastLeast p f m w
    last_skip m l none =
        record {
          within = omega (arith, s.within);
          is = s.is;
          least = λ v u q. ⊎_elim (λ a. s.least v a q) (λ a. absurd (none v a u q)) (lt_or_ge v n);
          last = λ v k u q. ⊎_elim (λ a. s.last v k a q) (λ a. absurd (none v a u q)) (lt_or_ge v n);
        }

module _ (p : ℕ → Bool) (f : ℕ → ℕ) where
  seek_more : (n : ℕ) → ((w : ℕ) × LastLeast p f n w) ⊎ ((v : ℕ) → v < n → p v ≡ true → ⊥) → Dec (p n ≡ true) → ((w : ℕ) × LastLeast p f (n + 1) w) ⊎ ((v : ℕ) → v < n + 1 → p v ≡ true → ⊥)
  seek_more n (inl r) (yes e) = ⊎_elim (λ l. inl (r.0, last_no r.1 l)) (λ l. inl (n, last_yes r.1 e l)) (lt_or_ge (f r.0) (f n))
  seek_more n (inl r) (no q) = inl (r.0, last_skip r.1 (n + 1) (omega arith) (λ v a b e. let i : v ≡ n = omega arith in q (rw i at e)))
  seek_more n (inr none) (yes e) = inl (n, last_first e none)
  seek_more n (inr none) (no q) = inr (λ v u e. ⊎_elim (λ a. none v a e) (λ a. let i : v ≡ n = omega arith in q (rw i at e)) (lt_or_ge v n))

  seek : (n : ℕ) → ((w : ℕ) × LastLeast p f n w) ⊎ ((v : ℕ) → v < n → p v ≡ true → ⊥)
  seek zero = inr (λ v u e. omega arith)
  seek (suc n) = rw (← add-one) (seek_more n (seek n) (Bool-discrete (p n) true))

  -- where some number has p, there is such a number
  pub last_found : (n k : ℕ) → k < n → p k ≡ true → (w : ℕ) × LastLeast p f n w
  last_found n k l e = ⊎_elim (λ r. r) (λ none. absurd (none k l e)) (seek n)

  no_dearer : (w v : ℕ) (b : Bool) → p v ≡ b → (b ≡ true → f w ≤ f v) → (not (p v) || leb (f w) (f v)) ≡ true
  no_dearer w v true e h = rw (e, le-leb (f w) (f v) (h refl))
  no_dearer w v false e h = rw e

  -- the search finds it
  pub last_is : (n w : ℕ) → ((v : ℕ) → p v ≡ true → v < n) → LastLeast p f n w → greatest (λ w. p w && every (λ v. not (p v) || leb (f w) (f v)) n) n ≡ w
  last_is n w low s =
      greatest_is (λ w. p w && every (λ v. not (p v) || leb (f w) (f v)) n) n w (omega (arith, s.within))
      (λ l. both s.is (every_all (λ v. not (p v) || leb (f w) (f v)) n (λ v u. no_dearer w v (p v) refl (λ e. s.least v u e))))
      (λ k a b e.
      let pk : p k ≡ true = first (p k) (every (λ v. not (p v) || leb (f k) (f v)) n) e in
      let at-w : (not (p w) || leb (f k) (f w)) ≡ true = every_at (λ v. not (p v) || leb (f k) (f v)) n (second (p k) (every (λ v. not (p v) || leb (f k) (f v)) n) e) w s.within in
      let cheap : leb (f k) (f w) ≡ true = rw s.is at at-w in
      omega (arith, leb-true (f k) (f w) cheap, s.last k a (low k pk) pk))

-- ---- the smallest gap

pub gaps_positive : (ds : List ℕ) → Rising ds → Each (λ g. 1 ≤ g) (gaps ds)
gaps_positive [] r = tt
gaps_positive (x ∷ []) r = tt
gaps_positive (x ∷ y ∷ zs) r = (omega (arith, r.0.0), gaps_positive (y ∷ zs) r.1)

pub gaps_low : {slots : ℕ} (ds : List ℕ) → 0 < slots → Each (λ k. k < slots) ds → Each (λ g. g < slots) (gaps ds)
gaps_low [] s l = tt
gaps_low (x ∷ []) s l = tt
gaps_low (x ∷ y ∷ zs) s l = (omega (arith, l.1.0), gaps_low (y ∷ zs) s l.1)

-- two diagonals have a gap
some_gap : (ds : List ℕ) → 2 ≤ length ds → (g : ℕ) × (among g (gaps ds) ≡ true)
some_gap [] l = absurd (not-suc-le-zero l)
some_gap (x ∷ []) l = absurd (not-suc-le-zero (le_of_suc-le-suc l))
some_gap (x ∷ y ∷ zs) l = (y - x, among_head (y - x) (gaps (y ∷ zs)))

module _ {slots : ℕ} {ds : List ℕ} where
  pub smallest_is : {g : ℕ} → Narrowest ds g → g ≤ slots → smallest_gap slots ds ≡ g
  unfolding smallest_gap
  smallest_is {g} s l =
      least_is (λ g. among g (gaps ds)) slots g
      (record { positive = s.positive; within = l; yes = s.there; below = λ k a b e. omega (arith, s.smallest k e) })

  module _ (d : Distinct slots ds) (several : 2 ≤ length ds) where
    gap_range : (g : ℕ) → among g (gaps ds) ≡ true → (1 ≤ g) × (g < slots)
    gap_range g a =
        let x : 1 ≤ g = each_among (λ g. 1 ≤ g) (gaps ds) (gaps_positive ds d.rises) g a in
        (x, each_among (λ g. g < slots) (gaps ds) (gaps_low ds (positive_slots ds several d.low) d.low) g a)
      where
        positive_slots : (ks : List ℕ) → 2 ≤ length ks → Each (λ k. k < slots) ks → 0 < slots
        positive_slots [] l e = omega arith
        positive_slots (k ∷ ks) l e = omega (arith, e.0)

    found : Found (λ g. among g (gaps ds)) slots (smallest_gap slots ds)
    unfolding smallest_gap
    found =
        let x = some_gap ds several in
        let r = gap_range x.0 x.1 in
        least_found (λ g. among g (gaps ds)) slots x.0 r.0 (omega (arith, r.1)) x.1

    -- it is a gap, positive, and no gap is smaller
    pub smallest_found : Narrowest ds (smallest_gap slots ds)
    smallest_found =
        record {
          positive = found.positive;
          there = found.yes;
          smallest = λ h a. ⊎_elim (λ l. absurd (found.below h (gap_range h a).0 l a)) (λ l. l) (lt_or_ge h (smallest_gap slots ds));
        }

    pub smallest_low : smallest_gap slots ds < slots
    smallest_low = (gap_range (smallest_gap slots ds) found.yes).1

-- ---- candidates

pub record Candidate (slots : ℕ) (ds : List ℕ) (w : ℕ) : Type 0 where
  pub positive : 0 < w
  pub low : w < slots
  pub multiple : smallest_gap slots ds ∣ w

module _ (slots : ℕ) (ds : List ℕ) (w : ℕ) where
  pub candidate_yes : Candidate slots ds w → candidate slots ds w ≡ true
  unfolding candidate
  candidate_yes c = both (both (lt-ltb 0 w c.positive) (lt-ltb w slots c.low)) (divides_yes (smallest_gap slots ds) w c.multiple)

  pub candidate_is : candidate slots ds w ≡ true → Candidate slots ds w
  unfolding candidate
  candidate_is e =
      let r = first (ltb 0 w && ltb w slots) (divides (smallest_gap slots ds) w) e in
      record {
        positive = ltb-true 0 w (first (ltb 0 w) (ltb w slots) r);
        low = ltb-true w slots (second (ltb 0 w) (ltb w slots) r);
        multiple = divides_dvd (smallest_gap slots ds) w (second (ltb 0 w && ltb w slots) (divides (smallest_gap slots ds) w) e);
      }

-- ---- the best width

-- of one or no diagonal
pub best_few : (slots : ℕ) (ds : List ℕ) → length ds < 2 → best_width slots ds ≡ 1
unfolding best_width
best_few slots [] l = refl
best_few slots (k ∷ []) l = refl
best_few slots (k ∷ j ∷ ks) l = omega arith

-- the last of the cheapest candidates
abbrev pub Best : ℕ → List ℕ → ℕ → Type 0
Best slots ds w = LastLeast (candidate slots ds) (cost slots ds) slots w

-- no other width is that
pub best_is : (slots : ℕ) (ds : List ℕ) (w : ℕ) → 2 ≤ length ds → Best slots ds w → best_width slots ds ≡ w
unfolding best_width cheapest
best_is slots [] w l s = omega arith
best_is slots (k ∷ []) w l s = omega arith
best_is slots (k ∷ j ∷ ks) w l s =
    last_is (candidate slots (k ∷ j ∷ ks)) (cost slots (k ∷ j ∷ ks)) slots w (λ v e. (candidate_is slots (k ∷ j ∷ ks) v e).low) s

module _ {slots : ℕ} {ds : List ℕ} (d : Distinct slots ds) (several : 2 ≤ length ds) where
  pub gap_candidate : candidate slots ds (smallest_gap slots ds) ≡ true
  gap_candidate =
      candidate_yes slots ds (smallest_gap slots ds)
      (record { positive = (smallest_found d several).positive; low = smallest_low d several; multiple = dvd_refl (smallest_gap slots ds) })

  pub best_found : Best slots ds (best_width slots ds)
  best_found =
      let r = last_found (candidate slots ds) (cost slots ds) slots (smallest_gap slots ds) (smallest_low d several) gap_candidate in
      rw (best_is slots ds r.0 several r.1) r.1

  pub best_candidate : candidate slots ds (best_width slots ds) ≡ true
  best_candidate = best_found.is

  pub best_cheapest : (v : ℕ) → candidate slots ds v ≡ true → cost slots ds (best_width slots ds) ≤ cost slots ds v
  best_cheapest v e = best_found.least v (candidate_is slots ds v e).low e

  pub best_last : (v : ℕ) → candidate slots ds v ≡ true → best_width slots ds < v → cost slots ds (best_width slots ds) < cost slots ds v
  best_last v e l = best_found.last v l (candidate_is slots ds v e).low e

-- ---- any bound above the diagonals

module _ {slots : ℕ} {ds : List ℕ} (d : Distinct slots ds) (n : ℕ) (l : slots ≤ n) (width : ℕ) where
  own_bound : own_babies n width ds ≡ own_babies slots width ds
  unfolding own_babies
  own_bound =
      below_between (λ b. some (λ k. eqb (baby_of width k) b) ds) slots n l
      (λ b a u. by_false (λ e. let x = some_member (λ k. eqb (baby_of width k) b) ds e in omega (arith, eqb-true (baby_of width x.0) b x.1.1, baby_le width x.0, each_among (λ k. k < slots) ds d.low x.0 x.1.0)))

  pub cost_bound : 0 < width → cost n ds width ≡ cost slots ds width
  unfolding cost
  cost_bound w = rw (own_bound, giants_bound (distinct_planned d width w) n l)
