-- The tables of the babies' multiples: what each loop keeps, a turn, and the end.
-- Assumes nothing.
use Prim.Native.Nat.{ℕ, zero, suc, ◌+◌, ◌-◌, ◌*◌, ◌/◌, ◌%◌, ◌^◌, ◌≤◌, ◌<◌, min, max}
use mathlib.Core.Path.{◌≡◌, refl, sym, ap, subst, ◌∙◌}
use mathlib.Core.Bool.{Bool, true, false, not, ◌||◌, true≢false, or-true, or-false}
use mathlib.Core.Logic.{◌⊎◌, inl, inr, ⊎_elim}
use mathlib.Core.List.{List, [], ◌∷◌, map, map-append}
use native.Mathlib.Nat.{mul-le-mul, div-le_self, div-add-mod', le-min, min-le_left, min-le_right}
use lib.Pow.{pow_pos, pow_mono}
use native.Mathlib.Decide.{ℕ_discrete}
use native.Mathlib.Numerals.{add-one}
use native.Mathlib.Omega.{arith}
use borrow.Author.Tests.{eq-eqb, ne_eqb, eqb-true, ltb-false, not-false}
use lib.Dec.{eqb}
use lib.IntN.{ℤ, pos, negsuc, nat_abs}
use lib.Signed.{lt_z}
use mir.Syntax.{w64}
use mir.Val.{of_z, to_z}
use Rattle.std.specs.List.{list_any, range_with_len}
use Rattle.std.specs.Ordering.{ord_max, nat_cmp}
use lib.ListN.{length, get_or, set, take, length-set, length-map, get_or-map}
use lib.Seq.{get_or-set_same, get_or-set_other, take-suc, take_all}
use Rattle.ring.specs.Lists.{Each, among}
use Rattle.ring.specs.Vectors.{in_front}
use Rattle.ring.specs.Searches.{below}
use Rattle.ring.specs.Marks.{marks, Unmarked}
use Rattle.ring.specs.Divisors.{divides}
use Rattle.ring.specs.Laws.Lists.{each_at, each_map, each_then}
use Rattle.ring.specs.Laws.Vectors.{in_front_more}
use Rattle.ring.specs.Laws.Searches.{lt_or_ge, by_false}
use Rattle.ring.specs.Laws.Below.{below_yes, below_no, length_below_yes, below_le, below_before}
use Rattle.ring.specs.Laws.Refusals.{either}
use Rattle.ring.specs.Refusals.{Range}
use Rattle.linear_transformation.specs.Closures.{top_bit, cleared, targets, pass_rotations, non_empty}
use Rattle.linear_transformation.specs.Listed.{no_baby, baby_multiple, multiples_of}
use Rattle.linear_transformation.proofs.Writings.{writing_front}
use Rattle.linear_transformation.proofs.BabyChecks.{word_is}
use Rattle.linear_transformation.proofs.Signs.{max_is}
use Rattle.linear_transformation.specs.Steps.Babies.{Babies, Small, Folded, Clears, Closes, Marked, Enclosed}
use Rattle.ring.specs.Laws.Members.{some_append, one_of, left, right, among_below, below_among}
use Rattle.linear_transformation.specs.Laws.Closures.{top_unique, top_low, top_high, positive}
use Rattle.linear_transformation.specs.Laws.Stored.{some_target}
use Rattle.linear_transformation.specs.Laws.Passes.{target_is, is_target, rotations_are}
use Rattle.linear_transformation.specs.Laws.Tables.{agree, closes_below}
use Rattle.linear_transformation.specs.Steps.Tables.{Writing, Bounded, tops_of}

-- ---- one baby

-- the three tests that a baby passes
passes_tests : (z : ℤ) (step : ℕ) → no_baby z step ≡ false → Small z × (divides step (nat_abs z) ≡ true)
passes_tests z step h =
    let e = either (lt_z z (pos 0) || lt_z (pos 65535) z) (not (divides step (nat_abs z))) h in
    let f = either (lt_z z (pos 0)) (lt_z (pos 65535) z) e.0 in
    (record { low = f.0; high = f.1 }, not-false _ e.1)

pub small_of : (z : ℤ) (step : ℕ) → no_baby z step ≡ false → Small z
small_of z step h = (passes_tests z step h).0

-- a baby is its multiple times the step
pub times : (z : ℤ) (step : ℕ) → no_baby z step ≡ false → baby_multiple z step * step ≡ nat_abs z
times z step h =
    let d : nat_abs z % step ≡ 0 = eqb-true _ 0 (passes_tests z step h).1 in
    omega (arith, div-add-mod' (nat_abs z) step)

abs_low : (z : ℤ) → Small z → nat_abs z ≤ 65535
abs_low (pos n) s = ltb-false 65535 n s.high
abs_low (negsuc n) s = absurd (true≢false s.low)

-- the baby at t, as the code reads it
abbrev pub read : List ℤ → ℕ → ℕ
read bs t = nat_abs (to_z w64 (of_z w64 (get_or bs t (pos 0))))

module _ {step : ℕ} {bs : List ℤ} (b : Babies step bs) where
  pub multiples_low : Each (λ k. k < 65536) (multiples_of step bs)
  multiples_low =
      each_map (λ k. k < 65536) (λ z. baby_multiple z step) bs
      (each_then (λ z h. let l = abs_low z (small_of z step h) in omega (arith, div-le_self (nat_abs z) step)) bs b.each)

  module _ (t : ℕ) (l : t < length bs) where
    here : no_baby (get_or bs t (pos 0)) step ≡ false
    here = each_at (λ z. no_baby z step ≡ false) bs (pos 0) b.each t l

    pub small_at : Small (get_or bs t (pos 0))
    small_at = small_of (get_or bs t (pos 0)) step here

    pub word_at : read bs t ≡ nat_abs (get_or bs t (pos 0))
    word_at = word_is (get_or bs t (pos 0)) small_at

    pub baby_low : nat_abs (get_or bs t (pos 0)) ≤ 65535
    baby_low = abs_low (get_or bs t (pos 0)) small_at

    -- the multiple of the baby at t
    pub multiple_at : get_or (multiples_of step bs) t 0 ≡ nat_abs (get_or bs t (pos 0)) / step
    multiple_at = ap (get_or (multiples_of step bs) t) nothing ∙ get_or-map (λ z. baby_multiple z step) bs t (pos 0)
      where
        nothing : 0 ≡ baby_multiple (pos 0) step
        nothing = omega (arith, div-le_self 0 step)

    pub baby_is : nat_abs (get_or bs t (pos 0)) ≡ get_or (multiples_of step bs) t 0 * step
    baby_is = sym (rw multiple_at (times (get_or bs t (pos 0)) step here))

    pub multiple_low : get_or (multiples_of step bs) t 0 < 65536
    multiple_low = omega (arith, multiple_at, baby_low, div-le_self (nat_abs (get_or bs t (pos 0))) step)

pub baby_word : {step : ℕ} {bs : List ℤ} {t a : ℕ} → Babies step bs → t < length bs → a ≡ nat_abs (get_or bs t (pos 0)) → a < 2 ^ 32
baby_word {t} b l e = omega (arith, e, baby_low b t l)

-- ---- marks

module _ (seen : List Bool) (o : ℕ) (l : o < length seen) where
  set_marks : (k : ℕ) → marks (set seen o true) k ≡ (marks seen k || (eqb o k || false))
  set_marks k = by (ℕ_discrete o k)
    where
      by : Dec (o ≡ k) → marks (set seen o true) k ≡ (marks seen k || (eqb o k || false))
      by (yes e) = rw (← e, get_or-set_same seen o true false l, eq-eqb o o refl) (sym (or-true (marks seen o)))
      by (no n) = rw (get_or-set_other seen o k true false (λ q. n (sym q)), ne_eqb o k n) (sym (or-false (marks seen k)))

  set_keeps : (k : ℕ) → marks seen k ≡ true → marks (set seen o true) k ≡ true
  set_keeps k h = rw (set_marks k, h)

  set_own : marks (set seen o true) o ≡ true
  set_own = get_or-set_same seen o true false l

  set_only : (k : ℕ) → marks (set seen o true) k ≡ true → (marks seen k ≡ true) ⊎ (k ≡ o)
  set_only k h = by (ℕ_discrete k o)
    where
      by : Dec (k ≡ o) → (marks seen k ≡ true) ⊎ (k ≡ o)
      by (yes e) = inr e
      by (no n) = inl (sym (get_or-set_other seen o k true false n) ∙ h)

-- what is marked is below the bound
bounded_yes : {seen : List Bool} {n : ℕ} → Bounded seen n → (k : ℕ) → marks seen k ≡ true → k < n
bounded_yes {n} b k h = ⊎_elim (λ l. l) (λ l. absurd (true≢false (sym h ∙ b.above k l))) (lt_or_ge k n)

-- the multiples of the babies before t are marked
pub record Marking (step : ℕ) (bs : List ℤ) (seen : List Bool) (n t : ℕ) : Type 0 where
  pub bounded : Bounded seen n
  pub inside : t ≤ length bs
  pub so_far : (k : ℕ) → marks seen k ≡ among k (take t (multiples_of step bs))

pub marking_none : (step : ℕ) (bs : List ℤ) {seen : List Bool} → Unmarked seen → Marking step bs seen 0 0
marking_none step bs u =
    record { bounded = record { size = u.size; room = omega arith; above = λ k l. u.none k }; inside = omega arith; so_far = u.none }

pub marking_more : {step : ℕ} {bs : List ℤ} {seen : List Bool} {n t r : ℕ} → Marking step bs seen n t → Babies step bs → t < length bs → r ≡ ord_max nat_cmp n (read bs t / step + 1) → Marking step bs (set seen (read bs t / step) true) r (t + 1)
marking_more {step} {bs} {seen} {n} {t} {r} s b l v =
    record {
      bounded = record { size = simp length-set s.bounded.size; room = omega (arith, bound, fits, s.bounded.room, s.bounded.size); above = out };
      inside = omega arith;
      so_far = λ k.
          set_marks seen (a / step) fits k
          ∙ rw (s.so_far k, add-one, take-suc (multiples_of step bs) t 0 within, own)
          (sym (some_append (λ x. eqb x k) (take t (multiples_of step bs)) (get_or (multiples_of step bs) t 0 ∷ [])));
    }
  where
    a : ℕ
    a = read bs t

    bound : r ≡ max n (a / step + 1)
    bound = v ∙ max_is n (a / step + 1)

    own : a / step ≡ get_or (multiples_of step bs) t 0
    own = ap (λ (x : ℕ). x / step) (word_at b t l) ∙ sym (multiple_at b t l)

    fits : a / step < length seen
    fits = omega (arith, own, multiple_low b t l, s.bounded.size)

    within : t < length (multiples_of step bs)
    within = rw length-map l

    out : (k : ℕ) → r ≤ k → marks (set seen (a / step) true) k ≡ false
    out k h = by_false (λ y. ⊎_elim (λ m. absurd (true≢false (sym m ∙ s.bounded.above k (omega (arith, bound))))) (λ q. omega (arith, bound)) (set_only seen (a / step) fits k y))

pub marking_done : {step : ℕ} {bs : List ℤ} {seen : List Bool} {n t : ℕ} → Marking step bs seen n t → length bs ≤ t → Marked step bs seen n
marking_done {step} {bs} {t} s h = record { bounded = s.bounded; marked = λ k. s.so_far k ∙ ap (among k) (take_all t (multiples_of step bs) (rw length-map h)) }

-- ---- one power

pub record Folding (p n : ℕ) (old new : List Bool) (k : ℕ) : Type 0 where
  pub bounded : Bounded new n
  pub behind : p < k
  pub grows : (j : ℕ) → marks old j ≡ true → marks new j ≡ true
  pub moved : (j : ℕ) → p < j → j < 2 * p → j < k → marks old j ≡ true → marks new (j - p) ≡ true
  pub origin : (j : ℕ) → marks new j ≡ true → (marks old j ≡ true) ⊎ ((1 ≤ j) × ((j < p) × (marks old (j + p) ≡ true)))

pub folding_none : (p n : ℕ) {seen : List Bool} → Bounded seen n → Folding p n seen seen (p + 1)
folding_none p n b =
    record { bounded = b; behind = omega arith; grows = λ j h. h; moved = λ j a c l h. absurd (omega arith); origin = λ j h. inl h }

module _ {p n : ℕ} {old new : List Bool} {k : ℕ} (s : Folding p n old new k) where
  was : marks new k ≡ true → marks old k ≡ true
  was h = ⊎_elim (λ a. a) (λ a. absurd (omega (arith, a.1.0, s.behind))) (s.origin k h)

  pub folding_yes : {end : ℕ} → end ≡ min (2 * p) n → k < end → marks new k ≡ true → Folding p n old (set new (k - p) true) (k + 1)
  folding_yes q r h =
      record {
        bounded = record { size = simp length-set s.bounded.size; room = s.bounded.room; above = out };
        behind = omega (arith, s.behind);
        grows = λ j a. set_keeps new (k - p) fits j (s.grows j a);
        moved = λ j a c b q. move j a c b q (ℕ_discrete j k);
        origin = λ j a. ⊎_elim (λ b. s.origin j b) (λ e. inr (from j e)) (set_only new (k - p) fits j a);
      }
    where
      l : k < 2 * p
      l = omega (arith, min-le_left (2 * p) n)

      m : k < n
      m = omega (arith, min-le_right (2 * p) n)

      fits : k - p < length new
      fits = omega (arith, s.bounded.size, s.bounded.room)

      out : (j : ℕ) → n ≤ j → marks (set new (k - p) true) j ≡ false
      out j b = by_false (λ y. ⊎_elim (λ a. true≢false (sym a ∙ s.bounded.above j b)) (λ e. omega arith) (set_only new (k - p) fits j y))

      move : (j : ℕ) → p < j → j < 2 * p → j < k + 1 → marks old j ≡ true → Dec (j ≡ k) → marks (set new (k - p) true) (j - p) ≡ true
      move j a c b q (yes e) = rw e (set_own new (k - p) fits)
      move j a c b q (no d) = set_keeps new (k - p) fits (j - p) (s.moved j a c (omega arith) q)

      from : (j : ℕ) → j ≡ k - p → (1 ≤ j) × ((j < p) × (marks old (j + p) ≡ true))
      from j e =
          let q : j + p ≡ k = omega (arith, s.behind) in
          (omega (arith, s.behind), (omega (arith, s.behind, l), rw q (was h)))

pub folding_done : {p n end : ℕ} {old new : List Bool} {k : ℕ} → Folding p n old new k → Bounded old n → end ≡ min (2 * p) n → end ≤ k → Folded p n old new
folding_done {p} {n} {end} {k} s b e h =
    record {
      bounded = s.bounded;
      grows = s.grows;
      moved = λ j a c q. let m = bounded_yes b j q in s.moved j a c (omega (arith, le-min {k = suc j} {a = 2 * p} {b = n} c m, e)) q;
      origin = s.origin;
    }

-- ---- all powers

-- the powers from p on are folded
pub record Closing (n : ℕ) (old new : List Bool) (j : ℕ) : Type 0 where
  pub bounded : Bounded new n
  pub low : j ≤ 16
  pub grows : (k : ℕ) → marks old k ≡ true → marks new k ≡ true
  pub clears : (k : ℕ) → 2 ^ j ≤ k → marks new k ≡ true → 1 ≤ cleared k → marks new (cleared k) ≡ true
  pub least : (q : ℕ → Bool) → Clears q → ((k : ℕ) → marks old k ≡ true → q k ≡ true) → (k : ℕ) → marks new k ≡ true → q k ≡ true

-- clearing the top bit of a number of at least 2^j and below 2^(j+1) takes 2^j away
clears_at : (k j p : ℕ) → p ≡ 2 ^ j → p ≤ k → k < 2 * p → cleared k ≡ k - p
unfolding cleared
clears_at k j p e l h = let t : top_bit k ≡ j = top_unique k j (omega arith) (omega arith) in rw (t, e)

module _ {n : ℕ} {old mid : List Bool} {j : ℕ} (s : Closing n old mid j) (l : 0 < j) where
  -- the power before
  abbrev half : ℕ
  half = 2 ^ (j - 1)

  twice : 2 ^ j ≡ 2 * half
  twice = let e : j ≡ suc (j - 1) = omega arith in ap (λ (x : ℕ). 2 ^ x) e ∙ omega arith

  pub closing_more : {p : ℕ} {new : List Bool} → p ≡ half → Folded p n mid new → Closing n old new (j - 1)
  closing_more {p} {new} q g =
      record {
        bounded = f.bounded;
        low = omega (arith, s.low);
        grows = λ k a. f.grows k (s.grows k a);
        clears = λ k a m q. clear k a q (f.origin k m) (lt_or_ge k (2 ^ j));
        least = λ q c i k m. ⊎_elim (λ a. s.least q c i k a) (λ a. into q c i k a.0 a.1.0 a.1.1) (f.origin k m);
      }
    where
      f : Folded half n mid new
      f = rw q at g

      clear : (k : ℕ) → half ≤ k → 1 ≤ cleared k → (marks mid k ≡ true) ⊎ ((1 ≤ k) × ((k < half) × (marks mid (k + half) ≡ true))) → (k < 2 ^ j) ⊎ (2 ^ j ≤ k) → marks new (cleared k) ≡ true
      clear k a q (inr b) d = absurd (omega (arith, b.1.0))
      clear k a q (inl b) (inl d) =
          let e : cleared k ≡ k - half = clears_at k (j - 1) half refl a (omega (arith, twice)) in
          rw e (f.moved k (omega (arith, e)) (omega (arith, twice)) b)
      clear k a q (inl b) (inr d) = f.grows (cleared k) (s.clears k d b q)

      into : (q : ℕ → Bool) → Clears q → ((k : ℕ) → marks old k ≡ true → q k ≡ true) → (k : ℕ) → 1 ≤ k → k < half → marks mid (k + half) ≡ true → q k ≡ true
      into q c i k a b m =
          let e : cleared (k + half) ≡ k = clears_at (k + half) (j - 1) half refl (omega arith) (omega arith) ∙ back k half in
          rw (← e) (c (k + half) (s.least q c i (k + half) m) (rw e a))
        where
          back : (k x : ℕ) → k + x - x ≡ k
          back k x = omega arith

pub closing_done : {n : ℕ} {old new : List Bool} {j : ℕ} → Closing n old new j → j ≤ 0 → Closes n old new
closing_done {j = j} s l = record { bounded = s.bounded; grows = s.grows; clears = λ k m q. let e : j ≡ 0 = omega arith in s.clears k (rw e (positive k q)) m q; least = s.least }

-- a rotation k·step is a word
pub word : {k step : ℕ} → k < 65536 → Range step → k * step < 2 ^ 32
word {k} {step} l r = let a : k ≤ 65535 = omega arith in omega (arith, mul-le-mul a r.high)

-- ---- numbers that pass a test, listed

-- f of the numbers below k that pass stands in front
pub record Listing (q : ℕ → Bool) (f : ℕ → ℕ) (n : ℕ) (out₀ out : List ℕ) (at k : ℕ) : Type 0 where
  pub room : k ≤ n
  pub so_far : out ≡ in_front (map f (below q k)) out₀
  pub len : length out ≡ length out₀
  pub at_is : at ≡ length (below q k)

pub listing_none : (q : ℕ → Bool) (f : ℕ → ℕ) (n : ℕ) (out : List ℕ) → Listing q f n out out 0 0
unfolding below in_front
listing_none q f n out = record { room = omega arith; so_far = refl; len = refl; at_is = refl }

module _ {q : ℕ → Bool} {f : ℕ → ℕ} {n : ℕ} {out₀ out : List ℕ} {at k : ℕ} (s : Listing q f n out₀ out at k) where
  pub listing_room : k < n → length (below q n) ≤ length out₀ → q k ≡ true → at < length out
  listing_room l h e = omega (arith, s.at_is, s.len, below_before q k n l e)

  pub listing_low : at ≤ k
  listing_low = omega (arith, s.at_is, below_le q k)

  pub listing_yes : {v : ℕ} → k < n → length (below q n) ≤ length out₀ → v ≡ f k → q k ≡ true → Listing q f n out₀ (set out at v) (at + 1) (k + 1)
  listing_yes {v} m r h e =
      let l : at < length out = listing_room m r e in
      record {
        room = omega arith;
        so_far = rw (s.so_far, h, in_front_more (map f (below q k)) out₀ at (f k) (length-map (below q k) f ∙ sym s.at_is) (omega (arith, s.len)), below_yes q k e, map-append);
        len = simp length-set s.len;
        at_is = rw s.at_is (sym (length_below_yes q k e));
      }

  pub listing_no : k < n → q k ≡ false → Listing q f n out₀ out at (k + 1)
  listing_no l e = record { room = omega arith; so_far = rw (below_no q k e) s.so_far; len = s.len; at_is = s.at_is ∙ sym (ap length (below_no q k e)) }

  pub listing_done : n ≤ k → out ≡ in_front (map f (below q n)) out₀
  listing_done h = let e : k ≡ n = omega (arith, s.room) in rw (← e) s.so_far

  pub listing_writing : n ≤ k → Writing 0 (map f (below q n)) out₀ out at
  listing_writing h = let e : k ≡ n = omega (arith, s.room) in writing_front (listing_done h) s.len (s.at_is ∙ rw e (sym (length-map (below q n) f)))

-- ---- top bits

-- a number of a range that passes
any_here : (q : ℕ → Bool) (n a k : ℕ) → a ≤ k → k < a + n → q k ≡ true → list_any q (range_with_len a n) ≡ true
any_here q zero a k l m h = absurd (omega arith)
any_here q (suc n) a k l m h = by (λ l m. any_here q n (a + 1) k l m h) (ℕ_discrete a k)
  where
    by : (a + 1 ≤ k → k < a + 1 + n → list_any q (range_with_len (a + 1) n) ≡ true) → Dec (a ≡ k) → (q a || list_any q (range_with_len (a + 1) n)) ≡ true
    by rest (yes e) = left (list_any q (range_with_len (a + 1) n)) (rw e h)
    by rest (no d) = right (q a) (rest (omega arith) (omega arith))

any_where : (q : ℕ → Bool) (n a : ℕ) → list_any q (range_with_len a n) ≡ true → (k : ℕ) × (a ≤ k) × (k < a + n) × (q k ≡ true)
any_where q zero a h = absurd (true≢false (sym h))
any_where q (suc n) a h =
    ⊎_elim (λ e. (a, omega arith, omega arith, e)) (λ e. let w = any_where q n (a + 1) e in (w.0, omega (arith, w.1), omega (arith, w.2), w.3)) (one_of (q a) (list_any q (range_with_len (a + 1) n)) h)

non_empty_yes : (k : ℕ) (xs : List ℕ) → among k xs ≡ true → non_empty xs ≡ true
non_empty_yes k [] h = h
non_empty_yes k (x ∷ xs) h = refl

-- some number from p up to 2p is marked exactly if p = 2^i is the top bit of a marked number below n
pub tops_marked : (seen : List Bool) (n i : ℕ) {p end : ℕ} → p ≡ 2 ^ i → end ≡ min (2 * p) n → list_any (marks seen) (range_with_len p (end - p)) ≡ non_empty (targets (below (marks seen) n) i)
tops_marked seen n i {p} {end} q e = agree yes_so so_yes
  where
    yes_so : list_any (marks seen) (range_with_len p (end - p)) ≡ true → non_empty (targets (below (marks seen) n) i) ≡ true
    yes_so h =
        let w = any_where (marks seen) (end - p) p h in
        let l : w.0 < end = omega (arith, w.1, w.2) in
        let t : top_bit w.0 ≡ i = top_unique w.0 i (omega (arith, w.1)) (omega (arith, min-le_left (2 * p) n)) in
        non_empty_yes w.0 (targets (below (marks seen) n) i)
        (is_target (below (marks seen) n) i w.0
        (record {
          among_cached = among_below w.0 (marks seen) n (omega (arith, min-le_right (2 * p) n)) w.3;
          nonzero = omega (arith, w.1, pow_pos i);
          topped = t;
        }))

    so_yes : non_empty (targets (below (marks seen) n) i) ≡ true → list_any (marks seen) (range_with_len p (end - p)) ≡ true
    so_yes h =
        let w = some_target (targets (below (marks seen) n) i) h in
        let t = target_is (below (marks seen) n) i w.0 w.1 in
        let b = below_among w.0 (marks seen) n t.among_cached in
        let x : top_bit w.0 ≡ i = t.topped in
        let y : 2 ^ i ≤ w.0 = subst (λ a. 2 ^ a ≤ w.0) x (top_low w.0 t.nonzero) in
        let z : w.0 < 2 ^ suc i = subst (λ a. w.0 < 2 ^ suc a) x (top_high w.0 t.nonzero) in
        any_here (marks seen) (end - p) p w.0 (omega arith) (omega (arith, le-min {k = suc w.0} {a = 2 * p} {b = n} (omega arith) b.0)) b.1

-- ---- the powers of two, one after the other

pub power_low : {p i : ℕ} → p ≡ 2 ^ i → i < 16 → p ≤ 32768
power_low {p} {i} q l = omega (arith, q, pow_mono {i = i} {j = 15} (omega arith))

-- the rotations of the passes below i stand in front
pub record Turns (cs : List ℕ) (step : ℕ) (out₀ out : List ℕ) (at i : ℕ) : Type 0 where
  pub listing : Listing (λ i. non_empty (targets cs i)) (λ i. 2 ^ i * step) 16 out₀ out at i

pub turns_none : (cs : List ℕ) (step : ℕ) (out : List ℕ) → Turns cs step out out 0 0
turns_none cs step out = record { listing = listing_none _ _ 16 out }

module _ {cs : List ℕ} {step : ℕ} {out₀ out : List ℕ} {at i : ℕ} (s : Turns cs step out₀ out at i) where
  pub turns_low : at ≤ 16
  turns_low = omega (arith, listing_low s.listing, s.listing.room)

  module _ {r : Bool} (l : i < 16) (h : r ≡ non_empty (targets cs i)) where
    pub turns_room : length (tops_of cs 16) ≤ length out₀ → r ≡ true → at < length out
    turns_room m e = listing_room s.listing l m (sym h ∙ e)

    pub turns_yes : {p : ℕ} → p ≡ 2 ^ i → length (tops_of cs 16) ≤ length out₀ → r ≡ true → Turns cs step out₀ (set out at (p * step)) (at + 1) (i + 1)
    turns_yes q m e = record { listing = listing_yes s.listing l m (ap (λ (x : ℕ). x * step) q) (sym h ∙ e) }

    pub turns_no : r ≡ false → Turns cs step out₀ out at (i + 1)
    turns_no e = record { listing = listing_no s.listing l (sym h ∙ e) }

  pub turns_done : 16 ≤ i → out ≡ in_front (pass_rotations 16 step cs) out₀
  turns_done h = rw (rotations_are step cs 16) (listing_done s.listing h)

-- ---- mark and close

pub enclosed : {step n : ℕ} {bs : List ℤ} {old new : List Bool} → Babies step bs → Marked step bs old n → Closes n old new → Enclosed step bs new n
enclosed {step} {bs} b m c = record { bounded = c.bounded; is = closes_below c (multiples_of step bs) (multiples_low b) m.marked }
