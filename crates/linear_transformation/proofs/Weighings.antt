-- The walks of `optimal_bsgs_giant_step`: what each loop keeps, a turn, and the end.
-- Assumes nothing.
use Prim.Native.Nat.{ℕ, zero, suc, min, ◌+◌, ◌-◌, ◌*◌, ◌/◌, ◌%◌, ◌^◌, ◌≤◌, ◌<◌, ◌∣◌}
use mathlib.Core.Path.{◌≡◌, refl, sym, ap, ap₂, ◌∙◌}
use mathlib.Core.Bool.{Bool, true, false, ◌||◌, true≢false, or-true, or-false}
use mathlib.Core.List.{List, [], ◌∷◌, ◌++◌, append-nil}
use mathlib.Core.Logic.{◌⊎◌, inl, inr, ⊎_elim}
use native.Mathlib.Nat.{add-zero, le_refl, le_of_lt, le_of_suc-le-suc, not-suc-le-zero, div-add-mod', dvd_refl, dvd-add, dvd-sub, dvd-mul_left, le_of_dvd}
use native.Mathlib.Numerals.{add-one}
use native.Mathlib.Decide.{ℕ_discrete}
use native.Mathlib.Omega.{arith}
use borrow.Author.Tests.{eq-eqb, eqb-true, ne_eqb}
use lib.Dec.{eqb}
use lib.IntN.{ℤ}
use lib.ListN.{length, get_or, set, take, drop, replicate, length-set, length-append, length-replicate}
use lib.Seq.{take-suc, take_all, get_or-set_same, get_or-set_other}
use Rattle.ring.specs.Lists.{Each, Rising, some, among}
use Rattle.ring.specs.Searches.{only, below}
use Rattle.ring.specs.Laws.Lists.{each_then, each_at, each_append}
use Rattle.ring.specs.Laws.Searches.{lt_or_ge}
use Rattle.ring.specs.Laws.Below.{below_le, below_ext}
use Rattle.std.proofs.Common.{Option, Some, Bor}
use Rattle.std.specs.declared.slice.Windows.{Windows}
use Rattle.std.specs.Slice.Iter.{windows_rest, windows_size, windows_steps}
use Rattle.std.proofs.lemmas.Iterator.{window_more}
use Rattle.std.specs.Ordering.{ord_max, nat_cmp}
use Rattle.linear_transformation.specs.Plans.{baby_of, giant_of, giants, Distinct}
use Rattle.ring.specs.Residues.{diagonals_of}
use Rattle.linear_transformation.specs.Widths.{gaps, smallest_gap, own_babies, cost, candidate, best_width}
use Rattle.linear_transformation.specs.Steps.Plans.{Diagonals}
use Rattle.linear_transformation.specs.Steps.Widths.{Choice, Fresh, Weighed, Narrowest}
use Rattle.ring.specs.Laws.Members.{some_append, left, right, one_of, among_head, each_among}
use Rattle.linear_transformation.specs.Laws.Plans.{planned, giant_baby, giant_le, baby_lt, giant_climbs}
use Rattle.linear_transformation.specs.Laws.Runs.{planned_take, Joins, giants_run}
use Rattle.linear_transformation.specs.Laws.Widths.{LastLeast, last_first, last_yes, last_no, last_skip, gaps_positive, smallest_is, smallest_found, smallest_low, candidate_yes, candidate_is, best_is, cost_bound}
use Rattle.linear_transformation.proofs.Signs.{max_is}

-- ---- the smallest gap

gap_at : (ds : List ℕ) (i : ℕ) → suc i < length ds → among (get_or ds (suc i) 0 - get_or ds i 0) (gaps ds) ≡ true
gap_at [] i l = absurd (not-suc-le-zero l)
gap_at (x ∷ []) i l = absurd (not-suc-le-zero (le_of_suc-le-suc l))
gap_at (x ∷ y ∷ zs) zero l = among_head (y - x) (gaps (y ∷ zs))
gap_at (x ∷ y ∷ zs) (suc i) l = right (eqb (y - x) (get_or (y ∷ zs) (suc i) 0 - get_or (y ∷ zs) i 0)) (gap_at (y ∷ zs) i (le_of_suc-le-suc l))

gap_place : (ds : List ℕ) (h : ℕ) → among h (gaps ds) ≡ true → (i : ℕ) × ((suc i < length ds) × (h ≡ get_or ds (suc i) 0 - get_or ds i 0))
gap_place [] h a = absurd (true≢false (sym a))
gap_place (x ∷ []) h a = absurd (true≢false (sym a))
gap_place (x ∷ y ∷ zs) h a =
    ⊎_elim
    (λ e. (0, (omega arith, sym (eqb-true (y - x) h e))))
    (λ e. let r = gap_place (y ∷ zs) h e in (suc r.0, (omega (arith, r.1.0), r.1.1)))
    (one_of (eqb (y - x) h) (among h (gaps (y ∷ zs))) a)

-- of the gaps between neighbours, all but those that are left have been seen; at the start, where none has, the gap is wider than any
pub record Narrowing (ds left : List ℕ) (size gap : ℕ) : Type 0 where
  pub size_is : size ≡ 2
  pub short : length left ≤ length ds
  pub left_is : left ≡ drop (length ds - length left) ds
  pub there : (65536 ≤ gap) ⊎ ((1 ≤ gap) × (among gap (gaps ds) ≡ true))
  pub smallest : (i : ℕ) → suc i + length left ≤ length ds → gap ≤ get_or ds (suc i) 0 - get_or ds i 0

module _ {ds : List ℕ} (d : Distinct 65536 ds) (s t : Windows ℕ) {r : Option (Bor (List ℕ))} (w : Bor (List ℕ)) {gap : ℕ} (n : Narrowing ds (windows_rest s) (windows_size s) gap) (is : r ≡ Some w) (p : windows_steps s r t) where
  abbrev place : ℕ
  place = length ds - length (windows_rest s)

  abbrev step : ℕ
  step = get_or w.now 1 0 - get_or w.now 0 0

  taken : (length (windows_rest t) + 1 ≡ length (windows_rest s)) × (windows_rest t ≡ drop (length ds - length (windows_rest t)) ds) × (windows_size s ≤ length (windows_rest s))
      × ((k : ℕ) (d : ℕ) → k < windows_size s → get_or w.now k d ≡ get_or ds (place + k) d)
  taken = window_more ds s t r w is p (omega (arith, n.size_is)) n.short n.left_is

  inside : suc place < length ds
  inside = omega (arith, taken.2, n.size_is, n.short)

  first_is : get_or w.now 0 0 ≡ get_or ds place 0
  first_is = taken.3 0 0 (omega (arith, n.size_is)) ∙ ap (λ k. get_or ds k 0) (add-zero place)

  second_is : get_or w.now 1 0 ≡ get_or ds (suc place) 0
  second_is = taken.3 1 0 (omega (arith, n.size_is)) ∙ ap (λ k. get_or ds k 0) (add-one place)

  step_is : step ≡ get_or ds (suc place) 0 - get_or ds place 0
  step_is = ap₂ ◌-◌ second_is first_is

  step_there : among step (gaps ds) ≡ true
  step_there = ap (λ g. among g (gaps ds)) step_is ∙ gap_at ds place inside

  step_positive : 1 ≤ step
  step_positive = each_among (λ g. 1 ≤ g) (gaps ds) (gaps_positive ds d.rises) step step_there

  step_low : step < 65536
  step_low = omega (arith, second_is, each_at (λ k. k < 65536) ds 0 d.low (suc place) inside)

  pub pair_rises : get_or w.now 0 0 ≤ get_or w.now 1 0
  pair_rises = omega (arith, step_positive)

  pub narrowing_more : {m : ℕ} → m ≡ min gap step → Narrowing ds (windows_rest t) (windows_size t) m
  narrowing_more {m} e =
      record {
        size_is = p.0 ∙ n.size_is;
        short = omega (arith, taken.0, n.short);
        left_is = taken.1;
        there = inr (⊎_elim
            (λ (h : step < gap). let q : m ≡ step = omega arith in rw q (step_positive, step_there))
            (λ (h : gap ≤ step). let q : m ≡ gap = omega arith in rw q (⊎_elim (λ v. absurd (omega (arith, step_low))) (λ v. v) n.there))
            (lt_or_ge step gap));
        smallest = λ i h. ⊎_elim
            (λ (l : i < place). omega (arith, n.smallest i (omega (arith, n.short))))
            (λ (l : place ≤ i). let q : i ≡ place = omega (arith, taken.0, n.short) in rw q (omega (arith, step_is)))
            (lt_or_ge i place);
      }

pub narrowing_done : {ds left : List ℕ} {size gap : ℕ} → Distinct 65536 ds → 2 ≤ length ds → Narrowing ds left size gap → length left < size → Narrowest ds gap
narrowing_done {ds} {left} {gap = gap} d l n h =
    let v : (1 ≤ gap) × (among gap (gaps ds) ≡ true) =
    ⊎_elim (λ w. absurd (omega (arith, n.smallest 0 (omega (arith, n.size_is)), each_at (λ k. k < 65536) ds 0 d.low 1 l))) (λ w. w) n.there
    in
    record {
      positive = v.0;
      there = v.1;
      smallest = λ g a. let r = gap_place ds g a in omega (arith, n.smallest r.0 (omega (arith, r.1.0, n.size_is)), r.1.1);
    }

-- ---- the first t diagonals

take_more : (ds : List ℕ) (t : ℕ) → t < length ds → take (t + 1) ds ≡ take t ds ++ (get_or ds t 0 ∷ [])
take_more ds t l = rw add-one (take-suc ds t 0 l)

-- they are below the next one
before_next : (ds : List ℕ) (t : ℕ) → Rising ds → t < length ds → Each (λ j. j < get_or ds t 0) (take t ds)
before_next [] t r l = absurd (not-suc-le-zero l)
before_next (x ∷ xs) zero r l = tt
before_next (x ∷ xs) (suc t) r l = (each_at (λ y. x < y) xs 0 r.0 t (le_of_suc-le-suc l), before_next xs t r.1 (le_of_suc-le-suc l))

each_last : (P : ℕ → Type 0) (xs : List ℕ) (x : ℕ) → Each P (xs ++ (x ∷ [])) → P x
each_last P [] x h = h.0
each_last P (y ∷ xs) x h = each_last P xs x h.1

-- ---- one number more in a set

-- q is p with k
abbrev With : (ℕ → Bool) → ℕ → (ℕ → Bool) → Type 0
With p k q = (v : ℕ) → q v ≡ (p v || (eqb k v || false))

-- it was there
with_old : (p : ℕ → Bool) (k v : ℕ) → p k ≡ true → p v ≡ (p v || (eqb k v || false))
with_old p k v h = by (ℕ_discrete k v)
  where
    by : Dec (k ≡ v) → p v ≡ (p v || (eqb k v || false))
    by (yes e) = let t : p v ≡ true = rw e at h in rw t
    by (no n) = rw (ne_eqb k v n, or-false)

-- it was not
with_new : (p q : ℕ → Bool) (k n : ℕ) → k < n → p k ≡ false → With p k q → length (below q n) ≡ length (below p n) + 1
unfolding below
with_new p q k zero h e s = absurd (not-suc-le-zero h)
with_new p q k (suc n) h e s =
    ⊎_elim
    (λ (l : k < n).
    let qn : q n ≡ p n = s n ∙ rw (ne_eqb k n (λ x. omega arith), or-false) in
    rw qn (omega (arith, length-append (below q n) (only (p n) n), length-append (below p n) (only (p n) n), with_new p q k n l e s)))
    (λ (m : n ≤ k).
    let j : k ≡ n = omega arith in
    let qn : q n ≡ true = s n ∙ rw (eq-eqb k n j, or-true) in
    let pn : p n ≡ false = rw j at e in
    let same : below q n ≡ below p n = below_ext q p n (λ v l. s v ∙ rw (ne_eqb k v (λ x. omega arith), or-false)) in
    rw (same, qn, pn, append-nil, length-append))
    (lt_or_ge k n)

some_more : (t : ℕ → ℕ) (xs : List ℕ) (x : ℕ) → With (λ v. some (λ k. eqb (t k) v) xs) (t x) (λ v. some (λ k. eqb (t k) v) (xs ++ (x ∷ [])))
some_more t xs x v = some_append (λ k. eqb (t k) v) xs (x ∷ [])

-- ---- babies by stamps

abbrev stamped : ℕ → List ℕ → ℕ → Bool
stamped width stamps b = eqb (get_or stamps b 0) width

stamp_more : (stamps : List ℕ) (o width v : ℕ) → o < length stamps → stamped width (set stamps o width) v ≡ (stamped width stamps v || (eqb o v || false))
stamp_more stamps o width v h = by (ℕ_discrete o v)
  where
    by : Dec (o ≡ v) → stamped width (set stamps o width) v ≡ (stamped width stamps v || (eqb o v || false))
    by (yes e) = rw (← e, get_or-set_same stamps o width 0 h, eq-eqb o o refl, eq-eqb width width refl) (sym (or-true (stamped width stamps o)))
    by (no n) = rw (get_or-set_other stamps o v width 0 (λ q. n (sym q)), ne_eqb o v n) (sym (or-false (stamped width stamps v)))

stamp_low : (stamps : List ℕ) (o width v : ℕ) → ((u : ℕ) → get_or stamps u 0 ≤ width) → o < length stamps → get_or (set stamps o width) v 0 ≤ width
stamp_low stamps o width v low h = by (ℕ_discrete o v)
  where
    by : Dec (o ≡ v) → get_or (set stamps o width) v 0 ≤ width
    by (yes e) = rw (← e, get_or-set_same stamps o width 0 h) (le_refl width)
    by (no n) = rw (get_or-set_other stamps o v width 0 (λ q. n (sym q))) (low v)

-- the babies of the diagonals before t are stamped and counted
pub record Stamping (ds : List ℕ) (width : ℕ) (stamps : List ℕ) (babies t : ℕ) : Type 0 where
  pub size : length stamps ≡ 65536
  pub low : (b : ℕ) → get_or stamps b 0 ≤ width
  pub seen : (b : ℕ) → stamped width stamps b ≡ some (λ k. eqb (baby_of width k) b) (take t ds)
  pub count : babies ≡ length (own_babies 65536 width (take t ds))

none_below : (p : ℕ → Bool) (n : ℕ) → ((v : ℕ) → p v ≡ false) → length (below p n) ≡ 0
unfolding below
none_below p zero h = refl
none_below p (suc n) h = rw (h n, append-nil) (none_below p n h)

stamping_none : (ds : List ℕ) (width : ℕ) (stamps : List ℕ) → Fresh width stamps → Stamping ds width stamps 0 0
unfolding own_babies
stamping_none ds width stamps f =
    record {
      size = f.size;
      low = λ b. le_of_lt (f.low b);
      seen = λ b. ne_eqb (get_or stamps b 0) width (λ e. omega (arith, f.low b));
      count = sym (none_below (λ b. some (λ k. eqb (baby_of width k) b) []) 65536 (λ v. refl));
    }

module _ {ds : List ℕ} {width : ℕ} {stamps : List ℕ} {babies t : ℕ} (s : Stamping ds width stamps babies t) where
  stamping_small : babies ≤ 65536
  unfolding own_babies
  stamping_small = omega (arith, s.count, below_le (λ b. some (λ k. eqb (baby_of width k) b) (take t ds)) 65536)

  module _ (l : t < length ds) (low : get_or ds t 0 % width < 65536) where
    stamping_new : (get_or stamps (get_or ds t 0 % width) 0 ≡ width → ⊥) → Stamping ds width (set stamps (get_or ds t 0 % width) width) (babies + 1) (t + 1)
    unfolding own_babies baby_of
    stamping_new new =
        let o : ℕ = get_or ds t 0 % width in
        let p : ℕ → Bool = λ b. some (λ k. eqb (baby_of width k) b) (take t ds) in
        let q : ℕ → Bool = λ b. some (λ k. eqb (baby_of width k) b) (take t ds ++ (get_or ds t 0 ∷ [])) in
        let h : o < length stamps = omega (arith, s.size) in
        record {
          size = simp length-set s.size;
          low = λ b. stamp_low stamps o width b s.low h;
          seen = λ b. stamp_more stamps o width b h ∙ rw (s.seen b, take_more ds t l) (sym (some_more (baby_of width) (take t ds) (get_or ds t 0) b));
          count = rw (take_more ds t l) (omega (arith, s.count, with_new p q o 65536 low (sym (s.seen o) ∙ ne_eqb (get_or stamps o 0) width new) (some_more (baby_of width) (take t ds) (get_or ds t 0))));
        }

    stamping_old : get_or stamps (get_or ds t 0 % width) 0 ≡ width → Stamping ds width stamps babies (t + 1)
    unfolding own_babies baby_of
    stamping_old old =
        let o : ℕ = get_or ds t 0 % width in
        let p : ℕ → Bool = λ b. some (λ k. eqb (baby_of width k) b) (take t ds) in
        let q : ℕ → Bool = λ b. some (λ k. eqb (baby_of width k) b) (take t ds ++ (get_or ds t 0 ∷ [])) in
        let there : p o ≡ true = sym (s.seen o) ∙ eq-eqb (get_or stamps o 0) width old in
        let same : (b : ℕ) → p b ≡ q b = λ b. with_old p o b there ∙ sym (some_more (baby_of width) (take t ds) (get_or ds t 0) b) in
        record {
          size = s.size;
          low = s.low;
          seen = λ b. rw (take_more ds t l) (s.seen b ∙ same b);
          count = rw (take_more ds t l) (s.count ∙ ap length (below_ext p q 65536 (λ b u. same b)));
        }

-- ---- giants by their ends

small_multiple : (m d : ℕ) → m ∣ d → d < m → d ≡ 0
small_multiple m d h l = ⊎_elim (λ (p : 0 < d). absurd (not_lt p)) (λ (p : d ≤ 0). omega arith) (lt_or_ge 0 d)
  where
    not_lt : 0 < d → ⊥
    not_lt p = omega (arith, le_of_dvd p h)

giant_dvd : (width k : ℕ) → width ∣ giant_of width k
unfolding giant_of baby_of
giant_dvd width k =
    let e : k - k % width ≡ k / width * width = omega (arith, div-add-mod' k width) in
    rw e (dvd-mul_left width (k / width))

-- a later diagonal, in front of the end of the giant of x, has that giant
giant_same : (width x k : ℕ) → 0 < width → x < k → k < giant_of width x + width → giant_of width x ≡ giant_of width k
giant_same width x k w l u =
    let a : giant_of width x ≤ giant_of width k = giant_climbs width w x k l in
    let d : giant_of width k - giant_of width x ≡ 0 = small_multiple width (giant_of width k - giant_of width x) (dvd-sub width (giant_dvd width k) (giant_dvd width x)) (omega (arith, giant_le width k)) in
    omega arith

-- the giants of the diagonals before t are counted; they end at the edge
pub record Edging (ds : List ℕ) (width giant_count edge t : ℕ) : Type 0 where
  pub count : giant_count ≡ length (giants 65536 width (take t ds))
  pub low : Each (λ j. giant_of width j + width ≤ edge) (take t ds)
  pub has : (k : ℕ) → Each (λ j. j < k) (take t ds) → k < edge → some (λ j. eqb (giant_of width j) (giant_of width k)) (take t ds) ≡ true

edging_none : (ds : List ℕ) (width : ℕ) → Edging ds width 0 0 0
unfolding giants
edging_none ds width =
    record {
      count = sym (none_below (λ g. some (λ k. eqb (giant_of width k) g) []) 65536 (λ v. refl));
      low = tt;
      has = λ k h l. absurd (not-suc-le-zero l);
    }

module _ {ds : List ℕ} {width giant_count edge t : ℕ} (s : Edging ds width giant_count edge t) where
  edging_small : giant_count ≤ 65536
  unfolding giants
  edging_small = omega (arith, s.count, below_le (λ g. some (λ k. eqb (giant_of width k) g) (take t ds)) 65536)

  module _ (d : Diagonals width ds) (l : t < length ds) where
    abbrev x : ℕ
    x = get_or ds t 0

    older : Each (λ j. j < x) (take t ds)
    older = before_next ds t d.planned.rises l

    new_low : Each (λ j. giant_of width j + width ≤ giant_of width x + width) (take (t + 1) ds)
    new_low =
        rw (take_more ds t l)
        (each_append (λ j. giant_of width j + width ≤ giant_of width x + width) (take t ds) (x ∷ [])
        (each_then (λ j h. omega (arith, giant_climbs width d.planned.positive j x h)) (take t ds) older)
        (le_refl (giant_of width x + width), tt))

    new_has : (k : ℕ) → Each (λ j. j < k) (take (t + 1) ds) → k < giant_of width x + width → some (λ j. eqb (giant_of width j) (giant_of width k)) (take (t + 1) ds) ≡ true
    new_has k h u =
        let e : Each (λ j. j < k) (take t ds ++ (x ∷ [])) = rw (take_more ds t l) at h in
        let same : giant_of width x ≡ giant_of width k = giant_same width x k d.planned.positive (each_last (λ j. j < k) (take t ds) x e) u in
        rw (take_more ds t l)
        (some_append (λ j. eqb (giant_of width j) (giant_of width k)) (take t ds) (x ∷ [])
        ∙ right (some (λ j. eqb (giant_of width j) (giant_of width k)) (take t ds)) (left false (eq-eqb (giant_of width x) (giant_of width k) same)))

    edging_new : edge ≤ x → Edging ds width (giant_count + 1) (giant_of width x + width) (t + 1)
    edging_new h =
        let g : ℕ = giant_of width x in
        let x-low : x < 65536 = each_at (λ k. k < 65536) ds 0 d.planned.low t l in
        let j : Joins width (take t ds) g (x ∷ []) = record {
          lower = each_then (λ j u. omega (arith, giant_baby width x, baby_lt width x d.planned.positive)) (take t ds) s.low;
          same = (refl, tt);
          some = omega arith;
        } in
        record {
          count = rw (take_more ds t l) (omega (arith, s.count, ap length (giants_run (planned_take t d.planned) (omega (arith, giant_le width x)) j), length-append (giants 65536 width (take t ds)) (g ∷ [])));
          low = new_low;
          has = new_has;
        }

    edging_old : x < edge → Edging ds width giant_count (giant_of width x + width) (t + 1)
    unfolding giants
    edging_old h =
        let p : ℕ → Bool = λ g. some (λ k. eqb (giant_of width k) g) (take t ds) in
        let q : ℕ → Bool = λ g. some (λ k. eqb (giant_of width k) g) (take t ds ++ (x ∷ [])) in
        let same : (g : ℕ) → p g ≡ q g = λ g. with_old p (giant_of width x) g (s.has x older h) ∙ sym (some_more (giant_of width) (take t ds) x g) in
        record {
          count = rw (take_more ds t l) (s.count ∙ ap length (below_ext p q 65536 (λ g u. same g)));
          low = new_low;
          has = new_has;
        }

-- ---- the walk of a width

pub record Weighing (ds : List ℕ) (width : ℕ) (stamps : List ℕ) (babies giant_count edge t : ℕ) : Type 0 where
  pub room : t ≤ length ds
  pub stamping : Stamping ds width stamps babies t
  pub edging : Edging ds width giant_count edge t

pub weighing_none : (ds : List ℕ) (width : ℕ) (stamps : List ℕ) → Fresh width stamps → Weighing ds width stamps 0 0 0 0
weighing_none ds width stamps f = record { room = omega arith; stamping = stamping_none ds width stamps f; edging = edging_none ds width }

-- the diagonal at t
module _ {ds : List ℕ} {width : ℕ} (d : Diagonals width ds) {t : ℕ} (l : t < length ds) where
  pub diagonal_low : get_or ds t 0 < 65536
  diagonal_low = each_at (λ k. k < 65536) ds 0 d.planned.low t l

  pub baby_low : get_or ds t 0 % width < 65536
  unfolding baby_of
  baby_low = omega (arith, baby_lt width (get_or ds t 0) d.planned.positive, d.narrow)

module _ {ds : List ℕ} {width : ℕ} {stamps : List ℕ} {babies giant_count edge t : ℕ} (s : Weighing ds width stamps babies giant_count edge t) where
  pub weighing_babies : babies ≤ 65536
  weighing_babies = stamping_small s.stamping

  pub weighing_giants : giant_count ≤ 65536
  weighing_giants = edging_small s.edging

  module _ (d : Diagonals width ds) (l : t < length ds) where
    abbrev k : ℕ
    k = get_or ds t 0

    pub weighing_new : (get_or stamps (k % width) 0 ≡ width → ⊥) → Stamping ds width (set stamps (k % width) width) (babies + 1) (t + 1)
    weighing_new h = stamping_new s.stamping l (baby_low d l) h

    pub weighing_old : get_or stamps (k % width) 0 ≡ width → Stamping ds width stamps babies (t + 1)
    weighing_old h = stamping_old s.stamping l (baby_low d l) h

    pub weighing_next : edge ≤ k → Edging ds width (giant_count + 1) (k - k % width + width) (t + 1)
    unfolding giant_of baby_of
    weighing_next h = edging_new s.edging d l h

    pub weighing_same : k < edge → Edging ds width giant_count (k - k % width + width) (t + 1)
    unfolding giant_of baby_of
    weighing_same h = edging_old s.edging d l h

  pub weighing_done : {r : ℕ} → length ds ≤ t → r ≡ ord_max nat_cmp babies giant_count → Weighed ds width stamps r
  unfolding cost
  weighing_done h e =
      let all : take t ds ≡ ds = take_all t ds h in
      let b : babies ≡ length (own_babies 65536 width ds) = rw all at s.stamping.count in
      let g : giant_count ≡ length (giants 65536 width ds) = rw all at s.edging.count in
      record { half = rw (e, max_is babies giant_count, b, g); size = s.stamping.size; low = s.stamping.low }

-- ---- the multiples of the gap

-- no stamps yet
no_stamps : (n b : ℕ) → get_or {A = ℕ} (replicate n 0) b 0 ≡ 0
no_stamps zero b = refl
no_stamps (suc n) zero = refl
no_stamps (suc n) (suc b) = no_stamps n b

pub fresh_none : (n : ℕ) {gap : ℕ} → n ≡ 65536 → 1 ≤ gap → Fresh gap (replicate n 0)
fresh_none n e l = record { size = length-replicate n 0 ∙ e; low = λ b. omega (arith, no_stamps n b) }

-- best is the last of the cheapest candidates below a width, and costs twice the least
pub record Chosen (slots : ℕ) (ds : List ℕ) (best least width : ℕ) : Type 0 where
  pub half : cost slots ds best ≡ 2 * least
  pub last : LastLeast (candidate slots ds) (cost slots ds) width best

-- nothing is chosen yet: there is no candidate below the width, and every weight that a word holds is at most the least
pub record Unchosen (slots : ℕ) (ds : List ℕ) (least width : ℕ) : Type 0 where
  pub wide : 2 ^ 32 ≤ least + 1
  pub none : (v : ℕ) → v < width → candidate slots ds v ≡ true → ⊥

-- a width, which is a multiple of the gap, and the choice among the candidates below it
pub record Choosing (slots : ℕ) (ds : List ℕ) (gap : ℕ) (stamps : List ℕ) (best least width : ℕ) : Type 0 where
  pub behind : gap ≤ width
  pub multiple : gap ∣ width
  pub fresh : Fresh width stamps
  pub choice : Unchosen slots ds least width ⊎ Chosen slots ds best least width

module _ {slots : ℕ} {ds : List ℕ} {gap : ℕ} (c : Choice slots ds gap) where
  pub gap_low : gap < slots
  gap_low = omega (arith, c.narrowest.smallest (smallest_gap slots ds) (smallest_found c.distinct c.several).there, smallest_low c.distinct c.several)

  gap_is : smallest_gap slots ds ≡ gap
  gap_is = smallest_is c.narrowest (omega (arith, gap_low))

  gap_divides : (v : ℕ) → candidate slots ds v ≡ true → gap ∣ v
  gap_divides v e = rw gap_is at (candidate_is slots ds v e).multiple

  is_candidate : (w : ℕ) → gap ≤ w → gap ∣ w → w < slots → candidate slots ds w ≡ true
  is_candidate w a m l = candidate_yes slots ds w (record { positive = omega (arith, c.narrowest.positive); low = l; multiple = rw gap_is m })

  -- there is no candidate between two multiples
  none_between : (w : ℕ) → gap ∣ w → (v : ℕ) → w + 1 ≤ v → v < w + gap → candidate slots ds v ≡ true → ⊥
  none_between w m v a b e =
      let z : v - w ≡ 0 = small_multiple gap (v - w) (dvd-sub gap (gap_divides v e) m) (omega arith) in
      omega arith

  -- nor in front of the gap
  none_before : (v : ℕ) → v < gap → candidate slots ds v ≡ true → ⊥
  none_before v l e = omega (arith, small_multiple gap v (gap_divides v e) l, (candidate_is slots ds v e).positive)

  -- the cost with this bound
  half_is : {w r : ℕ} {stamps : List ℕ} → gap ≤ w → Weighed ds w stamps r → cost slots ds w ≡ 2 * r
  half_is {w} a h = sym (cost_bound c.distinct 65536 c.range.high w (omega (arith, c.narrowest.positive))) ∙ h.half

  stays_fresh : {w r : ℕ} {stamps : List ℕ} → Weighed ds w stamps r → Fresh (w + gap) stamps
  stays_fresh h = record { size = h.size; low = λ b. omega (arith, h.low b, c.narrowest.positive) }

  pub choosing_none : {stamps : List ℕ} {least : ℕ} → Fresh gap stamps → 2 ^ 32 ≤ least + 1 → Choosing slots ds gap stamps gap least gap
  choosing_none f w =
      record { behind = le_refl gap; multiple = dvd_refl gap; fresh = f; choice = inl (record { wide = w; none = none_before }) }

  module _ {stamps stamps' : List ℕ} {best least width weight : ℕ} (s : Choosing slots ds gap stamps best least width) (l : width < slots) (h : Weighed ds width stamps' weight) where
    here : candidate slots ds width ≡ true
    here = is_candidate width s.behind s.multiple l

    -- the width is looked at, and the next candidate is a gap away
    next : {best' least' : ℕ} → cost slots ds best' ≡ 2 * least' → LastLeast (candidate slots ds) (cost slots ds) (width + 1) best' → Choosing slots ds gap stamps' best' least' (width + gap)
    next e q =
        record {
          behind = omega (arith, s.behind);
          multiple = dvd-add gap s.multiple (dvd_refl gap);
          fresh = stays_fresh h;
          choice = inr (record { half = e; last = last_skip q (width + gap) (omega (arith, c.narrowest.positive)) (none_between width s.multiple) });
        }

    pub choosing_yes : weight ≤ least → Choosing slots ds gap stamps' width weight (width + gap)
    choosing_yes u =
        next (half_is s.behind h)
        (⊎_elim (λ (n : Unchosen slots ds least width). last_first here n.none) (λ (q : Chosen slots ds best least width). last_yes q.last here (omega (arith, q.half, half_is s.behind h))) s.choice)

    pub choosing_no : weight < 2 ^ 32 → least < weight → Choosing slots ds gap stamps' best least (width + gap)
    choosing_no w u =
        ⊎_elim
        (λ (n : Unchosen slots ds least width). absurd (omega (arith, n.wide)))
        (λ (q : Chosen slots ds best least width). next q.half (last_no q.last (omega (arith, q.half, half_is s.behind h))))
        s.choice

  best_chosen : {best least width : ℕ} → slots ≤ width → Chosen slots ds best least width → best ≡ best_width slots ds
  best_chosen {best} h q =
      sym (best_is slots ds best c.several
      (record {
        within = (candidate_is slots ds best q.last.is).low;
        is = q.last.is;
        least = λ v u e. q.last.least v (omega arith) e;
        last = λ v k u e. q.last.last v k (omega arith) e;
      }))

  pub choosing_done : {stamps : List ℕ} {best least width : ℕ} → Choosing slots ds gap stamps best least width → slots ≤ width → best ≡ best_width slots ds
  choosing_done {least = least} {width = width} s h =
      ⊎_elim
      (λ (n : Unchosen slots ds least width). absurd (n.none gap (omega (arith, gap_low)) (is_candidate gap (le_refl gap) (dvd_refl gap) gap_low)))
      (λ q. best_chosen h q)
      s.choice

-- ---- the diagonals that indexes name

pub named_distinct : {slots : ℕ} (zs : List ℤ) {ds : List ℕ} → ds ≡ diagonals_of slots zs → Distinct slots ds
named_distinct {slots} zs e = let p = planned slots 1 zs (le_refl 1) in rw e (record { rises = p.rises; low = p.low })
