-- Laws of the walks that write a plan: the marked numbers up to a bound, and the giants and pairs of sorted diagonals, one
-- giant's run of diagonals after the other.
-- Assumes nothing.
use Prim.Native.Nat.{ℕ, zero, suc, ◌+◌, ◌-◌, ◌*◌, ◌/◌, ◌≤◌, ◌<◌}
use Rattle.std.specs.Prelude.{◌≡◌, refl, Bool, true, false, ◌||◌, ℤ, get_or, take, drop}
use Rattle.std.proofs.Math.Path.{sym, ap}
use Rattle.std.proofs.Common.{◌∙◌, true≢false, add-one, add-zero, suc-mul, div-lt_iff_lt-mul, eq-or-lt_of_le, le_of_eq, le_refl, not-suc-le-zero, le_of_suc-le-suc, le-div_iff_mul-le, mul-le-mul_right, arith, length-append, length-drop, take-append-drop, take-add, get_or-take, get_or-drop, length-take-le}
use mathlib.Core.List.{List, [], ◌∷◌, ◌++◌, map, append-nil}
use Rattle.std.proofs.Math.Logic.{⊎_elim}
use borrow.Author.Tests.{eqb-true, eq-eqb, ne_eqb}
use Rattle.std.proofs.Math.Dec.{eqb}
use Rattle.std.proofs.Math.ListN.{length}
use Rattle.ring.specs.Lists.{join, Each, Rising, some, among}
use Rattle.ring.specs.Residues.{residue_of, named}
use Rattle.ring.specs.Searches.{only, below}
use Rattle.ring.specs.Laws.Lists.{each_at, each_then, each_append, each_take, rising_snoc, join_append, length_join}
use Rattle.ring.specs.Laws.Residues.{residue_lt}
use Rattle.ring.specs.Laws.Searches.{by_false}
use Rattle.ring.specs.Laws.Below.{below_no, below_le}
use Rattle.linear_transformation.specs.Plans.{baby_of, giant_of, babies, giants, babies_at, plan_index, cuts, plan_pairs, words_with, Planned}
use Rattle.ring.specs.Laws.Members.{some_append, some_witness, one_of, left, right, among_head, among_left, among_right, among_split, among_some, each_among, among_each, among_below, below_among, rising_same, rising_below}
use Rattle.linear_transformation.specs.Laws.Plans.{giant_times, giant_le, baby_le, index_length, pairs_length, giants_rise, babies_zero, babies_have}
use Rattle.linear_transformation.specs.Steps.Plans.{RunFrom, multiples}

-- ---- marked numbers up to a bound

-- where nothing is marked between two bounds, either will do
between : (p : ℕ → Bool) (m d : ℕ) → ((k : ℕ) → m ≤ k → k < m + d → p k ≡ false) → below p (m + d) ≡ below p m
between p m zero h = ap (below p) (add-zero m)
between p m (suc d) h = ap (below p) (omega arith) ∙ below_no p (m + d) (h (m + d) (omega arith) (omega arith)) ∙ between p m d (λ k l u. h k l (omega arith))

pub below_between : (p : ℕ → Bool) (m n : ℕ) → m ≤ n → ((k : ℕ) → m ≤ k → k < n → p k ≡ false) → below p n ≡ below p m
below_between p m n l h =
    let e : n ≡ m + (n - m) = omega arith in
    ap (below p) e ∙ between p m (n - m) (λ k a b. h k a (omega arith))

pub none_named : (slots : ℕ) (zs : List ℤ) → 0 < slots → (k : ℕ) → slots ≤ k → named slots zs k ≡ false
unfolding named
none_named slots zs s k l = by_false (λ e. let x = some_witness (λ z. eqb (residue_of z slots) k) zs e in omega (arith, eqb-true (residue_of x.0 slots) k x.1, residue_lt x.0 slots s))

-- where an element of the list passes the test, one that does
pub some_member : (t : ℕ → Bool) (xs : List ℕ) → some t xs ≡ true → (x : ℕ) × ((among x xs ≡ true) × (t x ≡ true))
some_member t [] e = absurd (true≢false (sym e))
some_member t (x ∷ xs) e =
    ⊎_elim (λ a. (x, (among_head x xs, a))) (λ a. let r = some_member t xs a in (r.0, (right (eqb x r.0) r.1.0, r.1.1))) (one_of (t x) (some t xs) e)

-- ---- any bound above the diagonals

module _ {slots width : ℕ} {ks : List ℕ} (p : Planned slots width ks) (n : ℕ) (l : slots ≤ n) where
  -- no diagonal passes a test that only numbers from slots on pass
  out_of : (t : ℕ → Bool) → ((k : ℕ) → t k ≡ true → slots ≤ k) → some t ks ≡ false
  out_of t f = by_false (λ e. let x = some_member t ks e in omega (arith, f x.0 x.1.1, each_among (λ k. k < slots) ks p.low x.0 x.1.0))

  pub giants_bound : giants n width ks ≡ giants slots width ks
  unfolding giants
  giants_bound =
      below_between (λ g. some (λ k. eqb (giant_of width k) g) ks) slots n l
      (λ g a b. out_of (λ k. eqb (giant_of width k) g) (λ k e. omega (arith, eqb-true (giant_of width k) g e, giant_le width k)))

  pub babies_bound : 0 < slots → babies n width ks ≡ babies slots width ks
  unfolding babies
  babies_bound s =
      below_between (λ b. eqb b 0 || some (λ k. eqb (baby_of width k) b) ks) slots n l
      (λ b a u. rw (ne_eqb b 0 (λ e. omega arith)) (out_of (λ k. eqb (baby_of width k) b) (λ k e. omega (arith, eqb-true (baby_of width k) b e, baby_le width k))))

  pub words_bound : (bs : List ℕ) → words_with bs n width ks ≡ words_with bs slots width ks
  unfolding words_with plan_pairs plan_index
  words_bound bs = rw giants_bound

  pub planned_bound : Planned n width ks
  planned_bound = record { rises = p.rises; low = each_then (λ k h. omega arith) ks p.low; positive = p.positive }

-- no more diagonals than the bound
pub planned_length : {slots width : ℕ} {ks : List ℕ} → Planned slots width ks → length ks ≤ slots
planned_length {slots} {ks} p = omega (arith, ap length (rising_below slots ks p.rises p.low), below_le (λ k. among k ks) slots)

-- ---- a giant's run behind the diagonals of lower giants

-- the pairs as words
abbrev pub pairs_as_words : List (ℕ × ℕ) → List ℕ
pairs_as_words cs = join (λ c. c.0 ∷ c.1 ∷ []) cs

cuts_snoc : (f : ℕ → List ℕ) (start : ℕ) (gs : List ℕ) (g : ℕ) → cuts f start (gs ++ (g ∷ [])) ≡ cuts f start gs ++ ((start + length (join f gs), length (f g)) ∷ [])
cuts_snoc f start [] g = rw add-zero
cuts_snoc f start (h ∷ gs) g =
    let e : start + length (f h) + length (join f gs) ≡ start + length (f h ++ join f gs) = rw length-append (omega arith) in
    ap (λ (t : List (ℕ × ℕ)). (start, length (f h)) ∷ t) (cuts_snoc f (start + length (f h)) gs g ∙ ap (λ (x : ℕ). cuts f (start + length (f h)) gs ++ ((x, length (f g)) ∷ [])) e)

cuts_cong : (f f' : ℕ → List ℕ) (start : ℕ) (gs : List ℕ) → Each (λ g. f g ≡ f' g) gs → cuts f start gs ≡ cuts f' start gs
cuts_cong f f' start [] h = refl
cuts_cong f f' start (g ∷ gs) h = rw h.0 (ap (λ (t : List (ℕ × ℕ)). (start, length (f' g)) ∷ t) (cuts_cong f f' (start + length (f' g)) gs h.1))

join_each : (f f' : ℕ → List ℕ) (gs : List ℕ) → Each (λ g. f g ≡ f' g) gs → join f gs ≡ join f' gs
join_each f f' [] h = refl
join_each f f' (g ∷ gs) h = cc (h.0, join_each f f' gs h.1)

module _ (width : ℕ) where
  -- diagonals of other giants give no babies of g
  at_none : (ks : List ℕ) (g : ℕ) → Each (λ k. giant_of width k ≡ g → ⊥) ks → join (λ k. only (eqb (giant_of width k) g) (baby_of width k)) ks ≡ []
  at_none [] g h = refl
  at_none (k ∷ ks) g h = rw (ne_eqb (giant_of width k) g h.0) (at_none ks g h.1)

  -- a run has a baby for each diagonal
  at_all : (ks : List ℕ) (g : ℕ) → Each (λ k. giant_of width k ≡ g) ks → length (join (λ k. only (eqb (giant_of width k) g) (baby_of width k)) ks) ≡ length ks
  at_all [] g h = refl
  at_all (k ∷ ks) g h = rw (eq-eqb (giant_of width k) g h.0) (ap suc (at_all ks g h.1))

-- the diagonals ks have giants below g, and those of the run have giant g
pub record Joins (width : ℕ) (ks : List ℕ) (g : ℕ) (run : List ℕ) : Type 0 where
  pub lower : Each (λ k. giant_of width k < g) ks
  pub same : Each (λ k. giant_of width k ≡ g) run
  pub some : 0 < length run

module _ {slots width g : ℕ} {ks run : List ℕ} (p : Planned slots width ks) (low : g < slots) (j : Joins width ks g run) where
  giants_lower : Each (λ h. h < g) (giants slots width ks)
  unfolding giants
  giants_lower =
      among_each (λ h. h < g) (giants slots width ks)
      (λ h a. let x = some_member (λ k. eqb (giant_of width k) h) ks (below_among h (λ g. some (λ k. eqb (giant_of width k) g) ks) slots a).1 in omega (arith, eqb-true (giant_of width x.0) h x.1.1, each_among (λ k. giant_of width k < g) ks j.lower x.0 x.1.0))

  member : (h : ℕ) → some (λ k. eqb (giant_of width k) h) (ks ++ run) ≡ true → h < slots → among h (giants slots width ks ++ (g ∷ [])) ≡ true
  unfolding giants
  member h e l =
      ⊎_elim
      (λ a. among_left h (giants slots width ks) (g ∷ []) (among_below h (λ g. some (λ k. eqb (giant_of width k) g) ks) slots l a))
      (λ a. let x = some_member (λ k. eqb (giant_of width k) h) run a in let q : g ≡ h = sym (each_among (λ k. giant_of width k ≡ g) run j.same x.0 x.1.0) ∙ eqb-true (giant_of width x.0) h x.1.1 in among_right h (giants slots width ks) (g ∷ []) (rw q (among_head h [])))
      (one_of (some (λ k. eqb (giant_of width k) h) ks) (some (λ k. eqb (giant_of width k) h) run) (sym (some_append (λ k. eqb (giant_of width k) h) ks run) ∙ e))

  run_has : (run : List ℕ) → Each (λ k. giant_of width k ≡ g) run → 0 < length run → some (λ k. eqb (giant_of width k) g) run ≡ true
  run_has [] s l = absurd (not-suc-le-zero l)
  run_has (k ∷ ks) s l = rw (eq-eqb (giant_of width k) g s.0)

  back : (h : ℕ) → among h (giants slots width ks ++ (g ∷ [])) ≡ true → among h (giants slots width (ks ++ run)) ≡ true
  unfolding giants
  back h e =
      ⊎_elim
      (λ a.
      let b = below_among h (λ g. some (λ k. eqb (giant_of width k) g) ks) slots a in
      among_below h (λ g. some (λ k. eqb (giant_of width k) g) (ks ++ run)) slots b.0 (some_append (λ k. eqb (giant_of width k) h) ks run ∙ left (some (λ k. eqb (giant_of width k) h) run) b.1))
      (λ a.
      let q : h ≡ g = each_among (λ x. x ≡ g) (g ∷ []) (refl, tt) h a in
      rw q (among_below g (λ g. some (λ k. eqb (giant_of width k) g) (ks ++ run)) slots low (some_append (λ k. eqb (giant_of width k) g) ks run ∙ right (some (λ k. eqb (giant_of width k) g) ks) (run_has run j.same j.some))))
      (among_split h (giants slots width ks) (g ∷ []) e)

  -- one giant more
  pub giants_run : giants slots width (ks ++ run) ≡ giants slots width ks ++ (g ∷ [])
  unfolding giants
  giants_run =
      rising_same (giants slots width (ks ++ run)) (giants slots width ks ++ (g ∷ [])) (giants_rise slots width (ks ++ run)) (rising_snoc (giants slots width ks) g (giants_rise slots width ks) giants_lower)
      (λ h a. let b = below_among h (λ g. some (λ k. eqb (giant_of width k) g) (ks ++ run)) slots a in member h b.1 b.0)
      back

  -- the babies of the lower giants are as they were
  lower_babies : (h : ℕ) → h < g → babies_at width (ks ++ run) h ≡ babies_at width ks h
  unfolding babies_at
  lower_babies h l =
      join_append (λ k. only (eqb (giant_of width k) h) (baby_of width k)) ks run
      ∙ rw (at_none width run h (each_then (λ k e q. omega arith) run j.same)) (append-nil (join (λ k. only (eqb (giant_of width k) h) (baby_of width k)) ks))

  run_babies : length (babies_at width (ks ++ run) g) ≡ length run
  unfolding babies_at
  run_babies =
      ap length (join_append (λ k. only (eqb (giant_of width k) g) (baby_of width k)) ks run)
      ∙ rw (at_none width ks g (each_then (λ k e q. omega arith) ks j.lower)) (at_all width run g j.same)

  indexed : length (join (babies_at width ks) (giants slots width ks)) ≡ length ks
  unfolding plan_index
  indexed = index_length p

  -- and one pair more
  pub pairs_run : plan_pairs slots width (ks ++ run) ≡ plan_pairs slots width ks ++ ((length ks, length run) ∷ [])
  unfolding plan_pairs
  pairs_run =
      let f : ℕ → List ℕ = babies_at width ks in
      let f' : ℕ → List ℕ = babies_at width (ks ++ run) in
      let gs : List ℕ = giants slots width ks in
      let same : Each (λ h. f' h ≡ f h) gs = each_then lower_babies gs giants_lower in
      let n : 0 + length (join f' gs) ≡ length ks = rw (join_each f' f gs same) (omega (arith, indexed)) in
      ap (cuts f' 0) giants_run ∙ cuts_snoc f' 0 gs g ∙ rw (cuts_cong f' f 0 gs same, n, run_babies)

-- ---- parts of sorted diagonals

rising_take : (n : ℕ) (xs : List ℕ) → Rising xs → Rising (take n xs)
rising_take zero xs r = tt
rising_take (suc n) [] r = tt
rising_take (suc n) (x ∷ xs) r = (each_take (λ y. x < y) n xs r.0, rising_take n xs r.1)

pub planned_take : {slots width : ℕ} {ks : List ℕ} (n : ℕ) → Planned slots width ks → Planned slots width (take n ks)
planned_take {slots} {ks} n p = record { rises = rising_take n ks p.rises; low = each_take (λ k. k < slots) n ks p.low; positive = p.positive }

pub rising_at : (xs : List ℕ) (d : ℕ) → Rising xs → (i j : ℕ) → i < j → j < length xs → get_or xs i d < get_or xs j d
rising_at [] d r i j l m = absurd (not-suc-le-zero m)
rising_at (x ∷ xs) d r i zero l m = absurd (not-suc-le-zero l)
rising_at (x ∷ xs) d r zero (suc j) l m = each_at (λ y. x < y) xs d r.0 j (le_of_suc-le-suc m)
rising_at (x ∷ xs) d r (suc i) (suc j) l m = rising_at xs d r.1 i j (le_of_suc-le-suc l) (le_of_suc-le-suc m)

-- what holds at each place holds of each element
places_each : (P : ℕ → Type 0) (xs : List ℕ) (d : ℕ) → ((i : ℕ) → i < length xs → P (get_or xs i d)) → Each P xs
places_each P [] d f = tt
places_each P (x ∷ xs) d f = (f 0 (omega arith), places_each P xs d (λ i l. f (suc i) (omega arith)))

-- likewise of a part of a list
pub part_each : (P : ℕ → Type 0) (xs : List ℕ) (d at n : ℕ) → at + n ≤ length xs → ((u : ℕ) → at ≤ u → u < at + n → P (get_or xs u d)) → Each P (take n (drop at xs))
part_each P xs d at n l f =
    let e : length (take n (drop at xs)) ≡ n = length-take-le n (drop at xs) (rw length-drop (omega arith)) in
    places_each P (take n (drop at xs)) d
    (λ i h. let m : i < n = omega arith in rw (get_or-take n (drop at xs) i d m, get_or-drop) (f (at + i) (omega arith) (omega arith)))

-- ---- runs of sorted diagonals

module _ (width : ℕ) (w : 0 < width) where
  suc_times : (q : ℕ) → (q + 1) * width ≡ q * width + width
  suc_times q = rw (add-one, suc-mul)

  -- before the next giant the giant is the same
  giant_same : (j k : ℕ) → j ≤ k → k < giant_of width j + width → giant_of width k ≡ giant_of width j
  giant_same j k l h =
      let a : j / width ≤ k / width = (le-div_iff_mul-le w).1 (omega (arith, giant_times width j, giant_le width j)) in
      let b : k / width < j / width + 1 = (div-lt_iff_lt-mul w).1 (omega (arith, giant_times width j, suc_times (j / width))) in
      let e : k / width ≡ j / width = omega arith in
      giant_times width k ∙ ap (λ (q : ℕ). q * width) e ∙ sym (giant_times width j)

  -- from there on it is larger
  giant_next : (j k : ℕ) → giant_of width j + width ≤ k → giant_of width j < giant_of width k
  giant_next j k h =
      let a : j / width + 1 ≤ k / width = (le-div_iff_mul-le w).1 (omega (arith, giant_times width j, suc_times (j / width))) in
      omega (arith, giant_times width j, giant_times width k, suc_times (j / width), mul-le-mul_right {m = j / width + 1} {n = k / width} width a)

-- the diagonals before `at` have lower giants than the one there
pub record Walked (width : ℕ) (ds : List ℕ) (at : ℕ) : Type 0 where
  pub inside : at ≤ length ds
  pub lower : at < length ds → Each (λ k. giant_of width k < giant_of width (get_or ds at 0)) (take at ds)

pub walked_none : (width : ℕ) (ds : List ℕ) → Walked width ds 0
walked_none width ds = record { inside = omega arith; lower = λ _. tt }

module _ {slots width : ℕ} {ds : List ℕ} (p : Planned slots width ds) {at giant end : ℕ} (s : Walked width ds at) (l : at < length ds) (r : RunFrom width ds at giant end) where
  abbrev first : ℕ
  first = get_or ds at 0

  abbrev run : List ℕ
  run = take (end - at) (drop at ds)

  whole : take end ds ≡ take at ds ++ run
  whole =
      let e : end ≡ at + (end - at) = omega (arith, r.some) in
      ap (λ (n : ℕ). take n ds) e ∙ take-add at (end - at) ds

  run_length : length run ≡ end - at
  run_length = length-take-le (end - at) (drop at ds) (rw length-drop (omega (arith, r.run.inside)))

  front_length : length (take at ds) ≡ at
  front_length = length-take-le at ds (omega arith)

  first_low : giant_of width first < slots
  first_low = omega (arith, giant_le width first, each_at (λ k. k < slots) ds 0 p.low at l)

  run_giants : Each (λ k. giant_of width k ≡ giant_of width first) run
  run_giants =
      part_each (λ k. giant_of width k ≡ giant_of width first) ds 0 at (end - at) (omega (arith, r.some, r.run.inside))
      (λ u a b. giant_same width p.positive first (get_or ds u 0) (not_before u a (omega (arith, r.some, r.run.inside))) (r.run.before u a (omega (arith, r.some))))
    where
      not_before : (u : ℕ) → at ≤ u → u < length ds → first ≤ get_or ds u 0
      not_before u a b = ⊎_elim (λ e. le_of_eq (ap (λ (i : ℕ). get_or ds i 0) e)) (λ m. omega (arith, rising_at ds 0 p.rises at u m b)) (eq-or-lt_of_le a)

  joins : Joins width (take at ds) (giant_of width first) run
  joins = record { lower = s.lower l; same = run_giants; some = omega (arith, run_length, r.some) }

  pub walked_giants : giants slots width (take end ds) ≡ giants slots width (take at ds) ++ (giant ∷ [])
  walked_giants = rw (whole, r.giant_is) (giants_run (planned_take at p) first_low joins)

  pub walked_pairs : plan_pairs slots width (take end ds) ≡ plan_pairs slots width (take at ds) ++ ((at, end - at) ∷ [])
  walked_pairs =
      ap (plan_pairs slots width) whole ∙ pairs_run (planned_take at p) first_low joins
      ∙ rw (front_length, run_length)

  pub walked_more : Walked width ds end
  walked_more =
      record {
        inside = r.run.inside;
        lower = λ m.
            let n : giant_of width first < giant_of width (get_or ds end 0) = giant_next width p.positive first (get_or ds end 0) (r.run.behind m) in
            rw whole
            (each_append (λ k. giant_of width k < giant_of width (get_or ds end 0)) (take at ds) run (each_then (λ k h. omega arith) (take at ds) (s.lower l)) (each_then (λ k h. omega arith) run run_giants));
      }

-- ---- no more giants in a part

only_mono : (a b : Bool) (v : ℕ) → (a ≡ true → b ≡ true) → length (only a v) ≤ length (only b v)
only_mono true b v f = rw (f refl) (le_refl 1)
only_mono false b v f = omega arith

below_weaken : (p q : ℕ → Bool) → ((v : ℕ) → p v ≡ true → q v ≡ true) → (n : ℕ) → length (below p n) ≤ length (below q n)
unfolding below
below_weaken p q f zero = le_refl 0
below_weaken p q f (suc n) =
    omega (arith, length-append (below p n) (only (p n) n), length-append (below q n) (only (q n) n), below_weaken p q f n, only_mono (p n) (q n) n (f n))

some_take : (t : ℕ → Bool) (n : ℕ) (xs : List ℕ) → some t (take n xs) ≡ true → some t xs ≡ true
some_take t n xs h = ap (some t) (sym (take-append-drop n xs)) ∙ some_append t (take n xs) (drop n xs) ∙ left (some t (drop n xs)) h

pub giants_part : (slots width n : ℕ) (ks : List ℕ) → length (giants slots width (take n ks)) ≤ length (giants slots width ks)
unfolding giants
giants_part slots width n ks =
    below_weaken (λ g. some (λ k. eqb (giant_of width k) g) (take n ks)) (λ g. some (λ k. eqb (giant_of width k) g) ks) (λ g. some_take (λ k. eqb (giant_of width k) g) n ks) slots

pub giants_few : (slots width : ℕ) (ks : List ℕ) → length (giants slots width ks) ≤ slots
unfolding giants
giants_few slots width ks = below_le (λ g. some (λ k. eqb (giant_of width k) g) ks) slots

-- ---- of no diagonals

pub giants_none : (slots width : ℕ) → giants slots width [] ≡ []
unfolding giants below
giants_none slots width = below_between (λ g. false) 0 slots (omega arith) (λ k a b. refl) ∙ none_below (λ g. false)
  where
    none_below : (p : ℕ → Bool) → below p 0 ≡ []
    none_below p = refl

pub pairs_none : (slots width : ℕ) → plan_pairs slots width [] ≡ []
unfolding plan_pairs
pairs_none slots width = rw (giants_none slots width)

pub pairs_words_length : (slots width : ℕ) (ks : List ℕ) → length (pairs_as_words (plan_pairs slots width ks)) ≡ 2 * length (giants slots width ks)
pairs_words_length slots width ks = omega (arith, length_join (λ (c : ℕ × ℕ). c.0 ∷ c.1 ∷ []) 2 (λ c. refl) (plan_pairs slots width ks), pairs_length slots width ks)

-- ---- multiples

pub among_map : (f : ℕ → ℕ) (x : ℕ) (xs : List ℕ) → among x xs ≡ true → among (f x) (map f xs) ≡ true
among_map f x [] h = h
among_map f x (y ∷ ys) h =
    ⊎_elim (λ a. left (among (f x) (map f ys)) (eq-eqb (f y) (f x) (ap f (eqb-true y x a)))) (λ a. right (eqb (f y) (f x)) (among_map f x ys a)) (one_of (eqb y x) (among x ys) h)

pub among_mapped : (f : ℕ → ℕ) (k : ℕ) (xs : List ℕ) → among k (map f xs) ≡ true → (x : ℕ) × ((among x xs ≡ true) × (f x ≡ k))
among_mapped f k [] h = absurd (true≢false (sym h))
among_mapped f k (x ∷ xs) h =
    ⊎_elim (λ a. (x, (among_head x xs, eqb-true (f x) k a))) (λ a. let r = among_mapped f k xs a in (r.0, (right (eqb x r.0) r.1.0, r.1.1))) (one_of (eqb (f x) k) (among k (map f xs)) h)

same_bool : (a b : Bool) → (a ≡ true → b ≡ true) → (b ≡ true → a ≡ true) → a ≡ b
same_bool true b f g = sym (f refl)
same_bool false true f g = g refl
same_bool false false f g = refl

-- the babies divided by a step: 0 / step, and the baby of each diagonal / step
pub multiples_are : {slots width : ℕ} {ks : List ℕ} → Planned slots width ks → 0 < slots → (step k : ℕ) → (eqb (0 / step) k || some (λ j. eqb (baby_of width j / step) k) ks) ≡ among k (multiples slots width step ks)
unfolding babies
multiples_are {slots} {width} {ks} p s step k =
    same_bool (eqb (0 / step) k || some (λ j. eqb (baby_of width j / step) k) ks) (among k (multiples slots width step ks))
    (λ h. ⊎_elim
    (λ a. let e : 0 / step ≡ k = eqb-true (0 / step) k a in rw (← e) (among_map (λ b. b / step) 0 (babies slots width ks) (babies_zero slots width ks s)))
    (λ a.
    let x = some_member (λ j. eqb (baby_of width j / step) k) ks a in
    let e : baby_of width x.0 / step ≡ k = eqb-true (baby_of width x.0 / step) k x.1.1 in
    rw (← e) (among_map (λ b. b / step) (baby_of width x.0) (babies slots width ks) (babies_have p x.0 x.1.0)))
    (one_of (eqb (0 / step) k) (some (λ j. eqb (baby_of width j / step) k) ks) h))
    (λ h. back (among_mapped (λ b. b / step) k (babies slots width ks) h))
  where
    back : (x : ℕ) × ((among x (babies slots width ks) ≡ true) × (x / step ≡ k)) → (eqb (0 / step) k || some (λ j. eqb (baby_of width j / step) k) ks) ≡ true
    back x =
        ⊎_elim
        (λ a. left (some (λ j. eqb (baby_of width j / step) k) ks) (eq-eqb (0 / step) k (ap (λ (b : ℕ). b / step) (sym (eqb-true x.0 0 a)) ∙ x.1.1)))
        (λ a.
        let y = some_member (λ j. eqb (baby_of width j) x.0) ks a in
        right (eqb (0 / step) k) (among_some (λ j. eqb (baby_of width j / step) k) ks y.0 y.1.0 (eq-eqb (baby_of width y.0 / step) k (ap (λ (b : ℕ). b / step) (eqb-true (baby_of width y.0) x.0 y.1.1) ∙ x.1.1))))
        (one_of (eqb x.0 0) (some (λ j. eqb (baby_of width j) x.0) ks) (below_among x.0 (λ b. eqb b 0 || some (λ j. eqb (baby_of width j) b) ks) slots x.1.0).1)
