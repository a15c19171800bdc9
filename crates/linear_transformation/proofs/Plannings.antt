-- The walks that write a plan: what each loop keeps, a turn, and the end.
-- Assumes nothing.
use Prim.Native.Nat.{ℕ, zero, suc, max, ◌+◌, ◌-◌, ◌*◌, ◌/◌, ◌%◌, ◌≤◌, ◌<◌}
use mathlib.Core.Path.{◌≡◌, sym, ap, ◌∙◌}
use mathlib.Core.Bool.{Bool, true, false, ◌||◌, or_assoc}
use mathlib.Core.List.{List, [], ◌∷◌, ◌++◌, map, map-append, append_assoc}
use mathlib.Core.Logic.{◌⊎◌, inl, inr}
use native.Mathlib.Numerals.{add-one}
use native.Mathlib.Nat.{div-le_self, zero-add, mod-le, mod-eq_of_lt, mod-add-mod, mul-mod_left, eq-or-lt_of_le}
use native.Mathlib.Omega.{arith}
use lib.Dec.{eqb, ltb}
use lib.ListN.{length, get_or, set, take, length-set, length-append, take-append-drop, drop}
use lib.Seq.{take-suc, take_all}
use Rattle.std.specs.Prelude.{Option, Some, None}
use Rattle.std.specs.Iterator.{IsFinite, at_most, Yields}
use Rattle.linear_transformation.specs.declared.plan.Run.{Run}
use Rattle.linear_transformation.specs.declared.plan.Runs.{Runs}
use Rattle.std.specs.List.{take_while, prefix_len}
use Rattle.std.proofs.lemmas.Bool.{ltb-true, ltb-false}
use Rattle.std.proofs.lemmas.List.{get_or-drop, length-drop}
use Rattle.std.proofs.lemmas.List.Sums.{prefix_len-le-length, prefix_len_passes, prefix_len_stops}
use Rattle.std.proofs.lemmas.List.Folds.{length-prefix_len}
use Rattle.ring.specs.Searches.{or_else}
use Rattle.ring.specs.Divisors.{gcd_of, gcd_all}
use Rattle.ring.specs.Marks.{marks}
use Rattle.ring.specs.Laws.Lists.{each_at, join_append}
use Rattle.linear_transformation.specs.Plans.{baby_of, giant_of, giants, plan_pairs, plan_index}
use Rattle.ring.specs.Lists.{some}
use Rattle.linear_transformation.specs.Steps.Plans.{Diagonals, BabiesMarked, StepIs, RunEnd, RunFrom, NextRun}
use Rattle.ring.specs.Laws.Members.{some_append}
use Rattle.linear_transformation.specs.Laws.Plans.{index_babies, giant_baby, giant_le, baby_lt, giant_times}
use Rattle.linear_transformation.specs.Laws.Runs.{planned_length, pairs_as_words, giants_none, pairs_none, pairs_words_length, multiples_are, Walked, walked_none, walked_more, walked_giants, walked_pairs, giants_part}
use Rattle.linear_transformation.specs.Laws.CommonDivisors.{gcd_all_one, gcd_all_snoc, gcd_low, baby_step_is, or_else_low, or_else_some}
use Rattle.linear_transformation.proofs.Writings.{writing_none, writing_more, mark_more}
use Rattle.linear_transformation.specs.Steps.Tables.{Writing}

-- ---- the index

-- a multiple of the width that is at most k, and less than a width below it, is k's giant
pub giant_near : (base k width : ℕ) → base % width ≡ 0 → base ≤ k → k - base < width → base ≡ giant_of width k
unfolding giant_of baby_of
giant_near base k width z l n =
    let e : base + (k - base) ≡ k = omega arith in
    let m : k % width ≡ k - base = ap (λ (x : ℕ). x % width) (sym e) ∙ sym (mod-add-mod base width (k - base)) ∙ rw (z, zero-add) (mod-eq_of_lt n) in
    omega (arith, m)

pub giant_multiple : (k width : ℕ) → giant_of width k % width ≡ 0
giant_multiple k width = rw (giant_times width k) (mul-mod_left (k / width) width)

-- the babies of the diagonals before t are written, and base is a giant or 0
pub record Indexing (ds : List ℕ) (width start : ℕ) (old new : List ℕ) (to base t : ℕ) : Type 0 where
  pub room : t ≤ length ds
  pub multiple : base % width ≡ 0
  pub place : to ≡ start + t
  pub written : Writing start (map (baby_of width) (take t ds)) old new to

module _ {ds : List ℕ} {width start : ℕ} {old new : List ℕ} {to base t : ℕ} (s : Indexing ds width start old new to base t) where
  pub indexing_more : {g : ℕ} → t < length ds → start + length ds ≤ length old → g ≡ giant_of width (get_or ds t 0) → Indexing ds width start old (set new to (get_or ds t 0 - g)) (to + 1) g (t + 1)
  indexing_more {g} l h q =
      let e : get_or ds t 0 - g ≡ baby_of width (get_or ds t 0) = omega (arith, q, giant_baby width (get_or ds t 0)) in
      record {
        room = omega arith;
        multiple = rw q (giant_multiple (get_or ds t 0) width);
        place = omega (arith, s.place);
        written = rw (e, add-one t, take-suc ds t 0 l, map-append) (writing_more s.written (omega (arith, s.place, s.written.len)) (baby_of width (get_or ds t 0)));
      }

  pub indexing_done : Diagonals width ds → length ds ≤ t → Writing start (plan_index 65536 width ds) old new to
  indexing_done g h = rw (index_babies g.planned, ← take_all t ds h) s.written

-- ---- a run

-- the diagonals from `start` on that are below the edge are a run
pub run_counted : (ds : List ℕ) (start edge : ℕ) → start ≤ length ds → RunEnd ds start edge (start + length (take_while (λ k. ltb k edge) (drop start ds)))
run_counted ds start edge l =
    let p : ℕ → Bool = λ k. ltb k edge in
    let n : ℕ = prefix_len p (drop start ds) in
    let m : n ≤ length (drop start ds) = prefix_len-le-length p (drop start ds) in
    rw (length-prefix_len p (drop start ds))
    (record {
      order = omega arith;
      inside = omega (arith, m, length-drop start ds);
      before = λ u a b. let e : start + (u - start) ≡ u = omega arith in rw (← e) (ltb-true _ _ (sym (ap p (get_or-drop start ds (u - start) 0)) ∙ prefix_len_passes p (drop start ds) (u - start) 0 (omega arith)));
      behind = λ h. ltb-false _ _ (sym (ap p (get_or-drop start ds n 0)) ∙ prefix_len_stops p (drop start ds) 0 (omega (arith, h, length-drop start ds)));
    })

-- the same, as a slice's range gives them
pub run_passed : (ds : List ℕ) (start edge : ℕ) → start ≤ length ds → RunEnd ds start edge (start + length (take_while (λ k. ltb k edge) (take (length ds - start) (drop start ds))))
run_passed ds start edge l = rw (take_all (length ds - start) (drop start ds) (omega (arith, length-drop start ds))) (run_counted ds start edge l)

-- the giant of a diagonal, and the run behind it
module _ {width : ℕ} {ds : List ℕ} (g : Diagonals width ds) {at : ℕ} (l : at < length ds) where
  pub diagonal_low : get_or ds at 0 < 65536
  diagonal_low = each_at (λ k. k < 65536) ds 0 g.planned.low at l

  pub edge_low : {giant : ℕ} → giant ≡ giant_of width (get_or ds at 0) → giant + width < 65536 + 65536
  edge_low e = omega (arith, e, giant_le width (get_or ds at 0), diagonal_low, g.narrow)

  pub run_is : {giant end : ℕ} → giant ≡ giant_of width (get_or ds at 0) → RunEnd ds at (giant + width) end → RunFrom width ds at giant end
  run_is {giant} {end} q r = record { giant_is = q; some = by (eq-or-lt_of_le r.order); run = rw (← q) r }
    where
      by : (at ≡ end) ⊎ (at < end) → at < end
      by (inl e) =
          let b : giant + width ≤ get_or ds at 0 = rw (← e) at (r.behind (omega arith)) in
          omega (arith, q, giant_baby width (get_or ds at 0), baby_lt width (get_or ds at 0) g.planned.positive, b)
      by (inr h) = h

-- ---- the runs of a list

-- the iterator goes over the runs of these diagonals
pub record Stands (width : ℕ) (ds : List ℕ) (s : Runs) : Type 0 where
  pub list_is : s.ds.now ≡ ds
  pub width_is : s.width ≡ width

-- and may be called
abbrev pub Going : ℕ → List ℕ → Runs → Type 0
Going width ds s = Diagonals s.width s.ds.now × IsFinite (at_most (length s.ds.now - s.at)) × Stands width ds s

going_diagonals : {width : ℕ} {ds : List ℕ} {s : Runs} → Going width ds s → Diagonals width ds
going_diagonals i = rw (i.2.list_is, i.2.width_is) at i.0

module _ {width : ℕ} {ds : List ℕ} {s t : Runs} where
  pub going_first : Diagonals width ds → (t.ds.now ≡ ds) × (t.width ≡ width) × (t.at ≡ 0) → s ≡ t → Going width ds s × (s.at ≡ 0)
  going_first g b e = rw e ((rw (b.0, b.1) g, tt, record { list_is = b.0; width_is = b.1 }), b.2)

  pub stands_on : {r : Option Run} → Stands width ds s → NextRun s r t → Stands width ds t
  stands_on h n = record { list_is = n.list_stays ∙ h.list_is; width_is = n.width_stays ∙ h.width_is }

  pub going_on : {x : Run} → Going width ds s → NextRun s (Some x) t → Going width ds t
  going_on i n = (rw (n.list_stays, n.width_stays) i.0, tt, stands_on i.2 n)

  pub run_inside : {x : Run} → Stands width ds s → NextRun s (Some x) t → s.at < length ds
  run_inside h n = rw (← h.list_is) n.run.0

  pub run_now : {x : Run} → Stands width ds s → NextRun s (Some x) t → RunFrom width ds s.at x.giant t.at
  run_now h n = rw (← h.list_is, ← h.width_is) n.run.3

  -- the places of a run are small
  pub run_places : {x : Run} → Going width ds s → NextRun s (Some x) t → (x.start < x.end) × (x.end ≤ 65536)
  run_places i n =
      let r = run_now i.2 n in
      (omega (arith, r.some, n.run.1, n.run.2), omega (arith, planned_length (going_diagonals i).planned, r.run.inside, n.run.2))

  pub runs_end : Stands width ds s → NextRun s None t → length ds ≤ s.at
  runs_end h n = rw (← h.list_is) n.run.0

-- where a diagonal is found, its run
module _ {width : ℕ} {ds : List ℕ} {at k giant : ℕ} (g : Diagonals width ds) (f : (at < length ds) × ((d : ℕ) → k ≡ get_or ds at d)) (q : giant ≡ giant_of width k) where
  giant_found : giant ≡ giant_of width (get_or ds at 0)
  giant_found = q ∙ ap (giant_of width) (f.1 0)

  pub found_low : giant + width < 65536 + 65536
  found_low = edge_low g f.0 giant_found

  pub found_run : {end : ℕ} → RunEnd ds at (giant + width) end → RunFrom width ds at giant end
  found_run r = run_is g f.0 giant_found r

-- ---- babies

-- the babies of the diagonals before t are marked
pub record Babying (ds : List ℕ) (width step : ℕ) (seen : List Bool) (t : ℕ) : Type 0 where
  pub room : t ≤ length ds
  pub size : length seen ≡ 65536
  pub so_far : (k : ℕ) → marks seen k ≡ (eqb (0 / step) k || some (λ j. eqb (baby_of width j / step) k) (take t ds))

pub baby_low : {width : ℕ} (step : ℕ) {ds : List ℕ} {t : ℕ} → Diagonals width ds → t < length ds → get_or ds t 0 % width / step < 65536
baby_low {width} step {ds} {t} g l = omega (arith, diagonal_low g l, mod-le (get_or ds t 0) width, div-le_self (get_or ds t 0 % width) step)

module _ {ds : List ℕ} {width step : ℕ} {seen : List Bool} {t : ℕ} (s : Babying ds width step seen t) where
  pub babying_more : {o : ℕ} → Diagonals width ds → t < length ds → o ≡ get_or ds t 0 % width / step → Babying ds width step (set seen o true) (t + 1)
  unfolding baby_of
  babying_more {o} g l e =
      record {
        room = omega arith;
        size = simp length-set s.size;
        so_far = λ k.
            let p : ℕ → Bool = λ j. eqb (j % width / step) k in
            mark_more seen o k (omega (arith, s.size, baby_low step g l))
            ∙ rw (s.so_far k, e) (or_assoc (eqb (0 / step) k) (some p (take t ds)) (p (get_or ds t 0) || false) ∙ ap (λ (b : Bool). eqb (0 / step) k || b) (sym (rw (add-one t, take-suc ds t 0 l) (some_append p (take t ds) (get_or ds t 0 ∷ [])))));
      }

  pub babying_done : Diagonals width ds → length ds ≤ t → BabiesMarked width step ds seen
  babying_done g h =
      record {
        size = s.size;
        are = λ k.
            s.so_far k
            ∙ ap (λ (ks : List ℕ). eqb (0 / step) k || some (λ j. eqb (baby_of width j / step) k) ks) (take_all t ds h)
            ∙ multiples_are g.planned (omega arith) step k;
      }

-- ---- giants and pairs

-- the giants of the diagonals before `at` are counted
pub record Numbering (width : ℕ) (ds : List ℕ) (count at : ℕ) : Type 0 where
  pub walked : Walked width ds at
  pub so_far : count ≡ length (giants 65536 width (take at ds))

pub numbering_none : (width : ℕ) (ds : List ℕ) → Numbering width ds 0 0
numbering_none width ds = record { walked = walked_none width ds; so_far = sym (ap length (giants_none 65536 width)) }

module _ {width : ℕ} {ds : List ℕ} {count at : ℕ} (s : Numbering width ds count at) where
  pub numbering_more : {giant end : ℕ} → Diagonals width ds → at < length ds → RunFrom width ds at giant end → Numbering width ds (count + 1) end
  numbering_more {giant} g l r =
      record {
        walked = walked_more g.planned s.walked l r;
        so_far = omega (arith, s.so_far, ap length (walked_giants g.planned s.walked l r), length-append (giants 65536 width (take at ds)) (giant ∷ []));
      }

  pub numbering_done : length ds ≤ at → count ≡ length (giants 65536 width ds)
  numbering_done h = s.so_far ∙ ap (λ (ks : List ℕ). length (giants 65536 width ks)) (take_all at ds h)

-- the runs are as many as the giants
pub runs_counted : {width : ℕ} {ds : List ℕ} (xs : List Run) {n : ℕ} {s t u : Runs} → Diagonals width ds → Stands width ds s → Numbering width ds n s.at → Yields NextRun s xs t → NextRun t None u → n + length xs ≡ length (giants 65536 width ds)
runs_counted [] {n} {u = u} g h i y z = omega (arith, numbering_done i (runs_end {t = u} h (rw y z)))
runs_counted (x ∷ xs) {n} g h i y z =
    omega (arith, runs_counted xs g (stands_on h y.1) (numbering_more i g (run_inside h y.1) (run_now h y.1)) y.2 z)

-- they are written
pub record Heading (width : ℕ) (ds : List ℕ) (start : ℕ) (old new : List ℕ) (to at : ℕ) : Type 0 where
  pub walked : Walked width ds at
  pub written : Writing start (giants 65536 width (take at ds)) old new to

pub heading_none : (width : ℕ) (ds : List ℕ) (start : ℕ) (old : List ℕ) → Heading width ds start old old start 0
heading_none width ds start old = record { walked = walked_none width ds; written = rw (giants_none 65536 width) (writing_none start old) }

module _ {width : ℕ} {ds : List ℕ} {start : ℕ} {old new : List ℕ} {to : ℕ} {s t : Runs} {x : Run} (i : Going width ds s × Heading width ds start old new to s.at) (n : NextRun s (Some x) t) (l : start + length (giants 65536 width ds) ≤ length old) where
  giants_now : giants 65536 width (take t.at ds) ≡ giants 65536 width (take s.at ds) ++ (x.giant ∷ [])
  giants_now = walked_giants (going_diagonals i.0).planned i.1.walked (run_inside i.0.2 n) (run_now i.0.2 n)

  pub heading_room : to < length old
  heading_room = omega (arith, l, i.1.written.at_is, ap length giants_now, length-append (giants 65536 width (take s.at ds)) (x.giant ∷ []), giants_part 65536 width t.at ds)

  pub heading_more : Going width ds t × Heading width ds start old (set new to x.giant) (to + 1) t.at
  heading_more = (
    going_on i.0 n,
    record {
      walked = walked_more (going_diagonals i.0).planned i.1.walked (run_inside i.0.2 n) (run_now i.0.2 n);
      written = rw giants_now (writing_more i.1.written (omega (arith, heading_room, i.1.written.len)) x.giant);
    },
  )

-- their pairs are written
pub record Pairing (width : ℕ) (ds : List ℕ) (start : ℕ) (old new : List ℕ) (to at : ℕ) : Type 0 where
  pub walked : Walked width ds at
  pub written : Writing start (pairs_as_words (plan_pairs 65536 width (take at ds))) old new to

pub pairing_none : (width : ℕ) (ds : List ℕ) (start : ℕ) (old : List ℕ) → Pairing width ds start old old start 0
pairing_none width ds start old = record { walked = walked_none width ds; written = rw (pairs_none 65536 width) (writing_none start old) }

module _ {width : ℕ} {ds : List ℕ} {start : ℕ} {old new : List ℕ} {to : ℕ} {s t : Runs} {x : Run} (i : Going width ds s × Pairing width ds start old new to s.at) (n : NextRun s (Some x) t) (l : start + 2 * length (giants 65536 width ds) ≤ length old) where
  run_here : RunFrom width ds s.at x.giant t.at
  run_here = run_now i.0.2 n

  pub pairing_room : to + 1 < length old
  pairing_room =
      omega (arith, l, i.1.written.at_is, pairs_words_length 65536 width (take s.at ds), ap length (walked_giants (going_diagonals i.0).planned i.1.walked (run_inside i.0.2 n) run_here), length-append (giants 65536 width (take s.at ds)) (x.giant ∷ []), giants_part 65536 width t.at ds)

  pairs_written : Writing start (pairs_as_words (plan_pairs 65536 width (take t.at ds))) old (set (set new to s.at) (to + 1) (t.at - s.at)) (to + 2)
  pairs_written =
      let two : to + 2 ≡ to + 1 + 1 = omega arith in
      let one = writing_more i.1.written (omega (arith, pairing_room, i.1.written.len)) s.at in
      let both = writing_more one (simp length-set (omega (arith, pairing_room, i.1.written.len))) (t.at - s.at) in
      rw (two, walked_pairs (going_diagonals i.0).planned i.1.walked (run_inside i.0.2 n) run_here, join_append (λ (c : ℕ × ℕ). c.0 ∷ c.1 ∷ []) (plan_pairs 65536 width (take s.at ds)) ((s.at, t.at - s.at) ∷ []), ← append_assoc (pairs_as_words (plan_pairs 65536 width (take s.at ds))) (s.at ∷ []) ((t.at - s.at) ∷ [])) both

  pub pairing_more : Going width ds t × Pairing width ds start old (set (set new to x.start) (to + 1) (x.end - x.start)) (to + 2) t.at
  pairing_more = (
    going_on i.0 n,
    record { walked = walked_more (going_diagonals i.0).planned i.1.walked (run_inside i.0.2 n) run_here; written = rw (n.run.1, n.run.2) pairs_written },
  )

-- ---- the baby step

-- the common divisor of the babies of the diagonals before t
pub record Dividing (width : ℕ) (ds : List ℕ) (common t : ℕ) : Type 0 where
  pub room : t ≤ length ds
  pub so_far : common ≡ gcd_all (map (baby_of width) (take t ds))
  pub low : common < 65536

module _ {width : ℕ} {ds : List ℕ} {common t : ℕ} (s : Dividing width ds common t) where
  pub dividing_more : {r : ℕ} → Diagonals width ds → t < length ds → r ≡ gcd_of (get_or ds t 0 % width) common → Dividing width ds r (t + 1)
  unfolding baby_of
  dividing_more g l e =
      record {
        room = omega arith;
        so_far = rw (add-one t, take-suc ds t 0 l, map-append, gcd_all_snoc (map (baby_of width) (take t ds)) (get_or ds t 0 % width), ← s.so_far) e;
        low = rw e (gcd_low (get_or ds t 0 % width) common 65536 (omega (arith, diagonal_low g l, mod-le (get_or ds t 0) width)) s.low);
      }

  -- no later baby changes 1
  pub dividing_one : Diagonals width ds → common ≡ 1 → StepIs width ds 1
  dividing_one g e =
      let front : gcd_all (map (baby_of width) (take t ds)) ≡ 1 = sym s.so_far ∙ e in
      let whole : gcd_all (map (baby_of width) ds) ≡ 1 = ap (λ (ks : List ℕ). gcd_all (map (baby_of width) ks)) (sym (take-append-drop t ds)) ∙ ap gcd_all (map-append (baby_of width) (take t ds) (drop t ds)) ∙ gcd_all_one (map (baby_of width) (take t ds)) (map (baby_of width) (drop t ds)) front in
      record { is = sym (baby_step_is g.planned ∙ rw whole); range = record { low = omega arith; high = omega arith } }

  pub dividing_done : {r : ℕ} → Diagonals width ds → length ds ≤ t → r ≡ or_else common 1 → StepIs width ds r
  dividing_done g h e =
      record {
        is = e ∙ ap (λ (c : ℕ). or_else c 1) (s.so_far ∙ ap (λ (ks : List ℕ). gcd_all (map (baby_of width) ks)) (take_all t ds h)) ∙ sym (baby_step_is g.planned);
        range = record { low = rw e (or_else_some common); high = omega (arith, e, or_else_low common 65536 s.low (omega arith)) };
      }

-- 1 where it is 0
pub step_max : (c : ℕ) → max c 1 ≡ or_else c 1
step_max zero = omega arith
step_max (suc c) = omega arith
