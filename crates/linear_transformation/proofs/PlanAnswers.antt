-- The whole plan: its sizes, its words over the babies that a table of marks stands for, and the answers of the calls.
-- Assumes nothing.
use Prim.Native.Nat.{ℕ, ◌+◌, ◌-◌, ◌*◌, ◌/◌, ◌≤◌, ◌<◌}
use mathlib.Core.Path.{◌≡◌, refl, sym, ap, ◌∙◌}
use mathlib.Core.Bool.{Bool, true, false}
use mathlib.Core.List.{List, [], ◌∷◌, map}
use native.Mathlib.Nat.{div-le_self, le-div_iff_mul-le, div-add-mod', div-one, mul-one}
use native.Mathlib.Omega.{arith}
use borrow.Author.Tests.{lt-ltb, le-ltb}
use lib.Dec.{ltb}
use lib.ListN.{length, length-map}
use lib.IntN.{ℤ}
use Rattle.ring.specs.Lists.{Each, among}
use Rattle.ring.specs.Searches.{below}
use Rattle.std.specs.Prelude.{Some, Result, Ok, Err}
use Rattle.ring.specs.declared.refusal.Refusal.{Refusal}
use Rattle.ring.specs.declared.refusal.Refusal.TheVariants.{Room}
use Rattle.ring.specs.Refusals.{first_refusal, outside, Range}
use Rattle.ring.specs.Marks.{marks}
use Rattle.ring.specs.Laws.Lists.{each_then, each_both, each_map}
use Rattle.ring.specs.Laws.Searches.{by_false}
use Rattle.ring.specs.Laws.Refusals.{inside, first_later, still_refused}
use Rattle.ring.specs.Laws.Below.{below_le, below_ext}
use Rattle.linear_transformation.specs.Plans.{width_of, babies, giants, plan_pairs, plan_index, words_with, Planned}
use Rattle.ring.specs.Residues.{diagonals_of}
use Rattle.linear_transformation.specs.declared.plan.PlanSizes.{PlanSizes}
use Rattle.linear_transformation.specs.declared.LinearTransformationStrategy.{LinearTransformationStrategy}
use Rattle.linear_transformation.specs.declared.LinearTransformationStrategy.TheVariants.{BsgsPowersOfTwo}
use Rattle.linear_transformation.specs.Schedules.{baby_step, baby_multiples, plan_babies, plan_words}
use Rattle.linear_transformation.specs.Closures.{closure, baby_closure}
use Rattle.linear_transformation.specs.Calls.{plan_refusals, plan_refusal, PlanWritten}
use Rattle.linear_transformation.specs.Steps.Babies.{Closes}
use Rattle.linear_transformation.specs.Steps.Plans.{Diagonals, multiples, BabiesMarked, StepIs, MultiplesEnd, DiagonalsAccepted, WordsWritten}
use Rattle.ring.specs.Laws.Members.{each_among, rising_below}
use Rattle.linear_transformation.specs.Laws.Plans.{words_length, babies_rise, babies_below, babies_narrow}
use Rattle.linear_transformation.specs.Laws.Closures.{cleared_lower, positive, closure_least, closure_rising}
use Rattle.linear_transformation.specs.Laws.Tables.{closes_closure}
use Rattle.linear_transformation.specs.Laws.Runs.{planned_length, planned_bound, giants_bound, babies_bound, words_bound, pairs_as_words, pairs_words_length, giants_few}
use Rattle.linear_transformation.specs.Laws.CommonDivisors.{baby_step_bound}
use Rattle.linear_transformation.proofs.Writings.{writing_then, writing_done}
use Rattle.linear_transformation.specs.Steps.Tables.{Bounded, Writing}

-- ---- the whole plan

-- the babies that the marks stand for
abbrev pub babies_of : List Bool → ℕ → ℕ → List ℕ
babies_of seen n step = map (λ k. k * step) (below (marks seen) n)

-- the sizes are known, and small
pub record Sizes (width step : ℕ) (ds : List ℕ) (seen : List Bool) (n nb ng : ℕ) : Type 0 where
  pub diagonals : Diagonals width ds
  pub babies_are : nb ≡ length (below (marks seen) n)
  pub giants_are : ng ≡ length (giants 65536 width ds)
  pub small : nb + 3 * ng + length ds ≤ 65536 * 5

pub sizes : {width : ℕ} (step : ℕ) {ds : List ℕ} {seen : List Bool} {n nb ng : ℕ} → Diagonals width ds → nb ≡ length (below (marks seen) n) → n ≤ 65536 → ng ≡ length (giants 65536 width ds) → Sizes width step ds seen n nb ng
sizes {width} step {ds} {seen} {n} g m h e =
    record {
      diagonals = g;
      babies_are = m;
      giants_are = e;
      small = omega (arith, m, e, below_le (marks seen) n, giants_few 65536 width ds, planned_length g.planned);
    }

module _ {width step : ℕ} {ds : List ℕ} {seen : List Bool} {n nb ng : ℕ} (z : Sizes width step ds seen n nb ng) where
  babies_length : length (babies_of seen n step) ≡ nb
  babies_length = length-map (below (marks seen) n) (λ k. k * step) ∙ sym z.babies_are

  plan_length : length (words_with (babies_of seen n step) 65536 width ds) ≡ nb + 3 * ng + length ds
  plan_length = words_length z.diagonals.planned (babies_of seen n step) ∙ rw (babies_length, z.giants_are)

  pub no_room : (plan : List ℕ) → length plan < nb + 3 * ng + length ds → WordsWritten (babies_of seen n step) 65536 width ds plan plan (Err Room)
  no_room plan h =
      let e : ltb (length plan) (length (words_with (babies_of seen n step) 65536 width ds)) ≡ true = rw plan_length (lt-ltb (length plan) (nb + 3 * ng + length ds) h) in
      record { answer = rw e; words = rw e }

  module _ (plan : List ℕ) (h : nb + 3 * ng + length ds ≤ length plan) where
    module _ {plan₁ : List ℕ} {a : ℕ} (u : Writing 0 (babies_of seen n step) plan plan₁ a) where
      module _ {plan₂ : List ℕ} {b : ℕ} (v : Writing a (giants 65536 width ds) plan₁ plan₂ b) where
        module _ {plan₃ : List ℕ} {c : ℕ} (w : Writing b (pairs_as_words (plan_pairs 65536 width ds)) plan₂ plan₃ c) where
          pub index_asked : c + length ds ≤ length plan₃
          index_asked = omega (arith, u.at_is, u.len, v.at_is, v.len, w.at_is, w.len, babies_length, z.giants_are, pairs_words_length 65536 width ds)

          module _ {plan₄ : List ℕ} {d : ℕ} (x : Writing c (plan_index 65536 width ds) plan₃ plan₄ d) where
            pub plan_written : WordsWritten (babies_of seen n step) 65536 width ds plan plan₄ (Ok (record { babies = nb; giants = ng; diagonals = length ds }))
            unfolding words_with
            plan_written =
                let e : ltb (length plan) (length (words_with (babies_of seen n step) 65536 width ds)) ≡ false = rw plan_length (le-ltb (length plan) (nb + 3 * ng + length ds) h) in
                record {
                  answer = rw (e, babies_length, z.giants_are);
                  words = rw e (writing_done (writing_then (writing_then (writing_then u v) w) x));
                }

map_same : (f : ℕ → ℕ) → ((k : ℕ) → f k ≡ k) → (xs : List ℕ) → map f xs ≡ xs
map_same f h [] = refl
map_same f h (x ∷ xs) = cc (h x, map_same f h xs)

-- ---- the babies that the marks stand for

pub multiples_end : {slots width step : ℕ} (m : ℕ) → 1 ≤ step → 1 ≤ m → m ≤ 65536 → ((b : ℕ) → b < slots → b < width → b < m) → MultiplesEnd slots width step ((m - 1) / step + 1)
multiples_end {slots} {width} {step} m s l h e =
    record {
      small = omega (arith, div-le_self (m - 1) step);
      above = λ b x y. let q : b / step ≤ (m - 1) / step = (le-div_iff_mul-le s).1 (omega (arith, e b x y, div-add-mod' b step)) in omega arith;
    }

module _ {slots width : ℕ} {ds : List ℕ} (a : Range slots) (w : Range width) (p : Planned slots width ds) where
  pub is_diagonals : Diagonals width ds
  is_diagonals = record { planned = planned_bound p 65536 a.high; narrow = w.high }

  module _ {step n : ℕ} (m : MultiplesEnd slots width step n) where
    multiples_low : Each (λ k. k < n) (multiples slots width step ds)
    multiples_low =
        each_map (λ k. k < n) (λ b. b / step) (babies slots width ds)
        (each_both (λ b x y. m.above b x y) (babies slots width ds) (babies_below slots width ds) (babies_narrow slots width ds w.low))

    module _ {seen : List Bool} (b : BabiesMarked width step ds seen) where
      pub marked_multiples : (k : ℕ) → marks seen k ≡ among k (multiples slots width step ds)
      marked_multiples k = b.are k ∙ ap (λ (bs : List ℕ). among k (map (λ b. b / step) bs)) (babies_bound p 65536 a.high a.low)

      -- no number from n on is marked
      pub marks_end : (k : ℕ) → n ≤ k → marks seen k ≡ false
      marks_end k l = by_false (λ e. let h : k < n = each_among (λ k. k < n) (multiples slots width step ds) multiples_low k (sym (marked_multiples k) ∙ e) in omega arith)

  -- where no closure is asked for they are those of the diagonals
  pub own_babies_lem : {seen : List Bool} {n : ℕ} → BabiesMarked width 1 ds seen → MultiplesEnd slots width 1 n → babies_of seen n 1 ≡ babies slots width ds
  own_babies_lem {seen} {n} b m =
      let e : multiples slots width 1 ds ≡ babies slots width ds = map_same (λ b. b / 1) div-one (babies slots width ds) in
      map_same (λ k. k * 1) mul-one (below (marks seen) n)
      ∙ below_ext (marks seen) (λ k. among k (multiples slots width 1 ds)) n (λ k h. marked_multiples m b k)
      ∙ ap (λ (bs : List ℕ). below (λ k. among k bs) n) e
      ∙ rising_below n (babies slots width ds) (babies_rise slots width ds) (rw e at (multiples_low m))

  pub words_at : {bs cs old new : List ℕ} {r : Result PlanSizes Refusal} → bs ≡ cs → WordsWritten bs 65536 width ds old new r → WordsWritten cs slots width ds old new r
  words_at {cs} e v =
      let f = words_bound p 65536 a.high cs in
      let g = giants_bound p 65536 a.high in
      record { answer = rw (e, f, g) at v.answer; words = rw (e, f) at v.words }

  -- with powers of two they are the closure
  module _ {step n : ℕ} (s : StepIs width ds step) (m : MultiplesEnd slots width step n) where
    pub step_is : step ≡ baby_step slots width ds
    step_is = s.is ∙ baby_step_bound p 65536 a.high a.low

    closure_end : Each (λ k. k < n) (closure 16 (multiples slots width step ds))
    closure_end = closure_least 16 (multiples slots width step ds) (λ k. k < n) (λ k h q. omega (arith, cleared_lower k (positive k q))) (multiples_low m)

    pub closed_below : (seen : List Bool) → ((k : ℕ) → marks seen k ≡ among k (closure 16 (multiples slots width step ds))) → below (marks seen) n ≡ closure 16 (multiples slots width step ds)
    closed_below seen same =
        below_ext (marks seen) (λ k. among k (closure 16 (multiples slots width step ds))) n (λ k h. same k)
        ∙ rising_below n (closure 16 (multiples slots width step ds)) (closure_rising 16 (multiples slots width step ds)) closure_end

    pub closed_babies : (seen : List Bool) → ((k : ℕ) → marks seen k ≡ among k (closure 16 (multiples slots width step ds))) → babies_of seen n step ≡ plan_babies slots (BsgsPowersOfTwo width) ds
    unfolding plan_babies baby_multiples
    closed_babies seen same =
        ap (map (λ k. k * step)) (closed_below seen same) ∙ ap (λ (x : ℕ). baby_closure 16 x (multiples slots width x ds)) step_is

-- ---- the calls

-- the plan's words, where the diagonals were accepted
pub words_same : {cs : List (Bool × Refusal)} {slots n : ℕ} {s t : LinearTransformationStrategy} {ds ks old new : List ℕ} {a : Result PlanSizes Refusal} → DiagonalsAccepted cs slots s ds n t ks
    → WordsWritten (plan_babies n t ks) n (width_of t) ks old new a → WordsWritten (plan_babies slots s ds) slots (width_of s) ds old new a
words_same k v = rw (k.slots_is, k.strategy_is, k.diagonals_are) at v

module _ {slots : ℕ} {s : LinearTransformationStrategy} (zs : List ℤ) {old : List ℕ} where
  pub index_refused : {x : Refusal} → first_refusal (plan_refusals slots s) ≡ Some x → PlanWritten slots s zs old old (Err x)
  index_refused n =
      let q = still_refused (plan_refusals slots s) ((ltb (length old) (length (plan_words slots s (diagonals_of slots zs))), Room) ∷ []) n in
      record { answer = rw q; words = rw q }

  pub index_later : {n : ℕ} {t : LinearTransformationStrategy} {ks new : List ℕ} {a : Result PlanSizes Refusal} → DiagonalsAccepted (plan_refusals slots s) slots s (diagonals_of slots zs) n t ks
      → WordsWritten (plan_babies n t ks) n (width_of t) ks old new a → PlanWritten slots s zs old new a
  unfolding plan_words
  index_later k v =
      let w = words_same k v in
      let q : plan_refusal slots s zs old ≡ first_refusal ((ltb (length old) (length (plan_words slots s (diagonals_of slots zs))), Room) ∷ []) = first_later (plan_refusals slots s) ((ltb (length old) (length (plan_words slots s (diagonals_of slots zs))), Room) ∷ []) k.none in
      record { answer = rw q w.answer; words = rw q w.words }

-- the table of the babies' multiples may be closed
pub closable : {slots width step n : ℕ} {ds : List ℕ} {seen : List Bool} → Range slots → Range width → Planned slots width ds → MultiplesEnd slots width step n → BabiesMarked width step ds seen → Bounded seen n
closable a w p m b = record { size = b.size; room = m.small; above = marks_end a w p m b }

-- the closed table has the closure's marks
pub closed_marks : {slots width step n m : ℕ} {ds : List ℕ} {seen seen' : List Bool} → Range slots → Range width → Planned slots width ds → MultiplesEnd slots width step n → BabiesMarked width step ds seen → Closes m seen seen'
    → (k : ℕ) → marks seen' k ≡ among k (closure 16 (multiples slots width step ds))
closed_marks {slots} {width} {step} {ds} a w p e b c k =
    closes_closure c (multiples slots width step ds) (each_then (λ j l. omega (arith, e.small)) (multiples slots width step ds) (multiples_low a w p e)) (marked_multiples a w p e b) k

-- ---- by the strategy

pub in_range_lem : {n : ℕ} → outside n ≡ false → Range n
in_range_lem {n} e = let l = inside n e in record { low = l.0; high = l.1 }
