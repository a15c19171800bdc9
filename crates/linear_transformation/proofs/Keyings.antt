-- What a strategy makes of sorted diagonals: baby step, babies, keys and switches.
-- Assumes nothing.
use Prim.Native.Nat.{ℕ, ◌+◌, ◌^◌, ◌≤◌, ◌<◌}
use mathlib.Core.Path.{◌≡◌, sym, ap, ◌∙◌}
use mathlib.Core.Bool.{Bool, true, false}
use mathlib.Core.List.{List, [], ◌∷◌, ◌++◌, map, map-append}
use native.Mathlib.Nat.{mod-eq_of_lt, mul-mod_left}
use native.Mathlib.Omega.{arith}
use lib.IntN.{ℤ, pos}
use lib.Signed.{mag}
use lib.ListN.{length, get_or, set, take}
use mir.Syntax.{w64}
use mir.Val.{to_z}
use Rattle.ring.specs.Residues.{residue_of}
use Rattle.ring.specs.Laws.Lists.{each_at}
use Rattle.ring.specs.Laws.Residues.{residue_pos}
use Rattle.ring.specs.Refusals.{Range}
use Rattle.std.specs.Ordering.{ord_max, nat_cmp}
use Rattle.linear_transformation.specs.Schedules.{baby_step, baby_multiples, plan_babies}
use Rattle.linear_transformation.specs.Strategies.{width_outside}
use Rattle.linear_transformation.specs.declared.LinearTransformationStrategy.{LinearTransformationStrategy}
use Rattle.linear_transformation.specs.declared.LinearTransformationStrategy.TheVariants.{Bsgs, BsgsPowersOfTwo, Direct}
use Rattle.linear_transformation.specs.Closures.{closure, nonzeros}
use Rattle.linear_transformation.specs.Steps.Babies.{Closes}
use Rattle.std.specs.Prelude.{Result}
use Rattle.ring.specs.declared.refusal.Refusal.{Refusal}
use Rattle.linear_transformation.specs.declared.plan.PlanSizes.{PlanSizes}
use Rattle.linear_transformation.specs.declared.digits.Digit.{Digit}
use Rattle.linear_transformation.specs.Plans.{width_of, babies, giants, Planned}
use Rattle.linear_transformation.specs.Steps.Plans.{Diagonals, multiples, BabiesMarked, StepIs, MultiplesEnd, WordsWritten, RunEnd, RunFrom}
use Rattle.linear_transformation.specs.Steps.Trees.{Listed, DigitIs, LargestIs, LeafIs, leaves_at, Blank, LeavesMarked}
use Rattle.linear_transformation.specs.Steps.Keys.{Sizable, Accepted, BabyTable, ClosureTable, giants_of}
use Rattle.linear_transformation.specs.Laws.Plans.{giant_le, giant_times}
use Rattle.linear_transformation.specs.Laws.Runs.{planned_bound, giants_none, Walked, walked_none, walked_more, walked_giants}
use Rattle.linear_transformation.proofs.Strategies.{Own}
use Rattle.linear_transformation.proofs.PlanAnswers.{babies_of, words_at, is_diagonals, own_babies_lem, step_is, closed_below, closed_babies, closable, closed_marks, in_range_lem}
use Rattle.linear_transformation.proofs.Signs.{max_is, natural_is}
use Rattle.linear_transformation.proofs.Listings.{largest_none, largest_more, leaves_marked_none, leaves_marked_more}
use Rattle.linear_transformation.specs.Laws.Turns.{rest, giants_turning}
use Rattle.linear_transformation.specs.Laws.CommonDivisors.{baby_step_bound}
use Rattle.linear_transformation.specs.Steps.Tables.{Bounded}
use Rattle.linear_transformation.specs.Steps.Numbers.{Stepped}

-- the baby step of slots, which the diagonals are below
pub part_step : {slots width : ℕ} {ds : List ℕ} {r : ℕ} → Range slots → Planned slots width ds → StepIs width ds r → r ≡ baby_step slots width ds
part_step a p s = s.is ∙ baby_step_bound p 65536 a.high a.low

-- ---- the tree over the plan's giants

module _ {slots width : ℕ} {ds : List ℕ} (z : Sizable slots width ds) where
  pub is_stepped : Stepped slots width
  is_stepped = record { positive = z.width_in.low; some = z.slots_in_fact.low; small = z.slots_in_fact.high; low = z.width_in.high }

  pub sized : Diagonals width ds
  sized = is_diagonals z.slots_in_fact z.width_in z.planned

  wide_planned : Planned 65536 width ds
  wide_planned = planned_bound z.planned 65536 z.slots_in_fact.high

  module _ {at giant end : ℕ} (l : at < length ds) (r : RunFrom width ds at giant end) where
    giant_low : giant < slots
    giant_low = omega (arith, r.giant_is, giant_le width (get_or ds at 0), each_at (λ k. k < slots) ds 0 z.planned.low at l)

    -- the giant of a run, as it is handed on
    giant_word : to_z w64 giant ≡ pos giant
    giant_word = natural_is giant (omega (arith, giant_low, z.slots_in_fact.high))

    pub plan_giant : Listed slots width (to_z w64 giant)
    plan_giant =
        let e : residue_of (to_z w64 giant) slots ≡ giant = ap (λ (g : ℤ). residue_of g slots) giant_word ∙ residue_pos giant slots z.slots_in_fact.low ∙ mod-eq_of_lt giant_low in
        rw (e, r.giant_is, giant_times width (get_or ds at 0)) (mul-mod_left _ width)

    giants_more : Walked width ds at → giants_of width (take end ds) ≡ giants_of width (take at ds) ++ (pos giant ∷ [])
    giants_more w = ap (map pos) (walked_giants wide_planned w l r) ∙ map-append pos (giants 65536 width (take at ds)) (giant ∷ [])

no_giants : (width : ℕ) → giants_of width [] ≡ []
no_giants width = ap (map pos) (giants_none 65536 width)

-- the largest digit of the giants before `at`
pub record Topping (slots width : ℕ) (ds : List ℕ) (x at : ℕ) : Type 0 where
  pub walked : Walked width ds at
  pub so_far : LargestIs slots width (giants_of width (take at ds)) x

pub topping_none : (slots width : ℕ) (ds : List ℕ) → Topping slots width ds 0 0
topping_none slots width ds = record { walked = walked_none width ds; so_far = rw (no_giants width) (largest_none slots width) }

module _ {slots width : ℕ} {ds : List ℕ} {x at : ℕ} (s : Topping slots width ds x at) where
  pub topping_more : {giant end : ℕ} {d : Digit} {m y : ℕ} → Sizable slots width ds → at < length ds → RunFrom width ds at giant end → DigitIs slots width (to_z w64 giant) d → m ≡ mag d.0 → y ≡ ord_max nat_cmp x m → Topping slots width ds y end
  topping_more {m = m} z l r q i j = record { walked = walked_more (wide_planned z) s.walked l r; so_far = rw (giants_more z l r s.walked) (largest_more s.so_far (rw (giant_word z l r) at q) i (j ∙ max_is x m)) }

-- their leaves are marked
pub record Leafing (slots width bits : ℕ) (ds : List ℕ) (heap : List Bool) (at : ℕ) : Type 0 where
  pub walked : Walked width ds at
  pub so_far : LeavesMarked bits (leaves_at slots width bits (giants_of width (take at ds))) heap

pub leafing_none : (slots width bits : ℕ) (ds : List ℕ) {heap : List Bool} → Blank heap → Leafing slots width bits ds heap 0
leafing_none slots width bits ds b = record { walked = walked_none width ds; so_far = rw (no_giants width) (leaves_marked_none slots width bits b) }

module _ {slots width bits : ℕ} {ds : List ℕ} {heap : List Bool} {at : ℕ} (s : Leafing slots width bits ds heap at) where
  pub leafing_more : {giant end p n : ℕ} → Sizable slots width ds → at < length ds → RunFrom width ds at giant end → bits ≤ 16 → p ≡ 2 ^ bits → LeafIs slots width bits (to_z w64 giant) n → Leafing slots width bits ds (set heap (p + n) true) end
  leafing_more z l r b e q = record { walked = walked_more (wide_planned z) s.walked l r; so_far = rw (giants_more z l r s.walked) (leaves_marked_more (giants_of width (take at ds)) s.so_far b e (rw (giant_word z l r) at q)) }

-- ---- tables of babies

module _ {slots width : ℕ} {ds : List ℕ} (z : Sizable slots width ds) where
  pub may_close : {seen : List Bool} {step n : ℕ} → BabiesMarked width step ds seen → MultiplesEnd slots width step n → Bounded seen n
  may_close b m = closable z.slots_in_fact z.width_in z.planned m b

  pub own_table : {seen : List Bool} {n : ℕ} → BabiesMarked width 1 ds seen → MultiplesEnd slots width 1 n → BabyTable (babies slots width ds) seen n 1
  own_table b m =
      record {
        bounded = may_close b m;
        range = record { low = omega arith; high = omega arith };
        are = own_babies_lem z.slots_in_fact z.width_in z.planned b m;
      }

  pub closure_table : {seen seen' : List Bool} {step n : ℕ} → StepIs width ds step → MultiplesEnd slots width step n → BabiesMarked width step ds seen → Closes n seen seen' → ClosureTable slots width ds seen' n step
  unfolding baby_multiples
  closure_table {seen'} {step} s m b c =
      let same = closed_marks z.slots_in_fact z.width_in z.planned m b c in
      let i : step ≡ baby_step slots width ds = step_is z.slots_in_fact z.width_in z.planned s m in
      record {
        table = record { bounded = c.bounded; range = s.range; are = closed_babies z.slots_in_fact z.width_in z.planned s m seen' same };
        step_is = i;
        closure_is = closed_below z.slots_in_fact z.width_in z.planned s m seen' same ∙ ap (λ (x : ℕ). closure 16 (multiples slots width x ds)) i;
      }

-- by the strategy
pub width_range : (s : LinearTransformationStrategy) → width_outside s ≡ false → Range (width_of s)
width_range (Bsgs w) e = in_range_lem e
width_range (BsgsPowersOfTwo w) e = in_range_lem e
width_range Direct e = record { low = omega arith; high = omega arith }

module _ (slots : ℕ) (ds : List ℕ) {s : LinearTransformationStrategy} {seen : List Bool} {n step w : ℕ} where
  pub table_own : Own s slots ds → w ≡ width_of s → BabyTable (babies slots w ds) seen n step → BabyTable (plan_babies slots s ds) seen n step
  table_own o e t = rw (o.babies_are, ← e) t

  pub table_powers : s ≡ BsgsPowersOfTwo w → ClosureTable slots w ds seen n step → BabyTable (plan_babies slots s ds) seen n step
  table_powers e t = rw e t.table

-- ---- giants that are not 0

module _ {width : ℕ} {ds : List ℕ} (g : Diagonals width ds) {r : ℕ} (e : RunEnd ds 0 width r) where
  pub rest_giants : giants 65536 width (rest r ds) ≡ nonzeros (giants 65536 width ds)
  rest_giants = sym (giants_turning g.planned e)

-- ---- the plan's words

pub plan_written : {slots : ℕ} {s : LinearTransformationStrategy} {ds : List ℕ} {seen : List Bool} {n step : ℕ} {old new : List ℕ} {r : Result PlanSizes Refusal} → Accepted slots s ds → BabyTable (plan_babies slots s ds) seen n step
    → WordsWritten (babies_of seen n step) 65536 (width_of s) ds old new r → WordsWritten (plan_babies slots s ds) slots (width_of s) ds old new r
plan_written {s} a t v = words_at a.slots_in_fact (width_range s a.width_in) a.planned t.are v
