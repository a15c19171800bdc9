-- The products by public matrices: the summands of an output, their terms, and the period.
-- Assumes nothing.
use Rattle.std.proofs.Common.{◌≡◌, ℕ, zero, suc, ◌+◌, ◌*◌, ◌/◌, ◌%◌, ◌<◌, ◌≤◌, Bool, true, false, cond, eqb, List, [], ◌∷◌, get_or, Some, sym, refl, ap, ◌∙◌, subst, le_refl, mul-le-mul_right, mod-lt, mod-eq_of_lt, div-lt_iff_lt-mul, mul-le-mul, add-one, arith, ◌⊎◌, ⊎_elim, eqb-true, eq-eqb, ne_eqb}
use Prim.Native.Nat.{◌∣◌}
use native.Mathlib.Nat.{mod-add-mod, dvd_refl, dvd_trans, dvd-mul_left, dvd-mul_right}
use Rattle.ring.specs.Lists.{join}
use Rattle.ring.specs.Vectors.{tabulate}
use Rattle.ring.specs.Laws.Vectors.{tabulate_more}
use Rattle.diagonals.specs.SlotMaps.{Term}
use Rattle.diagonals.specs.Laws.Terms.{rows_more}
use Rattle.maps.specs.declared.rules.Product.{Product}
use Rattle.maps.specs.declared.rules.Product.TheVariants.{RightMul, LeftMul, RightJkls, LeftJkls}
use Rattle.maps.specs.Entries.{place, slot_of}
use Rattle.maps.specs.Sums.{factors, period_of, output_terms}
use Rattle.maps.specs.Steps.Tiles.{Tiling}
use Rattle.maps.specs.Steps.Building.{rows_upto}
use Rattle.maps.specs.Steps.Readings.{Within}
use Rattle.maps.specs.Steps.Sums.{plain_summand, OutputIs, SpotIs, FactorsAt}
use Rattle.maps.specs.Laws.Tiling.{some_squared}
use Rattle.maps.proofs.Walks.{rows_same}

-- ---- summands

both_is : (row col l d : ℕ) {x y : ℕ} → x ≡ (row + col) % d → y ≡ (x + l) % d → y ≡ (row + col + l) % d
both_is row col l d e f = f ∙ rw e (mod-add-mod (row + col) d l)

module _ {p : Product} {base d row col l input public : ℕ} where
  pub right_mul : p ≡ RightMul → SpotIs base d row l input → SpotIs base d l col public → FactorsAt p d base row col l input public
  unfolding factors
  right_mul h a b = record { input_is = rw h a.is; public_is = rw h b.is; public_low = b.low }

  pub left_mul : p ≡ LeftMul → SpotIs base d l col input → SpotIs base d row l public → FactorsAt p d base row col l input public
  unfolding factors
  left_mul h a b = record { input_is = rw h a.is; public_is = rw h b.is; public_low = b.low }

  module _ {x y z : ℕ} (e : x ≡ (row + col) % d) (f : y ≡ (x + l) % d) where
    pub right_jkls : p ≡ RightJkls → z ≡ (col + l) % d → SpotIs base d row z input → SpotIs base d y col public → FactorsAt p d base row col l input public
    unfolding factors
    right_jkls h g a b = record { input_is = rw (h, ← g) a.is; public_is = rw (h, ← (both_is row col l d e f)) b.is; public_low = b.low }

    pub left_jkls : p ≡ LeftJkls → z ≡ (row + l) % d → SpotIs base d z col input → SpotIs base d row y public → FactorsAt p d base row col l input public
    unfolding factors
    left_jkls h g a b = record { input_is = rw (h, ← g) a.is; public_is = rw (h, ← (both_is row col l d e f)) b.is; public_low = b.low }

-- ---- outputs

-- the matrix slot of an output is one of the round
pub slot_low : (d count t : ℕ) → 1 ≤ d → t < count * (d * d) → slot_of d t < count
slot_low d count t h l = (div-lt_iff_lt-mul (some_squared h)).1 l

module _ {d t base row col : ℕ} (o : OutputIs d t base row col) where
  pub output_within : 1 ≤ d → d ≤ 256 → Within d row col
  output_within h k = record { side_low = k; row_low = rw o.row_is (mod-lt (t / d) h); col_low = rw o.col_is (mod-lt t h) }

  pub base_inside : (count : ℕ) → 1 ≤ d → t < count * (d * d) → base + d * d ≤ count * (d * d)
  base_inside count h l =
      let k : slot_of d t + 1 ≤ count = omega (arith, slot_low d count t h l) in
      omega (arith, o.base_is, mul-le-mul_right {m = slot_of d t + 1} {n = count} (d * d) k)

-- ---- the period

-- an output below the period is one of the round
pub period_inside : (p : Product) (d count t : ℕ) → 1 ≤ d → t < period_of p d count → t < count * (d * d)
unfolding period_of
period_inside RightMul d count t h l = by_one (eqb count 1) refl l
  where
    by_one : (b : Bool) → b ≡ eqb count 1 → t < cond b d (count * (d * d)) → t < count * (d * d)
    by_one true e l =
        let one : count ≡ 1 = eqb-true count 1 (sym e) in
        let low : d * 1 ≤ d * d = mul-le-mul (le_refl d) h in
        rw one (omega (arith, low))
    by_one false e l = l
period_inside LeftMul d count t h l = l
period_inside RightJkls d count t h l = l
period_inside LeftJkls d count t h l = l

pub period_one : {p : Product} (d count : ℕ) → p ≡ RightMul → count ≡ 1 → d ≡ period_of p d count
unfolding period_of
period_one d count h e = rw (h, eq-eqb count 1 e)

pub period_many : {p : Product} (d count : ℕ) → p ≡ RightMul → (count ≡ 1 → ⊥) → count * (d * d) ≡ period_of p d count
unfolding period_of
period_many d count h n = rw (h, ne_eqb count 1 n)

pub period_whole : {p : Product} (d count : ℕ) → ((p ≡ LeftMul) ⊎ ((p ≡ RightJkls) ⊎ (p ≡ LeftJkls))) → count * (d * d) ≡ period_of p d count
unfolding period_of
period_whole d count h = ⊎_elim (λ e. rw e) (λ k. ⊎_elim (λ e. rw e) (λ e. rw e) k) h

-- it divides the slots of one round
pub record PeriodIs (d count period : ℕ) : Type 0 where
  pub some : 1 ≤ period
  pub divide : period ∣ count * (d * d)

module _ {slots d count : ℕ} (t : Tiling slots d count) where
  round_some : 1 ≤ count * (d * d)
  round_some = let e : 1 * 1 ≤ count * (d * d) = mul-le-mul t.some (some_squared t.side_some) in omega (arith, e)

  whole_period : PeriodIs d count (count * (d * d))
  whole_period = record { some = round_some; divide = dvd_refl (count * (d * d)) }

  row_period : PeriodIs d count d
  row_period = record { some = t.side_some; divide = dvd_trans d (dvd-mul_right d d) (dvd-mul_left (d * d) count) }

  one_or_whole : (b : Bool) → PeriodIs d count (cond b d (count * (d * d)))
  one_or_whole true = row_period
  one_or_whole false = whole_period

  pub period_is : (p : Product) → PeriodIs d count (period_of p d count)
  unfolding period_of
  period_is RightMul = one_or_whole (eqb count 1)
  period_is LeftMul = whole_period
  period_is RightJkls = whole_period
  period_is LeftJkls = whole_period

-- ---- terms

singles : (g : ℕ → Term) (n : ℕ) → join (λ l. g l ∷ []) (tabulate n (λ l. l)) ≡ tabulate n g
singles g zero = refl
singles g (suc n) =
    let more : join (λ l. g l ∷ []) (tabulate (n + 1) (λ l. l)) ≡ tabulate (n + 1) g = rows_more (λ l. g l ∷ []) n ∙ rw (singles g n) (sym (tabulate_more n g)) in
    subst (λ (m : ℕ). join (λ l. g l ∷ []) (tabulate m (λ l. l)) ≡ tabulate m g) (add-one n) more

-- below the period every matrix slot has a matrix of its own: the terms are those of the formula
pub rows_sum : (p : Product) (d count : ℕ) (b : List ℕ) → 1 ≤ d → rows_upto (λ t l. Some (plain_summand p d b t l)) d (period_of p d count) ≡ join (output_terms p d count b) (tabulate (period_of p d count) (λ t. t))
rows_sum p d count b h = rows_same _ (output_terms p d count b) (period_of p d count) row
  where
    row : (t : ℕ) → t < period_of p d count → join (λ l. record { i = t; j = (plain_summand p d b t l).j; w = (plain_summand p d b t l).w } ∷ []) (tabulate d (λ l. l)) ≡ output_terms p d count b t
    row t l =
        singles (λ k. record { i = t; j = (plain_summand p d b t k).j; w = (plain_summand p d b t k).w }) d
        ∙ ap (λ (s : ℕ). tabulate {A = Term} d (λ k. record { i = t; j = slot_of d t * (d * d) + place d (factors p d (t / d % d) (t % d) k).input; w = get_or b (s * (d * d) + place d (factors p d (t / d % d) (t % d) k).public) 0 }))
        (sym (mod-eq_of_lt (slot_low d count t h (period_inside p d count t h l))))
