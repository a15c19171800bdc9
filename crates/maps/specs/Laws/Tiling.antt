-- Laws of the tiling: how large a side is, and refusals behind that of the tiling.
-- Assumes nothing.
use Rattle.std.specs.Prelude.{◌≡◌, ℕ, ◌*◌, ◌^◌, ◌<◌, ◌≤◌, false, not, ◌||◌, ◌==◌, nat_lt, Some, Result, Err, None}
use Rattle.std.proofs.Common.{ap, ◌∙◌, mul-le-mul, mul-pos, le-mul_of_pos_right, mod-eq_of_lt, arith, pow_pos, ne_eqb, ltb-false}
use Rattle.std.proofs.Math.Nat.{pow-le-pow_right, le_of_dvd}
use Rattle.std.proofs.lemmas.Bool.{eqb-false, not-false}
use Rattle.ring.specs.declared.refusal.Refusal.{Refusal}
use Rattle.ring.specs.Divisors.{divides}
use Rattle.ring.specs.Refusals.{first_refusal, outside}
use Rattle.ring.specs.Laws.Refusals.{either, inside, none_holds}
use Rattle.ring.specs.Laws.Divisors.{divides_dvd}
use Rattle.ring.specs.Laws.Answers.{no_refused}
use Rattle.maps.specs.declared.side.Side.{Side}
use Rattle.maps.specs.Calls.{no_tiles, tile_refusals}
use Rattle.maps.specs.Steps.Tiles.{Tiles, Tiling, Tiled, TilesJudged}

-- ---- sides and squares

pub side_pos : (l : ℕ) → 1 ≤ 2 ^ l
side_pos l = pow_pos l

pub side_low : (l : ℕ) → l ≤ 8 → 2 ^ l ≤ 256
side_low l h = pow-le-pow_right {n = 2} (omega arith) h

pub some_squared : {d : ℕ} → 1 ≤ d → 1 ≤ d * d
some_squared h = mul-pos h h

pub low_squared : {d : ℕ} → d ≤ 256 → d * d ≤ 65536
low_squared h = mul-le-mul h h

pub square_pos : (l : ℕ) → 1 ≤ 2 ^ l * 2 ^ l
square_pos l = some_squared (side_pos l)

pub square_low : (l : ℕ) → l ≤ 8 → 2 ^ l * 2 ^ l ≤ 65536
square_low l h = low_squared (side_low l h)

pub tiling : {slots l count : ℕ} → Tiles slots l count → Tiling slots (2 ^ l) count
tiling {l} t =
    record {
      some = t.some;
      side_some = side_pos l;
      side_low = side_low l t.log_low;
      slots_some = t.low;
      small = t.high;
      divide = t.divides;
      inside = le_of_dvd t.low t.divides;
    }

-- ---- the test

-- more matrices than slots don't tile them
pub few_slots : (slots l count : ℕ) → 1 ≤ slots → slots < count → divides (count * (2 ^ l * 2 ^ l)) slots ≡ false
few_slots slots l count h k =
    let m : slots < count * (2 ^ l * 2 ^ l) = omega (arith, le-mul_of_pos_right count (square_pos l)) in
    rw (mod-eq_of_lt m) (ne_eqb slots 0 (λ (e : slots ≡ 0). omega arith))

pub not_refused : {slots l count : ℕ} → outside slots ≡ false → no_tiles slots l count ≡ false → Tiles slots l count
not_refused {slots} {l} {count} o h =
    let a = either (nat_lt 8 l || count == 0) (not (divides (count * (2 ^ l * 2 ^ l)) slots)) h in
    let b = either (nat_lt 8 l) (count == 0) a.0 in
    record {
      log_low = ltb-false 8 l b.0;
      some = omega (arith, eqb-false count 0 b.1);
      low = (inside slots o).0;
      high = (inside slots o).1;
      divides = divides_dvd _ slots (not-false _ a.1);
    }

pub tiles_of : {slots l count : ℕ} → first_refusal (tile_refusals slots l count) ≡ None → Tiles slots l count
tiles_of {slots} {l} {count} z =
    let h = none_holds (tile_refusals slots l count) z in
    not_refused h.0 h.1.0

module _ {slots l count : ℕ} {side : Side} (t : Tiled slots l count side) where
  -- its numbers by the call's log_d
  pub rows_are : {d : ℕ} → d ≡ 2 ^ side.log_d → d ≡ 2 ^ l
  rows_are e = rw (← t.log_is) e

  pub size_is : {n : ℕ} → n ≡ 2 ^ side.log_d * 2 ^ side.log_d → n ≡ 2 ^ l * 2 ^ l
  size_is e = rw (← t.log_is) e

pub same_refusal : {A : Type 0} {x y : Refusal} → ◌≡◌ {A = Result A Refusal} (Err x) (Err y) → x ≡ y
same_refusal h = cc

pub tiles_refused : {slots l count : ℕ} {x : Refusal} → first_refusal (tile_refusals slots l count) ≡ Some x → TilesJudged slots l count (Err x)
tiles_refused e = record { refused = λ y h. e ∙ ap Some (same_refusal h); accepted = λ s h. no_refused h }
