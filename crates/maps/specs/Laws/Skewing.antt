-- Laws of places in matrices, of skewed values, of projections and of products by slot vectors.
-- Assumes nothing.
use Rattle.std.specs.Prelude.{◌≡◌, ℕ, zero, suc, ◌+◌, ◌*◌, ◌/◌, ◌%◌, ◌^◌, ◌<◌, ◌≤◌, Bool, true, false, cond, List, [], ◌∷◌, ◌++◌, length, drop, ℤ, ◌==◌, ◌≢◌, nat_lt, None, Some, Result, Ok, Err}
use Rattle.std.specs.Int.{◌∣◌}
use Rattle.std.proofs.Math.Path.{refl, sym, ap}
use Rattle.std.proofs.Common.{◌∙◌, lt_of_lt_of_le, le_of_eq, suc-ne-zero, mod-lt, mul-le-mul, mul-le-mul_right, suc-mul, le-mul_of_pos_right, div-lt_iff_lt-mul, arith, lt-ltb, le-ltb, ne_eqb, eq-eqb}
use Rattle.std.proofs.Math.Nat.{div-mul_cancel, dvd-mul_left, le_of_dvd}
use native.Mathlib.Nat.{dvd_of_mod-eq-zero}
use Rattle.ring.specs.Calls.{IsOutside}
use Rattle.ring.specs.declared.refusal.Refusal.{Refusal}
use Rattle.ring.specs.declared.refusal.Refusal.TheVariants.{Room}
use mir.Val.{bool_byte}
use Rattle.ring.specs.Vectors.{tabulate, in_front}
use Rattle.ring.specs.Refusals.{first_refusal, outside, no_period}
use Rattle.ring.specs.Answers.{judged}
use Rattle.ring.specs.Laws.Vectors.{length_tabulate, tabulate_cong}
use Rattle.ring.specs.Laws.Refusals.{first_later, still_refused}
use Rattle.ring.specs.Laws.Answers.{answered_accepted, no_refused}
use Rattle.maps.specs.Entries.{place, entry_of}
use Rattle.maps.specs.Values.{skewed, skewed_values, on_diagonal, slot_product, first_row, first_col}
use Rattle.maps.specs.Calls.{tile_refusals, values_refusal, ValuesWritten, slot_product_refusal, TiledWritten, SlotProductWritten}
use Rattle.maps.specs.Steps.Rows.{ones}
use Rattle.maps.specs.Steps.Values.{skewed_place, skewed_at, values_refusals, ValuesTaken, ValuesJudged, OnesWritten}
use Rattle.maps.specs.declared.side.Side.{Side}
use Rattle.ring.specs.Rotations.{rotated}
use Rattle.ring.specs.Laws.Rotations.{length_rotated}
use Rattle.diagonals.specs.Maps.{Diagonal, put_pair}
use Rattle.diagonals.specs.Calls.{map_room, RoomJudged}
use Rattle.diagonals.specs.Laws.Calls.{room_of, written_refused, judged_none, judged_some}
use Rattle.maps.specs.Laws.Rows.{values_one, one_written, tiled_then}
use Rattle.maps.specs.Laws.Tiling.{side_pos, square_pos, same_refusal}

-- ---- places

-- an entry of a matrix stands inside it
pub place_low : (d r c : ℕ) → r < d → c < d → r * d + c < d * d
place_low d r c h k = omega (arith, suc-mul r d, mul-le-mul_right d h)

-- a place in a matrix slot below count
pub slot_low : (n count t x : ℕ) → t < count * n → x < n → t / n * n + x < count * n
slot_low n count t x h k =
    let q : t / n < count = (div-lt_iff_lt-mul {k = n} (omega arith)).1 h in
    omega (arith, suc-mul (t / n) n, mul-le-mul_right n q)

-- a row or a column times the side is small
pub row_low : (x d : ℕ) → 1 ≤ d → d ≤ 256 → x % d * d ≤ 65536
row_low x d h k = mul-le-mul {n₂ = 256} (omega (arith, mod-lt x {m = d} h)) k

module _ (d t : ℕ) (h : 1 ≤ d) where
  skewed_low : (rows : Bool) → place d (skewed rows d (entry_of d t)) < d * d
  skewed_low true = place_low d ((t / d % d + t % d) % d) (t % d) (mod-lt (t / d % d + t % d) h) (mod-lt t h)
  skewed_low false = place_low d (t / d % d) ((t / d % d + t % d) % d) (mod-lt (t / d) h) (mod-lt (t / d % d + t % d) h)

  pub skewed_inside : (rows : Bool) (count : ℕ) → t < count * (d * d) → skewed_place rows d t < count * (d * d)
  skewed_inside rows count l = slot_low (d * d) count t (place d (skewed rows d (entry_of d t))) l (skewed_low rows)

-- so it is among the words of the matrices
pub skewed_read : (rows : Bool) (l t : ℕ) (b : List ℕ) {x : ℕ} → 2 ^ l * 2 ^ l ∣ length b → t < length b → x ≡ skewed_place rows (2 ^ l) t → x < length b
skewed_read rows l t b d h q =
    let n : ℕ = 2 ^ l * 2 ^ l in
    let e : length b / n * n ≡ length b = div-mul_cancel n d in
    rw q (lt_of_lt_of_le (skewed_inside (2 ^ l) t (side_pos l) rows (length b / n) (rw e h)) (le_of_eq e))

-- ---- the refusals before the room

pub values_refused : {l count len : ℕ} {x : Refusal} → first_refusal (values_refusals l count len) ≡ Some x → ValuesJudged l count len (Err x)
values_refused e = record { refused = λ y h. e ∙ ap Some (same_refusal h); accepted = λ s h. no_refused h }

-- more than 65,536 matrices have more than 65,536 words
pub many_words : (l count : ℕ) → 65536 < count → 65536 < count * (2 ^ l * 2 ^ l)
many_words l count h = omega (arith, le-mul_of_pos_right count (square_pos l))

-- ---- the answer of the call

module _ (rows : Bool) (l count : ℕ) (b old : List ℕ) where
  abbrev size : ℕ
  size = length (skewed_values rows (2 ^ l) count b)

  abbrev room : List (Bool × Refusal)
  room = (nat_lt (length old) size, Room) ∷ []

  refused : {x : Refusal} → values_refusal rows l count b old ≡ Some x → ValuesWritten rows l count b old old (Err x)
  refused q = record { answer = rw q; out = rw q }

  module _ {side : Side} (t : ValuesTaken l count (length b) side) where
    size_is : size ≡ length b
    unfolding skewed_values
    size_is = length_tabulate (count * (2 ^ l * 2 ^ l)) _ ∙ sym t.matrices.len_is

    later : values_refusal rows l count b old ≡ first_refusal room
    later = first_later (values_refusals l count (length b)) room t.none

    pub values_no_room : length old < length b → ValuesWritten rows l count b old old (Err Room)
    values_no_room k = refused (later ∙ rw (size_is, lt-ltb _ _ k))

    table_is : skewed_values rows (2 ^ l) count b ≡ tabulate (length b) (skewed_at rows (2 ^ l) b)
    unfolding skewed_values
    table_is = ap (λ (n : ℕ). tabulate n (skewed_at rows (2 ^ l) b)) (sym t.matrices.len_is)

    pub values_written : {front : List ℕ} → length b ≤ length old → front ≡ tabulate (length b) (skewed_at rows (2 ^ side.log_d) b) → ValuesWritten rows l count b old (front ++ drop (length b) old) (Ok (length b))
    unfolding in_front
    values_written k e =
        let q : values_refusal rows l count b old ≡ None = later ∙ rw (size_is, le-ltb _ _ k) in
        record {
          answer = ap Ok (sym size_is) ∙ answered_accepted _ size q;
          out = rw (q, size_is, table_is, e, t.log_is);
        }

    -- what the writing asks
    pub square_divides : 2 ^ side.log_d * 2 ^ side.log_d ∣ length b
    square_divides = rw (t.log_is, t.matrices.len_is) (dvd-mul_left (2 ^ l * 2 ^ l) count)

-- a call that is refused before the room leaves every word as it was
pub values_first : (rows : Bool) {l count : ℕ} (b old : List ℕ) {x : Refusal} → first_refusal (values_refusals l count (length b)) ≡ Some x → ValuesWritten rows l count b old old (Err x)
values_first rows {l} {count} b old h =
    let q = still_refused (values_refusals l count (length b)) ((nat_lt (length old) (length (skewed_values rows (2 ^ l) count b)), Room) ∷ []) h in
    record { answer = rw q refl; out = rw q refl }

-- what the writing asks
pub values_asked : {l count : ℕ} (b old : List ℕ) {side : Side} → ValuesTaken l count (length b) side → length b ≤ length old → (l ≤ 8) × ((2 ^ l * 2 ^ l ∣ length b) × ((length b ≤ 65536) × (length b ≤ length old)))
values_asked {l} {count} b old v k = let m = v.matrices in (m.log_low, (rw m.len_is (dvd-mul_left (2 ^ l * 2 ^ l) count), (m.small, k)))

-- ---- projections

-- a test as a number
pub as_number : (b : Bool) → bool_byte b ≡ cond b 1 0
as_number true = refl
as_number false = refl

pub first_row_is : (d : ℕ) → first_row d ≡ on_diagonal (tabulate (d * d) (ones d))
unfolding first_row
first_row_is d = refl

zero_or : (t : ℕ) → (t == 0) ≡ nat_lt t 1
zero_or zero = refl
zero_or (suc t) = ne_eqb (suc t) 0 (suc-ne-zero t) ∙ sym (le-ltb (suc t) 1 (omega arith))

pub first_col_is : (d : ℕ) → first_col d ≡ on_diagonal (tabulate d (ones 1))
unfolding first_col
first_col_is d = ap on_diagonal (tabulate_cong d _ (ones 1) (λ t l. rw (zero_or t)))

-- one diagonal of ones: no room, or written
module _ (n len : ℕ) (pairs₀ values₀ : List ℕ) {t : Result Unit Refusal} (h : RoomJudged 1 len (length pairs₀) (length values₀) t) where
  abbrev projection : Diagonal
  projection = record { offset = 0; values = tabulate len (ones n) }

  ones_room : t ≡ judged (first_refusal (map_room (projection ∷ []) pairs₀ values₀))
  ones_room = room_of (projection ∷ []) pairs₀ values₀ refl (sym (ap length (values_one projection) ∙ length_tabulate len (ones n))) h

  pub ones_no_room : {x : Refusal} → t ≡ Err x → OnesWritten n len pairs₀ pairs₀ values₀ values₀ (Err x)
  ones_no_room e = written_refused (judged_some ones_room e)

  pub ones_written : {pairs₁ front : List ℕ} → t ≡ Ok tt → pairs₁ ≡ put_pair pairs₀ 0 0 len → front ≡ tabulate len (ones n) → OnesWritten n len pairs₀ pairs₁ values₀ (front ++ drop len values₀) (Ok 1)
  unfolding in_front
  ones_written e p v =
      one_written projection (judged_none ones_room e)
      (p ∙ ap (put_pair pairs₀ 0 0) (sym (length_tabulate len (ones n)))) (h.pairs_fit e)
      (rw (v, length_tabulate))

module _ (slots l : ℕ) {d : ℕ} (z : first_refusal (tile_refusals slots l 1) ≡ None) (e : d ≡ 2 ^ l) {pairs₀ pairs₁ values₀ values₁ : List ℕ} {a : Result ℕ Refusal} where
  pub first_row_then : {m : ℕ} → m ≡ 2 ^ l * 2 ^ l → OnesWritten d m pairs₀ pairs₁ values₀ values₁ a → TiledWritten slots l (first_row (2 ^ l)) pairs₀ pairs₁ values₀ values₁ a
  first_row_then f m = tiled_then slots l (first_row (2 ^ l)) pairs₀ values₀ z (rw (first_row_is (2 ^ l), ← f, ← e) m)

  pub first_col_then : OnesWritten 1 d pairs₀ pairs₁ values₀ values₁ a → TiledWritten slots l (first_col (2 ^ l)) pairs₀ pairs₁ values₀ values₁ a
  first_col_then m = tiled_then slots l (first_col (2 ^ l)) pairs₀ values₀ z (rw (first_col_is (2 ^ l), ← e) m)

-- ---- products by slot vectors

-- a length that is a period of the slots
pub record IsPeriod (slots n : ℕ) : Type 0 where
  pub inside : outside slots ≡ false
  pub divides : no_period slots n ≡ false
  pub some : 1 ≤ n
  pub small : n ≤ 65536

pub is_period : {slots n : ℕ} {r : Bool} → IsOutside slots r → r ≡ false → (n ≢ 0) → slots % n ≡ 0 → IsPeriod slots n
is_period {slots} {n} o e some rest =
    let range = o.inside e in
    let low : 1 ≤ n = positive some in
    record {
      inside = sym o.answer ∙ e;
      divides = rw (ne_eqb n 0 some, eq-eqb (slots % n) 0 rest);
      some = low;
      small = omega (arith, range.1, le_of_dvd range.0 (dvd_of_mod-eq-zero n rest));
    }
  where
    positive : (n ≢ 0) → 1 ≤ n
    positive h = omega (arith, h)

module _ (slots : ℕ) (v : List ℕ) (k : ℤ) (pairs₀ values₀ : List ℕ) {t : Result Unit Refusal} (a : IsPeriod slots (length v)) (h : RoomJudged 1 (length v) (length pairs₀) (length values₀) t) where
  abbrev turned : Diagonal
  turned = record { offset = 0; values = rotated v k (length v) }

  product_refusal_lem : t ≡ judged (slot_product_refusal slots v k pairs₀ values₀)
  unfolding slot_product
  product_refusal_lem = rw (a.inside, a.divides) (room_of (turned ∷ []) pairs₀ values₀ refl (sym (ap length (values_one turned) ∙ length_rotated v k (length v))) h)

  pub product_no_room : {x : Refusal} → t ≡ Err x → SlotProductWritten slots v k pairs₀ pairs₀ values₀ values₀ (Err x)
  product_no_room e = written_refused (judged_some product_refusal_lem e)

  pub product_written : {pairs₁ values₁ out : List ℕ} → t ≡ Ok tt → pairs₁ ≡ put_pair pairs₀ 0 0 (length v) → out ≡ rotated v k (length v) → values₁ ≡ out ++ drop (length v) values₀ → SlotProductWritten slots v k pairs₀ pairs₁ values₀ values₁ (Ok 1)
  unfolding slot_product in_front
  product_written e p o w =
      one_written turned (judged_none product_refusal_lem e)
      (p ∙ ap (put_pair pairs₀ 0 0) (sym (length_rotated v k (length v)))) (h.pairs_fit e)
      (w ∙ rw (o, length_rotated))
