-- Whole copies of a period laid out in a table: read around, they are the period.
-- Assumes nothing.
use Rattle.std.proofs.Common.{◌≡◌, ℕ, ◌+◌, ◌-◌, ◌*◌, ◌/◌, ◌%◌, ◌<◌, ◌≤◌, List, ◌++◌, length, get_or, take, drop, pos, refl, ap, ◌∙◌, mod-lt, arith, length-take-le, take_at}
use Prim.Native.Nat.{◌∣◌}
use native.Mathlib.Nat.{mod-add-div, dvd-mul_right, mod-mod_of_dvd}
use Rattle.ring.specs.Vectors.{tabulate}
use Rattle.ring.specs.Laws.Vectors.{length_tabulate, get_or_tabulate, tabulate_cong}
use Rattle.ring.specs.Laws.Rotations.{rotated_copies}
use Rattle.std.specs.Prelude.{Result}
use Rattle.ring.specs.declared.refusal.Refusal.{Refusal}
use Rattle.diagonals.specs.Calls.{Rotated}
use Rattle.diagonals.specs.Products.{cell}
use Rattle.runs.specs.Steps.Plain.{Around, around_added}
use Rattle.runs.proofs.Accepted.{rotating_is}
use Rattle.runs.proofs.Parts.{same_word}

-- copies of a period read at a slot
pub cell_copies : (period : List ℕ) (n s : ℕ) → 0 < n → length period ∣ n → cell (tabulate n (cell period)) s ≡ cell period s
cell_copies period n s p d =
    ap (λ (x : ℕ). get_or (tabulate n (cell period)) (s % x) 0) (length_tabulate n (cell period))
    ∙ get_or_tabulate n (cell period) (s % n) 0 (mod-lt s p)
    ∙ ap (λ (x : ℕ). get_or period x 0) (mod-mod_of_dvd (length period) s d)

-- the words of a room that whole copies of n words fill
abbrev pub whole_of : ℕ → ℕ → ℕ
whole_of room n = room - room % n

whole_some : (room n : ℕ) → 1 ≤ n → n ≤ room → 0 < whole_of room n
whole_some room n h l = omega (arith, mod-lt room h)

whole_divided : (room n : ℕ) → n ∣ whole_of room n
whole_divided room n =
    let e : whole_of room n ≡ n * (room / n) = omega (arith, mod-add-div room n) in
    rw e (dvd-mul_right n (room / n))

-- the table's front, filled with copies: the words ys, and the rest of the table behind them
abbrev pub front : List ℕ → List ℕ → ℕ → List ℕ → List ℕ
front period table room ys = take (whole_of room (length period)) (ys ++ drop (whole_of room (length period)) table)

module _ (period table : List ℕ) (room : ℕ) (within : room ≤ length table) (small : length table ≤ 65536) (fits : length period ≤ room) (some : 1 ≤ length period) {ys : List ℕ} {r : Result Unit Refusal} (t : Rotated period (pos 0) (take (whole_of room (length period)) table) ys r) where
  front_room : length (take (whole_of room (length period)) table) ≡ whole_of room (length period)
  front_room = length-take-le (whole_of room (length period)) table (omega arith)

  laid : ys ≡ tabulate (whole_of room (length period)) (cell period)
  laid = rotating_is t some (omega arith) (rw front_room (whole_divided room (length period))) ∙ rw front_room (rotated_copies period some _)

  front_is : front period table room ys ≡ tabulate (whole_of room (length period)) (cell period)
  front_is =
      let whole : ℕ = whole_of room (length period) in
      take_at ys (drop whole table) whole (ap length laid ∙ length_tabulate whole (cell period)) ∙ laid

  front_cell : (s : ℕ) → cell (front period table room ys) s ≡ cell period s
  front_cell s = ap (λ (x : List ℕ). cell x s) front_is ∙ cell_copies period _ s (whole_some room (length period) some fits) (whole_divided room (length period))

  module _ {from : ℕ} {vector part : List ℕ} (a : Around period from vector part) where
    pub copies_added : {new : List ℕ} → new ≡ tabulate (length part) (around_added (front period table room ys) from vector part) → new ≡ tabulate (length part) (around_added period from vector part)
    copies_added e = e ∙ tabulate_cong (length part) _ _ (λ j l. same_word refl (front_cell (from + j)) refl)
