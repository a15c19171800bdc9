-- Laws of the maps of terms that every matrix slot shares: the slot map at period d², built and then shrunk.
-- Assumes nothing.
use Rattle.std.specs.Prelude.{◌≡◌, ℕ, ◌*◌, ◌^◌, ◌≤◌, Bool, false, not, ◌||◌, List, [], ◌∷◌, ◌++◌, length, ◌==◌, Option, None, Result, Ok, Err}
use Rattle.std.specs.Int.{◌∣◌}
use Rattle.std.proofs.Common.{sym, subst, ◌∙◌, one-mul, arith, ne_eqb}
use Rattle.ring.specs.declared.refusal.Refusal.{Refusal}
use Rattle.ring.specs.Slots.{modulus}
use Rattle.ring.specs.Vectors.{in_front}
use Rattle.ring.specs.Refusals.{first_refusal, outside, no_period}
use Rattle.ring.specs.declared.refusal.Refusal.TheVariants as No
use Rattle.ring.specs.declared.refusal.Refusal.TheVariants.{Length}
use Rattle.ring.specs.Laws.Divisors.{divides_yes}
use Rattle.ring.specs.Laws.Refusals.{on_accept_accepted, first_later, none_holds, none_of_both, not_outside}
use Rattle.ring.specs.Laws.Answers.{when_ok}
use Rattle.diagonals.specs.Maps.{Diagonal, pair_room, pair_words, value_words}
use Rattle.diagonals.specs.SlotMaps.{Term, terms_of, in_range, slot_map}
use Rattle.diagonals.specs.Calls.{map_room, MapWritten, slot_map_refusal}
use Rattle.diagonals.specs.Laws.Calls.{room_fits}
use Rattle.diagonals.specs.Laws.SlotMaps.{slot_map_formed, slot_map_period}
use Rattle.maps.specs.declared.rules.Rule.{Rule}
use Rattle.maps.specs.Readings.{rule_terms, whole_map}
use Rattle.maps.specs.Calls.{ShrunkWritten, tile_refusals, matrix_terms_map, per_matrix_refusal, rule_refusal, RuleWritten}
use Rattle.maps.specs.Steps.Tiles.{Tiles}
use Rattle.maps.specs.Steps.Readings.{rule_refusals}
use Rattle.maps.specs.Steps.Shrinking.{Even, Shrank}
use Rattle.maps.specs.Laws.Tiling.{square_pos, square_low, not_refused, tiles_of}
use Rattle.maps.specs.Laws.Narrow.{even_words, shrunk_written, build_refused}

-- the square of the side divides slots
pub period_divides : {slots l : ℕ} → Tiles slots l 1 → 2 ^ l * 2 ^ l ∣ slots
period_divides t = rw one-mul at t.divides

-- ---- a slot map at period d² that was built, not refused

module _ {slots l n : ℕ} {e : Option Refusal} (ts : List Term) (t : Tiles slots l 1) {p p₁ v v₁ : List ℕ} {a : Result ℕ Refusal} (m : MapWritten e (slot_map modulus slots (2 ^ l * 2 ^ l) ts) p p₁ v v₁ a) (q : a ≡ Ok n) where
  abbrev built : List Diagonal
  built = slot_map modulus slots (2 ^ l * 2 ^ l) ts

  accepted : e ≡ None
  accepted = (when_ok e (length built) n (sym q ∙ m.answer)).0

  count_is : n ≡ length built
  count_is = (when_ok e (length built) n (sym q ∙ m.answer)).1

  pairs_are : p₁ ≡ in_front (pair_words built) p
  pairs_are = m.pairs ∙ on_accept_accepted _ _ _ accepted

  values_are : v₁ ≡ in_front (value_words built) v
  values_are = m.values ∙ on_accept_accepted _ _ _ accepted

  module _ (fits : first_refusal (map_room built p v) ≡ None) where
    room : (pair_room (length built) ≤ length p) × (length (value_words built) ≤ length v)
    room = room_fits built p v fits

    terms_even : Even slots (2 ^ l * 2 ^ l) n p₁ v₁
    terms_even =
        rw (count_is, pairs_are, values_are)
        (even_words built p v t.low t.high (square_pos l) (square_low l t.log_low)
        (slot_map_formed modulus slots (2 ^ l * 2 ^ l) ts (square_pos l) (period_divides t)) (slot_map_period modulus slots (2 ^ l * 2 ^ l) ts)
        room.0 room.1)

    terms_shrunk : {p₂ v₂ : List ℕ} → Shrank (2 ^ l * 2 ^ l) n p₁ p₂ v₁ v₂ → ShrunkWritten e built p p₂ v v₂ (Ok n)
    terms_shrunk s =
        rw count_is
        (shrunk_written built p v t.low t.high (square_pos l) (square_low l t.log_low)
        (slot_map_formed modulus slots (2 ^ l * 2 ^ l) ts (square_pos l) (period_divides t)) (slot_map_period modulus slots (2 ^ l * 2 ^ l) ts)
        room.0 room.1
        accepted (rw (count_is, pairs_are, values_are) at s))

-- ---- `per_matrix_map`

module _ (slots l : ℕ) (is js ws p v : List ℕ) where
  abbrev whole : List Diagonal
  whole = matrix_terms_map slots l is js ws

  abbrev behind : List (Bool × Refusal)
  behind =
      (not (length is == length js) || not (length is == length ws), Length)
      ∷ (not (in_range slots (2 ^ l * 2 ^ l) is js), No.Term)
      ∷ map_room whole p v

  -- the call, and the building in it
  abbrev Written : List ℕ → List ℕ → Result ℕ Refusal → Type 0
  Written p₁ v₁ a = ShrunkWritten (per_matrix_refusal slots l is js ws p v) whole p p₁ v v₁ a

  abbrev Building : List ℕ → List ℕ → Result ℕ Refusal → Type 0
  Building p₁ v₁ a = MapWritten (slot_map_refusal slots (2 ^ l * 2 ^ l) is js ws p v) whole p p₁ v v₁ a

  module _ (z : first_refusal (tile_refusals slots l 1) ≡ None) where
    -- a square that divides slots is a period: the building has the refusals of the call
    its_tiles : Tiles slots l 1
    its_tiles = tiles_of z

    same_refusal : slot_map_refusal slots (2 ^ l * 2 ^ l) is js ws p v ≡ per_matrix_refusal slots l is js ws p v
    same_refusal =
        let o : outside slots ≡ false = not_outside slots its_tiles.low its_tiles.high in
        let n : no_period slots (2 ^ l * 2 ^ l) ≡ false = rw (ne_eqb (2 ^ l * 2 ^ l) 0 (λ (e : 2 ^ l * 2 ^ l ≡ 0). omega (arith, square_pos l)), divides_yes (2 ^ l * 2 ^ l) slots (period_divides its_tiles)) in
        rw (o, n) (sym (first_later (tile_refusals slots l 1) behind z) ∙ rw o)

    module _ {p₁ v₁ : List ℕ} {a : Result ℕ Refusal} (m : Building p₁ v₁ a) where
      call_built : MapWritten (per_matrix_refusal slots l is js ws p v) whole p p₁ v v₁ a
      call_built = subst (λ (e : Option Refusal). MapWritten e whole p p₁ v v₁ a) same_refusal m

      pub not_built : {x : Refusal} → a ≡ Err x → Written p₁ v₁ (Err x)
      not_built {x} q = build_refused (subst (λ (b : Result ℕ Refusal). MapWritten (per_matrix_refusal slots l is js ws p v) whole p p₁ v v₁ b) q call_built)

      module _ {n : ℕ} (q : a ≡ Ok n) where
        fits : first_refusal (map_room whole p v) ≡ None
        fits =
            (none_of_both
            (tile_refusals slots l 1 ++ (not (length is == length js) || not (length is == length ws), Length) ∷ (not (in_range slots (2 ^ l * 2 ^ l) is js), No.Term) ∷ [])
            (map_room whole p v) (accepted (terms_of is js ws) its_tiles call_built q)).1

        pub built_even : Even slots (2 ^ l * 2 ^ l) n p₁ v₁
        built_even = terms_even (terms_of is js ws) its_tiles call_built q fits

        pub built_shrunk : {p₂ v₂ : List ℕ} → Shrank (2 ^ l * 2 ^ l) n p₁ p₂ v₁ v₂ → Written p₂ v₂ (Ok n)
        built_shrunk s = terms_shrunk (terms_of is js ws) its_tiles call_built q fits s

-- ---- the maps that read one entry or none

module _ (slots l : ℕ) (rule : Rule) {p p₁ v v₁ : List ℕ} {a : Result ℕ Refusal} (m : MapWritten (rule_refusal slots l rule p v) (whole_map modulus slots (2 ^ l) rule) p p₁ v v₁ a) where
  pub rule_not_built : {x : Refusal} → a ≡ Err x → RuleWritten slots l rule p p₁ v v₁ (Err x)
  rule_not_built q = build_refused (subst (λ (b : Result ℕ Refusal). MapWritten (rule_refusal slots l rule p v) (whole_map modulus slots (2 ^ l) rule) p p₁ v v₁ b) q m)

  module _ {n : ℕ} (q : a ≡ Ok n) where
    -- no condition holds, and there is room
    rule_none : (first_refusal (rule_refusals slots l rule) ≡ None) × (first_refusal (map_room (whole_map modulus slots (2 ^ l) rule) p v) ≡ None)
    rule_none = none_of_both (rule_refusals slots l rule) (map_room (whole_map modulus slots (2 ^ l) rule) p v) (when_ok _ _ n (sym q ∙ m.answer)).0

    pub rule_tiles : Tiles slots l 1
    rule_tiles =
        let h = none_holds (rule_refusals slots l rule) rule_none.0 in
        not_refused h.0 h.1.0

    pub rule_even : Even slots (2 ^ l * 2 ^ l) n p₁ v₁
    unfolding whole_map
    rule_even = terms_even (rule_terms rule (2 ^ l)) rule_tiles m q rule_none.1

    pub rule_shrunk : {p₂ v₂ : List ℕ} → Shrank (2 ^ l * 2 ^ l) n p₁ p₂ v₁ v₂ → RuleWritten slots l rule p p₂ v v₂ (Ok n)
    unfolding whole_map
    rule_shrunk s = terms_shrunk (rule_terms rule (2 ^ l)) rule_tiles m q rule_none.1 s
