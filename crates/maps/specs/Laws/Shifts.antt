-- Laws of the calls with a shift (document 02, A2): up to d the two rotations do what they did; to 65,536 they do what they do
-- for k mod d, and their product is JKLS psi^k or phi^k. 6 is given exactly where a shift is above its rule's limit.
-- Assumes nothing.
use Rattle.std.specs.Prelude.{◌≡◌, ℕ, ◌%◌, ◌^◌, ◌<◌, ◌≤◌, Bool, true, false, ◌||◌, List, ◌∷◌, ◌++◌, length, ◌≢◌, nat_lt, Option, None, Some, Result}
use Rattle.std.proofs.Common.{sym, ◌∙◌, subst, ⊎_elim, arith, lt-ltb, le-ltb}
use Rattle.std.proofs.Math.Nat.{mod-le}
use Rattle.ring.specs.declared.refusal.Refusal.{Refusal}
use Rattle.ring.specs.declared.refusal.Refusal.TheVariants.{Shift, Room}
use Rattle.ring.specs.Slots.{modulus}
use Rattle.ring.specs.Refusals.{pick, first_refusal}
use Rattle.ring.specs.Laws.Refusals.{first_later}
use Rattle.ring.specs.Laws.Searches.{lt_or_ge}
use Rattle.diagonals.specs.Maps.{Diagonal, pair_room, value_words, view}
use Rattle.diagonals.specs.Products.{product}
use Rattle.diagonals.specs.Calls.{map_room}
use Rattle.maps.specs.declared.rules.Rule.{Rule}
use Rattle.maps.specs.Entries.{entry_of, slot_of, entry_at}
use Rattle.maps.specs.Readings.{whole_map, shift_of, shift_limit}
use Rattle.maps.specs.Offsets.{rule_count}
use Rattle.maps.specs.Calls.{tile_refusals, ShrunkWritten, no_shift, rule_refusal, RuleWritten}
use Rattle.maps.specs.Shifts.{rotation, further_on, WrittenBefore}
use Rattle.maps.specs.Laws.Tiling.{side_low}
use Rattle.maps.specs.Laws.Leading.{rule_leads}
use Rattle.maps.specs.Laws.Rotations.{sum_on, map_kept, map_modulo}

-- ---- the call of a rotation: its answer and every word

taken : (rows : Bool) (l k : ℕ) → k ≤ 65536 → no_shift l (rotation rows k) ≡ false
taken true l k h = le-ltb 65536 k h
taken false l k h = le-ltb 65536 k h

-- calls that differ only in what they find of the shift: a log_d above 8 is refused before
same_refusal : (slots l : ℕ) (a b : Bool) (cs : List (Bool × Refusal)) → (l ≤ 8 → a ≡ b) → first_refusal (tile_refusals slots l 1 ++ (a, Shift) ∷ cs) ≡ first_refusal (tile_refusals slots l 1 ++ (b, Shift) ∷ cs)
same_refusal slots l a b cs h = ⊎_elim (λ (w : 8 < l). rw (lt-ltb 8 l w)) (λ (w : l ≤ 8). rw (h w)) (lt_or_ge 8 l)

module _ (slots l : ℕ) {p₀ p₁ v₀ v₁ : List ℕ} {r : Result ℕ Refusal} where
  same_call : (a b : Bool) {ds es : List Diagonal} → (l ≤ 8 → a ≡ b) → ds ≡ es → ShrunkWritten (first_refusal (tile_refusals slots l 1 ++ (a, Shift) ∷ map_room ds p₀ v₀)) ds p₀ p₁ v₀ v₁ r
      → ShrunkWritten (first_refusal (tile_refusals slots l 1 ++ (b, Shift) ∷ map_room es p₀ v₀)) es p₀ p₁ v₀ v₁ r
  same_call a b {ds} {es} h e w =
      subst (λ ds. ShrunkWritten (first_refusal (tile_refusals slots l 1 ++ (b, Shift) ∷ map_room ds p₀ v₀)) ds p₀ p₁ v₀ v₁ r) e
      (subst (λ (x : Option Refusal). ShrunkWritten x ds p₀ p₁ v₀ v₁ r) (same_refusal slots l a b (map_room ds p₀ v₀) h) w)

  module _ (rows : Bool) (k : ℕ) where
    -- up to d it does what it did
    pub call_kept : k ≤ 2 ^ l → RuleWritten slots l (rotation rows k) p₀ p₁ v₀ v₁ r → WrittenBefore slots l rows k p₀ p₁ v₀ v₁ r
    call_kept h w =
        same_call (no_shift l (rotation rows k)) (nat_lt (2 ^ l) k) (λ low. taken rows l k (omega (arith, side_low l low)) ∙ sym (le-ltb (2 ^ l) k h))
        (map_kept modulus slots (2 ^ l) rows k) w

    -- to 65,536 it does what it does for k mod d
    pub call_modulo : k ≤ 65536 → RuleWritten slots l (rotation rows k) p₀ p₁ v₀ v₁ r → RuleWritten slots l (rotation rows (k % 2 ^ l)) p₀ p₁ v₀ v₁ r
    call_modulo h w =
        same_call (no_shift l (rotation rows k)) (no_shift l (rotation rows (k % 2 ^ l)))
        (λ low. taken rows l k h ∙ sym (taken rows l (k % 2 ^ l) (omega (arith, mod-le k (2 ^ l))))) (map_modulo modulus slots (2 ^ l) rows k) w

    -- its product at each slot, for every input: the entry k rows or columns further on
    pub rotation_leads : RuleWritten slots l (rotation rows k) p₀ p₁ v₀ v₁ r → rule_refusal slots l (rotation rows k) p₀ v₀ ≡ None → (input : List ℕ) (t : ℕ) → t < slots
        → product modulus slots (view (rule_count slots (2 ^ l) (rotation rows k)) p₁ v₁) input t ≡ entry_at (2 ^ l) input (slot_of (2 ^ l) t) (further_on rows k (2 ^ l) (entry_of (2 ^ l) t)) % modulus
    rotation_leads w z input t h = rule_leads slots l (rotation rows k) w z input t h ∙ sum_on modulus rows k (2 ^ l) input (slot_of (2 ^ l) t) (entry_of (2 ^ l) t)

-- ---- 6 is given exactly where the shift is above the limit, if nothing was refused before it

-- the room is refused by 12 alone
twelve : (b : Bool) → pick b Room None ≢ Some Shift
twelve true e = cc
twelve false e = cc

room_other : (ds : List Diagonal) (pairs values : List ℕ) → first_refusal (map_room ds pairs values) ≢ Some Shift
room_other ds pairs values = twelve (nat_lt (length pairs) (pair_room (length ds)) || nat_lt (length values) (length (value_words ds)))

module _ (slots l : ℕ) (rule : Rule) (pairs values : List ℕ) (z : first_refusal (tile_refusals slots l 1) ≡ None) where
  behind : rule_refusal slots l rule pairs values ≡ pick (no_shift l rule) Shift (first_refusal (map_room (whole_map modulus slots (2 ^ l) rule) pairs values))
  behind = first_later (tile_refusals slots l 1) ((no_shift l rule, Shift) ∷ map_room (whole_map modulus slots (2 ^ l) rule) pairs values) z

  pub beyond_refused : shift_limit rule (2 ^ l) < shift_of rule → rule_refusal slots l rule pairs values ≡ Some Shift
  beyond_refused h = behind ∙ rw (lt-ltb (shift_limit rule (2 ^ l)) (shift_of rule) h)

  pub refused_beyond : rule_refusal slots l rule pairs values ≡ Some Shift → shift_limit rule (2 ^ l) < shift_of rule
  refused_beyond e =
      ⊎_elim (λ (w : shift_limit rule (2 ^ l) < shift_of rule). w)
      (λ (w : shift_of rule ≤ shift_limit rule (2 ^ l)). absurd (room_other (whole_map modulus slots (2 ^ l) rule) pairs values (rw (le-ltb (shift_limit rule (2 ^ l)) (shift_of rule) w) at (sym behind ∙ e))))
      (lt_or_ge (shift_limit rule (2 ^ l)) (shift_of rule))
