-- What a call leaves that is refused for its map or for its period: every word as it was.
-- Assumes nothing.
use Rattle.std.specs.Prelude.{◌≡◌, ℕ, Bool, true, List, [], ◌∷◌, ℤ, length, nat_lt, Result, Ok, Err, Some}
use Rattle.std.proofs.Common.{◌∙◌, refl}
use Rattle.ring.specs.Refusals.{no_period}
use Rattle.ring.specs.declared.refusal.Refusal.{Refusal}
use Rattle.ring.specs.declared.refusal.Refusal.TheVariants.{Period, Room}
use Rattle.diagonals.specs.Maps.{Diagonal}
use Rattle.diagonals.specs.Calls.{Judged, indexes_refusal, Indexes, map_room, set_map, SetWritten, SecondWritten}
use Rattle.diagonals.specs.Laws.Calls.{then_refused, then_later, written_refused}

module _ {slots count : ℕ} {pairs values : List ℕ} {r : Result Unit Refusal} (j : Judged slots count pairs values r) where
  -- the refusals of `set` behind the map's
  abbrev later : ℤ → List ℕ → List (Bool × Refusal)
  later index vs = (no_period slots (length vs), Period) ∷ map_room (set_map slots count pairs values index vs) pairs values

  pub refused_map : (index : ℤ) (vs : List ℕ) {x : Refusal} → r ≡ Err x → SetWritten slots count pairs pairs values values index vs (Err x)
  refused_map index vs h = written_refused (then_refused j (later index vs) h)

  pub refused_period : (index : ℤ) (vs : List ℕ) → r ≡ Ok tt → no_period slots (length vs) ≡ true → SetWritten slots count pairs pairs values values index vs (Err Period)
  refused_period index vs z p = written_refused (then_later j (later index vs) z ∙ rw p refl)

  pub indexes_map_refused : (old : List ℕ) {x : Refusal} → r ≡ Err x → Indexes slots count pairs values old old (Err x)
  indexes_map_refused old {x} h =
      let q : indexes_refusal slots count pairs values old ≡ Some x = then_refused j ((nat_lt (length old) count, Room) ∷ []) h in
      record { answer = rw q refl; out = rw q refl }

  pub second_map_refused : (ds : List Diagonal) (pairs₂ values₂ : List ℕ) {x : Refusal} → r ≡ Err x → SecondWritten slots count pairs values ds pairs₂ pairs₂ values₂ values₂ (Err x)
  second_map_refused ds pairs₂ values₂ h = written_refused (then_refused j (map_room ds pairs₂ values₂) h)
