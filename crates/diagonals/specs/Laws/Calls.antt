-- Laws of the refusals of lent maps.
-- Assumes nothing.
use Rattle.std.specs.Prelude.{◌≡◌, ℕ, ◌<◌, ◌≤◌, Bool, true, false, List, [], ◌∷◌, ◌++◌, length, nat_lt, Option, None, Some, Result, Ok, Err, refl}
use Rattle.std.proofs.Common.{sym, ap, ◌∙◌, lt-ltb, le-ltb, ltb-false}
use Rattle.std.proofs.Math.Bool.{or-true}
use Rattle.std.proofs.lemmas.Bool.{not-false}
use Rattle.ring.specs.Vectors.{in_front, filled}
use Rattle.ring.specs.declared.refusal.Refusal.{Refusal}
use Rattle.ring.specs.declared.refusal.Refusal.TheVariants.{Room}
use Rattle.ring.specs.Refusals.{first_refusal, outside}
use Rattle.ring.specs.Answers.{judged}
use Rattle.ring.specs.Laws.Vectors.{filled_front}
use Rattle.ring.specs.Laws.Refusals.{on_accept_accepted, still_refused, first_later, pick_none, either, none_holds}
use Rattle.ring.specs.Laws.Answers.{answered_accepted, no_refused, when_ok, when_refused}
use Rattle.diagonals.specs.Maps.{Diagonal, offset_at, start_at, well_formed, pair_words, value_words, pair_room, WellFormed}
use Rattle.diagonals.specs.Calls.{map_refusals, map_refusal, Judged, MapWritten, indexes_refusal, Indexes, map_room, RoomJudged, SecondWritten, SameParts}
use Rattle.diagonals.specs.Laws.Maps.{formed_means, offsets_view}
use Rattle.diagonals.specs.Laws.Words.{means_formed}

-- what a call that judges tells, by its result
module _ {e : Option Refusal} {r : Result Unit Refusal} (j : r ≡ judged e) where
  pub judged_none : r ≡ Ok tt → e ≡ None
  judged_none h = (when_ok e tt tt (sym h ∙ j)).0

  pub judged_some : {x : Refusal} → r ≡ Err x → e ≡ Some x
  judged_some {x} h = when_refused e tt x (sym h ∙ j)

module _ {slots count : ℕ} {pairs values : List ℕ} where
  pub judged_refused : {x : Refusal} → map_refusal slots count pairs values ≡ Some x → Judged slots count pairs values (Err x)
  judged_refused e = record { answer = rw e refl; inside = λ h. cc; formed = λ h. cc }

  pub judged_accepted : outside slots ≡ false → well_formed slots count pairs values ≡ true → Judged slots count pairs values (Ok tt)
  judged_accepted a b = record { answer = rw (a, b) refl; inside = λ h. a; formed = λ h. formed_means slots count pairs values b }

-- an accepted map by the parts that the call lent
module _ {slots count slots₁ count₁ : ℕ} {pairs values pairs₁ values₁ : List ℕ} (e : SameParts slots count pairs values slots₁ count₁ pairs₁ values₁) where
  pub same_outside : outside slots₁ ≡ false → outside slots ≡ false
  same_outside h = rw e.slots_is at h

  pub same_formed : well_formed slots₁ count₁ pairs₁ values₁ ≡ true → well_formed slots count pairs values ≡ true
  same_formed h = rw (e.slots_is, e.count_is, e.pairs_is, e.values_is) at h

  pub same_total : {total : ℕ} → total ≡ start_at pairs₁ count₁ → total ≡ start_at pairs count
  same_total h = rw (e.count_is, e.pairs_is) at h

  pub same_accepted : outside slots₁ ≡ false → well_formed slots₁ count₁ pairs₁ values₁ ≡ true → map_refusal slots count pairs values ≡ None
  same_accepted a b = rw (same_outside a, same_formed b)

-- a map that is not refused, and what it is
module _ (slots count : ℕ) (pairs values : List ℕ) where
  pub stored_means : map_refusal slots count pairs values ≡ None → (outside slots ≡ false) × WellFormed slots count pairs values
  stored_means h =
      let q = none_holds (map_refusals slots count pairs values) h in
      (q.0, formed_means slots count pairs values (not-false _ q.1.0))

  pub means_stored : outside slots ≡ false → WellFormed slots count pairs values → map_refusal slots count pairs values ≡ None
  means_stored a w = rw (a, means_formed slots count pairs values w)

-- a call that is lent a map and has further refusals
module _ {slots count : ℕ} {pairs values : List ℕ} {r : Result Unit Refusal} (j : Judged slots count pairs values r) (cs : List (Bool × Refusal)) where
  pub then_refused : {x : Refusal} → r ≡ Err x → first_refusal (map_refusals slots count pairs values ++ cs) ≡ Some x
  then_refused h = still_refused (map_refusals slots count pairs values) cs (judged_some j.answer h)

  pub then_later : r ≡ Ok tt → first_refusal (map_refusals slots count pairs values ++ cs) ≡ first_refusal cs
  then_later h = first_later (map_refusals slots count pairs values) cs (judged_none j.answer h)

-- ---- maps that are written

-- `check_room`: the pairs have no room, the values have none, there is room
module _ {count total pairs values : ℕ} where
  pub room_no_pairs : pairs < pair_room count → RoomJudged count total pairs values (Err Room)
  room_no_pairs l = record { answer = rw (lt-ltb _ _ l) refl; pairs_fit = λ h. no_refused h; values_fit = λ h. no_refused h }

  pub room_no_values : values < total → RoomJudged count total pairs values (Err Room)
  room_no_values l = record { answer = rw (lt-ltb values total l, or-true (nat_lt pairs (pair_room count))) refl; pairs_fit = λ h. no_refused h; values_fit = λ h. no_refused h }

  pub room_there : pair_room count ≤ pairs → total ≤ values → RoomJudged count total pairs values (Ok tt)
  room_there l m = record { answer = rw (le-ltb pairs (pair_room count) l, le-ltb values total m) refl; pairs_fit = λ h. l; values_fit = λ h. m }

-- the numbers of a map decide its room
pub room_of : {count total : ℕ} {r : Result Unit Refusal} (ds : List Diagonal) (pairs values : List ℕ) → count ≡ length ds → total ≡ length (value_words ds) → RoomJudged count total (length pairs) (length values) r → r ≡ judged (first_refusal (map_room ds pairs values))
room_of ds pairs values e f j = j.answer ∙ rw (e, f)

-- a map that is not refused has room
pub room_fits : (ds : List Diagonal) (pairs values : List ℕ) → first_refusal (map_room ds pairs values) ≡ None → (pair_room (length ds) ≤ length pairs) × (length (value_words ds) ≤ length values)
room_fits ds pairs values h =
    let e = either _ _ (pick_none _ Room None h).0 in
    (ltb-false (length pairs) _ e.0, ltb-false (length values) _ e.1)

pub fits_room : (ds : List Diagonal) (pairs values : List ℕ) → pair_room (length ds) ≤ length pairs → length (value_words ds) ≤ length values → first_refusal (map_room ds pairs values) ≡ None
fits_room ds pairs values l m = judged_none (room_there l m).answer refl

-- a refused call leaves the buffers as they were
pub written_refused : {e : Option Refusal} {x : Refusal} {ds : List Diagonal} {pairs values : List ℕ} → e ≡ Some x → MapWritten e ds pairs pairs values values (Err x)
written_refused h = rw h (record { answer = refl; pairs = refl; values = refl })

-- whichever map it would have written
pub refused_any : {e : Option Refusal} {x : Refusal} {ds es : List Diagonal} {pairs₀ pairs₁ values₀ values₁ : List ℕ} → MapWritten e ds pairs₀ pairs₁ values₀ values₁ (Err x) → MapWritten e es pairs₀ pairs₁ values₀ values₁ (Err x)
refused_any {e = None} m = no_refused m.answer
refused_any {e = Some e} m = record { answer = m.answer; pairs = m.pairs; values = m.values }

-- an accepted one answers the number of pairs, and has the words of the map in front
pub written_accepted : {e : Option Refusal} {n : ℕ} {ds : List Diagonal} {pairs₀ pairs₁ values₀ values₁ : List ℕ} → e ≡ None → n ≡ length ds → pairs₁ ≡ in_front (pair_words ds) pairs₀ → values₁ ≡ in_front (value_words ds) values₀ → MapWritten e ds pairs₀ pairs₁ values₀ values₁ (Ok n)
written_accepted e n p v = rw (e, n) (record { answer = refl; pairs = p; values = v })

abbrev no_room_for : ℕ → List ℕ → List (Bool × Refusal)
no_room_for count out = (nat_lt (length out) count, Room) ∷ []

-- `indexes`: there is no room, the offsets are written
module _ (slots count : ℕ) (pairs values old : List ℕ) (z : map_refusal slots count pairs values ≡ None) where
  indexes_left : indexes_refusal slots count pairs values old ≡ first_refusal (no_room_for count old)
  indexes_left = first_later (map_refusals slots count pairs values) (no_room_for count old) z

  pub indexes_no_room : length old < count → Indexes slots count pairs values old old (Err Room)
  indexes_no_room l =
      let q : indexes_refusal slots count pairs values old ≡ Some Room = indexes_left ∙ rw (lt-ltb _ _ l) in
      record { answer = rw q refl; out = rw q refl }

  pub indexes_written : {new : List ℕ} → count ≤ length old → new ≡ filled (offset_at pairs) count old → Indexes slots count pairs values old new (Ok count)
  indexes_written l e =
      let q : indexes_refusal slots count pairs values old ≡ None = indexes_left ∙ rw (le-ltb _ _ l) in
      record {
        answer = answered_accepted _ count q;
        out = e ∙ filled_front (offset_at pairs) count old ∙ ap (λ (l : List ℕ). in_front l old) (sym (offsets_view count pairs values)) ∙ sym (on_accept_accepted _ _ _ q);
      }

-- a call that is lent a map and writes another: there is no room, the other is written
module _ (slots count : ℕ) (pairs values : List ℕ) (ds : List Diagonal) (pairs₂ values₂ : List ℕ) where
  abbrev Second : List ℕ → List ℕ → Result ℕ Refusal → Type 0
  Second p v a = SecondWritten slots count pairs values ds pairs₂ p values₂ v a

  module _ (z : map_refusal slots count pairs values ≡ None) {room : Result Unit Refusal} (e : room ≡ judged (first_refusal (map_room ds pairs₂ values₂))) where
    second_left : first_refusal (map_refusals slots count pairs values ++ map_room ds pairs₂ values₂) ≡ first_refusal (map_room ds pairs₂ values₂)
    second_left = first_later (map_refusals slots count pairs values) (map_room ds pairs₂ values₂) z

    pub second_no_room : {x : Refusal} → room ≡ Err x → Second pairs₂ values₂ (Err x)
    second_no_room n = written_refused (second_left ∙ judged_some e n)

    pub second_written : {p v : List ℕ} {n : ℕ} → room ≡ Ok tt → n ≡ length ds → p ≡ in_front (pair_words ds) pairs₂ → v ≡ in_front (value_words ds) values₂ → Second p v (Ok n)
    second_written y k a b = written_accepted (second_left ∙ judged_none e y) k a b
