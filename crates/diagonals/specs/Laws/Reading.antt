-- Laws of reading: a map that a call wrote is accepted by the next call, which sees that map; reading after setting.
-- Assumes nothing.
use Rattle.std.specs.Prelude.{◌≡◌, ℕ, ◌<◌, true, false, not, List, [], ◌∷◌, ◌++◌, length, ℤ, ◌≢◌, None}
use Rattle.std.proofs.Common.{sym, ap, ◌∙◌, arith}
use Rattle.std.proofs.lemmas.Bool.{eqb-false, not-false}
use Rattle.ring.specs.Vectors.{in_front}
use Rattle.ring.specs.Residues.{residue_of}
use Rattle.ring.specs.declared.refusal.Refusal.TheVariants.{Period}
use Rattle.ring.specs.Refusals.{first_refusal, outside, no_period, Range}
use Rattle.ring.specs.Laws.Residues.{residue_lt}
use Rattle.ring.specs.Laws.Divisors.{divides_dvd}
use Rattle.ring.specs.Laws.Refusals.{none_holds, none_of_both, either, inside}
use Rattle.diagonals.specs.Maps.{Diagonal, pair_words, value_words, view, well_formed, Formed, WellFormed, FormedMap}
use Rattle.diagonals.specs.Products.{stretch}
use Rattle.diagonals.specs.Calls.{map_refusals, map_refusal, map_room, gotten, set_map, set_refusal, gotten_after}
use Rattle.diagonals.specs.Laws.Maps.{formed_means}
use Rattle.diagonals.specs.Laws.Setting.{stretch_placed, stretch_other, placed_formed}
use Rattle.diagonals.specs.Laws.Calls.{room_fits}
use Rattle.diagonals.specs.Laws.Words.{formed_view, words_formed, means_formed, view_in_front}

-- values whose length refusal 4 does not name
pub period_formed : (slots k : ℕ) (vs : List ℕ) → k < slots → no_period slots (length vs) ≡ false → Formed slots (record { offset = k; values = vs })
period_formed slots k vs l h =
    let e = either _ _ h in
    record { low = l; some = omega (arith, eqb-false (length vs) 0 e.0); divides = divides_dvd (length vs) slots (not-false _ e.1) }

-- ---- a map that is accepted

module _ (slots count : ℕ) (pairs values : List ℕ) (ok : map_refusal slots count pairs values ≡ None) where
  accepted_tests : (outside slots ≡ false) × ((not (well_formed slots count pairs values) ≡ false) × Unit {0})
  accepted_tests = none_holds (map_refusals slots count pairs values) ok

  pub accepted_range : Range slots
  accepted_range = let e = inside slots accepted_tests.0 in record { low = e.0; high = e.1 }

  pub accepted_formed : FormedMap slots (view count pairs values)
  accepted_formed = formed_view slots count pairs values (formed_means slots count pairs values (not-false _ accepted_tests.1.0))

-- ---- a map that was written

-- a map that stands in front of buffers
module _ (slots : ℕ) (ds : List Diagonal) (pairs values : List ℕ) (range : outside slots ≡ false) (f : FormedMap slots ds) (room : first_refusal (map_room ds pairs values) ≡ None) where
  written_formed : well_formed slots (length ds) (in_front (pair_words ds) pairs) (in_front (value_words ds) values) ≡ true
  written_formed =
      let e = room_fits ds pairs values room in
      means_formed slots (length ds) _ _ (words_formed slots ds pairs values f e.0 e.1)

  -- the next call does not refuse it
  pub written_not_refused : map_refusal slots (length ds) (in_front (pair_words ds) pairs) (in_front (value_words ds) values) ≡ None
  written_not_refused = rw (range, written_formed)

  -- and reads what was written
  pub written_gotten : (index : ℤ) → gotten slots (length ds) (in_front (pair_words ds) pairs) (in_front (value_words ds) values) index ≡ stretch ds (residue_of index slots)
  written_gotten index = rw (written_not_refused, view_in_front ds pairs values)

-- after an accepted `set` of new values at an index
module _ (slots count : ℕ) (pairs values : List ℕ) (index : ℤ) (new : List ℕ) (ok : set_refusal slots count pairs values index new ≡ None) where
  abbrev ds : List Diagonal
  ds = set_map slots count pairs values index new

  accepted : (first_refusal (map_refusals slots count pairs values ++ (no_period slots (length new), Period) ∷ []) ≡ None) × (first_refusal (map_room ds pairs values) ≡ None)
  accepted = none_of_both (map_refusals slots count pairs values ++ (no_period slots (length new), Period) ∷ []) (map_room ds pairs values) ok

  none : (outside slots ≡ false) × ((not (well_formed slots count pairs values) ≡ false) × ((no_period slots (length new) ≡ false) × Unit {0}))
  none =
      none_holds
      (map_refusals slots count pairs values ++ (no_period slots (length new), Period) ∷ [])
      accepted.0

  formed : WellFormed slots count pairs values
  formed = formed_means slots count pairs values (not-false _ none.1.0)

  set_is_formed : FormedMap slots ds
  set_is_formed =
      placed_formed (residue_of index slots) new slots (view count pairs values)
      (period_formed slots (residue_of index slots) new (residue_lt index slots (inside slots none.0).0) none.1.1.0)
      (formed_view slots count pairs values formed)

  -- what was written is read
  after_is : (i : ℤ) → gotten_after slots count pairs values index new i ≡ stretch ds (residue_of i slots)
  after_is = written_gotten slots ds pairs values none.0 set_is_formed accepted.1

  -- the index, and any other that means the same diagonal, reads the new values
  pub set_get : (i : ℤ) → residue_of i slots ≡ residue_of index slots → gotten_after slots count pairs values index new i ≡ new
  set_get i e = after_is i ∙ ap (stretch ds) e ∙ stretch_placed (residue_of index slots) new (view count pairs values)

  -- every other diagonal is as it was
  pub set_get_other : (i : ℤ) → (residue_of i slots ≢ residue_of index slots) → gotten_after slots count pairs values index new i ≡ gotten slots count pairs values i
  set_get_other i n =
      after_is i
      ∙ stretch_other (residue_of index slots) new (residue_of i slots) n (view count pairs values)
      ∙ sym (accepted_gotten i)
    where
      accepted_gotten : (i : ℤ) → gotten slots count pairs values i ≡ stretch (view count pairs values) (residue_of i slots)
      accepted_gotten i = rw (none.0, not-false (well_formed slots count pairs values) none.1.0)
