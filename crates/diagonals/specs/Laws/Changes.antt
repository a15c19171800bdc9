-- Laws of a change that sets a diagonal in place: where its pair goes, the words that are written, and what the call answers.
-- Assumes nothing.
use Rattle.std.specs.Prelude.{◌≡◌, ℕ, suc, ◌+◌, ◌-◌, ◌<◌, ◌≤◌, Bool, false, List, ◌∷◌, ◌++◌, length, take, drop, ℤ, Result, Ok, Err, None}
use Rattle.std.proofs.Common.{sym, ◌∙◌, ⊎_elim, eq-or-lt_of_le, lt_of_not-le, arith, length-append, length-drop, drop_of_length-le, length-take-le, ap}
use Rattle.std.proofs.Math.Path.{ap}
use Rattle.std.proofs.Math.Decide.{dec_le}
use Rattle.std.proofs.Math.Seq.{drop-cons}
use Rattle.ring.specs.Vectors.{in_front}
use Rattle.ring.specs.Residues.{residue_of}
use Rattle.ring.specs.Refusals.{first_refusal, no_period}
use Rattle.ring.specs.Laws.Refusals.{first_later}
use Rattle.ring.specs.declared.refusal.Refusal.{Refusal}
use Rattle.ring.specs.declared.refusal.Refusal.TheVariants.{Period}
use Rattle.ring.specs.Answers.{judged}
use Rattle.ring.specs.Laws.Vectors.{get_or_tabulate}
use Rattle.diagonals.specs.declared.setting.Change.{Change}
use Rattle.diagonals.specs.Maps.{Diagonal, pair_room, offset_at, pair_of, pair_words, value_words, start_at, diagonal_at, view, WellFormed}
use Rattle.diagonals.specs.Laws.Pairs.{room_add, room_mono}
use Rattle.diagonals.specs.Setting.{placed}
use Rattle.diagonals.specs.Calls.{map_refusals, map_refusal, map_room, RoomJudged, MapWritten, set_map, set_refusal}
use Rattle.diagonals.specs.Steps.Setting.{Changed, Spliceable, spliced}
use Rattle.diagonals.specs.Steps.Reading.{Placed}
use Rattle.diagonals.specs.Laws.Maps.{start_mono, values_inside, length_view, each_view}
use Rattle.diagonals.specs.Laws.Calls.{stored_means, room_of, written_refused, written_accepted, judged_none, judged_some}
use Rattle.diagonals.specs.Laws.Words.{view_cut, values_view, pairs_view, values_rest, pairs_rest, value_words_append, pair_words_append}
use Rattle.diagonals.specs.Laws.Setting.{Side, side, below, equal, above, placed_equal, placed_above, placed_append}

-- ---- the first pair that is not below k, and the first above k

module _ {count : ℕ} {pairs : List ℕ} {k index : ℕ} (p : Placed count pairs k index) where
  -- its values start inside
  pub start_within : start_at pairs index ≤ start_at pairs count
  start_within = start_mono pairs index count p.inside

  module _ {behind : ℕ} (q : Placed count pairs (k + 1) behind) where
    pub place_order : index ≤ behind
    place_order = by_dec (dec_le index behind)
      where
        by_dec : Dec (index ≤ behind) → index ≤ behind
        by_dec (yes l) = l
        by_dec (no n) = let l : behind < index = lt_of_not-le n in omega (arith, p.before behind l, q.here (omega (arith, p.inside)), p.inside)

    -- at most one pair is at k
    pub place_next : ((i j : ℕ) → i < j → j < count → offset_at pairs i < offset_at pairs j) → behind ≤ index + 1
    place_next rising = by_dec (dec_le behind (index + 1))
      where
        by_dec : Dec (behind ≤ index + 1) → behind ≤ index + 1
        by_dec (yes l) = l
        by_dec (no n) =
            let l : index + 1 < behind = lt_of_not-le n in
            omega (arith, p.here (omega (arith, q.inside)), q.before (index + 1) l, rising index (index + 1) (omega arith) (omega (arith, q.inside)))

-- the map with `vs` at k, by the two places
module _ {slots count : ℕ} {pairs values : List ℕ} (w : WellFormed slots count pairs values) {k index behind : ℕ} (p : Placed count pairs k index) (q : Placed count pairs (k + 1) behind) (vs : List ℕ) where
  abbrev old : List Diagonal
  old = view count pairs values

  view_at : index < count → drop index old ≡ diagonal_at pairs values index ∷ drop (suc index) old
  unfolding view
  view_at l =
      let d : Diagonal = diagonal_at pairs values index in
      drop-cons old index d (omega (arith, length_view count pairs values))
      ∙ ap (λ (x : Diagonal). x ∷ drop (suc index) old) (get_or_tabulate count (diagonal_at pairs values) index d l)

  -- the place above k is one further where a diagonal is at k, else the same
  behind_next : index < count → offset_at pairs index ≡ k → behind ≡ suc index
  behind_next l e =
      ⊎_elim
      (λ (s : index ≡ behind). absurd (let h : k + 1 ≤ offset_at pairs behind = q.here (omega arith) in omega (arith, ap (offset_at pairs) s)))
      (λ (m : index < behind). omega (arith, place_next p q w.rising))
      (eq-or-lt_of_le (place_order p q))

  behind_same : k < offset_at pairs index → behind ≡ index
  behind_same m =
      ⊎_elim
      (λ (s : index ≡ behind). sym s)
      (λ (n : index < behind). omega (arith, q.before index n))
      (eq-or-lt_of_le (place_order p q))

  tail_at : index < count → Side (offset_at pairs index) k → placed k vs (drop index old) ≡ record { offset = k; values = vs } ∷ drop behind old
  tail_at l (below m) = absurd (omega (arith, p.here l))
  tail_at l (equal e) = rw (view_at l, behind_next l e) (placed_equal k vs (diagonal_at pairs values index) (drop (suc index) old) e)
  tail_at l (above m) = rw (behind_same m, view_at l) (placed_above k vs (diagonal_at pairs values index) (drop (suc index) old) m)

  tail_end : index ≡ count → placed k vs (drop index old) ≡ record { offset = k; values = vs } ∷ drop behind old
  tail_end e =
      let n : length old ≡ count = length_view count pairs values in
      rw (drop_of_length-le old {i = index} (omega arith), drop_of_length-le old {i = behind} (omega (arith, place_order p q)))

  pub placed_cut : placed k vs old ≡ view index pairs values ++ (record { offset = k; values = vs } ∷ drop behind old)
  unfolding view
  placed_cut =
      ap (placed k vs) (view_cut pairs values index count p.inside)
      ∙ placed_append k vs (view index pairs values) (drop index old) (each_view _ index pairs values p.before)
      ∙ ap (λ (t : List Diagonal). view index pairs values ++ t) (⊎_elim tail_end (λ l. tail_at l (side (offset_at pairs index) k)) (eq-or-lt_of_le p.inside))

-- ---- what a set writes

module _ {slots count : ℕ} {pairs values : List ℕ} (w : WellFormed slots count pairs values) {k : ℕ} (vs : List ℕ) {r : Change} (h : Changed count pairs k (length vs) r) where
  abbrev new : List Diagonal
  new = placed k vs (view count pairs values)

  new_is : new ≡ view r.index pairs values ++ (record { offset = k; values = vs } ∷ drop r.behind (view count pairs values))
  new_is = placed_cut w h.here h.above vs

  -- the number of pairs
  pub length_new : length new ≡ r.pairs
  length_new =
      ap length new_is
      ∙ omega (arith, length-append (view r.index pairs values) (record { offset = k; values = vs } ∷ drop r.behind (view count pairs values)), length_view r.index pairs values, length-drop r.behind (view count pairs values), length_view count pairs values, h.pairs_is)

  -- the words
  new_pairs : pair_words new ≡ take (pair_room r.index) pairs ++ (pair_of (record { offset = k; values = vs }) ++ take (pair_room count - pair_room r.behind) (drop (pair_room r.behind) pairs))
  unfolding pair_words
  new_pairs =
      let i : r.index ≤ count = h.here.inside in
      let d : Diagonal = record { offset = k; values = vs } in
      ap pair_words new_is
      ∙ pair_words_append (view r.index pairs values) _
      ∙ ap (λ (t : List ℕ). t ++ (pair_of d ++ pair_words (drop r.behind (view count pairs values)))) (pairs_view pairs values r.index (omega (arith, w.pairs_inside, room_mono r.index count i)) (λ j l. w.whole j (omega arith)))
      ∙ ap (λ (t : List ℕ). take (pair_room r.index) pairs ++ (pair_of d ++ t)) (pairs_rest pairs values r.behind count h.above.inside w.pairs_inside w.whole)

  new_values : value_words new ≡ take r.start values ++ (vs ++ take (r.end - r.from) (drop r.from values))
  unfolding value_words
  new_values =
      ap value_words new_is
      ∙ value_words_append (view r.index pairs values) _
      ∙ ap (λ (t : List ℕ). t ++ (vs ++ value_words (drop r.behind (view count pairs values)))) (values_view pairs values r.index)
      ∙ ap (λ (t : List ℕ). take (start_at pairs r.index) values ++ (vs ++ t)) (values_rest pairs values r.behind count h.above.inside)
      ∙ rw (h.start_is, h.from_is, h.end_is)

  pub set_pairs : spliced (pair_room r.index) (pair_room r.behind) (pair_room count) (pair_of (record { offset = k; values = vs })) pairs ≡ in_front (pair_words new) pairs
  unfolding spliced
  set_pairs = rw new_pairs

  pub set_values : spliced r.start r.from r.end vs values ≡ in_front (value_words new) values
  unfolding spliced
  set_values = rw new_values

  -- the number of values
  pub length_new_values : length (value_words new) ≡ r.values
  length_new_values =
      let a : r.start ≤ length values = omega (arith, h.start_is, start_within h.here, values_inside w) in
      let b : r.end - r.from ≤ length (drop r.from values) = omega (arith, length-drop r.from values, h.end_is, values_inside w) in
      let moved : List ℕ = take (r.end - r.from) (drop r.from values) in
      ap length new_values
      ∙ omega (arith, length-append (take r.start values) (vs ++ moved), length-append vs moved, length-take-le r.start values a, length-take-le (r.end - r.from) (drop r.from values) b, h.values_is)

-- with room for these words both are spliced inside their buffers
module _ {slots count : ℕ} {pairs values : List ℕ} (w : WellFormed slots count pairs values) {k n : ℕ} {r : Change} (h : Changed count pairs k n r) where
  pub pairs_fit : pair_room r.pairs ≤ length pairs → Spliceable (pair_room r.index) (pair_room r.behind) (pair_room count) (pair_room 1) (length pairs)
  pairs_fit l =
      let b : r.behind + (count - r.behind) ≡ count = omega (arith, h.above.inside) in
      let e : pair_room r.index + pair_room 1 + (pair_room count - pair_room r.behind) ≡ pair_room r.pairs =
      omega (arith, ap pair_room h.pairs_is, room_add (r.index + 1) (count - r.behind), room_add r.index 1, room_add r.behind (count - r.behind), ap pair_room b) in
      record { order = room_mono r.behind count h.above.inside; inside = w.pairs_inside; fits = omega arith }

  pub values_fit : r.values ≤ length values → Spliceable r.start r.from r.end n (length values)
  values_fit l = record { order = omega (arith, h.from_is, start_within h.above, h.end_is); inside = omega (arith, h.end_is, values_inside w); fits = omega (arith, h.values_is) }

-- ---- the call

-- past the refusals of the map and of the length of the new values: k is the offset, r the change, and the room decides
pub record Decided (slots count : ℕ) (pairs values : List ℕ) (index : ℤ) (vs : List ℕ) (k : ℕ) (r : Change) : Type 0 where
  pub offset_is : k ≡ residue_of index slots
  pub formed : WellFormed slots count pairs values
  pub change : Changed count pairs (residue_of index slots) (length vs) r
  pub refusal : set_refusal slots count pairs values index vs ≡ first_refusal (map_room (set_map slots count pairs values index vs) pairs values)

module _ (slots count : ℕ) (pairs values : List ℕ) (index : ℤ) (vs : List ℕ) where
  abbrev later : List (Bool × Refusal)
  later = (no_period slots (length vs), Period) ∷ map_room (set_map slots count pairs values index vs) pairs values

  module _ (z : map_refusal slots count pairs values ≡ None) where
    pub decided : no_period slots (length vs) ≡ false → {k : ℕ} {r : Change} → k ≡ residue_of index slots → Changed count pairs k (length vs) r → Decided slots count pairs values index vs k r
    decided p e h = record { offset_is = e; formed = (stored_means slots count pairs values z).1; change = rw (← e) h; refusal = first_later (map_refusals slots count pairs values) later z ∙ rw p }

module _ {slots count : ℕ} {pairs values : List ℕ} {index : ℤ} {vs : List ℕ} {k : ℕ} {r : Change} (d : Decided slots count pairs values index vs k r) where
  abbrev ds : List Diagonal
  ds = set_map slots count pairs values index vs

  abbrev Written : List ℕ → List ℕ → Result ℕ Refusal → Type 0
  Written pairs₁ values₁ = MapWritten (set_refusal slots count pairs values index vs) ds pairs pairs₁ values values₁

  room_is : {x : Result Unit Refusal} → RoomJudged r.pairs r.values (length pairs) (length values) x → x ≡ judged (set_refusal slots count pairs values index vs)
  room_is j = room_of ds pairs values (sym (length_new d.formed vs d.change)) (sym (length_new_values d.formed vs d.change)) j ∙ ap judged (sym d.refusal)

  pub refused_room : {x : Refusal} {room : Result Unit Refusal} → RoomJudged r.pairs r.values (length pairs) (length values) room → room ≡ Err x → Written pairs values (Err x)
  refused_room j n = written_refused (judged_some (room_is j) n)

  -- the spliced words are those of the map
  pub accepted : {x : Result Unit Refusal} {pairs₁ values₁ : List ℕ} → RoomJudged r.pairs r.values (length pairs) (length values) x → x ≡ Ok tt
      → pairs₁ ≡ spliced (pair_room r.index) (pair_room r.behind) (pair_room count) (pair_of (record { offset = k; values = vs })) pairs → values₁ ≡ spliced r.start r.from r.end vs values → Written pairs₁ values₁ (Ok r.pairs)
  accepted j z a b =
      written_accepted
      (judged_none (room_is j) z)
      (sym (length_new d.formed vs d.change))
      (rw d.offset_is at a ∙ set_pairs d.formed vs d.change)
      (b ∙ set_values d.formed vs d.change)
