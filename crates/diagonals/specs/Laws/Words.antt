-- Laws of a map as words: its words and its view are inverse, and well-formed words are those of a well-formed map.
-- Assumes nothing.
use Rattle.std.specs.Prelude.{◌≡◌, ℕ, zero, suc, ◌+◌, ◌-◌, ◌<◌, ◌≤◌, true, List, [], ◌∷◌, ◌++◌, length, take, drop}
use Rattle.std.proofs.Math.Path.{refl, sym, ap}
use Rattle.std.proofs.Common.{◌∙◌, add-one, le_trans, not-suc-le-zero, le_of_suc-le-suc, le-leb, length-append, take-add}
use mathlib.Core.List.{append_assoc, append-nil}
use native.Mathlib.Omega.{arith}
use Rattle.std.proofs.Math.Seq.{take-append_seam, drop_at, drop-append-add}
use Rattle.ring.specs.Vectors.{tabulate, in_front}
use Rattle.ring.specs.Laws.Vectors.{tabulate_add, tabulate_snoc, tabulate_cong, length_tabulate, map_tabulate, length_in_front}
use Rattle.ring.specs.Laws.Lists.{join_append, append_cancel, each_tabulate, tabulate_each, rising_tabulate, tabulate_rising}
use Rattle.ring.specs.Laws.Searches.{both, every_all}
use Rattle.diagonals.specs.Maps.{Diagonal, pair_room, offset_at, length_at, pair_of, pair_words, value_words, start_at, diagonal_at, view, formed_at, well_formed, Formed, WellFormed, FormedMap}
use Rattle.diagonals.specs.Laws.Pairs.{room_none, room_add, room_mono, length_pair_words, offset_first, length_first, offset_behind, length_behind, pair_at_lem}
use Rattle.diagonals.specs.Laws.Maps.{start_mono, end_within, inside_whole, stored_some, stored_divides, next_of, formed_passes}

-- ---- words of maps one after the other

module _ (ds es : List Diagonal) where
  pub pair_words_append : pair_words (ds ++ es) ≡ pair_words ds ++ pair_words es
  unfolding pair_words
  pair_words_append = join_append _ ds es

  pub value_words_append : value_words (ds ++ es) ≡ value_words ds ++ value_words es
  unfolding value_words
  value_words_append = join_append _ ds es

pub pair_words_none : pair_words [] ≡ []
unfolding pair_words
pair_words_none = refl

-- one diagonal more
module _ (ds : List Diagonal) (d : Diagonal) where
  pub pair_words_more : pair_words (ds ++ (d ∷ [])) ≡ pair_words ds ++ pair_of d
  unfolding pair_words
  pair_words_more = pair_words_append ds (d ∷ []) ∙ ap (λ (t : List ℕ). pair_words ds ++ t) (append-nil (pair_of d))

  pub value_words_more : value_words (ds ++ (d ∷ [])) ≡ value_words ds ++ d.values
  unfolding value_words
  value_words_more = value_words_append ds (d ∷ []) ∙ ap (λ (t : List ℕ). value_words ds ++ t) (append-nil d.values)

-- ---- a view cut in two, and its words

module _ (pairs values : List ℕ) where
  pub view_cut : (i n : ℕ) → i ≤ n → view n pairs values ≡ view i pairs values ++ drop i (view n pairs values)
  unfolding view
  view_cut i n l =
      let f : ℕ → Diagonal = diagonal_at pairs values in
      let e : i + (n - i) ≡ n = omega arith in
      let g : tabulate n f ≡ tabulate i f ++ tabulate (n - i) (λ j. f (i + j)) = ap (λ (x : ℕ). tabulate x f) (sym e) ∙ tabulate_add i (n - i) f in
      g ∙ ap (λ (t : List Diagonal). tabulate i f ++ t) (sym (ap (drop i) g ∙ drop_at (tabulate i f) _ i (length_tabulate i f)))

  -- the words of a view
  pub values_view : (n : ℕ) → value_words (view n pairs values) ≡ take (start_at pairs n) values
  unfolding value_words view
  values_view zero = refl
  values_view (suc n) =
      ap value_words (tabulate_snoc n (diagonal_at pairs values))
      ∙ value_words_more (view n pairs values) (diagonal_at pairs values n)
      ∙ rw (values_view n) (sym (take-add (start_at pairs n) (length_at pairs n) values))

  -- the pair of a stored diagonal is the pair that is stored
  pair_of_lem : (i : ℕ) → length (diagonal_at pairs values i).values ≡ length_at pairs i → pair_of (diagonal_at pairs values i) ≡ offset_at pairs i ∷ length_at pairs i ∷ []
  unfolding pair_of
  pair_of_lem i q = rw q

  pub pairs_view : (n : ℕ) → pair_room n ≤ length pairs → ((i : ℕ) → i < n → length (diagonal_at pairs values i).values ≡ length_at pairs i) → pair_words (view n pairs values) ≡ take (pair_room n) pairs
  unfolding view
  pairs_view zero h k = rw room_none (pair_words_none)
  pairs_view (suc n) h k =
      let e : suc n ≡ n + 1 = sym (add-one n) in
      ap pair_words (tabulate_snoc n (diagonal_at pairs values))
      ∙ pair_words_more (view n pairs values) (diagonal_at pairs values n)
      ∙ rw (pairs_view n (omega (arith, room_mono n (suc n) (omega arith))) (λ i l. k i (omega arith)), e, room_add n 1, take-add)
      (ap (λ (t : List ℕ). take (pair_room n) pairs ++ t) (pair_of_lem n (k n (omega arith)) ∙ sym (pair_at_lem pairs n (rw e at h))))

  -- the words of the pairs from the i-th on
  module _ (i n : ℕ) (l : i ≤ n) where
    pub values_rest : value_words (drop i (view n pairs values)) ≡ take (start_at pairs n - start_at pairs i) (drop (start_at pairs i) values)
    values_rest =
        let m : start_at pairs i ≤ start_at pairs n = start_mono pairs i n l in
        let e : start_at pairs i + (start_at pairs n - start_at pairs i) ≡ start_at pairs n = omega arith in
        append_cancel (take (start_at pairs i) values) _ _
        (ap (λ (t : List ℕ). t ++ value_words (drop i (view n pairs values))) (sym (values_view i))
        ∙ sym (value_words_append (view i pairs values) (drop i (view n pairs values)))
        ∙ ap value_words (sym (view_cut i n l))
        ∙ values_view n
        ∙ ap (λ (x : ℕ). take x values) (sym e)
        ∙ take-add (start_at pairs i) (start_at pairs n - start_at pairs i) values)

    pub pairs_rest : pair_room n ≤ length pairs → ((j : ℕ) → j < n → length (diagonal_at pairs values j).values ≡ length_at pairs j) → pair_words (drop i (view n pairs values)) ≡ take (pair_room n - pair_room i) (drop (pair_room i) pairs)
    pairs_rest h k =
        let m : pair_room i ≤ pair_room n = room_mono i n l in
        let e : pair_room i + (pair_room n - pair_room i) ≡ pair_room n = omega arith in
        append_cancel (take (pair_room i) pairs) _ _
        (ap (λ (t : List ℕ). t ++ pair_words (drop i (view n pairs values))) (sym (pairs_view i (omega arith) (λ j q. k j (omega arith))))
        ∙ sym (pair_words_append (view i pairs values) (drop i (view n pairs values)))
        ∙ ap pair_words (sym (view_cut i n l))
        ∙ pairs_view n h k
        ∙ ap (λ (x : ℕ). take x pairs) (sym e)
        ∙ take-add (pair_room i) (pair_room n - pair_room i) pairs)

-- ---- the view of words

module _ (d : Diagonal) (pairs : List ℕ) where
  start_behind : (i : ℕ) → start_at (pair_of d ++ pairs) (suc i) ≡ length d.values + start_at pairs i
  start_behind zero = omega (arith, length_first d pairs)
  start_behind (suc i) = omega (arith, start_behind i, length_behind d pairs i)

  diagonal_behind : (values : List ℕ) (i : ℕ) → diagonal_at (pair_of d ++ pairs) (d.values ++ values) (suc i) ≡ diagonal_at pairs values i
  diagonal_behind values i = rw (offset_behind d pairs i, length_behind d pairs i, start_behind i, drop-append-add)

  diagonal_first : (values : List ℕ) → diagonal_at (pair_of d ++ pairs) (d.values ++ values) 0 ≡ d
  diagonal_first values = rw (offset_first d pairs, length_first d pairs) (ap (λ (x : List ℕ). record { offset = d.offset; values = x }) (take-append_seam d.values values))

module _ (p v : List ℕ) where
  -- a map is the view of its words, whatever stands behind them
  pub view_words : (ds : List Diagonal) → view (length ds) (pair_words ds ++ p) (value_words ds ++ v) ≡ ds
  unfolding view pair_words value_words offset_at length_at pair_of
  view_words [] = refl
  view_words (d ∷ ds) =
      let n : ℕ = length ds in
      let pairs : List ℕ = pair_words ds ++ p in
      let values : List ℕ = value_words ds ++ v in
      let rest : tabulate n (λ i. diagonal_at (pair_of d ++ pairs) (d.values ++ values) (suc i)) ≡ ds = tabulate_cong n _ _ (λ i l. diagonal_behind d pairs values i) ∙ view_words ds in
      rw (append_assoc (pair_of d) (pair_words ds) p, append_assoc d.values (value_words ds) v)
      (cc (diagonal_first d pairs values, rest))

pub start_words : (p : List ℕ) (ds : List Diagonal) → start_at (pair_words ds ++ p) (length ds) ≡ length (value_words ds)
unfolding pair_words value_words
start_words p [] = refl
start_words p (d ∷ ds) =
    ap (λ (t : List ℕ). start_at t (suc (length ds))) (append_assoc (pair_of d) (pair_words ds) p)
    ∙ start_behind d (pair_words ds ++ p) (length ds)
    ∙ ap (λ (x : ℕ). length d.values + x) (start_words p ds)
    ∙ sym (length-append d.values (value_words ds))

-- the pairs of a table of diagonals
pub offset_table : (n : ℕ) (f : ℕ → Diagonal) (i : ℕ) → i < n → offset_at (pair_words (tabulate n f)) i ≡ (f i).offset
unfolding pair_words
offset_table zero f i l = absurd (not-suc-le-zero l)
offset_table (suc n) f zero l = offset_first (f 0) (pair_words (tabulate n (λ k. f (suc k))))
offset_table (suc n) f (suc i) l = offset_behind (f 0) (pair_words (tabulate n (λ k. f (suc k)))) i ∙ offset_table n (λ k. f (suc k)) i (le_of_suc-le-suc l)

pub length_table : (n : ℕ) (f : ℕ → Diagonal) (i : ℕ) → i < n → length_at (pair_words (tabulate n f)) i ≡ length (f i).values
unfolding pair_words
length_table zero f i l = absurd (not-suc-le-zero l)
length_table (suc n) f zero l = length_first (f 0) (pair_words (tabulate n (λ k. f (suc k))))
length_table (suc n) f (suc i) l = length_behind (f 0) (pair_words (tabulate n (λ k. f (suc k)))) i ∙ length_table n (λ k. f (suc k)) i (le_of_suc-le-suc l)

module _ (ds : List Diagonal) (p : List ℕ) where
  -- words in front of buffers
  pub view_in_front : (v : List ℕ) → view (length ds) (in_front (pair_words ds) p) (in_front (value_words ds) v) ≡ ds
  unfolding in_front
  view_in_front v = view_words _ _ ds

  pub start_in_front : start_at (in_front (pair_words ds) p) (length ds) ≡ length (value_words ds)
  unfolding in_front
  start_in_front = start_words _ ds

-- ---- well-formed maps

module _ (slots n : ℕ) (pairs values : List ℕ) where
  -- the view of well-formed words
  pub formed_view : WellFormed slots n pairs values → FormedMap slots (view n pairs values)
  unfolding view
  formed_view w =
      record {
        each = each_tabulate (Formed slots) n (diagonal_at pairs values) w.each;
        rising = rw map_tabulate (rising_tabulate n (offset_at pairs) w.rising);
      }

  -- and the words of a well-formed view
  pub view_formed : pair_room n ≤ length pairs → start_at pairs n ≤ length values → FormedMap slots (view n pairs values) → WellFormed slots n pairs values
  unfolding view
  view_formed h k m =
      record {
        pairs_inside = h;
        each = tabulate_each (Formed slots) n (diagonal_at pairs values) m.each;
        whole = λ i l. inside_whole pairs values i (le_trans (end_within pairs i n l) k);
        rising = tabulate_rising n (offset_at pairs) (rw map_tabulate at m.rising);
      }

  next_low : WellFormed slots n pairs values → (i : ℕ) → i < n → next_of pairs i ≤ offset_at pairs i
  next_low w zero l = omega arith
  next_low w (suc i) l = w.rising i (suc i) (omega arith) l

  -- what is well formed passes the test
  pub means_formed : WellFormed slots n pairs values → well_formed slots n pairs values ≡ true
  unfolding well_formed
  means_formed w =
      both (le-leb _ _ w.pairs_inside)
      (every_all (formed_at slots pairs values) n (λ i l. formed_passes slots pairs values i (w.each i l).low (stored_some w i l) (stored_divides w i l) (w.whole i l) (next_low w i l)))

-- the words of a well-formed map, in front of buffers with room for them
pub words_formed : (slots : ℕ) (ds : List Diagonal) (p v : List ℕ) → FormedMap slots ds → pair_room (length ds) ≤ length p → length (value_words ds) ≤ length v → WellFormed slots (length ds) (in_front (pair_words ds) p) (in_front (value_words ds) v)
words_formed slots ds p v m h k =
    view_formed slots (length ds) (in_front (pair_words ds) p) (in_front (value_words ds) v)
    (omega (arith, length_pair_words ds, length_in_front (pair_words ds) p (omega (arith, length_pair_words ds))))
    (omega (arith, start_in_front ds p, length_in_front (value_words ds) v k))
    (rw view_in_front m)

-- the words of a map alone
module _ (ds : List Diagonal) where
  pub view_alone : view (length ds) (pair_words ds) (value_words ds) ≡ ds
  view_alone = rw (append-nil (pair_words ds), append-nil (value_words ds)) at (view_words [] [] ds)

  pub start_alone : start_at (pair_words ds) (length ds) ≡ length (value_words ds)
  start_alone = rw (append-nil (pair_words ds)) at (start_words [] ds)

  pub formed_alone : (slots : ℕ) → FormedMap slots ds → WellFormed slots (length ds) (pair_words ds) (value_words ds)
  formed_alone slots m = view_formed slots (length ds) (pair_words ds) (value_words ds) (omega (arith, length_pair_words ds)) (omega (arith, start_alone)) (rw view_alone m)
