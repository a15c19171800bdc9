-- Laws of the nodes as runs over the map: where the diagonals of a giant stand, and its node as the sum over them.
-- Assumes nothing.
use Rattle.std.specs.Prelude.{◌≡◌, ℕ, zero, suc, ◌+◌, ◌-◌, ◌*◌, ◌%◌, ◌<◌, ◌≤◌, true, List, [], ◌∷◌, ◌++◌, map, length, take, drop, slice_index, slice_index_or, refl}
use Rattle.std.proofs.Math.Path.{sym, ap}
use Rattle.std.proofs.Common.{◌∙◌, not-suc-le-zero, le_of_suc-le-suc, add-zero, add-one, length-append, take-append-drop, take-suc, get_or-append-add}
use native.Mathlib.Omega.{arith}
use Rattle.std.proofs.lemmas.List.{length-map}
use Rattle.std.proofs.Math.ListN.{get_or-append}
use Rattle.std.proofs.Math.Seq.{split_at}
use Rattle.ring.specs.Lists.{join, sum_by, among}
use Rattle.ring.specs.Vectors.{tabulate}
use Rattle.ring.specs.Slots.{mulm}
use Rattle.ring.specs.Laws.Lists.{join_append, each_at}
use Rattle.ring.specs.Laws.Members.{among_each}
use Rattle.ring.specs.Laws.Vectors.{get_or_tabulate, tabulate_get_or}
use Rattle.diagonals.specs.Maps.{offsets_of, offset_at, diagonal_at, view, WellFormed}
use Rattle.diagonals.specs.Products.{cell, stretch}
use Rattle.diagonals.specs.Laws.Maps.{offsets_view, length_view, stretch_found}
use Rattle.diagonals.specs.Laws.Words.{formed_view}
use Rattle.linear_transformation.specs.declared.LinearTransformationStrategy.{LinearTransformationStrategy}
use Rattle.linear_transformation.specs.Plans.{width_of, baby_of, babies, giants, babies_at, plan_index, cuts, plan_pairs, Planned}
use Rattle.linear_transformation.specs.Schedules.{plan_babies, plan_giants}
use Rattle.linear_transformation.specs.Laws.Plans.{index_babies, index_length, index_diagonals, babies_have}
use Rattle.linear_transformation.specs.Laws.Widths.{distinct_planned}
use Rattle.runs.specs.Switches.{source_of}
use Rattle.runs.specs.Machines.{source_vector, node_at}
use Rattle.runs.specs.Steps.Keyed.{first_diagonal, size_of, node_term, node_run}
use Rattle.runs.specs.Laws.Elements.{mapped_at}
use Rattle.runs.specs.Laws.Plans.{map_distinct}
use Rattle.runs.specs.Laws.Schedules.{plan_babies_have}

-- ---- lists one after the other

-- sums over two tables, equal place by place
sum_tables : (m n : ℕ) (f g a b : ℕ → ℕ) → ((i : ℕ) → i < n → f (a i) ≡ g (b i)) → sum_by m f (tabulate n a) ≡ sum_by m g (tabulate n b)
sum_tables m zero f g a b h = refl
sum_tables m (suc n) f g a b h = cc (h 0 (omega arith), sum_tables m n f g (λ i. a (suc i)) (λ i. b (suc i)) (λ i l. h (suc i) (omega arith)))

module _ (f : ℕ → List ℕ) where
  abbrev before : List ℕ → ℕ → ℕ
  before gs p = length (join f (take p gs))

  before_suc : (gs : List ℕ) (p : ℕ) → p < length gs → before gs (suc p) ≡ before gs p + length (f (slice_index gs p))
  before_suc gs p l =
      ap (λ (t : List ℕ). length (join f t)) (take-suc gs p 0 l)
      ∙ ap length (join_append f (take p gs) (slice_index gs p ∷ []))
      ∙ simp (length-append) (omega arith)

  before_le : (gs : List ℕ) (p : ℕ) → before gs p ≤ length (join f gs)
  before_le gs p =
      let e : length (join f gs) ≡ before gs p + length (join f (drop p gs)) = ap (λ (t : List ℕ). length (join f t)) (sym (take-append-drop p gs)) ∙ ap length (join_append f (take p gs) (drop p gs)) ∙ length-append (join f (take p gs)) (join f (drop p gs)) in
      omega arith

  -- the i-th of the p-th list
  joined_at : (gs : List ℕ) (p i : ℕ) → p < length gs → i < length (f (slice_index gs p)) → slice_index (join f gs) (before gs p + i) ≡ slice_index (f (slice_index gs p)) i
  joined_at gs p i l h =
      let rest = drop (suc p) gs in
      ap (λ (t : List ℕ). slice_index t (before gs p + i)) (ap (join f) (split_at gs p 0 l) ∙ join_append f (take p gs) (slice_index gs p ∷ rest))
      ∙ get_or-append-add (join f (take p gs)) (f (slice_index gs p) ++ join f rest) i 0
      ∙ get_or-append (f (slice_index gs p)) (join f rest) 0 i h

  -- the words of the pairs
  cuts_first : (start : ℕ) (gs : List ℕ) (p : ℕ) → p < length gs → slice_index (join (λ c. c.0 ∷ c.1 ∷ []) (cuts f start gs)) (2 * p) ≡ start + before gs p
  cuts_first start [] p l = absurd (not-suc-le-zero l)
  cuts_first start (g ∷ gs) zero l = sym (add-zero start)
  cuts_first start (g ∷ gs) (suc p) l =
      let e : 2 * suc p ≡ suc (suc (2 * p)) = omega arith in
      rw e (cuts_first (start + length (f g)) gs p (le_of_suc-le-suc l) ∙ simp (length-append) (omega arith))

  cuts_size : (start : ℕ) (gs : List ℕ) (p : ℕ) → p < length gs → slice_index (join (λ c. c.0 ∷ c.1 ∷ []) (cuts f start gs)) (2 * p + 1) ≡ length (f (slice_index gs p))
  cuts_size start [] p l = absurd (not-suc-le-zero l)
  cuts_size start (g ∷ gs) zero l = refl
  cuts_size start (g ∷ gs) (suc p) l =
      let e : 2 * suc p + 1 ≡ suc (suc (2 * p + 1)) = omega arith in
      rw e (cuts_size (start + length (f g)) gs p (le_of_suc-le-suc l))

-- as many elements from lists that are as long
before_same : (f g : ℕ → List ℕ) → ((x : ℕ) → length (f x) ≡ length (g x)) → (xs : List ℕ) → length (join f xs) ≡ length (join g xs)
before_same f g same [] = refl
before_same f g same (x ∷ xs) = omega (arith, length-append (f x) (join f xs), length-append (g x) (join g xs), same x, before_same f g same xs)

-- ---- where the diagonals of a giant stand

module _ (width : ℕ) (ks gs : List ℕ) where
  pub first_suc : (p : ℕ) → p < length gs → first_diagonal width ks gs (suc p) ≡ first_diagonal width ks gs p + size_of width ks gs p
  first_suc p l = before_suc (babies_at width ks) gs p l

  pub first_more : (p : ℕ) → p < length gs → first_diagonal width ks gs (p + 1) ≡ first_diagonal width ks gs p + size_of width ks gs p
  first_more p l = rw (add-one p) (first_suc p l)

module _ (slots width : ℕ) (ks : List ℕ) where
  -- the pairs of the plan say so
  pub cut_first : (p : ℕ) → p < length (giants slots width ks) → slice_index (join (λ c. c.0 ∷ c.1 ∷ []) (plan_pairs slots width ks)) (2 * p) ≡ first_diagonal width ks (giants slots width ks) p
  unfolding plan_pairs
  cut_first p l = cuts_first (babies_at width ks) 0 (giants slots width ks) p l ∙ omega arith

  pub cut_size : (p : ℕ) → p < length (giants slots width ks) → slice_index (join (λ c. c.0 ∷ c.1 ∷ []) (plan_pairs slots width ks)) (2 * p + 1) ≡ size_of width ks (giants slots width ks) p
  unfolding plan_pairs
  cut_size p l = cuts_size (babies_at width ks) 0 (giants slots width ks) p l

module _ {slots width : ℕ} {ks : List ℕ} (w : Planned slots width ks) where
  pub planned_inside : (p : ℕ) → p < length (giants slots width ks) → first_diagonal width ks (giants slots width ks) p + size_of width ks (giants slots width ks) p ≤ length ks
  unfolding plan_index
  planned_inside p l =
      let gs = giants slots width ks in
      omega (arith, first_suc width ks gs p l, before_le (babies_at width ks) gs (suc p), index_length w)

  module _ (p i : ℕ) (l : p < length (giants slots width ks)) (h : i < size_of width ks (giants slots width ks) p) where
    abbrev listed : List ℕ
    listed = giants slots width ks

    abbrev base : ℕ
    base = slice_index listed p

    -- the i-th diagonal of the p-th giant is the giant plus its i-th baby
    pub planned_diagonal : slice_index_or ks (first_diagonal width ks listed p + i) 0 ≡ base + slice_index (babies_at width ks base) i
    planned_diagonal =
        let f : ℕ → List ℕ = λ g. map (λ b. g + b) (babies_at width ks g) in
        let e : length (join f (take p listed)) ≡ first_diagonal width ks listed p = before_same f (babies_at width ks) (λ x. length-map (babies_at width ks x) (λ b. x + b)) (take p listed) in
        ap (λ (t : List ℕ). slice_index t (first_diagonal width ks listed p + i)) (sym (index_diagonals w))
        ∙ ap (λ (n : ℕ). slice_index (join f listed) (n + i)) (sym e)
        ∙ joined_at f listed p i l (rw (length-map (babies_at width ks base) (λ b. base + b)) h)
        ∙ mapped_at (λ b. base + b) (babies_at width ks base) i 0 0 h

    -- and that is the diagonal's baby
    planned_baby : slice_index_or (babies_at width ks base) i 0 ≡ baby_of width (slice_index ks (first_diagonal width ks listed p + i))
    unfolding plan_index
    planned_baby =
        sym (joined_at (babies_at width ks) listed p i l h)
        ∙ ap (λ (t : List ℕ). slice_index t (first_diagonal width ks listed p + i)) (index_babies w)
        ∙ mapped_at (baby_of width) ks (first_diagonal width ks listed p + i) 0 0 (omega (arith, planned_inside p l))

    planned_among : among (slice_index (babies_at width ks base) i) (babies slots width ks) ≡ true
    planned_among =
        let j : first_diagonal width ks listed p + i < length ks = omega (arith, planned_inside p l) in
        rw planned_baby
        (babies_have w (slice_index ks (first_diagonal width ks listed p + i))
        (each_at (λ k. among k ks ≡ true) ks 0 (among_each (λ k. among k ks ≡ true) ks (λ k a. a)) (first_diagonal width ks listed p + i) j))

-- ---- the runs of a map

module _ {slots count : ℕ} {pairs values : List ℕ} (w : WellFormed slots count pairs values) (positive : 0 < slots) (strategy : LinearTransformationStrategy) (wide : 0 < width_of strategy) where
  abbrev ks : List ℕ
  ks = offsets_of (view count pairs values)

  abbrev width : ℕ
  width = width_of strategy

  abbrev gs : List ℕ
  gs = plan_giants slots strategy ks

  pub map_planned : Planned slots (width_of strategy) (offsets_of (view count pairs values))
  map_planned = distinct_planned (map_distinct slots positive (view count pairs values) (formed_view slots count pairs values w)) width wide

  ks_length : length ks ≡ count
  ks_length = length-map (view count pairs values) (λ d. d.offset) ∙ length_view count pairs values

  pub run_inside : (p : ℕ) → p < length gs → first_diagonal width ks gs p + size_of width ks gs p ≤ count
  run_inside p l = omega (arith, planned_inside map_planned p l, ks_length)

  module _ (p i : ℕ) (l : p < length gs) (h : i < size_of width ks gs p) where
    -- the i-th offset of the p-th giant
    pub run_offset : offset_at pairs (first_diagonal width ks gs p + i) ≡ slice_index gs p + slice_index (babies_at width ks (slice_index gs p)) i
    run_offset =
        let j : first_diagonal width ks gs p + i < count = omega (arith, run_inside p l) in
        sym (ap (λ (t : List ℕ). slice_index t (first_diagonal width ks gs p + i)) (offsets_view count pairs values) ∙ get_or_tabulate count (offset_at pairs) (first_diagonal width ks gs p + i) 0 j)
        ∙ planned_diagonal map_planned p i l h

    pub run_above : slice_index_or gs p 0 ≤ offset_at pairs (first_diagonal width ks gs p + i)
    run_above = omega (arith, run_offset)

    run_baby : offset_at pairs (first_diagonal width ks gs p + i) - slice_index gs p ≡ slice_index (babies_at width ks (slice_index gs p)) i
    run_baby = omega (arith, run_offset)

    -- less the giant it is a baby of the plan
    pub run_among : slots ≤ 65536 → among (offset_at pairs (first_diagonal width ks gs p + i) - slice_index gs p) (plan_babies slots strategy ks) ≡ true
    run_among low = rw run_baby (plan_babies_have slots low strategy ks (slice_index (babies_at width ks (slice_index gs p)) i) (planned_among map_planned p i l h))

    run_stretch : stretch (view count pairs values) (slice_index gs p + slice_index (babies_at width ks (slice_index gs p)) i) ≡ (diagonal_at pairs values (first_diagonal width ks gs p + i)).values
    unfolding view
    run_stretch =
        let j : first_diagonal width ks gs p + i < count = omega (arith, run_inside p l) in
        stretch_found (slice_index gs p + slice_index (babies_at width ks (slice_index gs p)) i) count (diagonal_at pairs values) (first_diagonal width ks gs p + i) j run_offset
        (λ k m q. omega (arith, w.rising k (first_diagonal width ks gs p + i) m j, run_offset))

  -- the node of the p-th giant is the sum over its diagonals
  pub node_run_lem : (m : ℕ) (input cache : List ℕ) (p s : ℕ) → p < length gs
      → node_at m slots strategy (view count pairs values) input cache (slice_index gs p) s ≡ node_run m slots (plan_babies slots strategy ks) pairs values input cache (slice_index gs p) (first_diagonal width ks gs p) (size_of width ks gs p) s
  unfolding node_at
  node_run_lem m input cache p s l =
      let ds = view count pairs values in
      let g = slice_index_or gs p 0 in
      let own = babies_at width ks g in
      let bs = plan_babies slots strategy ks in
      let f : ℕ → ℕ = λ k. mulm m (slice_index (source_vector slots input cache (source_of bs k)) s) (cell (stretch ds (g + k)) ((s + (slots - g)) % slots)) in
      ap (sum_by m f) (tabulate_get_or own 0)
      ∙ sum_tables m (length own) f (node_term m slots bs pairs values input cache g s) (λ i. slice_index own i) (λ i. first_diagonal width ks gs p + i)
      (λ i h. rw (run_baby p i l h, run_stretch p i l h))
