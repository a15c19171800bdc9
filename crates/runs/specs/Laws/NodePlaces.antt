-- Laws of where the tree's nodes stand: each at the place of the first leaf under it, and no two at one place.
-- Assumes nothing.
use Rattle.std.specs.Prelude.{◌≡◌, ℕ, zero, suc, ◌+◌, ◌*◌, ◌/◌, ◌^◌, ◌<◌, ◌≤◌, Bool, true, false, ◌||◌, ◌≢◌, List, [], ◌∷◌, length, ◌==◌, slice_index, slice_index_or, refl}
use Rattle.std.proofs.Common.{sym, ◌∙◌, ⊎_elim, not-suc-le-zero, le_of_suc-le-suc, arith, eq-eqb, ne_eqb}
use Rattle.std.proofs.Math.Path.{ap}
use Rattle.std.proofs.Math.Bool.{true≢false}
use Rattle.std.proofs.Math.Nat.{div-one, div-eq_of_lt}
use Rattle.std.proofs.Math.Decide.{ℕ_discrete}
use Rattle.ring.specs.Lists.{Rising, among}
use Rattle.ring.specs.Laws.Searches.{lt_or_ge}
use Rattle.ring.specs.Laws.Members.{right, left, among_rest, each_among}
use Rattle.linear_transformation.specs.Trees.{there}
use Rattle.linear_transformation.specs.Laws.Trees.{half_node, there_zero, there_half}
use Rattle.runs.specs.Switches.{place_of, node_place}

-- ---- rising numbers and their places

-- the place of one of them: smaller ones before it
pub record FirstPlace (xs : List ℕ) (k place : ℕ) : Type 0 where
  pub inside : place < length xs
  pub is : slice_index_or xs place 0 ≡ k
  pub before : (j : ℕ) → j < place → slice_index xs j < k

pub place_of_lem : (xs : List ℕ) (k : ℕ) → Rising xs → among k xs ≡ true → FirstPlace xs k (place_of k xs)
place_of_lem [] k r h = absurd (true≢false (sym h))
place_of_lem (x ∷ xs) k r h = by (ℕ_discrete x k) (place_of_lem xs k r.1)
  where
    by : Dec (x ≡ k) → (among k xs ≡ true → FirstPlace xs k (place_of k xs)) → FirstPlace (x ∷ xs) k (place_of k (x ∷ xs))
    by (yes e) ih = rw (eq-eqb x k e) (record { inside = omega arith; is = e; before = λ j l. absurd (not-suc-le-zero l) })
    by (no n) ih =
        let a : among k xs ≡ true = among_rest x xs k n h in
        let f = ih a in
        rw (ne_eqb x k n) (record { inside = omega (arith, f.inside); is = f.is; before = λ j l. earlier f a j l })
      where
        earlier : FirstPlace xs k (place_of k xs) → among k xs ≡ true → (j : ℕ) → j < suc (place_of k xs) → slice_index (x ∷ xs) j < k
        earlier f a zero l = each_among (λ y. x < y) xs r.0 k a
        earlier f a (suc j) l = f.before j (le_of_suc-le-suc l)

-- ---- nodes

-- a leaf's node is there
pub there_at : (ls : List ℕ) (i j : ℕ) → j < length ls → there ls i (slice_index ls j / 2 ^ i) ≡ true
unfolding there
there_at [] i j l = absurd (not-suc-le-zero l)
there_at (x ∷ xs) i zero l = left _ (eq-eqb (x / 2 ^ i) (x / 2 ^ i) refl)
there_at (x ∷ xs) i (suc j) l = right (x / 2 ^ i == slice_index xs j / 2 ^ i) (there_at xs i j (le_of_suc-le-suc l))

-- the first leaf under node n of level i stands at the place: those before it are under smaller nodes
pub record NodeFirst (leaves : List ℕ) (i n place : ℕ) : Type 0 where
  pub inside : place < length leaves
  pub under : slice_index_or leaves place 0 / 2 ^ i ≡ n
  pub before : (j : ℕ) → j < place → slice_index leaves j / 2 ^ i < n

-- a node with a first leaf is there
pub first_there : {leaves : List ℕ} {i n place : ℕ} → NodeFirst leaves i n place → there leaves i n ≡ true
first_there {leaves} {i} {n} {place} f = ap (there leaves i) (sym f.under) ∙ there_at leaves i place f.inside

module _ (leaves : List ℕ) (rises : Rising leaves) where
  at_leaf : (n : ℕ) → there leaves 0 n ≡ true → NodeFirst leaves 0 n (node_place leaves 0 n)
  unfolding node_place
  at_leaf n h =
      let f = place_of_lem leaves n rises (sym (there_zero leaves n) ∙ h) in
      record { inside = f.inside; under = div-one _ ∙ f.is; before = λ j l. rw (div-one (slice_index leaves j)) (f.before j l) }

  by_even : (i n : ℕ) → there leaves i (2 * n) ≡ true → NodeFirst leaves i (2 * n) (node_place leaves i (2 * n)) → NodeFirst leaves (suc i) n (node_place leaves (suc i) n)
  unfolding node_place
  by_even i n t f =
      rw t
      (record {
        inside = f.inside;
        under = rw (half_node (slice_index leaves (node_place leaves i (2 * n))) i) (omega (arith, f.under));
        before = λ j l. rw (half_node (slice_index leaves j) i) (omega (arith, f.before j l));
      })

  by_odd : (i n : ℕ) → there leaves i (2 * n) ≡ false → NodeFirst leaves i (2 * n + 1) (node_place leaves i (2 * n + 1)) → NodeFirst leaves (suc i) n (node_place leaves (suc i) n)
  unfolding node_place
  by_odd i n t f =
      rw t
      (record {
        inside = f.inside;
        under = rw (half_node (slice_index leaves (node_place leaves i (2 * n + 1))) i) (omega (arith, f.under));
        before = λ j l. rw (half_node (slice_index leaves j) i) (omega (arith, f.before j l, other j l));
      })
    where
      other : (j : ℕ) → j < node_place leaves i (2 * n + 1) → slice_index leaves j / 2 ^ i ≢ 2 * n
      other j l e = true≢false (sym (there_at leaves i j (omega (arith, f.inside))) ∙ ap (there leaves i) e ∙ t)

  -- each node stands at the place of the first leaf under it
  pub node_first : (i n : ℕ) → there leaves i n ≡ true → NodeFirst leaves i n (node_place leaves i n)
  node_first zero n h = at_leaf n h
  node_first (suc i) n h = by (there leaves i (2 * n)) refl (node_first i (2 * n)) (node_first i (2 * n + 1))
    where
      by : (t : Bool) → there leaves i (2 * n) ≡ t → (there leaves i (2 * n) ≡ true → NodeFirst leaves i (2 * n) (node_place leaves i (2 * n)))
          → (there leaves i (2 * n + 1) ≡ true → NodeFirst leaves i (2 * n + 1) (node_place leaves i (2 * n + 1))) → NodeFirst leaves (suc i) n (node_place leaves (suc i) n)
      by true t even odd = by_even i n t (even t)
      by false t even odd = by_odd i n t (odd (sym (ap (λ (b : Bool). b || there leaves i (2 * n + 1)) t) ∙ sym (there_half leaves i n) ∙ h))

  -- a first place is the node's place
  pub node_place_is : (i n place : ℕ) → NodeFirst leaves i n place → node_place leaves i n ≡ place
  node_place_is i n place f =
      let g = node_first i n (first_there f) in
      ⊎_elim
      (λ (q : node_place leaves i n < place). absurd (omega (arith, f.before (node_place leaves i n) q, g.under)))
      (λ (q : place ≤ node_place leaves i n).
      ⊎_elim
      (λ (r : place < node_place leaves i n). absurd (omega (arith, g.before place r, f.under)))
      (λ (r : node_place leaves i n ≤ place). omega arith)
      (lt_or_ge place (node_place leaves i n)))
      (lt_or_ge (node_place leaves i n) place)

  -- nodes of one level, or of a level and the next, that are not above one another have different places
  pub place_other : (i u w : ℕ) → there leaves i u ≡ true → there leaves i w ≡ true → u ≢ w → node_place leaves i u ≢ node_place leaves i w
  place_other i u w h k n e = n (sym (node_first i u h).under ∙ ap (λ (x : ℕ). slice_index leaves x / 2 ^ i) e ∙ (node_first i w k).under)

  pub place_apart : (i u w : ℕ) → there leaves i u ≡ true → there leaves (suc i) w ≡ true → u / 2 ≢ w → node_place leaves i u ≢ node_place leaves (suc i) w
  place_apart i u w h k n e =
      n (ap (λ (x : ℕ). x / 2) (sym (node_first i u h).under)
      ∙ sym (half_node (slice_index leaves (node_place leaves i u)) i)
      ∙ ap (λ (x : ℕ). slice_index leaves x / 2 ^ suc i) e
      ∙ (node_first (suc i) w k).under)

-- ---- the top

module _ (l : ℕ) (ls : List ℕ) (b : ℕ) (low : l < 2 ^ b) where
  top_first : NodeFirst (l ∷ ls) b 0 0
  top_first = record { inside = omega arith; under = div-eq_of_lt low; before = λ j h. absurd (not-suc-le-zero h) }

  -- node 0 above the top level is there, at the first place
  pub top_there : there (l ∷ ls) b 0 ≡ true
  top_there = first_there top_first

  pub top_place : Rising (l ∷ ls) → node_place (l ∷ ls) b 0 ≡ 0
  top_place rises = node_place_is (l ∷ ls) rises b 0 0 top_first
