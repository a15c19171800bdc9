-- Laws of what the tree's nodes stand for: slot by slot the sum over the giants under the node, each turned by the
-- rotations of the levels below at which its leaf has a bit.
-- Assumes nothing.
use Rattle.std.specs.Prelude.{◌≡◌, ℕ, suc, ◌+◌, ◌*◌, ◌/◌, ◌%◌, ◌^◌, ◌<◌, false, cond, ◌≢◌, List, length, ◌==◌, slice_index, slice_index_or}
use Rattle.std.proofs.Math.Path.{refl, sym, ap}
use Rattle.std.proofs.Common.{◌∙◌, ⊎_elim, one-mul, arith}
use Rattle.std.proofs.Math.Bool.{true≢false}
use Rattle.std.proofs.Math.Nat.{div-one, div-eq_of_lt, mod-eq_of_lt, add-zero, zero-mod, zero-mul, mod-add-mod, add-mod-mod}
use Rattle.std.proofs.Math.Decide.{ℕ_discrete}
use borrow.Author.Tests.{eq-eqb, ne_eqb}
use Rattle.ring.specs.Slots.{addm, mulm}
use Rattle.ring.specs.Lists.{sum_by, Rising}
use Rattle.ring.specs.Vectors.{tabulate}
use Rattle.ring.specs.Laws.Slots.{addm_comm, zero_addm}
use Rattle.ring.specs.Laws.Lists.{each_tabulate, sum_by_mod, sum_by_each, sum_by_cong, sum_by_residues, sum_by_zero, sum_by_sum}
use Rattle.ring.specs.Laws.Below.{sum_one}
use Rattle.ring.specs.Laws.Searches.{lt_or_ge}
use Rattle.linear_transformation.specs.Digits.{level_rotation}
use Rattle.linear_transformation.specs.Trees.{there}
use Rattle.linear_transformation.specs.Laws.Runs.{rising_at}
use Rattle.linear_transformation.specs.Laws.Trees.{half_node}
use Rattle.linear_transformation.specs.Laws.Leaves.{rotation_sum}
use Rattle.runs.specs.Machines.{vector_at}
use Rattle.runs.specs.Laws.NodePlaces.{there_at}

-- rising numbers at different places differ
rising_apart : (xs : List ℕ) → Rising xs → (i j : ℕ) → i < length xs → j < length xs → i ≢ j → slice_index xs i ≢ slice_index xs j
rising_apart xs r i j l h n e =
    ⊎_elim
    (λ (q : i < j). omega (arith, rising_at xs 0 r i j q h))
    (λ q. omega (arith, rising_at xs 0 r j i (omega arith) l))
    (lt_or_ge i j)

module _ (m slots step b : ℕ) where
  -- ---- one giant

  module _ (l i s : ℕ) where
    -- a level at which the leaf has no bit turns nothing more
    turn_even : l / 2 ^ i % 2 ≡ 0 → (s + rotation_sum slots step b l (suc i)) % slots ≡ (s + rotation_sum slots step b l i) % slots
    unfolding rotation_sum addm mulm
    turn_even e = rw (e, zero-mul, zero-mod, add-zero) (add-mod-mod s (rotation_sum slots step b l i) slots)

    -- one at which it has a bit turns by the level's rotation
    turn_odd : l / 2 ^ i % 2 ≡ 1 → (s + rotation_sum slots step b l (suc i)) % slots ≡ ((s + (level_rotation slots step b i).0) % slots + rotation_sum slots step b l i) % slots
    unfolding rotation_sum addm mulm
    turn_odd e = rw (e, one-mul) (simp (add-mod-mod, mod-add-mod) (ap (λ (x : ℕ). x % slots) (omega arith)))

    -- what a giant adds to a node it adds to one of its children
    halves : (v : ℕ → ℕ) (w : ℕ) → Dec (l / 2 ^ i ≡ 2 * w) → Dec (l / 2 ^ i ≡ 2 * w + 1)
        → cond (l / 2 ^ suc i == w) (v ((s + rotation_sum slots step b l (suc i)) % slots)) 0 % m
        ≡ addm m (cond (l / 2 ^ i == 2 * w) (v ((s + rotation_sum slots step b l i) % slots)) 0)
        (cond (l / 2 ^ i == 2 * w + 1) (v (((s + (level_rotation slots step b i).0) % slots + rotation_sum slots step b l i) % slots)) 0)
    halves v w (yes e) o =
        rw (half_node l i, eq-eqb (l / 2 ^ i) (2 * w) e, ne_eqb (l / 2 ^ i) (2 * w + 1) (λ q. omega arith), eq-eqb (l / 2 ^ i / 2) w (omega arith), turn_even (omega arith))
        (sym (addm_comm m _ 0 ∙ zero_addm m _))
    halves v w (no n) (yes e) =
        rw (half_node l i, ne_eqb (l / 2 ^ i) (2 * w) n, eq-eqb (l / 2 ^ i) (2 * w + 1) e, eq-eqb (l / 2 ^ i / 2) w (omega arith), turn_odd (omega arith))
        (sym (zero_addm m _))
    halves v w (no n) (no o) =
        rw (half_node l i, ne_eqb (l / 2 ^ i) (2 * w) n, ne_eqb (l / 2 ^ i) (2 * w + 1) o, ne_eqb (l / 2 ^ i / 2) w (λ q. omega arith))
        (sym (zero_addm m 0))

  -- ---- nodes

  module _ (leaves first : List ℕ) where
    -- what the giant at place q adds to slot s of node u of level i
    abbrev pub node_term : ℕ → ℕ → ℕ → ℕ → ℕ
    node_term i u s q =
        cond (slice_index leaves q / 2 ^ i == u) (slice_index (vector_at slots first q) ((s + rotation_sum slots step b (slice_index leaves q) i) % slots)) 0

    -- slot s of node u of level i
    unfoldable pub node_value : ℕ → ℕ → ℕ → ℕ
    node_value i u s = sum_by m (node_term i u s) (tabulate (length leaves) (λ q. q))

    pub value_mod : (i u s : ℕ) → node_value i u s % m ≡ node_value i u s
    unfolding node_value
    value_mod i u s = sum_by_mod m (node_term i u s) (tabulate (length leaves) (λ q. q))

    -- a node that is not there is 0
    pub value_none : (i u s : ℕ) → there leaves i u ≡ false → node_value i u s ≡ 0
    unfolding node_value
    value_none i u s t =
        sum_by_each m (node_term i u s) (λ q. 0) (tabulate (length leaves) (λ q. q))
        (each_tabulate (λ q. node_term i u s q ≡ 0) (length leaves) (λ q. q) (λ q l. rw (ne_eqb (slice_index leaves q / 2 ^ i) u (other q l))))
        ∙ sum_by_zero m (tabulate (length leaves) (λ q. q))
      where
        other : (q : ℕ) → q < length leaves → slice_index leaves q / 2 ^ i ≢ u
        other q l e = true≢false (sym (there_at leaves i q l) ∙ ap (there leaves i) e ∙ t)

    -- a node is its even child, and its odd child turned by the level's rotation
    pub value_half : (i w s : ℕ) → node_value (suc i) w s ≡ addm m (node_value i (2 * w) s) (node_value i (2 * w + 1) ((s + (level_rotation slots step b i).0) % slots))
    unfolding node_value
    value_half i w s =
        let qs = tabulate (length leaves) (λ q. q) in
        let r = (s + (level_rotation slots step b i).0) % slots in
        sym (sum_by_residues m (node_term (suc i) w s) qs)
        ∙ sum_by_cong m (λ q. node_term (suc i) w s q % m) (λ q. addm m (node_term i (2 * w) s q) (node_term i (2 * w + 1) r q))
        (λ q. halves (slice_index leaves q) i s (λ x. slice_index (vector_at slots first q) x) w (ℕ_discrete _ _) (ℕ_discrete _ _)) qs
        ∙ sum_by_sum m (node_term i (2 * w) s) (node_term i (2 * w + 1) r) qs

    -- a leaf is its giant's vector
    pub value_leaf : Rising leaves → (k s : ℕ) → k < length leaves → s < slots → slice_index (vector_at slots first k) s % m ≡ slice_index (vector_at slots first k) s
        → node_value 0 (slice_index leaves k) s ≡ slice_index (vector_at slots first k) s
    unfolding node_value rotation_sum
    value_leaf rises k s l h reduced =
        let x = slice_index_or (vector_at slots first k) s 0 in
        sum_by_each m (node_term 0 (slice_index leaves k) s) (λ q. cond (k == q) x 0) (tabulate (length leaves) (λ q. q))
        (each_tabulate (λ q. node_term 0 (slice_index leaves k) s q ≡ cond (k == q) x 0) (length leaves) (λ q. q) (λ q g. same q g (ℕ_discrete k q)))
        ∙ sum_one m k x (length leaves) l
        ∙ reduced
      where
        same : (q : ℕ) → q < length leaves → Dec (k ≡ q) → node_term 0 (slice_index leaves k) s q ≡ cond (k == q) (slice_index (vector_at slots first k) s) 0
        same q g (yes e) =
            rw (← e, div-one (slice_index leaves k), eq-eqb (slice_index leaves k) (slice_index leaves k) refl, eq-eqb k k refl, add-zero, mod-eq_of_lt h)
        same q g (no n) =
            rw (div-one (slice_index leaves q), ne_eqb (slice_index leaves q) (slice_index leaves k) (rising_apart leaves rises q k g l (λ e. n (sym e))), ne_eqb k q n)

    -- above the top level there is one node: the sum of all giants, each turned by all of its leaf
    pub value_top : (turn : ℕ → ℕ) → ((q : ℕ) → q < length leaves → slice_index leaves q < 2 ^ b) → ((q : ℕ) → q < length leaves → rotation_sum slots step b (slice_index leaves q) b ≡ turn q)
        → (s : ℕ) → node_value b 0 s ≡ sum_by m (λ q. slice_index (vector_at slots first q) ((s + turn q) % slots)) (tabulate (length leaves) (λ q. q))
    unfolding node_value
    value_top turn low turns s =
        sum_by_each m (node_term b 0 s) (λ q. slice_index (vector_at slots first q) ((s + turn q) % slots)) (tabulate (length leaves) (λ q. q))
        (each_tabulate (λ q. node_term b 0 s q ≡ slice_index (vector_at slots first q) ((s + turn q) % slots)) (length leaves) (λ q. q)
        (λ q l. rw (div-eq_of_lt (low q l), turns q l)))
