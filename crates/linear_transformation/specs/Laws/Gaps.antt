-- The number of pairs of a tree: one less than the distinct leaves, plus the odd nodes whose even one is missing. Of digits
-- without a gap, each level has at most one of these, so the pairs are at most (n - 1) + b.
-- Assumes nothing.
use Rattle.linear_transformation.specs.Schedules.{NoGap}
use Prim.Native.Nat.{ℕ, zero, suc, ◌+◌, ◌*◌, ◌-◌, ◌/◌, ◌^◌, ◌≤◌, ◌<◌, zero-le}
use Rattle.std.specs.Prelude.{◌≡◌, refl, Bool, true, false, not, ◌||◌, ◌&&◌, ◌⊎◌, eqb, length, ℤ, pos, negsuc, ◌≤ℤ◌, ◌<ℤ◌}
use Rattle.std.proofs.Common.{sym, ap, ◌∙◌, true≢false, inl, inr, ⊎_elim, le_refl, mod-eq_of_lt, div-one, not-suc-le-zero, le_of_suc-le-suc, eq-zero-or-pos, add-one, eq-eqb, ne_eqb, eqb-true, le→leb, lt→ltb, ltb→lt, pow_pos, length-append}
use Rattle.std.proofs.lemmas.Bool.{false≢true}
use Rattle.std.proofs.Math.Bool.{or-true}
use mathlib.Core.List.Memᴰ
use mathlib.Core.List.{List, [], ◌∷◌, ◌++◌, map, map-map, append-nil, Memᴰ}
use Rattle.std.proofs.Math.Logic.{⊎_map}
use Rattle.std.proofs.Math.Nat.{suc_inj, sub-zero, sub_self, div-eq_of_lt}
use Rattle.std.proofs.Math.Decide.{ℕ_discrete, dec_lt}
use native.Mathlib.Omega.{arith}
use Rattle.std.proofs.Math.ListN.{length-map}
use Rattle.std.proofs.Math.IntN.{pred_ℤ}
use Rattle.std.specs.Int.Signed.{mag}
use Rattle.ring.specs.Lists.{join, Each, Rising}
use Rattle.ring.specs.Residues.{residue_of}
use Rattle.ring.specs.Searches.{below}
use Rattle.ring.specs.Vectors.{tabulate}
use Rattle.ring.specs.Laws.Lists.{join_append, each_map}
use Rattle.ring.specs.Laws.Residues.{residue_lt}
use Rattle.ring.specs.Laws.Vectors.{tabulate_snoc}
use Rattle.linear_transformation.specs.declared.digits.Rot.{Rot}
use Rattle.linear_transformation.specs.declared.digits.Digit.{Digit}
use Rattle.linear_transformation.specs.Digits.{digit, bits_of, leaf, level_rotation, Giant}
use Rattle.linear_transformation.specs.Trees.{digits_of, leaves_of, there, nodes, pairs_at, Level, levels_of, tree_of, tree_switches}
use Rattle.linear_transformation.specs.Laws.Bits.{bits_positive, bits_small}
use Rattle.linear_transformation.specs.Laws.Leaves.{leaf_low, leaf_high, leaves_rise}
use Rattle.ring.specs.Laws.Members.{one_of}
use Rattle.linear_transformation.specs.Laws.Trees.{there_half, level_places, odds, with_even, pairs_odds}
use Rattle.linear_transformation.specs.Laws.Counts.{count, length_below, count_ext, count_with, count_none, count_one, halves, count_odd, lone, count_lone}

-- ---- a set with at most one start above 0

-- a start: u + 1 is in the set and u is not
abbrev Start : (ℕ → Bool) → ℕ → Type 0
Start p u = (p (suc u) ≡ true) × (p u ≡ false)

abbrev pub OneStart : (ℕ → Bool) → Type 0
OneStart p = (u v : ℕ) → Start p u → Start p v → u ≡ v

or_right : (a b : Bool) → (a || b) ≡ false → b ≡ false
or_right true b h = absurd (true≢false h)
or_right false b h = h

-- a start u of the halves comes from a start of the set, 2u + 1 or 2u + 2
start_below : (p q : ℕ → Bool) → ((w : ℕ) → q w ≡ (p (2 * w) || p (2 * w + 1))) → (u : ℕ) → Start q u → (s : ℕ) × Start p s × (2 * u + 1 ≤ s) × (s ≤ 2 * u + 2)
start_below p q h u s = go (p (2 * suc u)) refl
  where
    one : suc (2 * u + 1) ≡ 2 * suc u
    one = omega arith

    go : (t : Bool) → p (2 * suc u) ≡ t → (s : ℕ) × Start p s × (2 * u + 1 ≤ s) × (s ≤ 2 * u + 2)
    go true e = (2 * u + 1, (ap p one ∙ e, or_right (p (2 * u)) _ (sym (h u) ∙ s.1)), omega arith, omega arith)
    go false e = (2 * suc u, (ap p (sym (add-one (2 * suc u))) ∙ ap (λ (t : Bool). t || p (2 * suc u + 1)) (sym e) ∙ sym (h (suc u)) ∙ s.0, e), omega arith, omega arith)

one_start_half : (p q : ℕ → Bool) → ((w : ℕ) → q w ≡ (p (2 * w) || p (2 * w + 1))) → OneStart p → OneStart q
one_start_half p q h o u v s t =
    let a = start_below p q h u s in
    let b = start_below p q h v t in
    let e : a.0 ≡ b.0 = o a.0 b.0 a.1 b.1 in
    omega (arith, e, a.2, a.3, b.2, b.3)

each_mem : (P : ℤ → Type 0) (z : ℤ) (zs : List ℤ) → Each P zs → Memᴰ z zs → P z
each_mem P z [] h m = absurd (Memᴰ.not-nil m)
each_mem P z (y ∷ zs) h m = ⊎_elim (λ (e : z ≡ y). rw e h.0) (λ (k : Memᴰ z zs). each_mem P z zs h.1 k) (Memᴰ.cases_cons m)

-- ---- the leaves of digits without a gap have at most one start

before : (a b : ℤ) → a <ℤ b → a ≤ℤ pred_ℤ b
before (pos a) (pos zero) h = absurd (not-suc-le-zero (ltb→lt a 0 h.lt))
before (pos a) (pos (suc b)) h = record { le = le→leb a b (le_of_suc-le-suc (ltb→lt a (suc b) h.lt)) }
before (pos a) (negsuc b) h = absurd h.lt
before (negsuc a) (pos zero) h = record { le = le→leb 0 a zero-le }
before (negsuc a) (pos (suc b)) h = record { le = tt }
before (negsuc a) (negsuc b) h = record { le = h.lt }

pred_le : (b : ℤ) → pred_ℤ b ≤ℤ b
pred_le (pos zero) = record { le = tt }
pred_le (pos (suc b)) = record { le = le→leb b (suc b) (omega arith) }
pred_le (negsuc b) = record { le = le→leb b (suc b) (omega arith) }

-- the leaf of the digit before
leaf_pred : (c v : ℕ) (z : ℤ) → mag z < 2 ^ c → residue_of z (2 ^ suc c) ≡ suc v → residue_of (pred_ℤ z) (2 ^ suc c) ≡ v
leaf_pred c v (pos zero) h e = absurd (omega (arith, sym (leaf_low c 0 h) ∙ e))
leaf_pred c v (pos (suc n)) h e = leaf_low c n (omega arith) ∙ omega (arith, sym (leaf_low c (suc n) h) ∙ e)
leaf_pred c v (negsuc m) h e = last (suc m) (2 ^ suc c) (omega arith) ∙ omega (arith, sym (leaf_high c m h) ∙ e)
  where
    last : (n m : ℕ) → n < m → residue_of (negsuc n) m ≡ m - suc n
    last n zero h = absurd (not-suc-le-zero h)
    last n (suc m) h = rw (mod-eq_of_lt {n = n} {m = suc m} h) (omega arith)

order_ℕ : (m n : ℕ) → Dec (m < n) → Dec (m ≡ n) → (m < n) ⊎ ((m ≡ n) ⊎ (n < m))
order_ℕ m n (yes l) e = inl l
order_ℕ m n (no a) (yes e) = inr (inl e)
order_ℕ m n (no a) (no b) = inr (inr (omega arith))

order : (a b : ℤ) → (a <ℤ b) ⊎ ((a ≡ b) ⊎ (b <ℤ a))
order (pos m) (pos n) =
    ⊎_map (λ (l : m < n). record { lt = lt→ltb m n l }) (⊎_map (λ (e : m ≡ n). ap pos e) (λ (l : n < m). record { lt = lt→ltb n m l })) (order_ℕ m n (dec_lt m n) (ℕ_discrete m n))
order (pos m) (negsuc n) = inr (inr (record { lt = tt }))
order (negsuc m) (pos n) = inl (record { lt = tt })
order (negsuc m) (negsuc n) =
    ⊎_map (λ (l : n < m). record { lt = lt→ltb n m l }) (⊎_map (λ (e : n ≡ m). ap negsuc (sym e)) (λ (l : m < n). record { lt = lt→ltb m n l })) (order_ℕ n m (dec_lt n m) (ℕ_discrete n m))

-- a leaf that is there is that of a digit
there_leaf : (c : ℕ) (ds : List Digit) (u : ℕ) → there (map (leaf (suc c)) ds) 0 u ≡ true → (z : ℤ) × Memᴰ z (map (λ d. d.0) ds) × (residue_of z (2 ^ suc c) ≡ u)
unfolding there
there_leaf c [] u h = absurd (false≢true h)
there_leaf c (d ∷ ds) u h =
    ⊎_elim
    (λ (e : eqb (leaf (suc c) d / 1) u ≡ true). (d.0, Memᴰ.head refl, sym (div-one (leaf (suc c) d)) ∙ eqb-true (leaf (suc c) d / 1) u e))
    (λ (k : there (map (leaf (suc c)) ds) 0 u ≡ true).
    let r = there_leaf c ds u k in
    (r.0, Memᴰ.tail r.1, r.2))
    (one_of (eqb (leaf (suc c) d / 1) u) _ h)

leaf_there : (c : ℕ) (ds : List Digit) (z : ℤ) → Memᴰ z (map (λ d. d.0) ds) → there (map (leaf (suc c)) ds) 0 (residue_of z (2 ^ suc c)) ≡ true
unfolding there
leaf_there c [] z m = absurd (Memᴰ.not-nil m)
leaf_there c (d ∷ ds) z m =
    ⊎_elim
    (λ (e : z ≡ d.0). rw (e, div-one (leaf (suc c) d), eq-eqb (leaf (suc c) d) _ refl))
    (λ (k : Memᴰ z (map (λ d. d.0) ds)). rw (leaf_there c ds z k) (or-true (eqb (leaf (suc c) d / 1) (residue_of z (2 ^ suc c)))))
    (Memᴰ.cases_cons m)

module _ (c : ℕ) (ds : List Digit) (gap : NoGap (map (λ d. d.0) ds)) (small : Each (λ d. mag d.0 < 2 ^ c) ds) where
  -- of a digit that is not the smallest, the leaf before its own is there
  not_smallest : (x y : ℤ) (v : ℕ) → Memᴰ x (map (λ d. d.0) ds) → Memᴰ y (map (λ d. d.0) ds) → x <ℤ y → residue_of y (2 ^ suc c) ≡ suc v → there (map (leaf (suc c)) ds) 0 v ≡ true
  not_smallest x y v mx my l e =
      rw (leaf_pred c v y (each_mem (λ z. mag z < 2 ^ c) y (map (λ d. d.0) ds) (each_map (λ z. mag z < 2 ^ c) (λ d. d.0) ds small) my) e) at (leaf_there c ds (pred_ℤ y) (gap x y (pred_ℤ y) mx my (before x y l) (pred_le y)))

  leaves_one_start : OneStart (there (map (leaf (suc c)) ds) 0)
  leaves_one_start u v s t =
      let (x, mx, ex) = there_leaf c ds (suc u) s.0 in
      let (y, my, ey) = there_leaf c ds (suc v) t.0 in
      ⊎_elim
      (λ (l : x <ℤ y). absurd (false≢true (sym t.1 ∙ not_smallest x y v mx my l ey)))
      (⊎_elim
      (λ (e : x ≡ y). suc_inj (sym ex ∙ ap (λ (z : ℤ). residue_of z (2 ^ suc c)) e ∙ ey))
      (λ (l : y <ℤ x). absurd (false≢true (sym s.1 ∙ not_smallest y x u my mx l ex))))
      (order x y)

  nodes_one_start : (i : ℕ) → OneStart (there (map (leaf (suc c)) ds) i)
  nodes_one_start zero = leaves_one_start
  nodes_one_start (suc i) = one_start_half _ _ (there_half (map (leaf (suc c)) ds) i) (nodes_one_start i)

-- ---- a level: its pairs and the nodes above it are as many as its nodes and its lone pairs

module _ (b : ℕ) (ls : List ℕ) where
  pub level_count : (i : ℕ) → i < b → length (pairs_at b ls i) + length (nodes b ls (suc i)) ≡ length (nodes b ls i) + lone (pairs_at b ls i)
  unfolding nodes
  level_count i h =
      rw (
        pairs_odds b ls i h,
        level_places b i h,
        length-map (odds (below (there ls i) (2 * 2 ^ (b - suc i)))) (with_even (there ls i)),
        count_odd (there ls i) (2 ^ (b - suc i)),
        count_lone (there ls i) (2 ^ (b - suc i)),
        length_below (there ls i) (2 * 2 ^ (b - suc i)),
        length_below (there ls (suc i)) (2 ^ (b - suc i)),
      )
      (halves (there ls i) (there ls (suc i)) (2 ^ (b - suc i)) (there_half ls i))

  -- the pairs of the first n levels, and those of them without their even node
  unfoldable pub switches_to : ℕ → ℕ
  switches_to zero = 0
  switches_to (suc n) = switches_to n + length (pairs_at b ls n)

  unfoldable pub lones_to : ℕ → ℕ
  lones_to zero = 0
  lones_to (suc n) = lones_to n + lone (pairs_at b ls n)

  levels_count : (n : ℕ) → n ≤ b → switches_to n + length (nodes b ls n) ≡ length (nodes b ls 0) + lones_to n
  unfolding switches_to lones_to
  levels_count zero h = omega arith
  levels_count (suc n) h = omega (arith, levels_count n (omega arith), level_count n h)

-- all leaves are nodes of level 0, and there is one node above the top level
there_not : (ls : List ℕ) (k : ℕ) → Each (λ l. k < l) ls → there ls 0 k ≡ false
unfolding there
there_not [] k h = refl
there_not (l ∷ ls) k h = rw (div-one l, ne_eqb l k (λ e. omega (arith, h.0))) (there_not ls k h.1)

count_leaves : (ls : List ℕ) (n : ℕ) → Rising ls → Each (λ l. l < n) ls → count (there ls 0) n ≡ length ls
unfolding there
count_leaves [] n r h = count_none (there [] 0) n (λ v l. refl)
count_leaves (l ∷ ls) n r h =
    count_ext (there (l ∷ ls) 0) (λ v. eqb l v || there ls 0 v) n (λ v k. rw (div-one l))
    ∙ (count_with (there ls 0) l n h.0 (there_not ls l r.0) ∙ ap (λ (x : ℕ). x + 1) (count_leaves ls n r.1 h.1) ∙ add-one (length ls))

there_top : (b : ℕ) (ls : List ℕ) → 1 ≤ length ls → Each (λ l. l < 2 ^ b) ls → there ls b 0 ≡ true
unfolding there
there_top b [] m h = absurd (not-suc-le-zero m)
there_top b (l ∷ ls) m h = rw (div-eq_of_lt h.0)

module _ (b : ℕ) (ls : List ℕ) (h : Each (λ l. l < 2 ^ b) ls) where
  -- rising leaves are distinct
  pub first_nodes_lem : Rising ls → length (nodes b ls 0) ≡ length ls
  unfolding nodes
  first_nodes_lem r = rw (sub-zero b) (length_below (there ls 0) (2 ^ b) ∙ count_leaves ls (2 ^ b) r h)

  top_node_lem : 1 ≤ length ls → length (nodes b ls b) ≡ 1
  unfolding nodes below
  top_node_lem m = rw (sub_self b, there_top b ls m h)

  -- the pairs of all levels: the number of distinct leaves less 1, plus the lone pairs
  pub pairs_count : 1 ≤ length ls → switches_to b ls b + 1 ≡ length (nodes b ls 0) + lones_to b ls b
  pairs_count m = omega (arith, levels_count b ls b (le_refl b), top_node_lem m)

-- ---- no gap

-- an odd node is there, and the even one before it is not
abbrev pub Lone : List ℕ → ℕ → ℕ → Type 0
Lone ls i w = (there ls i (2 * w + 1) ≡ true) × (there ls i (2 * w) ≡ false)

one_lone : (ls : List ℕ) (i : ℕ) → OneStart (there ls i) → (w x : ℕ) → Lone ls i w → Lone ls i x → w ≡ x
one_lone ls i o w x a b = omega (arith, o (2 * w) (2 * x) (rw add-one at a.0, a.1) (rw add-one at b.0, b.1))

lone_test : (a b : Bool) → (a && not b) ≡ true → (a ≡ true) × (b ≡ false)
lone_test true false h = (refl, refl)
lone_test true true h = absurd (false≢true h)
lone_test false b h = absurd (false≢true h)

one_lone_pair : (b : ℕ) (ls : List ℕ) (i : ℕ) → i < b → OneStart (there ls i) → lone (pairs_at b ls i) ≤ 1
one_lone_pair b ls i h o =
    rw (pairs_odds b ls i h, count_lone (there ls i) (2 ^ (b - suc i)))
    (count_one _ (2 ^ (b - suc i)) (λ u v s t. one_lone ls i o u v (lone_test _ _ s) (lone_test _ _ t)))

lones_le : (b : ℕ) (ls : List ℕ) (n : ℕ) → n ≤ b → ((i : ℕ) → OneStart (there ls i)) → lones_to b ls n ≤ n
unfolding lones_to
lones_le b ls zero h o = zero-le
lones_le b ls (suc n) h o = omega (arith, lones_le b ls n (omega arith) o, one_lone_pair b ls n h (o n))

-- ---- the tree

leaves_bounded : (b : ℕ) (ds : List Digit) → Each (λ l. l < 2 ^ b) (map (leaf b) ds)
leaves_bounded b [] = tt
leaves_bounded b (d ∷ ds) = (residue_lt d.0 (2 ^ b) (pow_pos b), leaves_bounded b ds)

level_sum : (slots step b : ℕ) (ls : List ℕ) (n : ℕ) → length (join (λ (l : Level). l.pairs) (tabulate n (λ i. record { rotation = level_rotation slots step b i; pairs = pairs_at b ls i }))) ≡ switches_to b ls n
unfolding switches_to
level_sum slots step b ls zero = refl
level_sum slots step b ls (suc n) =
    let f : ℕ → Level = λ i. record { rotation = level_rotation slots step b i; pairs = pairs_at b ls i } in
    ap (λ (ls : List Level). length (join (λ (l : Level). l.pairs) ls)) (tabulate_snoc n f)
    ∙ ap length (join_append (λ (l : Level). l.pairs) (tabulate n f) (f n ∷ []))
    ∙ length-append (join (λ (l : Level). l.pairs) (tabulate n f)) (pairs_at b ls n ++ [])
    ∙ rw (level_sum slots step b ls n, append-nil (pairs_at b ls n)) refl

module _ (slots step : ℕ) (giants : List Rot) where
  abbrev ds : List Digit
  ds = digits_of slots step giants

  abbrev b : ℕ
  b = bits_of ds

  tree_pairs : tree_switches (tree_of slots step giants) ≡ switches_to b (leaves_of ds) b
  unfolding tree_switches tree_of levels_of
  tree_pairs = level_sum slots step b (leaves_of ds) b

  -- whatever the digits: one less than the distinct leaves, plus the odd nodes whose even one is missing
  pub switches_count : 1 ≤ length giants → tree_switches (tree_of slots step giants) + 1 ≡ length (nodes b (leaves_of ds) 0) + lones_to b (leaves_of ds) b
  switches_count m = rw tree_pairs (pairs_count b (leaves_of ds) (leaves_bounded b ds) (rw (length-map ds (leaf b), length-map giants (digit slots step)) m))

  one_starts : NoGap (map (λ d. d.0) ds) → (i : ℕ) → OneStart (there (leaves_of ds) i)
  one_starts gap = by b refl
    where
      by : (x : ℕ) → bits_of ds ≡ x → (i : ℕ) → OneStart (there (map (leaf x) ds) i)
      by zero e = absurd (omega (arith, bits_positive ds))
      by (suc c) e = nodes_one_start c ds gap (bits_small ds c e)

  -- without a gap at most one odd node of each level has no even sibling
  pub at_most_one_lone : NoGap (map (λ d. d.0) ds) → (i w x : ℕ) → Lone (leaves_of ds) i w → Lone (leaves_of ds) i x → w ≡ x
  at_most_one_lone gap i w x = one_lone (leaves_of ds) i (one_starts gap i) w x

  pub at_most_one_pair : NoGap (map (λ d. d.0) ds) → (i : ℕ) → i < b → lone (pairs_at b (leaves_of ds) i) ≤ 1
  at_most_one_pair gap i l = one_lone_pair b (leaves_of ds) i l (one_starts gap i)

  -- and the pairs of all levels are at most (n - 1) + b
  pub switches_most : NoGap (map (λ d. d.0) ds) → 0 < step → Each (Giant slots step) giants → Rising (map (λ g. g.0) giants) → 1 ≤ length giants → tree_switches (tree_of slots step giants) ≤ length giants - 1 + b
  switches_most gap s a r m =
      let rise : Rising (leaves_of ds) = rw (map-map (leaf b) (digit slots step) giants) (leaves_rise slots step giants s a r) in
      let n : length (leaves_of ds) ≡ length giants = length-map ds (leaf b) ∙ length-map giants (digit slots step) in
      omega (arith, switches_count m, first_nodes_lem b (leaves_of ds) (leaves_bounded b ds) rise, lones_le b (leaves_of ds) b (le_refl b) (one_starts gap))

  -- for no giants too
  pub switches_few : NoGap (map (λ d. d.0) ds) → 0 < step → Each (Giant slots step) giants → Rising (map (λ g. g.0) giants) → tree_switches (tree_of slots step giants) ≤ (length giants - 1) + b
  switches_few gap s a r = by (eq-zero-or-pos (length giants))
    where
      by : (length giants ≡ 0) ⊎ (0 < length giants) → tree_switches (tree_of slots step giants) ≤ (length giants - 1) + b
      by (inr m) = switches_most gap s a r m
      by (inl e) =
          let n : length (leaves_of ds) ≡ length giants = length-map ds (leaf b) ∙ length-map giants (digit slots step) in
          let rise : Rising (leaves_of ds) = rw (map-map (leaf b) (digit slots step) giants) (leaves_rise slots step giants s a r) in
          omega (arith, tree_pairs, levels_count b (leaves_of ds) b (le_refl b), first_nodes_lem b (leaves_of ds) (leaves_bounded b ds) rise, lones_le b (leaves_of ds) b (le_refl b) (one_starts gap))
