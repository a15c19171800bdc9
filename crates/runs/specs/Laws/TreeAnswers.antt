-- Laws of the finished tree: its top node is the sum of the giants' vectors, each turned by its giant.
-- Assumes nothing.
use Rattle.std.specs.Prelude.{◌≡◌, ℕ, zero, suc, ◌+◌, ◌*◌, ◌%◌, ◌^◌, ◌<◌, ◌≤◌, true, List, [], ◌∷◌, map, length, slice_index, slice_index_or, refl}
use Rattle.std.proofs.Common.{sym, ◌∙◌, not-suc-le-zero, le_of_suc-le-suc, zero-add, div-one, suc-mul, mul-le-mul_right, arith, pow_pos}
use Rattle.std.proofs.Math.Path.{ap}
use mathlib.Core.List.{map-map, map-id}
use Rattle.std.specs.Int.Signed.{mag}
use Rattle.std.proofs.lemmas.List.{length-map}
use Rattle.ring.specs.Lists.{Each, Rising, sum_by}
use Rattle.ring.specs.Vectors.{tabulate}
use Rattle.ring.specs.Laws.Lists.{each_at, each_map, map_each, each_both}
use Rattle.ring.specs.Laws.Residues.{residue_lt}
use Rattle.ring.specs.Laws.Vectors.{get_or_tabulate}
use Rattle.linear_transformation.specs.declared.digits.Rot.{Rot}
use Rattle.linear_transformation.specs.Digits.{Giant, digit, bits_of, leaf, level_rotation}
use Rattle.linear_transformation.specs.Trees.{there, levels_of, tree_of, pairs_at}
use Rattle.linear_transformation.specs.Plans.{Planned, giants}
use Rattle.linear_transformation.specs.Schedules.{plan_rots, giant_digits, plan_tree}
use Rattle.linear_transformation.specs.Laws.Bits.{bits_positive, bits_small}
use Rattle.linear_transformation.specs.Laws.Leaves.{leaves_rise, rotation_sum}
use Rattle.linear_transformation.proofs.LeafBits.{leaf_rotations}
use Rattle.linear_transformation.specs.Laws.Plans.{giants_rise, giants_below, giants_multiple}
use Rattle.runs.specs.Switches.{node_place, tree_schedule}
use Rattle.runs.specs.Machines.{State, vector_at, switched_all, top_node}
use Rattle.runs.specs.Laws.Places.{get_or_vector_at}
use Rattle.runs.specs.Laws.NodePlaces.{node_first, top_there}
use Rattle.runs.specs.Laws.Switching.{switches_out, giants_leave, levels_of_nodes}
use Rattle.runs.specs.Laws.Turnings.{Finished}
use Rattle.runs.specs.Laws.TreeSums.{node_value, value_leaf, value_top}
use Rattle.runs.specs.Laws.TreeLevels.{Stands, levels_stand}

-- an element of a list, each replaced
get_or_map_in : (f : ℕ → ℕ) (xs : List ℕ) (q : ℕ) → q < length xs → slice_index (map f xs) q ≡ f (slice_index xs q)
get_or_map_in f [] q l = absurd (not-suc-le-zero l)
get_or_map_in f (x ∷ xs) zero l = refl
get_or_map_in f (x ∷ xs) (suc q) l = get_or_map_in f xs q (le_of_suc-le-suc l)

-- ---- the leaves of a plan

module _ (slots width : ℕ) (ks : List ℕ) where
  abbrev gs : List ℕ
  gs = giants slots width ks

  abbrev bits : ℕ
  bits = (plan_tree slots width ks).bits

  abbrev leaf_of : ℕ → ℕ
  leaf_of g = leaf bits (digit slots width (record { 0 = g }))

  pub tree_leaves : (plan_tree slots width ks).leaves ≡ map (λ g. leaf (plan_tree slots width ks).bits (digit slots width (record { 0 = g }))) (giants slots width ks)
  unfolding plan_tree tree_of
  tree_leaves = ap (map (leaf bits)) (map-map (digit slots width) (λ g. record { 0 = g }) gs) ∙ map-map (leaf bits) (λ g. digit slots width (record { 0 = g })) gs

  pub length_leaves : length (plan_tree slots width ks).leaves ≡ length (giants slots width ks)
  length_leaves = ap length tree_leaves ∙ length-map gs leaf_of

  leaf_at : (q : ℕ) → q < length gs → slice_index (plan_tree slots width ks).leaves q ≡ leaf_of (slice_index gs q)
  leaf_at q l = ap (λ (ls : List ℕ). slice_index ls q) tree_leaves ∙ get_or_map_in leaf_of gs q l

  -- they are below 2^b
  pub leaf_low : (q : ℕ) → q < length (giants slots width ks) → slice_index (plan_tree slots width ks).leaves q < 2 ^ (plan_tree slots width ks).bits
  leaf_low q l = rw (leaf_at q l) (residue_lt (digit slots width (record { 0 = slice_index gs q })).0 (2 ^ bits) (pow_pos bits))

  module _ (p : Planned slots width ks) where
    each_giant : Each (λ g. Giant slots width (record { 0 = g })) gs
    each_giant = each_both (λ g l m. record { reduced = l; multiple = m }) gs (giants_below slots width ks) (giants_multiple slots width ks)

    -- they rise
    pub tree_rises : Rising (plan_tree slots width ks).leaves
    unfolding plan_tree tree_of
    tree_rises =
        let rots = plan_rots slots width ks in
        let r : Rising (map (λ (g : Rot). g.0) rots) = rw (map-map (λ (g : Rot). g.0) (λ g. record { 0 = g }) gs ∙ map-id gs) (giants_rise slots width ks) in
        rw (map-map (leaf bits) (digit slots width) rots)
        (leaves_rise slots width rots p.positive (each_map (Giant slots width) (λ g. record { 0 = g }) gs each_giant) r)

    -- the levels at which a leaf has a bit turn by its giant
    pub leaf_turns : (q : ℕ) → q < length (giants slots width ks) → rotation_sum slots width (plan_tree slots width ks).bits (slice_index (plan_tree slots width ks).leaves q) (plan_tree slots width ks).bits ≡ slice_index (giants slots width ks) q
    unfolding plan_tree tree_of
    leaf_turns q l = rw (leaf_at q l) (by (bits_of (giant_digits slots width ks)) refl)
      where
        by : (b : ℕ) → bits_of (giant_digits slots width ks) ≡ b → rotation_sum slots width b (leaf b (digit slots width (record { 0 = slice_index gs q }))) b ≡ slice_index gs q
        by zero e = absurd (omega (arith, bits_positive (giant_digits slots width ks)))
        by (suc c) e =
            let small : Each (λ g. mag (digit slots width (record { 0 = g })).0 < 2 ^ c) gs =
            map_each (λ (g : Rot). mag (digit slots width g).0 < 2 ^ c) (λ g. record { 0 = g }) gs
            (map_each (λ d. mag d.0 < 2 ^ c) (digit slots width) (plan_rots slots width ks) (bits_small (giant_digits slots width ks) c e)) in
            leaf_rotations slots width c (record { 0 = slice_index gs q }) p.positive
            (each_at (λ g. Giant slots width (record { 0 = g })) gs 0 each_giant q l)
            (each_at (λ g. mag (digit slots width (record { 0 = g })).0 < 2 ^ c) gs 0 small q l)

-- ---- the answer

-- the top node, of no leaves and of some
top_slot : (slots b : ℕ) (ls nodes : List ℕ) (s x : ℕ) → s < slots → (0 < length ls → slice_index ls 0 < 2 ^ b) → (length ls ≡ 0 → 0 ≡ x) → (there ls b 0 ≡ true → slice_index (vector_at slots nodes (node_place ls b 0)) s ≡ x)
    → slice_index (top_node slots b ls nodes) s ≡ x
top_slot slots b [] nodes s x l low none some = get_or_tabulate slots (λ s. 0) s 0 l ∙ none refl
top_slot slots b (y ∷ ls) nodes s x l low none some = some (top_there y ls b (low (omega arith)))

module _ (m slots width : ℕ) (ks : List ℕ) (p : Planned slots width ks) (h : 0 < slots) (input : List ℕ) (st : State)
    (room : length (giants slots width ks) * slots ≤ length st.nodes) (reduced : (x : ℕ) → x < length (giants slots width ks) * slots → slice_index st.nodes x % m ≡ slice_index st.nodes x) where
  abbrev b : ℕ
  b = (plan_tree slots width ks).bits

  abbrev leaves : List ℕ
  leaves = (plan_tree slots width ks).leaves

  same : length leaves ≡ length (giants slots width ks)
  same = length_leaves slots width ks

  space : length leaves * slots ≤ length st.nodes
  space = rw same room

  rises : Rising leaves
  rises = tree_rises slots width ks p

  -- before the first switch each leaf stands
  leaves_stand : Stands m slots width b h input leaves st.nodes rises space 0 st.nodes
  leaves_stand =
      record {
        size = refl;
        at = λ u t.
            let f = node_first leaves rises 0 u t in
            let k = node_place leaves 0 u in
            let e : slice_index_or leaves k 0 ≡ u = sym (div-one (slice_index leaves k)) ∙ f.under in
            record {
              slot = λ s l.
                  sym (ap (λ (x : ℕ). node_value m slots width b leaves st.nodes 0 x s) (sym e)
                  ∙ value_leaf m slots width b leaves st.nodes rises k s f.inside l (word k s f.inside l));
            };
      }
    where
      word : (k s : ℕ) → k < length leaves → s < slots → slice_index (vector_at slots st.nodes k) s % m ≡ slice_index (vector_at slots st.nodes k) s
      word k s i l =
          let q : suc k * slots ≤ length leaves * slots = mul-le-mul_right slots i in
          let r : k * slots + s < length (giants slots width ks) * slots = rw same at (let o : k * slots + s < length leaves * slots = omega (arith, suc-mul k slots) in o) in
          rw (get_or_vector_at slots st.nodes k s l) (reduced (k * slots + s) r)

  all_stand : Stands m slots width b h input leaves st.nodes rises space b (switched_all m slots input st (tree_schedule (plan_tree slots width ks))).nodes
  unfolding plan_tree tree_of levels_of
  all_stand =
      levels_stand m slots width b h input leaves st.nodes rises space (λ q l. leaf_low slots width ks q (rw same at l)) b 0 st
      (λ i. record { rotation = level_rotation slots width b i; pairs = pairs_at b leaves i })
      (zero-add b)
      (λ j. rw (zero-add j))
      leaves_stand

  -- the finished tree's top node is the sum of the giants' vectors, each turned by its giant
  pub tree_answer : Finished m slots (giants slots width ks) st (switched_all m slots input st (tree_schedule (plan_tree slots width ks)))
      (top_node slots (plan_tree slots width ks).bits (plan_tree slots width ks).leaves (switched_all m slots input st (tree_schedule (plan_tree slots width ks))).nodes)
  tree_answer =
      record {
        slot = λ s l. top_slot slots b leaves nodes s (total (length gs') s) l (λ o. leaf_low slots width ks 0 (rw same at o)) (λ e. ap (λ (n : ℕ). total n s) (sym e ∙ same))
            (λ t. (all_stand.at 0 t).slot s l
            ∙ value_top m slots width b leaves st.nodes (λ q. slice_index gs' q) (λ q o. leaf_low slots width ks q (rw same at o)) (λ q o. leaf_turns slots width ks p q (rw same at o)) s
            ∙ ap (λ (n : ℕ). total n s) same);
        nodes_size = all_stand.size;
        cache_kept = giants_leave m slots input st (tree_schedule (plan_tree slots width ks)) (levels_of_nodes leaves 0 (plan_tree slots width ks).levels);
        out_kept = switches_out m slots input st (tree_schedule (plan_tree slots width ks));
      }
    where
      gs' : List ℕ
      gs' = giants slots width ks

      nodes : List ℕ
      nodes = (switched_all m slots input st (tree_schedule (plan_tree slots width ks))).nodes

      total : ℕ → ℕ → ℕ
      total n s = sum_by m (λ place. slice_index (vector_at slots st.nodes place) ((s + slice_index gs' place) % slots)) (tabulate n (λ place. place))
