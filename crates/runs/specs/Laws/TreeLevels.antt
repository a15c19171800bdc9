-- Laws of the tree's switches in place: after the levels below i each node of level i stands at its place.
-- Assumes nothing.
use Rattle.std.specs.Prelude.{◌≡◌, ℕ, zero, suc, ◌+◌, ◌-◌, ◌*◌, ◌%◌, ◌^◌, ◌<◌, ◌≤◌, Bool, true, false, ◌||◌, ◌⊎◌, List, ◌++◌, map, length, slice_index}
use Rattle.std.proofs.Math.Path.{refl, sym, ap, ap₂}
use Rattle.std.proofs.Common.{◌∙◌, inl, inr, le_refl, add-zero, not-suc-le-zero, le_of_suc-le-suc, eq-or-lt_of_le, add-sub_cancel, mod-lt, arith}
use Rattle.std.proofs.Math.Bool.{or-false}
use Rattle.std.proofs.Math.Logic.{⊎_elim}
use Rattle.std.proofs.lemmas.List.{map-append}
use Rattle.std.proofs.Math.Pow as Pow
use Rattle.ring.specs.Lists.{Rising}
use Rattle.ring.specs.Slots.{addm}
use Rattle.ring.specs.Searches.{below, only}
use Rattle.ring.specs.Vectors.{tabulate}
use Rattle.ring.specs.Laws.Slots.{addm_comm, zero_addm}
use Rattle.linear_transformation.specs.Digits.{level_rotation}
use Rattle.linear_transformation.specs.Trees.{there, Level, pairs_at}
use Rattle.linear_transformation.specs.Laws.Trees.{there_half, odds, odds_more, with_even, pairs_odds}
use Rattle.runs.specs.Switches.{Switch, node_place, joined, level_switches}
use Rattle.runs.specs.Machines.{State, vector_at, put_vector, turned, summed, switched, switched_all}
use Rattle.runs.specs.Laws.Places.{Inside, inside_first, length_vector_at, length_put_vector, vector_same, vector_other}
use Rattle.runs.specs.Laws.NodePlaces.{node_first, place_other, place_apart}
use Rattle.runs.specs.Laws.Switching.{switched_append}
use Rattle.runs.specs.Laws.Turnings.{length_turned, get_or_turned, length_summed, get_or_summed}
use Rattle.runs.specs.Laws.TreeSums.{node_value, value_mod, value_none, value_half}

module _ (m slots step b : ℕ) (p : 0 < slots) (input leaves first : List ℕ) (rises : Rising leaves) (room : length leaves * slots ≤ length first) where
  -- slot s of node u of level i
  abbrev value : ℕ → ℕ → ℕ → ℕ
  value i u s = node_value m slots step b leaves first i u s

  -- node u of level i stands at its place
  pub record Standing (i u : ℕ) (nodes : List ℕ) : Type 0 where
    pub slot : (s : ℕ) → s < slots → slice_index (vector_at slots nodes (node_place leaves i u)) s ≡ node_value m slots step b leaves first i u s

  -- each node of level i does
  pub record Stands (i : ℕ) (nodes : List ℕ) : Type 0 where
    pub size : length nodes ≡ length first
    pub at : (u : ℕ) → there leaves i u ≡ true → Standing i u nodes

  -- between two levels: the nodes below n of the next level stand, and those from 2n on of this one
  record Between (i n : ℕ) (nodes : List ℕ) : Type 0 where
    size : length nodes ≡ length first
    done : (w : ℕ) → w < n → there leaves (suc i) w ≡ true → Standing (suc i) w nodes
    todo : (u : ℕ) → 2 * n ≤ u → there leaves i u ≡ true → Standing i u nodes

  -- ---- one pair

  place_even : (i n : ℕ) → there leaves i (2 * n) ≡ true → node_place leaves (suc i) n ≡ node_place leaves i (2 * n)
  unfolding node_place
  place_even i n t = rw t

  place_odd : (i n : ℕ) → there leaves i (2 * n) ≡ false → node_place leaves (suc i) n ≡ node_place leaves i (2 * n + 1)
  unfolding node_place
  place_odd i n t = rw t

  module _ (i n : ℕ) (nodes : List ℕ) (r : Between i n nodes) where
    inside : (j u : ℕ) → there leaves j u ≡ true → Inside slots nodes (node_place leaves j u)
    inside j u t = inside_first slots nodes (length leaves) (node_place leaves j u) (omega (arith, r.size)) (node_first leaves rises j u t).inside

    -- the parent n is put at its place
    parent_put : (x : List ℕ) → length x ≡ slots → there leaves (suc i) n ≡ true → ((s : ℕ) → s < slots → slice_index x s ≡ value (suc i) n s) → Between i (suc n) (put_vector slots nodes (node_place leaves (suc i) n) x)
    parent_put x len t e =
        record {
          size = length_put_vector slots x len here ∙ r.size;
          done = λ w h k. done_by w k (eq-or-lt_of_le (le_of_suc-le-suc h));
          todo = λ u h k. record {
            slot = λ s l.
                ap (λ (v : List ℕ). slice_index v s) (vector_other slots x len here (node_place leaves i u) (place_apart leaves rises i u n k t (λ z. omega arith)) (inside i u k))
                ∙ (r.todo u (omega arith) k).slot s l;
          };
        }
      where
        here : Inside slots nodes (node_place leaves (suc i) n)
        here = inside (suc i) n t

        done_by : (w : ℕ) → there leaves (suc i) w ≡ true → (w ≡ n) ⊎ (w < n) → Standing (suc i) w (put_vector slots nodes (node_place leaves (suc i) n) x)
        done_by w k (inl q) = rw q (record { slot = λ s l. ap (λ (v : List ℕ). slice_index v s) (vector_same slots x len here) ∙ e s l })
        done_by w k (inr l) =
            record {
              slot = λ s h.
                  ap (λ (v : List ℕ). slice_index v s) (vector_other slots x len here (node_place leaves (suc i) w) (place_other leaves rises (suc i) w n k t (λ z. omega arith)) (inside (suc i) w k))
                  ∙ (r.done w l k).slot s h;
            }

    above : (e t : Bool) → there leaves i (2 * n) ≡ e → there leaves i (2 * n + 1) ≡ t → there leaves (suc i) n ≡ (e || t)
    above e t x y = there_half leaves i n ∙ rw (x, y)

    -- no odd node: the even's vector is the parent's
    even_only : (e : Bool) → there leaves i (2 * n) ≡ e → there leaves i (2 * n + 1) ≡ false → there leaves (suc i) n ≡ true → Standing (suc i) n nodes
    even_only e x y k =
        let t : there leaves i (2 * n) ≡ true = x ∙ sym (or-false e) ∙ sym (above e false x y) ∙ k in
        record {
          slot = λ s l.
              let z = (s + (level_rotation slots step b i).0) % slots in
              ap (λ (q : ℕ). slice_index (vector_at slots nodes q) s) (place_even i n t)
              ∙ (r.todo (2 * n) (le_refl (2 * n)) t).slot s l
              ∙ sym (value_half m slots step b leaves first i n s
              ∙ ap (addm m (value i (2 * n) s)) (value_none m slots step b leaves first i (2 * n + 1) z y)
              ∙ addm_comm m (value i (2 * n) s) 0
              ∙ zero_addm m (value i (2 * n) s)
              ∙ value_mod m slots step b leaves first i (2 * n) s);
        }

    -- the odd's vector, turned
    odd_turned : there leaves i (2 * n + 1) ≡ true → (s : ℕ) → s < slots
        → slice_index (turned slots (vector_at slots nodes (node_place leaves i (2 * n + 1))) (level_rotation slots step b i).0) s ≡ value i (2 * n + 1) ((s + (level_rotation slots step b i).0) % slots)
    odd_turned t s l =
        let k = (level_rotation slots step b i).0 in
        get_or_turned slots (vector_at slots nodes (node_place leaves i (2 * n + 1))) (length_vector_at slots (inside i (2 * n + 1) t)) k s l
        ∙ (r.todo (2 * n + 1) (omega arith) t).slot ((s + k) % slots) (mod-lt (s + k) p)

  -- the switches of odd nodes
  abbrev switches_of : ℕ → List ℕ → List Switch
  switches_of i us = map (joined leaves i (level_rotation slots step b i).0) (map (with_even (there leaves i)) us)

  -- the switch of the pair with the odd node 2n + 1, if it is there
  one_switch : (i n : ℕ) (st : State) → Between i n st.nodes → (e t : Bool) → there leaves i (2 * n) ≡ e → there leaves i (2 * n + 1) ≡ t
      → Between i (suc n) (switched_all m slots input st (switches_of i (only t (2 * n + 1)))).nodes
  unfolding switched
  one_switch i n st r true true x y =
      let even = vector_at slots st.nodes (node_place leaves i (2 * n)) in
      let odd = turned slots (vector_at slots st.nodes (node_place leaves i (2 * n + 1))) (level_rotation slots step b i).0 in
      rw (add-sub_cancel (2 * n) 1, x)
      (rw (place_even i n x) at (parent_put i n st.nodes r (summed m slots even odd) (length_summed m slots even odd) (above i n st.nodes r true true x y)
      (λ s l. get_or_summed m slots even odd s l ∙ ap₂ (addm m) ((r.todo (2 * n) (le_refl (2 * n)) x).slot s l) (odd_turned i n st.nodes r y s l) ∙ sym (value_half m slots step b leaves first i n s))))
  one_switch i n st r false true x y =
      let odd = vector_at slots st.nodes (node_place leaves i (2 * n + 1)) in
      let k = (level_rotation slots step b i).0 in
      rw (add-sub_cancel (2 * n) 1, x)
      (rw (place_odd i n x) at (parent_put i n st.nodes r (turned slots odd k) (length_turned slots odd k) (above i n st.nodes r false true x y)
      (λ s l.
      let z = (s + k) % slots in
      odd_turned i n st.nodes r y s l
      ∙ sym (value_half m slots step b leaves first i n s
      ∙ ap (λ (q : ℕ). addm m q (value i (2 * n + 1) z)) (value_none m slots step b leaves first i (2 * n) s x)
      ∙ zero_addm m (value i (2 * n + 1) z)
      ∙ value_mod m slots step b leaves first i (2 * n + 1) z))))
  one_switch i n st r e false x y =
      record {
        size = r.size;
        done = λ w h k. ⊎_elim (λ (z : w ≡ n). rw z (even_only i n st.nodes r e x y (rw z at k))) (λ (l : w < n). r.done w l k) (eq-or-lt_of_le (le_of_suc-le-suc h));
        todo = λ u h k. r.todo u (omega arith) k;
      }

  -- ---- a level

  switches_more : (i n : ℕ) → switches_of i (odds (below (there leaves i) (2 * suc n))) ≡ switches_of i (odds (below (there leaves i) (2 * n))) ++ switches_of i (only (there leaves i (2 * n + 1)) (2 * n + 1))
  switches_more i n =
      rw (odds_more (there leaves i) n)
      (ap (map _) (map-append (with_even (there leaves i)) (odds (below (there leaves i) (2 * n))) _)
      ∙ map-append _ (map (with_even (there leaves i)) (odds (below (there leaves i) (2 * n)))) _)

  level_part : (i n : ℕ) (st : State) → Stands i st.nodes → Between i n (switched_all m slots input st (switches_of i (odds (below (there leaves i) (2 * n))))).nodes
  unfolding below
  level_part i zero st h = record { size = h.size; done = λ w l k. absurd (not-suc-le-zero l); todo = λ u l k. h.at u k }
  level_part i (suc n) st h =
      let front = switches_of i (odds (below (there leaves i) (2 * n))) in
      rw (switches_more i n, switched_append m slots input st front)
      (one_switch i n (switched_all m slots input st front) (level_part i n st h) (there leaves i (2 * n)) (there leaves i (2 * n + 1)) refl refl)

  -- ---- all levels

  module _ (low : (q : ℕ) → q < length leaves → slice_index leaves q < 2 ^ b) where
    -- a node that is there is below 2^(b-i)
    there_below : (i u : ℕ) → i ≤ b → there leaves i u ≡ true → u < 2 ^ (b - i)
    there_below i u h t =
        let f = node_first leaves rises i u t in
        let e : b - i + i ≡ b = omega arith in
        rw f.under at (Pow.shr_lt {n = slice_index leaves (node_place leaves i u)} (b - i) i (rw e (low (node_place leaves i u) f.inside)))

    one_level : (i : ℕ) (st : State) → i < b → Stands i st.nodes → Stands (suc i) (switched_all m slots input st (map (joined leaves i (level_rotation slots step b i).0) (pairs_at b leaves i))).nodes
    one_level i st h s =
        let r = level_part i (2 ^ (b - suc i)) st s in
        rw (pairs_odds b leaves i h) (record { size = r.size; at = λ u k. r.done u (there_below (suc i) u h k) k })

    -- the levels from i on
    pub levels_stand : (k i : ℕ) (st : State) (level : ℕ → Level) → i + k ≡ b → ((j : ℕ) → level j ≡ record { rotation = level_rotation slots step b (i + j); pairs = pairs_at b leaves (i + j) })
        → Stands i st.nodes → Stands b (switched_all m slots input st (level_switches leaves i (tabulate k level))).nodes
    levels_stand zero i st level e same s = let q : i ≡ b = omega arith in rw q at s
    levels_stand (suc k) i st level e same s =
        let here : level 0 ≡ record { rotation = level_rotation slots step b i; pairs = pairs_at b leaves i } = same 0 ∙ rw (add-zero i) in
        let front = map (joined leaves i (level_rotation slots step b i).0) (pairs_at b leaves i) in
        rw (here, switched_append m slots input st front)
        (levels_stand k (suc i) (switched_all m slots input st front) (λ j. level (suc j)) (omega arith)
        (λ j. same (suc j) ∙ (let q : i + suc j ≡ suc i + j = omega arith in rw q))
        (one_level i st (omega arith) s))
