-- Laws of the giant switches per rotation: each giant's vector is turned once, by its giant, where it stands.
-- Assumes nothing.
use Rattle.std.specs.Prelude.{◌≡◌, ℕ, suc, ◌+◌, ◌*◌, ◌%◌, ◌<◌, ◌≤◌, ◌⊎◌, List, [], ◌∷◌, map, length, slice_index, slice_index_or}
use Rattle.std.proofs.Math.Path.{refl, ap}
use Rattle.std.proofs.Common.{sym, ◌∙◌, inl, inr, add-zero, not-suc-le-zero, le_of_suc-le-suc, eq-or-lt_of_le, mod-eq_of_lt, eq-eqb, ne_eqb}
use Rattle.std.proofs.Math.Decide.{ℕ_discrete}
use native.Mathlib.Omega.{arith}
use Rattle.ring.specs.Lists.{Rising, sum_by}
use Rattle.ring.specs.Vectors.{tabulate}
use Rattle.ring.specs.Laws.Lists.{each_tabulate, sum_by_each}
use Rattle.ring.specs.Laws.Vectors.{get_or_tabulate}
use Rattle.linear_transformation.specs.Closures.{nonzeros}
use Rattle.runs.specs.Switches.{place_of, giant, own_giants}
use Rattle.runs.specs.Machines.{State, vector_at, put_vector, turned, switched, switched_all, node_sum}
use Rattle.runs.specs.Laws.Places.{Inside, inside_first, length_vector_at, length_put_vector, vector_same, vector_other}
use Rattle.runs.specs.Laws.Schedules.{place_own}
use Rattle.runs.specs.Laws.Switching.{switches_out, giants_leave, giants_own}
use Rattle.runs.specs.Laws.Turnings.{length_turned, get_or_turned, Finished}

module _ (m slots : ℕ) (p : 0 < slots) (input gs : List ℕ) (rises : Rising gs) where
  module _ (first : List ℕ) (room : length gs * slots ≤ length first) where
    -- the first k giants' vectors are turned, the others are as they were
    record TurnedTo (k : ℕ) (nodes : List ℕ) : Type 0 where
      size : length nodes ≡ length first
      done : (q : ℕ) → q < k → q < length gs → (s : ℕ) → s < slots → slice_index (vector_at slots nodes q) s ≡ slice_index (vector_at slots first q) ((s + slice_index gs q) % slots)
      todo : (q : ℕ) → k ≤ q → q < length gs → vector_at slots nodes q ≡ vector_at slots first q

    -- a giant 0 stays
    zero_stays : (k : ℕ) (nodes : List ℕ) → slice_index gs k ≡ 0 → TurnedTo k nodes → TurnedTo (suc k) nodes
    zero_stays k nodes z r =
        record {
          size = r.size;
          done = λ q h i s l. by q i s l (eq-or-lt_of_le (le_of_suc-le-suc h));
          todo = λ q h i. r.todo q (omega arith) i;
        }
      where
        by : (q : ℕ) → q < length gs → (s : ℕ) → s < slots → (q ≡ k) ⊎ (q < k) → slice_index (vector_at slots nodes q) s ≡ slice_index (vector_at slots first q) ((s + slice_index gs q) % slots)
        by q i s l (inl e) =
            let n : slice_index_or gs q 0 ≡ 0 = rw e z in
            rw (n, add-zero, mod-eq_of_lt l) (ap (λ (v : List ℕ). slice_index v s) (r.todo q (omega arith) i))
        by q i s l (inr h) = r.done q h i s l

    -- any other is turned
    giant_turns : (k : ℕ) (nodes : List ℕ) → k < length gs → TurnedTo k nodes → TurnedTo (suc k) (put_vector slots nodes k (turned slots (vector_at slots nodes k) (slice_index gs k)))
    giant_turns k nodes h r =
        record {
          size = length_put_vector slots new len (inside k h) ∙ r.size;
          done = λ q o i s l. by q i s l (eq-or-lt_of_le (le_of_suc-le-suc o));
          todo = λ q o i. vector_other slots new len (inside k h) q (λ e. omega arith) (inside q i) ∙ r.todo q (omega arith) i;
        }
      where
        inside : (q : ℕ) → q < length gs → Inside slots nodes q
        inside q i = inside_first slots nodes (length gs) q (omega (arith, r.size)) i

        new : List ℕ
        new = turned slots (vector_at slots nodes k) (slice_index gs k)

        len : length new ≡ slots
        len = length_turned slots (vector_at slots nodes k) (slice_index gs k)

        by : (q : ℕ) → q < length gs → (s : ℕ) → s < slots → (q ≡ k) ⊎ (q < k) → slice_index (vector_at slots (put_vector slots nodes k new) q) s ≡ slice_index (vector_at slots first q) ((s + slice_index gs q) % slots)
        by q i s l (inl e) =
            rw e
            (ap (λ (v : List ℕ). slice_index v s) (vector_same slots new len (inside k h))
            ∙ get_or_turned slots (vector_at slots nodes k) (length_vector_at slots (inside k h)) (slice_index gs k) s l
            ∙ ap (λ (v : List ℕ). slice_index v ((s + slice_index gs k) % slots)) (r.todo k (omega arith) h))
        by q i s l (inr o) = ap (λ (v : List ℕ). slice_index v s) (vector_other slots new len (inside k h) q (λ e. omega arith) (inside q i)) ∙ r.done q o i s l

    -- the giants rs from place k on
    all_turn : (rs : List ℕ) (k : ℕ) (st : State) → k + length rs ≡ length gs → ((j : ℕ) → j < length rs → slice_index gs (k + j) ≡ slice_index rs j) → TurnedTo k st.nodes
        → TurnedTo (length gs) (switched_all m slots input st (map (λ g. giant (place_of g gs) g) (nonzeros rs))).nodes
    unfolding switched
    all_turn [] k st e same r = let q : k ≡ length gs = omega arith in rw q at r
    all_turn (g ∷ rs) k st e same r =
        let here : slice_index_or gs k 0 ≡ g = ap (λ (x : ℕ). slice_index gs x) (sym (add-zero k)) ∙ same 0 (omega arith) in
        by here (ℕ_discrete g 0) (λ next. all_turn rs (suc k) next (omega arith) (λ j l. ap (λ (x : ℕ). slice_index gs x) (omega arith) ∙ same (suc j) (omega arith)))
      where
        by : slice_index_or gs k 0 ≡ g → Dec (g ≡ 0)
            → ((next : State) → TurnedTo (suc k) next.nodes → TurnedTo (length gs) (switched_all m slots input next (map (λ g. giant (place_of g gs) g) (nonzeros rs))).nodes)
            → TurnedTo (length gs) (switched_all m slots input st (map (λ g. giant (place_of g gs) g) (nonzeros (g ∷ rs)))).nodes
        by here (yes z) rest = rw (eq-eqb g 0 z) (rest st (zero_stays k st.nodes (here ∙ z) r))
        by here (no n) rest =
            let place : place_of g gs ≡ k = rw here at (place_own gs rises k (omega arith)) in
            rw (ne_eqb g 0 n, place) (rest (switched m slots input st (giant k g)) (rw here at (giant_turns k st.nodes (omega arith) r)))

  -- the sum of all nodes is that of the giants' vectors, each turned by its giant
  pub own_answer : (st : State) → length gs * slots ≤ length st.nodes
      → Finished m slots gs st (switched_all m slots input st (own_giants gs)) (node_sum m slots (length gs) (switched_all m slots input st (own_giants gs)).nodes)
  unfolding node_sum
  own_answer st room =
      let nodes = (switched_all m slots input st (own_giants gs)).nodes in
      let t : TurnedTo st.nodes room (length gs) nodes =
      all_turn st.nodes room gs 0 st (omega arith) (λ j l. ap (λ (x : ℕ). slice_index gs x) (omega arith))
      (record { size = refl; done = λ q h i s l. absurd (not-suc-le-zero h); todo = λ q h i. refl }) in
      record {
        slot = λ s l.
            get_or_tabulate slots (λ s. sum_by m (λ place. slice_index (vector_at slots nodes place) s) (tabulate (length gs) (λ place. place))) s 0 l
            ∙ sum_by_each m (λ place. slice_index (vector_at slots nodes place) s) (λ place. slice_index (vector_at slots st.nodes place) ((s + slice_index gs place) % slots)) (tabulate (length gs) (λ place. place))
            (each_tabulate (λ place. slice_index (vector_at slots nodes place) s ≡ slice_index (vector_at slots st.nodes place) ((s + slice_index gs place) % slots)) (length gs) (λ place. place) (λ q h. t.done q h h s l));
        nodes_size = t.size;
        cache_kept = giants_leave m slots input st (own_giants gs) (giants_own gs);
        out_kept = switches_out m slots input st (own_giants gs);
      }
