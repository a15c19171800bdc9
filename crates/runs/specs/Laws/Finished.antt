-- Laws of the machine: how many switches it made and what it logged, that it stays as it is after the last switch, and that
-- its answer is then Halevi and Shoup's product.
-- Assumes nothing.
use Rattle.std.specs.Prelude.{◌≡◌, ℕ, zero, suc, ◌+◌, ◌-◌, ◌*◌, ◌/◌, ◌%◌, ◌<◌, ◌≤◌, min, ◌⊎◌, List, [], ◌∷◌, ◌++◌, map, length, take, slice_index, slice_index_or}
use Rattle.std.proofs.Math.Path.{refl, ap}
use Rattle.std.proofs.Common.{sym, ◌∙◌, inl, inr, append-nil, mod-lt, arith, length-take, length-append}
use Rattle.std.proofs.Math.Nat.{sub-zero}
use borrow.Author.Tests.{lt-ltb, le-ltb}
use Rattle.std.proofs.Math.Seq.{take_all}
use Rattle.ring.specs.Slots.{mulm}
use Rattle.ring.specs.Lists.{sum_by, join}
use Rattle.ring.specs.Vectors.{tabulate, in_front}
use Rattle.ring.specs.Laws.Lists.{each_tabulate, sum_by_each, sum_by_map, sum_by_mod}
use Rattle.ring.specs.Laws.Searches.{lt_or_ge}
use Rattle.ring.specs.Laws.Vectors.{length_in_front, in_front_new, get_or_tabulate, is_tabulate, tabulate_get_or, map_tabulate, join_tables}
use Rattle.diagonals.specs.Maps.{Diagonal, offsets_of, FormedMap}
use Rattle.diagonals.specs.Products.{cell, stretch, product}
use Rattle.linear_transformation.specs.declared.LinearTransformationStrategy.{LinearTransformationStrategy}
use Rattle.linear_transformation.specs.Plans.{Planned, width_of, babies_at}
use Rattle.linear_transformation.specs.Schedules.{plan_babies, plan_giants}
use Rattle.linear_transformation.specs.Laws.Widths.{distinct_planned}
use Rattle.runs.specs.Switches.{source_of, Switch, rotation_of, baby_schedule, giant_schedule, schedule}
use Rattle.runs.specs.Machines.{State, vector_at, source_vector, switched, switched_all, node_at, node_words, with_nodes, answer_of, with_answer, machine}
use Rattle.runs.specs.Laws.Plans.{map_distinct}
use Rattle.runs.specs.Laws.Places.{length_vectors, vector_front}
use Rattle.runs.specs.Laws.Switching.{switches_made, switches_out, switches_logged, switched_append, babies_leave, babies_of_cache}
use Rattle.runs.specs.Laws.Caches.{cache_holds}
use Rattle.runs.specs.Laws.NodeSums.{nodes_product}
use Rattle.runs.specs.Laws.Turnings.{Finished}
use Rattle.runs.specs.Laws.Answers.{plan_answer, length_answer}

-- ---- the first n of two lists

take_both : {A : Type 0} (n : ℕ) (xs ys : List A) → take n (xs ++ ys) ≡ take n xs ++ take (n - length xs) ys
take_both zero [] ys = refl
take_both zero (x ∷ xs) ys = let e : 0 - suc (length xs) ≡ 0 = omega arith in rw e
take_both (suc n) [] ys = rw (sub-zero (suc n))
take_both {A} (suc n) (x ∷ xs) ys =
    let e : suc n - suc (length xs) ≡ n - length xs = omega arith in
    rw e (ap (λ (t : List A). x ∷ t) (take_both n xs ys))

-- ---- the log

-- what is logged and how many are made depends on the log and the number before alone
module _ (m slots : ℕ) (input : List ℕ) where
  same_log : (a b : State) (ws : List Switch) → a.log ≡ b.log → a.made ≡ b.made → (switched_all m slots input a ws).log ≡ (switched_all m slots input b ws).log
  unfolding switched
  same_log a b [] e q = e
  same_log a b (w ∷ ws) e q = same_log (switched m slots input a w) (switched m slots input b w) ws (cc (e, q)) (cc q)

  same_made : (a b : State) (ws : List Switch) → a.made ≡ b.made → (switched_all m slots input a ws).made ≡ (switched_all m slots input b ws).made
  unfolding switched
  same_made a b [] q = q
  same_made a b (w ∷ ws) q = same_made (switched m slots input a w) (switched m slots input b w) ws (cc q)

module _ (m slots : ℕ) (strategy : LinearTransformationStrategy) (ds : List Diagonal) (input : List ℕ) (lent : State) where
  abbrev babies : List Switch
  babies = baby_schedule slots strategy (offsets_of ds)

  abbrev turns : List Switch
  turns = giant_schedule slots strategy (offsets_of ds)

  -- the state after the first n switches, all of the babies among them
  abbrev turning : ℕ → State
  turning n = switched_all m slots input (with_nodes m slots strategy ds input (switched_all m slots input lent (take n babies))) (take (n - length babies) turns)

  -- the state of the finished machine
  abbrev caching : State
  caching = switched_all m slots input lent babies

  abbrev last : State
  last = switched_all m slots input (with_nodes m slots strategy ds input caching) turns

  total : length (schedule slots strategy (offsets_of ds)) ≡ length babies + length turns
  total = length-append babies turns

  machine_finished : (n : ℕ) → length (schedule slots strategy (offsets_of ds)) ≤ n → machine m slots strategy ds input lent n ≡ with_answer m slots strategy ds last
  unfolding machine
  machine_finished n h =
      rw (le-ltb n (length babies) (omega (arith, total)), le-ltb n (length babies + length turns) (omega (arith, total)), take_all n babies (omega (arith, total)), take_all (n - length babies) turns (omega (arith, total)))

  -- more than the last switch changes nothing
  pub machine_last : (n : ℕ) → length (schedule slots strategy (offsets_of ds)) ≤ n → machine m slots strategy ds input lent n ≡ machine m slots strategy ds input lent (length (schedule slots strategy (offsets_of ds)))
  machine_last n h = machine_finished n h ∙ sym (machine_finished (length (schedule slots strategy (offsets_of ds))) (omega arith))

  -- ---- what is made and logged

  -- as if the first n switches were made and nothing else was done
  record Logs (n : ℕ) (st : State) : Type 0 where
    log_same : st.log ≡ (switched_all m slots input lent (take n (schedule slots strategy (offsets_of ds)))).log
    made_same : st.made ≡ (switched_all m slots input lent (take n (schedule slots strategy (offsets_of ds)))).made

  early_logs : (n : ℕ) → n < length babies → Logs n (switched_all m slots input lent (take n babies))
  early_logs n h =
      let z : n - length babies ≡ 0 = omega arith in
      let e : take n (schedule slots strategy (offsets_of ds)) ≡ take n babies = take_both n babies turns ∙ rw z (append-nil (take n babies)) in
      record { log_same = rw e; made_same = rw e }

  turning_logs : (n : ℕ) → Logs n (turning n)
  unfolding with_nodes
  turning_logs n =
      let first = switched_all m slots input lent (take n babies) in
      let e : switched_all m slots input lent (take n (schedule slots strategy (offsets_of ds))) ≡ switched_all m slots input first (take (n - length babies) turns) = ap (switched_all m slots input lent) (take_both n babies turns) ∙ switched_append m slots input lent (take n babies) (take (n - length babies) turns) in
      record {
        log_same = rw e (same_log m slots input (with_nodes m slots strategy ds input first) first (take (n - length babies) turns) refl refl);
        made_same = rw e (same_made m slots input (with_nodes m slots strategy ds input first) first (take (n - length babies) turns) refl);
      }

  machine_logs : (n : ℕ) → Logs n (machine m slots strategy ds input lent n)
  unfolding machine with_answer
  machine_logs n = by (lt_or_ge n (length babies)) (lt_or_ge n (length babies + length turns))
    where
      by : (n < length babies) ⊎ (length babies ≤ n) → (n < length babies + length turns) ⊎ (length babies + length turns ≤ n) → Logs n (machine m slots strategy ds input lent n)
      by (inl h) o = rw (lt-ltb n (length babies) h) (early_logs n h)
      by (inr h) (inl o) = rw (le-ltb n (length babies) h, lt-ltb n (length babies + length turns) o) (turning_logs n)
      by (inr h) (inr o) =
          let t = turning_logs n in
          rw (le-ltb n (length babies) h, le-ltb n (length babies + length turns) o) (record { log_same = t.log_same; made_same = t.made_same })

  -- as many switches are made as it may make and there are
  pub machine_made : (n : ℕ) → (machine m slots strategy ds input lent n).made ≡ lent.made + min n (length (schedule slots strategy (offsets_of ds)))
  machine_made n =
      let ws = schedule slots strategy (offsets_of ds) in
      (machine_logs n).made_same ∙ switches_made m slots input lent (take n ws) ∙ ap (λ (x : ℕ). lent.made + x) (length-take n ws)

  -- and their rotations stand in front of the log
  pub machine_log : (n : ℕ) → lent.made ≡ 0 → length (schedule slots strategy (offsets_of ds)) ≤ length lent.log → (machine m slots strategy ds input lent n).log ≡ in_front (map rotation_of (take n (schedule slots strategy (offsets_of ds)))) lent.log
  machine_log n z h =
      let ws = schedule slots strategy (offsets_of ds) in
      (machine_logs n).log_same ∙ switches_logged m slots input lent (take n ws) z (rw (length-take n ws) (omega arith))

-- ---- the answer

-- what a function of the i-th number gives, summed over the places, is its sum over the list
sum_places : (m : ℕ) (f : ℕ → ℕ) (gs : List ℕ) → sum_by m (λ place. f (slice_index gs place)) (tabulate (length gs) (λ place. place)) ≡ sum_by m f gs
sum_places m f gs =
    sym (sum_by_map m (λ place. slice_index gs place) f (tabulate (length gs) (λ place. place)))
    ∙ ap (sum_by m f) (map_tabulate (λ place. slice_index gs place) (length gs) (λ place. place) ∙ sym (tabulate_get_or gs 0))

-- a node's words are reduced
node_reduced : (m slots : ℕ) (strategy : LinearTransformationStrategy) (ds : List Diagonal) (input cache : List ℕ) (g s : ℕ) → node_at m slots strategy ds input cache g s % m ≡ node_at m slots strategy ds input cache g s
unfolding node_at
node_reduced m slots strategy ds input cache g s =
    sum_by_mod m
    (λ k. mulm m (slice_index (source_vector slots input cache (source_of (plan_babies slots strategy (offsets_of ds)) k)) s) (cell (stretch ds (g + k)) ((s + (slots - g)) % slots)))
    (babies_at (width_of strategy) (offsets_of ds) g)

module _
    (m slots : ℕ)
    (strategy : LinearTransformationStrategy)
    (ds : List Diagonal)
    (f : FormedMap slots ds)
    (p : 0 < slots)
    (low : slots ≤ 65536)
    (w : 0 < width_of strategy)
    (input : List ℕ)
    (len : length input ≡ slots)
    (lent : State)
    (cached : (length (plan_babies slots strategy (offsets_of ds)) - 1) * slots ≤ length lent.cache)
    (room : length (plan_giants slots strategy (offsets_of ds)) * slots ≤ length lent.nodes)
  where
    abbrev ks : List ℕ
    ks = offsets_of ds

    abbrev gs : List ℕ
    gs = plan_giants slots strategy ks

    planned : Planned slots (width_of strategy) ks
    planned = distinct_planned (map_distinct slots p ds f) (width_of strategy) w

    abbrev cache : List ℕ
    cache = (switched_all m slots input lent (baby_schedule slots strategy ks)).cache

    abbrev node : ℕ → ℕ → ℕ
    node = node_at m slots strategy ds input cache

    abbrev before : State
    before = with_nodes m slots strategy ds input (switched_all m slots input lent (baby_schedule slots strategy ks))

    abbrev words : List ℕ
    words = join (λ g. tabulate slots (node g)) gs

    -- the nodes before the giant switches
    before_nodes : before.nodes ≡ in_front words lent.nodes
    unfolding with_nodes node_words
    before_nodes = ap (in_front words) (babies_leave m slots input lent (baby_schedule slots strategy ks) (babies_of_cache slots strategy ks))

    before_room : length gs * slots ≤ length before.nodes
    before_room = rw (before_nodes, length_in_front words lent.nodes (omega (arith, length_vectors slots p node gs lent.nodes))) room

    before_vector : (i : ℕ) → i < length gs → vector_at slots before.nodes i ≡ tabulate slots (node (slice_index gs i))
    before_vector i l = rw before_nodes (vector_front slots p node gs lent.nodes i l room)

    before_reduced : (x : ℕ) → x < length gs * slots → slice_index before.nodes x % m ≡ slice_index before.nodes x
    before_reduced x l =
        let e : slice_index_or before.nodes x 0 ≡ node (slice_index gs (x / slots)) (x % slots) =
        ap (λ (v : List ℕ). slice_index v x) before_nodes
        ∙ in_front_new words lent.nodes x 0 (omega (arith, length_vectors slots p node gs lent.nodes))
        ∙ ap (λ (v : List ℕ). slice_index v x) (join_tables slots p node 0 gs)
        ∙ get_or_tabulate (length gs * slots) (λ x. node (slice_index gs (x / slots)) (x % slots)) x 0 l in
        rw e (node_reduced m slots strategy ds input cache (slice_index gs (x / slots)) (x % slots))

    -- what the giant switches and the answer leave is the product, slot by slot
    answer_slot : (after : State) (answer : List ℕ) → Finished m slots gs before after answer → (s : ℕ) → s < slots → slice_index answer s ≡ product m slots ds input s
    answer_slot after answer done s l =
        done.slot s l
        ∙ sum_by_each m (λ place. slice_index (vector_at slots before.nodes place) ((s + slice_index gs place) % slots)) (λ place. node (slice_index gs place) ((s + slice_index gs place) % slots)) (tabulate (length gs) (λ place. place))
        (each_tabulate (λ place. slice_index (vector_at slots before.nodes place) ((s + slice_index gs place) % slots) ≡ node (slice_index gs place) ((s + slice_index gs place) % slots)) (length gs) (λ place. place)
        (λ i h. rw (before_vector i h) (get_or_tabulate slots (node (slice_index gs i)) ((s + slice_index gs i) % slots) 0 (mod-lt (s + slice_index gs i) p))))
        ∙ sum_places m (λ g. node g ((s + g) % slots)) gs
        ∙ nodes_product m slots strategy ds f p low w input cache len (cache_holds m slots input len p low strategy ks lent cached) s l

    -- the answer is the product
    answer_product : answer_of m slots strategy ks (switched_all m slots input before (giant_schedule slots strategy ks)).nodes ≡ tabulate slots (product m slots ds input)
    answer_product =
        let after = switched_all m slots input before (giant_schedule slots strategy ks) in
        let answer = answer_of m slots strategy ks after.nodes in
        let done = plan_answer m slots p input before strategy ks planned before_room before_reduced in
        is_tabulate slots (product m slots ds input) 0 answer (length_answer m slots strategy ks planned after.nodes (rw done.nodes_size before_room))
        (answer_slot after answer done)

    before_out : before.out ≡ lent.out
    unfolding with_nodes
    before_out = switches_out m slots input lent (baby_schedule slots strategy ks)

    -- the finished machine's answer is Halevi and Shoup's product, in front of what was lent
    pub finished_product : (n : ℕ) → length (schedule slots strategy (offsets_of ds)) ≤ n → (machine m slots strategy ds input lent n).out ≡ in_front (tabulate slots (product m slots ds input)) lent.out
    unfolding with_answer
    finished_product n h =
        ap (λ (st : State). st.out) (machine_finished m slots strategy ds input lent n h)
        ∙ rw (answer_product, switches_out m slots input before (giant_schedule slots strategy ks), before_out)
