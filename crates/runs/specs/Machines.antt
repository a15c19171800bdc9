-- Document 01, "Keyed run": the machine. Its state is what is lent; the machine after n switches is the first n of the
-- schedule made, with the nodes of 3 as soon as the last baby switch is made and the answer of 5 after the last switch.
-- Assumes nothing. Slots are added and multiplied modulo m.
use Rattle.std.specs.Prelude.{ℕ, suc, ◌+◌, ◌-◌, ◌*◌, ◌%◌, cond, List, [], ◌∷◌, length, take, drop, pos, nat_lt, slice_index, slice_set}
use Rattle.ring.specs.Slots.{addm, mulm}
use Rattle.ring.specs.Lists.{join, sum_by}
use Rattle.ring.specs.Vectors.{tabulate, in_front, put_at}
use Rattle.ring.specs.Rotations.{rotated}
use Rattle.diagonals.specs.Maps.{Diagonal, offsets_of}
use Rattle.diagonals.specs.Products.{cell, stretch}
use Rattle.linear_transformation.specs.declared.LinearTransformationStrategy.{LinearTransformationStrategy}
use Rattle.linear_transformation.specs.declared.LinearTransformationStrategy.TheVariants.{Bsgs, BsgsPowersOfTwo, Direct}
use Rattle.linear_transformation.specs.Plans.{width_of, babies_at}
use Rattle.linear_transformation.specs.Schedules.{plan_babies, plan_giants, plan_tree}
use Rattle.runs.specs.Switches.{Source, from_input, from_cache, source_of, none, at, Switch, baby, giant, pair, rotation_of, node_place, baby_schedule, giant_schedule}

-- ---- vectors

-- the vector at a place of a buffer, and one put there
unfoldable pub vector_at : ℕ → List ℕ → ℕ → List ℕ
vector_at slots buffer place = take slots (drop (place * slots) buffer)

unfoldable pub put_vector : ℕ → List ℕ → ℕ → List ℕ → List ℕ
put_vector slots buffer place v = put_at (place * slots) v buffer

-- rotated by k; the sum of two
abbrev pub turned : ℕ → List ℕ → ℕ → List ℕ
turned slots v k = rotated v (pos k) slots

unfoldable pub summed : ℕ → ℕ → List ℕ → List ℕ → List ℕ
summed m slots v w = tabulate slots (λ s. addm m (slice_index v s) (slice_index w s))

-- ---- the state

-- the lent words, and how many switches are made
pub record State : Type 0 where
  pub cache : List ℕ
  pub nodes : List ℕ
  pub log : List ℕ
  pub out : List ℕ
  pub made : ℕ

-- what a source holds
abbrev pub source_vector : ℕ → List ℕ → List ℕ → Source → List ℕ
source_vector slots input cache from_input = input
source_vector slots input cache (from_cache place) = vector_at slots cache place

-- what a switch leaves in the cache
abbrev pub cache_after : ℕ → List ℕ → List ℕ → Switch → List ℕ
cache_after slots input cache (baby place source k) = put_vector slots cache place (turned slots (source_vector slots input cache source) k)
cache_after slots input cache (giant place k) = cache
cache_after slots input cache (pair odd even k) = cache

-- and in the nodes: a giant's vector is rotated; the odd's, rotated, is added to the even's and the odd's place is kept;
-- with no even the odd's own is rotated
abbrev pub nodes_after : ℕ → ℕ → List ℕ → Switch → List ℕ
nodes_after m slots nodes (baby place source k) = nodes
nodes_after m slots nodes (giant place k) = put_vector slots nodes place (turned slots (vector_at slots nodes place) k)
nodes_after m slots nodes (pair odd none k) = put_vector slots nodes odd (turned slots (vector_at slots nodes odd) k)
nodes_after m slots nodes (pair odd (at even) k) =
    put_vector slots nodes even (summed m slots (vector_at slots nodes even) (turned slots (vector_at slots nodes odd) k))

-- one switch made; it logs its rotation
unfoldable pub switched : ℕ → ℕ → List ℕ → State → Switch → State
switched m slots input st w =
    record {
      cache = cache_after slots input st.cache w;
      nodes = nodes_after m slots st.nodes w;
      log = slice_set st.log st.made (rotation_of w);
      out = st.out;
      made = suc st.made;
    }

-- one after the other
abbrev pub switched_all : ℕ → ℕ → List ℕ → State → List Switch → State
switched_all m slots input st [] = st
switched_all m slots input st (w ∷ ws) = switched_all m slots input (switched m slots input st w) ws

-- ---- 3. the nodes

-- node g at slot s: the sum over its babies k of the input rotated by k, read by 1, times diagonal g + k at s - g
unfoldable pub node_at : ℕ → ℕ → LinearTransformationStrategy → List Diagonal → List ℕ → List ℕ → ℕ → ℕ → ℕ
node_at m slots strategy ds input cache g s =
    let bs = plan_babies slots strategy (offsets_of ds) in
    sum_by m
    (λ k. mulm m (slice_index (source_vector slots input cache (source_of bs k)) s) (cell (stretch ds (g + k)) ((s + (slots - g)) % slots)))
    (babies_at (width_of strategy) (offsets_of ds) g)

-- one vector a giant, rising
unfoldable pub node_words : ℕ → ℕ → LinearTransformationStrategy → List Diagonal → List ℕ → List ℕ → List ℕ
node_words m slots strategy ds input cache =
    join (λ g. tabulate slots (node_at m slots strategy ds input cache g)) (plan_giants slots strategy (offsets_of ds))

unfoldable pub with_nodes : ℕ → ℕ → LinearTransformationStrategy → List Diagonal → List ℕ → State → State
with_nodes m slots strategy ds input st =
    record {
      cache = st.cache;
      nodes = in_front (node_words m slots strategy ds input st.cache) st.nodes;
      log = st.log;
      out = st.out;
      made = st.made;
    }

-- ---- 5. the answer

-- per rotation the sum of all nodes; of n nodes
unfoldable pub node_sum : ℕ → ℕ → ℕ → List ℕ → List ℕ
node_sum m slots n nodes = tabulate slots (λ s. sum_by m (λ place. slice_index (vector_at slots nodes place) s) (tabulate n (λ place. place)))

-- with powers of two the tree's top node 0; zeros if there is no giant
abbrev pub top_node : ℕ → ℕ → List ℕ → List ℕ → List ℕ
top_node slots b [] nodes = tabulate slots (λ s. 0)
top_node slots b (l ∷ ls) nodes = vector_at slots nodes (node_place (l ∷ ls) b 0)

unfoldable pub answer_of : ℕ → ℕ → LinearTransformationStrategy → List ℕ → List ℕ → List ℕ
answer_of m slots (Bsgs width) ks nodes = node_sum m slots (length (plan_giants slots (Bsgs width) ks)) nodes
answer_of m slots (BsgsPowersOfTwo width) ks nodes = top_node slots (plan_tree slots width ks).bits (plan_tree slots width ks).leaves nodes
answer_of m slots Direct ks nodes = node_sum m slots (length (plan_giants slots Direct ks)) nodes

unfoldable pub with_answer : ℕ → ℕ → LinearTransformationStrategy → List Diagonal → State → State
with_answer m slots strategy ds st =
    record {
      cache = st.cache;
      nodes = st.nodes;
      log = st.log;
      out = in_front (answer_of m slots strategy (offsets_of ds) st.nodes) st.out;
      made = st.made;
    }

-- ---- the machine after n switches

unfoldable pub machine : ℕ → ℕ → LinearTransformationStrategy → List Diagonal → List ℕ → State → ℕ → State
machine m slots strategy ds input lent n =
    let babies = baby_schedule slots strategy (offsets_of ds) in
    let giants = giant_schedule slots strategy (offsets_of ds) in
    let caching = switched_all m slots input lent (take n babies) in
    let turning = switched_all m slots input (with_nodes m slots strategy ds input caching) (take (n - length babies) giants) in
    cond (nat_lt n (length babies)) caching
    (cond (nat_lt n (length babies + length giants)) turning (with_answer m slots strategy ds turning))
