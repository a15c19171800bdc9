-- Laws of the answer of every strategy: it is a vector, the sum of the giants' vectors, each turned by its giant.
-- Assumes nothing.
use Rattle.std.specs.Prelude.{◌≡◌, ℕ, ◌*◌, ◌%◌, ◌^◌, ◌<◌, ◌≤◌, List, [], ◌∷◌, length, slice_index}
use Rattle.std.proofs.Common.{arith}
use Rattle.ring.specs.Lists.{Rising}
use Rattle.ring.specs.Laws.Vectors.{length_tabulate}
use Rattle.linear_transformation.specs.declared.LinearTransformationStrategy.{LinearTransformationStrategy}
use Rattle.linear_transformation.specs.declared.LinearTransformationStrategy.TheVariants.{Bsgs, BsgsPowersOfTwo, Direct}
use Rattle.linear_transformation.specs.Plans.{Planned, width_of, giants}
use Rattle.linear_transformation.specs.Schedules.{plan_giants, plan_tree}
use Rattle.linear_transformation.specs.Laws.Plans.{giants_rise}
use Rattle.runs.specs.Switches.{node_place, giant_schedule}
use Rattle.runs.specs.Machines.{State, switched_all, node_sum, top_node, answer_of}
use Rattle.runs.specs.Laws.Places.{inside_first, length_vector_at}
use Rattle.runs.specs.Laws.NodePlaces.{node_first, top_there}
use Rattle.runs.specs.Laws.Turnings.{Finished}
use Rattle.runs.specs.Laws.NodeTurns.{own_answer}
use Rattle.runs.specs.Laws.TreeAnswers.{length_leaves, leaf_low, tree_rises, tree_answer}

-- the top node is a vector
length_top : (slots b : ℕ) (ls nodes : List ℕ) → Rising ls → (0 < length ls → slice_index ls 0 < 2 ^ b) → length ls * slots ≤ length nodes → length (top_node slots b ls nodes) ≡ slots
length_top slots b [] nodes r low room = length_tabulate slots (λ s. 0)
length_top slots b (l ∷ ls) nodes r low room =
    length_vector_at slots (inside_first slots nodes (length (l ∷ ls)) (node_place (l ∷ ls) b 0) room (node_first (l ∷ ls) r b 0 (top_there l ls b (low (omega arith)))).inside)

module _ (m slots : ℕ) (p : 0 < slots) (input : List ℕ) (st : State) where
  -- the answer of every strategy is the sum of the giants' vectors, each turned by its giant
  pub plan_answer : (strategy : LinearTransformationStrategy) (ks : List ℕ) → Planned slots (width_of strategy) ks → length (plan_giants slots strategy ks) * slots ≤ length st.nodes
      → ((x : ℕ) → x < length (plan_giants slots strategy ks) * slots → slice_index st.nodes x % m ≡ slice_index st.nodes x)
      → Finished m slots (plan_giants slots strategy ks) st (switched_all m slots input st (giant_schedule slots strategy ks)) (answer_of m slots strategy ks (switched_all m slots input st (giant_schedule slots strategy ks)).nodes)
  unfolding giant_schedule answer_of
  plan_answer (Bsgs width) ks plan room reduced = own_answer m slots p input (giants slots width ks) (giants_rise slots width ks) st room
  plan_answer (BsgsPowersOfTwo width) ks plan room reduced = tree_answer m slots width ks plan p input st room reduced
  plan_answer Direct ks plan room reduced = own_answer m slots p input (giants slots 1 ks) (giants_rise slots 1 ks) st room

-- and it is a vector
pub length_answer : (m slots : ℕ) (strategy : LinearTransformationStrategy) (ks : List ℕ) → Planned slots (width_of strategy) ks → (nodes : List ℕ) → length (plan_giants slots strategy ks) * slots ≤ length nodes
    → length (answer_of m slots strategy ks nodes) ≡ slots
unfolding answer_of node_sum
length_answer m slots (Bsgs width) ks plan nodes room = length_tabulate slots _
length_answer m slots (BsgsPowersOfTwo width) ks plan nodes room =
    let same = length_leaves slots width ks in
    length_top slots (plan_tree slots width ks).bits (plan_tree slots width ks).leaves nodes (tree_rises slots width ks plan) (λ l. leaf_low slots width ks 0 (rw same at l)) (rw same room)
length_answer m slots Direct ks plan nodes room = length_tabulate slots _
