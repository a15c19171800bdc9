-- What the private steps of the keyed run's parts ask and ensure: the answer, the giant switches, and the whole run.
-- Assumes nothing.
use Rattle.std.specs.Prelude.{◌≡◌, ℕ, zero, suc, ◌-◌, ◌*◌, ◌≤◌, cond, List, map, length, take, nat_lt, Option, None, Some}
use Rattle.ring.specs.Slots.{modulus}
use Rattle.ring.specs.Vectors.{tabulate, in_front, put_at}
use Rattle.linear_transformation.specs.Schedules.{plan_words}
use Rattle.runs.specs.declared.run.Run.{Run}
use Rattle.runs.specs.declared.surveying.Powers.{Powers}
use Rattle.runs.specs.declared.surveying.Words.{Words}
use Rattle.runs.specs.Switches.{Switch, rotation_of, giant_schedule}
use Rattle.runs.specs.Machines.{node_sum, node_words, answer_of}
use Rattle.runs.specs.Steps.Keyed.{nodes_by}
use Rattle.runs.specs.Steps.Surveys.{stored_in, offsets_in}

-- ---- the answer

pub record AnswerAsked (giants : ℕ) (nodes out : List ℕ) : Type 0 where
  pub some : 1 ≤ length out
  pub small : length out ≤ 65536
  pub room : giants * length out ≤ length nodes

-- with powers of two: the first vector; zeros if there is no giant
abbrev pub top_by : ℕ → List ℕ → ℕ → List ℕ
top_by zero nodes slots = tabulate slots (λ s. 0)
top_by (suc g) nodes slots = take slots nodes

-- per rotation the sum of all
abbrev pub answer_by : Option Powers → ℕ → List ℕ → ℕ → List ℕ
answer_by None giants nodes slots = node_sum modulus slots giants nodes
answer_by (Some p) giants nodes slots = top_by giants nodes slots

-- ---- an accepted run

-- there is room for all that it takes
pub record Ready (r : Run) (w : Words) : Type 0 where
  pub plan_room : length (plan_words r.asked.map.slots r.asked.strategy (offsets_in r.asked.map)) ≤ length w.plan.now
  pub cache_room : (r.survey.babies - 1) * r.asked.map.slots ≤ length w.cache.now
  pub nodes_room : r.survey.giants * r.asked.map.slots ≤ length w.nodes.now
  pub log_room : r.survey.switches ≤ length w.log.now
  pub out_room : r.asked.map.slots ≤ length w.out.now

-- the plan is written, and there is room for the cache and the nodes
pub record PlanWritten (r : Run) (plan cache nodes : List ℕ) : Type 0 where
  pub old_plan : List ℕ
  pub plan_is : plan ≡ in_front (plan_words r.asked.map.slots r.asked.strategy (offsets_in r.asked.map)) old_plan
  pub plan_room : length (plan_words r.asked.map.slots r.asked.strategy (offsets_in r.asked.map)) ≤ length plan
  pub cache_room : (r.survey.babies - 1) * r.asked.map.slots ≤ length cache
  pub nodes_room : r.survey.giants * r.asked.map.slots ≤ length nodes

pub record RunAsked (r : Run) (w : Words) : Type 0 where
  pub written : PlanWritten r w.plan.now w.cache.now w.nodes.now
  pub log_room : r.survey.switches ≤ length w.log.now
  pub out_room : r.asked.map.slots ≤ length w.out.now

-- the nodes over a full cache, in front
abbrev pub nodes_in : Run → List ℕ → List ℕ → List ℕ
nodes_in r cache nodes =
    in_front (node_words modulus r.asked.map.slots r.asked.strategy (stored_in r.asked.map) r.asked.input.now cache) nodes

-- the buffers are those that were lent
pub record SameBuffers (old new : Words) : Type 0 where
  pub plan : new.plan.ghost_name ≡ old.plan.ghost_name
  pub cache : new.cache.ghost_name ≡ old.cache.ghost_name
  pub nodes : new.nodes.ghost_name ≡ old.nodes.ghost_name
  pub log : new.log.ghost_name ≡ old.log.ghost_name
  pub out : new.out.ghost_name ≡ old.out.ghost_name

-- ---- the giant switches

-- the first n of them
abbrev pub first_turns : Run → ℕ → List Switch
first_turns r n = take n (giant_schedule r.asked.map.slots r.asked.strategy (offsets_in r.asked.map))

pub record NodesTurned (r : Run) (made : ℕ) (old new : Words) : Type 0 where
  pub plan_is : new.plan.now ≡ old.plan.now
  pub cache_is : new.cache.now ≡ old.cache.now
  pub turned : new.nodes.now ≡ nodes_by modulus r.asked.map.slots old.nodes.now (first_turns r made)
  pub logs : new.log.now ≡ put_at (r.survey.babies - 1) (map rotation_of (first_turns r made)) old.log.now
  pub out_is : new.out.now ≡ old.out.now
  pub len : length new.nodes.now ≡ length old.nodes.now

-- ---- the run

-- the nodes that follow the last baby switch, from a full cache on
abbrev pub turned_nodes : Run → ℕ → List ℕ → List ℕ → List ℕ
turned_nodes r n cache nodes =
    nodes_by modulus r.asked.map.slots (nodes_in r cache nodes) (first_turns r (n - (r.survey.babies - 1)))

-- what follows the last baby switch leaves
pub record GiantsLeft (r : Run) (n : ℕ) (old new : Words) : Type 0 where
  pub plan_is : new.plan.now ≡ old.plan.now
  pub cache_is : new.cache.now ≡ old.cache.now
  pub nodes_are : new.nodes.now ≡ turned_nodes r n old.cache.now old.nodes.now
  pub log_is : new.log.now ≡ put_at (r.survey.babies - 1) (map rotation_of (first_turns r (n - (r.survey.babies - 1)))) old.log.now
  pub out_is : new.out.now
      ≡ cond (nat_lt n r.survey.switches) old.out.now
      (in_front (answer_of modulus r.asked.map.slots r.asked.strategy (offsets_in r.asked.map) new.nodes.now) old.out.now)
