-- Document 01, "Keyed run": its refusals, in checking order, its answer, and what it leaves in the lent words.
-- Assumes nothing.
use Rattle.std.specs.Prelude.{◌≡◌, ℕ, ◌+◌, ◌-◌, ◌*◌, min, Bool, not, List, [], ◌∷◌, ◌++◌, length, ◌==◌, nat_le, nat_lt, Option, Result, Ok, Err}
use Rattle.ring.specs.Slots.{modulus}
use Rattle.ring.specs.Vectors.{in_front}
use Rattle.ring.specs.declared.refusal.Refusal.{Refusal}
use Rattle.ring.specs.declared.refusal.Refusal.TheVariants.{OutOfRange, Length, Key, Room}
use Rattle.ring.specs.Refusals.{number_of, first_refusal, on_accept}
use Rattle.ring.specs.Answers.{answered}
use Rattle.diagonals.specs.Maps.{Diagonal, offsets_of, view}
use Rattle.diagonals.specs.Calls.{map_refusals}
use Rattle.linear_transformation.specs.declared.LinearTransformationStrategy.{LinearTransformationStrategy}
use Rattle.linear_transformation.specs.declared.records.PairRecord.{PairRecord}
use Rattle.linear_transformation.specs.Strategies.{width_outside}
use Rattle.linear_transformation.specs.Trees.{flag}
use Rattle.linear_transformation.specs.Stored.{is_missing, pair_count, plan_records}
use Rattle.runs.specs.declared.keyed.Progress.{Progress}
use Rattle.runs.specs.Plans.{map_babies, map_giants, map_plan, map_keys, map_switches}
use Rattle.runs.specs.Machines.{State, machine}

-- ---- refusals

-- what is lent to be written: plan, pair records, and the state
pub record Lent : Type 0 where
  pub plan : List ℕ
  pub records : List PairRecord
  pub cache : List ℕ
  pub nodes : List ℕ
  pub log : List ℕ
  pub out : List ℕ

abbrev pub lent : List ℕ → List PairRecord → List ℕ → List ℕ → List ℕ → List ℕ → Lent
lent plan records cache nodes log out = record { plan = plan; records = records; cache = cache; nodes = nodes; log = log; out = out }

abbrev pub lent_state : Lent → State
lent_state l = record { cache = l.cache; nodes = l.nodes; log = l.log; out = l.out; made = 0 }

-- 12: plan B + 3G + D words, the tree's pairs, cache (B - 1)·slots, nodes G·slots, log all switches, out slots
abbrev pub keyed_room : ℕ → LinearTransformationStrategy → List Diagonal → Lent → List (Bool × Refusal)
keyed_room slots strategy ds words =
    let b = length (map_babies slots strategy ds) in
    let g = length (map_giants slots strategy ds) in
    (nat_lt (length words.plan) (b + 3 * g + length ds), Room)
    ∷ (nat_lt (length words.records) (pair_count slots strategy (offsets_of ds)), Room)
    ∷ (nat_lt (length words.cache) ((b - 1) * slots), Room)
    ∷ (nat_lt (length words.nodes) (g * slots), Room)
    ∷ (nat_lt (length words.log) (map_switches slots strategy ds), Room)
    ∷ (nat_lt (length words.out) slots, Room)
    ∷ []

abbrev pub keyed_refusal : ℕ → ℕ → List ℕ → List ℕ → List ℕ → LinearTransformationStrategy → List ℕ → Lent → Option Refusal
keyed_refusal slots count pairs values input strategy held words =
    let ds = view count pairs values in
    first_refusal
    (map_refusals slots count pairs values
    ++ (width_outside strategy, OutOfRange)
    ∷ (not (length input == slots), Length)
    ∷ (is_missing held (map_keys slots strategy ds), Key)
    ∷ keyed_room slots strategy ds words)

-- ---- the answer

-- document 01's numbers of an answer: the refusal, the switches made, whether it finished, and how many babies, giants,
-- diagonals and pairs there are
abbrev pub keyed_numbers : Result Progress Refusal → List ℕ
keyed_numbers (Err e) = number_of e ∷ 0 ∷ 0 ∷ 0 ∷ 0 ∷ 0 ∷ 0 ∷ []
keyed_numbers (Ok p) = 0 ∷ p.switches ∷ flag p.finished ∷ p.babies ∷ p.giants ∷ p.diagonals ∷ p.pairs ∷ []

-- what an accepted run that may make n switches tells
unfoldable pub keyed_progress : ℕ → LinearTransformationStrategy → List Diagonal → ℕ → Progress
keyed_progress slots strategy ds n =
    record {
      switches = min n (map_switches slots strategy ds);
      finished = nat_le (map_switches slots strategy ds) n;
      babies = length (map_babies slots strategy ds);
      giants = length (map_giants slots strategy ds);
      diagonals = length ds;
      pairs = pair_count slots strategy (offsets_of ds);
    }

-- ---- the call

-- the words that an accepted run of n switches leaves
unfoldable pub keyed_left : ℕ → LinearTransformationStrategy → List Diagonal → List ℕ → Lent → ℕ → Lent
keyed_left slots strategy ds input words n =
    let st = machine modulus slots strategy ds input (lent_state words) n in
    record {
      plan = in_front (map_plan slots strategy ds) words.plan;
      records = in_front (plan_records slots strategy (offsets_of ds)) words.records;
      cache = st.cache;
      nodes = st.nodes;
      log = st.log;
      out = st.out;
    }

pub record KeyedRun (slots count : ℕ) (pairs values input : List ℕ) (strategy : LinearTransformationStrategy) (held : List ℕ) (n : ℕ) (old new : Lent) (r : Result Progress Refusal) : Type 0 where
  pub answer : r ≡ answered (keyed_refusal slots count pairs values input strategy held old) (keyed_progress slots strategy (view count pairs values) n)
  pub words : new ≡ on_accept (keyed_refusal slots count pairs values input strategy held old) (keyed_left slots strategy (view count pairs values) input old n) old
