-- What an accepted run leaves, its answer, and the whole run of an accepted map with no pair record written.
-- Assumes nothing.
use Rattle.std.specs.Prelude.{◌≡◌, ℕ, min, not, List, ◌∷◌, length, ◌==◌, nat_le, Option, Result}
use Rattle.ring.specs.declared.refusal.Refusal.{Refusal}
use Rattle.ring.specs.declared.refusal.Refusal.TheVariants.{OutOfRange, Length, Key}
use Rattle.ring.specs.Refusals.{first_refusal, on_accept}
use Rattle.ring.specs.Answers.{answered}
use Rattle.ring.specs.Vectors.{in_front}
use Rattle.diagonals.specs.Maps.{Diagonal}
use Rattle.linear_transformation.specs.declared.LinearTransformationStrategy.{LinearTransformationStrategy}
use Rattle.linear_transformation.specs.declared.records.PairRecord.{PairRecord}
use Rattle.linear_transformation.specs.Strategies.{width_outside}
use Rattle.linear_transformation.specs.Stored.{is_missing, plan_records}
use Rattle.runs.specs.declared.keyed.Progress.{Progress}
use Rattle.runs.specs.declared.run.Run.{Run}
use Rattle.runs.specs.declared.surveying.Asked.{Asked}
use Rattle.runs.specs.declared.surveying.Survey.{Survey}
use Rattle.runs.specs.declared.surveying.Words.{Words}
use Rattle.runs.specs.Keyed.{Lent, lent, keyed_room, keyed_progress, keyed_left}
use Rattle.runs.specs.Plans.{map_keys}
use Rattle.runs.specs.Steps.Surveys.{stored_in, offsets_in}

-- ---- an accepted run

-- the words, and records
abbrev pub with_records : Words → List PairRecord → Lent
with_records w records = lent w.plan.now records w.cache.now w.nodes.now w.log.now w.out.now

-- whatever records are lent
pub record AcceptedLeft (r : Run) (n : ℕ) (old new : Words) : Type 0 where
  pub left : (records : List PairRecord)
      → with_records new (in_front (plan_records r.asked.map.slots r.asked.strategy (offsets_in r.asked.map)) records)
      ≡ keyed_left r.asked.map.slots r.asked.strategy (stored_in r.asked.map) r.asked.input.now (with_records old records) n

-- ---- the answer

abbrev pub progress_by : Survey → ℕ → Progress
progress_by r n =
    record {
      switches = min n r.switches;
      finished = nat_le r.switches n;
      babies = r.babies;
      giants = r.giants;
      diagonals = r.diagonals;
      pairs = r.pairs;
    }

-- ---- the whole run of an accepted map

-- its refusals
abbrev pub run_refusal : ℕ → LinearTransformationStrategy → List Diagonal → List ℕ → List ℕ → Lent → Option Refusal
run_refusal slots strategy ds input held words =
    first_refusal
    ((width_outside strategy, OutOfRange)
    ∷ (not (length input == slots), Length)
    ∷ (is_missing held (map_keys slots strategy ds), Key)
    ∷ keyed_room slots strategy ds words)

-- its answer, and what it leaves
pub record RunDone (slots : ℕ) (strategy : LinearTransformationStrategy) (ds : List Diagonal) (input held : List ℕ) (n : ℕ) (old new : Lent) (r : Result Progress Refusal) : Type 0 where
  pub answer : r ≡ answered (run_refusal slots strategy ds input held old) (keyed_progress slots strategy ds n)
  pub words : new ≡ on_accept (run_refusal slots strategy ds input held old) (keyed_left slots strategy ds input old n) old

-- the same of what a run is asked
abbrev pub DoneOf : Asked → ℕ → Lent → Lent → Result Progress Refusal → Type 0
DoneOf a n old new r = RunDone a.map.slots a.strategy (stored_in a.map) a.input.now a.held.now n old new r

-- what it leaves in the lent pair records
abbrev pub run_records : Asked → Lent → List PairRecord
run_records a old =
    on_accept
    (run_refusal a.map.slots a.strategy (stored_in a.map) a.input.now a.held.now old)
    (in_front (plan_records a.map.slots a.strategy (offsets_in a.map)) old.records)
    old.records

-- a run but for its records, of which it is told how many are lent: with those written it is the whole run
pub record CoreRun (a : Asked) (n room : ℕ) (old new : Words) (r : Result Progress Refusal) : Type 0 where
  pub run : (records : List PairRecord) → length records ≡ room
      → DoneOf a n (with_records old records) (with_records new (run_records a (with_records old records))) r
