-- What the keyed run's survey, the cut of its plan and its test of room ask and ensure.
-- Assumes nothing.
use Rattle.std.specs.Prelude.{◌≡◌, ℕ, ◌+◌, ◌-◌, ◌*◌, ◌≤◌, Bool, false, not, List, [], ◌∷◌, length, take, drop, slice_index, ◌==◌, nat_lt, Option, None, Some, Result}
use Rattle.ring.specs.Vectors.{tabulate, in_front}
use Rattle.ring.specs.declared.refusal.Refusal.{Refusal}
use Rattle.ring.specs.declared.refusal.Refusal.TheVariants.{OutOfRange, Length, Key, Room}
use Rattle.ring.specs.Refusals.{first_refusal}
use Rattle.ring.specs.Answers.{answered}
use Rattle.diagonals.specs.declared.map.Map.{Map}
use Rattle.diagonals.specs.Maps.{Diagonal, offsets_of, view}
use Rattle.linear_transformation.specs.declared.LinearTransformationStrategy.{LinearTransformationStrategy}
use Rattle.linear_transformation.specs.declared.LinearTransformationStrategy.TheVariants.{Bsgs, BsgsPowersOfTwo, Direct}
use Rattle.linear_transformation.specs.Strategies.{width_outside}
use Rattle.linear_transformation.specs.Schedules.{plan_babies, plan_giants, plan_keys, plan_switches}
use Rattle.linear_transformation.specs.Stored.{is_missing, pair_count, step_of, bits_for}
use Rattle.runs.specs.declared.surveying.Asked.{Asked}
use Rattle.runs.specs.declared.surveying.Parts.{Parts}
use Rattle.runs.specs.declared.surveying.Powers.{Powers}
use Rattle.runs.specs.declared.surveying.Survey.{Survey}
use Rattle.runs.specs.declared.surveying.Words.{Words}

-- ---- the survey

-- the diagonals of an accepted map, and their offsets
abbrev pub stored_in : Map → List Diagonal
stored_in m = view m.count m.pairs.now m.values.now

abbrev pub offsets_in : Map → List ℕ
offsets_in m = offsets_of (stored_in m)

-- the refusals of an accepted map of offsets ks before the room is known
abbrev pub survey_refusals : ℕ → List ℕ → List ℕ → LinearTransformationStrategy → List ℕ → List (Bool × Refusal)
survey_refusals slots ks input strategy held =
    (width_outside strategy, OutOfRange)
    ∷ (not (length input == slots), Length)
    ∷ (is_missing held (plan_keys slots strategy ks), Key)
    ∷ []

abbrev pub survey_refusal : ℕ → List ℕ → List ℕ → LinearTransformationStrategy → List ℕ → Option Refusal
survey_refusal slots ks input strategy held = first_refusal (survey_refusals slots ks input strategy held)

-- with powers of two: the baby step and b of the tree
abbrev pub powers_by : LinearTransformationStrategy → ℕ → ℕ → Option Powers
powers_by (Bsgs width) step bits = None
powers_by (BsgsPowersOfTwo width) step bits = Some (record { step = step; bits = bits })
powers_by Direct step bits = None

abbrev pub powers_of : ℕ → LinearTransformationStrategy → List ℕ → Option Powers
powers_of slots strategy ks = powers_by strategy (step_of slots strategy ks) (bits_for slots strategy ks)

-- what a run by the plan of ks takes
unfoldable pub takes : ℕ → LinearTransformationStrategy → List ℕ → ℕ → Survey
takes slots strategy ks count =
    record {
      diagonals = count;
      babies = length (plan_babies slots strategy ks);
      giants = length (plan_giants slots strategy ks);
      pairs = pair_count slots strategy ks;
      switches = plan_switches slots strategy ks;
      powers = powers_of slots strategy ks;
    }

-- what no refusal tells
pub record Taken (slots : ℕ) (input : List ℕ) (strategy : LinearTransformationStrategy) : Type 0 where
  pub width : width_outside strategy ≡ false
  pub whole : length input ≡ slots

pub record Surveyed (slots count : ℕ) (ks input : List ℕ) (strategy : LinearTransformationStrategy) (held old new : List ℕ) (r : Result Survey Refusal) : Type 0 where
  pub answer : r ≡ answered (survey_refusal slots ks input strategy held) (takes slots strategy ks count)
  pub taken : survey_refusal slots ks input strategy held ≡ None → Taken slots input strategy
  pub listed : survey_refusal slots ks input strategy held ≡ None → new ≡ in_front ks old
  pub len : length new ≡ length old

-- the same of what a run is asked
abbrev pub SurveyedOf : Asked → List ℕ → List ℕ → Result Survey Refusal → Type 0
SurveyedOf a old new r = Surveyed a.map.slots a.map.count (offsets_in a.map) a.input.now a.strategy a.held.now old new r

-- the p-th pair of words
abbrev pub cut_at : List ℕ → ℕ → List ℕ
cut_at ws p = slice_index ws (2 * p) ∷ slice_index ws (2 * p + 1) ∷ []

-- the words of a plan that takes so much, cut
pub record Cut (s : Survey) (plan : List ℕ) (p : Parts) : Type 0 where
  pub babies_are : p.babies.now ≡ take s.babies plan
  pub giants_are : p.giants.now ≡ take s.giants (drop s.babies plan)
  pub cuts_are : p.cuts.now ≡ tabulate s.giants (cut_at (drop (s.babies + s.giants) plan))

-- ---- room

-- numbers whose sums and products are small
pub record Sized (r : Survey) (slots : ℕ) : Type 0 where
  pub slots_low : slots ≤ 65536
  pub some : 1 ≤ r.babies
  pub babies_low : r.babies ≤ 65536
  pub giants_low : r.giants ≤ 65536
  pub diagonals_low : r.diagonals ≤ 65536

-- of the pair records it is told how many are lent
abbrev pub survey_room : Survey → ℕ → ℕ → Words → List (Bool × Refusal)
survey_room r slots room w =
    (nat_lt (length w.plan.now) (r.babies + 3 * r.giants + r.diagonals), Room)
    ∷ (nat_lt room r.pairs, Room)
    ∷ (nat_lt (length w.cache.now) ((r.babies - 1) * slots), Room)
    ∷ (nat_lt (length w.nodes.now) (r.giants * slots), Room)
    ∷ (nat_lt (length w.log.now) r.switches, Room)
    ∷ (nat_lt (length w.out.now) slots, Room)
    ∷ []
