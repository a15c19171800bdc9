-- Demand 3, sentence by sentence: what the keyed run's promise (`KeyedRun`) and the plain run's (`Evaluated`) come to. Each
-- theorem takes what a call promises and nothing else of it; the longer proofs are in `Laws/KeyedRuns`.
-- Assumes nothing.
use Rattle.std.specs.Prelude.{◌≡◌, ℕ, ◌+◌, ◌<◌, ◌≤◌, min, Bool, true, false, not, List, [], ◌∷◌, ◌++◌, map, length, take, ◌==◌, nat_le, slice_index, Option, None, Some, Result, Ok, Err, refl}
use Rattle.std.proofs.Math.Path.{sym, ap}
use Rattle.std.proofs.Common.{◌∙◌, true≢false, arith, leb-true, le-leb}
use Rattle.std.proofs.Math.Nat.{min-eq_right}
use Rattle.ring.specs.Slots.{modulus}
use Rattle.ring.specs.Lists.{Each, among}
use Rattle.ring.specs.Vectors.{tabulate, in_front}
use Rattle.ring.specs.declared.refusal.Refusal.{Refusal}
use Rattle.ring.specs.declared.refusal.Refusal.TheVariants.{OutOfRange, Length, Key}
use Rattle.ring.specs.Refusals.{first_refusal}
use Rattle.ring.specs.Answers.{answered}
use Rattle.diagonals.specs.Maps.{Diagonal, offsets_of, view}
use Rattle.diagonals.specs.Products.{matrix, product, dot}
use Rattle.diagonals.specs.Calls.{map_refusals, map_refusal}
use Rattle.linear_transformation.specs.declared.LinearTransformationStrategy.{LinearTransformationStrategy}
use Rattle.linear_transformation.specs.declared.LinearTransformationStrategy.TheVariants.{Bsgs, BsgsPowersOfTwo}
use Rattle.linear_transformation.specs.Strategies.{width_outside}
use Rattle.linear_transformation.specs.Schedules.{plan_tree, NoGaps}
use Rattle.linear_transformation.specs.Stored.{plan_records}
use Rattle.runs.specs.declared.keyed.Progress.{Progress}
use Rattle.runs.specs.Calls.{Evaluated}
use Rattle.runs.specs.Plans.{map_plan, map_keys, map_switches}
use Rattle.runs.specs.Switches.{rotation_of, schedule}
use Rattle.runs.specs.Machines.{State, machine}
use Rattle.runs.specs.Keyed.{Lent, lent_state, keyed_refusal, keyed_progress, keyed_left, KeyedRun}
use Rattle.runs.specs.Laws.KeyedRuns.{front_words, rotations_count, keys_made, progress_alike, map_few, product_slot, rotations_held, machine_min, run_taken, run_answer, run_left, run_logged, run_finished, run_plain, run_refused, run_missing, run_misses}

-- how many switches an answer says were made, and whether it says that they are all
abbrev pub switches_of : Result Progress Refusal → ℕ
switches_of (Err e) = 0
switches_of (Ok p) = p.switches

abbrev pub finished_of : Result Progress Refusal → Bool
finished_of (Err e) = false
finished_of (Ok p) = p.finished

finished_answer : (slots : ℕ) (strategy : LinearTransformationStrategy) (ds : List Diagonal) (n : ℕ) (e : Option Refusal) → finished_of (answered e (keyed_progress slots strategy ds n)) ≡ true → (e ≡ None) × (map_switches slots strategy ds ≤ n)
unfolding keyed_progress
finished_answer slots strategy ds n None f = (refl, leb-true _ n f)
finished_answer slots strategy ds n (Some e) f = absurd (true≢false (sym f))

-- a keyed run, of any arguments
module _ {slots count : ℕ} {pairs values input : List ℕ} {strategy : LinearTransformationStrategy} {held : List ℕ} {n : ℕ} {old new : Lent} {r : Result Progress Refusal} (k : KeyedRun slots count pairs values input strategy held n old new r) where
  -- its map, its plan's keys and number of switches, and the machine after so many of them
  abbrev pub map_of : List Diagonal
  map_of = view count pairs values

  abbrev pub keys_of : List ℕ
  keys_of = map_keys slots strategy map_of

  abbrev pub total : ℕ
  total = map_switches slots strategy map_of

  abbrev pub after : ℕ → State
  after switches = machine modulus slots strategy map_of input (lent_state old) switches

  -- the rotations of the first n switches of its plan
  abbrev pub rotations : List ℕ
  rotations = map rotation_of (take n (schedule slots strategy (offsets_of map_of)))

  -- no refusal applies; none before that of the keys
  abbrev pub Accepted : Type 0
  Accepted = keyed_refusal slots count pairs values input strategy held old ≡ None

  abbrev pub AcceptedSoFar : Type 0
  AcceptedSoFar = first_refusal (map_refusals slots count pairs values ++ (width_outside strategy, OutOfRange) ∷ (not (length input == slots), Length) ∷ []) ≡ None

  -- some key rotation of the plan isn't on the held list
  abbrev pub KeyMissing : Type 0
  KeyMissing = (key : ℕ) × ((among key keys_of ≡ true) × (among key held ≡ false))

  -- ---- it says key missing exactly if a key rotation of the plan isn't on the held list

  pub key_missing_exactly : AcceptedSoFar → (r ≡ Err Key → KeyMissing) × (KeyMissing → r ≡ Err Key)
  key_missing_exactly z = (run_missing k z, run_misses k z)

  -- ---- every lent word is that of the machine after n switches, or after all where n is more; refused, all is as it was

  pub record Words (st : State) : Type 0 where
    pub plan : new.plan ≡ in_front (map_plan slots strategy map_of) old.plan
    pub records : new.records ≡ in_front (plan_records slots strategy (offsets_of map_of)) old.records
    pub cache : new.cache ≡ st.cache
    pub nodes : new.nodes ≡ st.nodes
    pub log : new.log ≡ st.log
    pub out : new.out ≡ st.out

  pub every_word : Accepted → Words (after n)
  unfolding keyed_left
  every_word ok = let e = run_left k ok in record { plan = rw e; records = rw e; cache = rw e; nodes = rw e; log = rw e; out = rw e }

  pub every_word_made : Accepted → Words (after (min n total))
  every_word_made ok = rw (← machine_min modulus slots strategy map_of input (lent_state old) n) (every_word ok)

  pub no_word_refused : (Accepted → ⊥) → new ≡ old
  no_word_refused h = run_refused k h

  -- ---- it makes exactly min n total switches, says so, and the log has the rotation of each

  pub record Counted : Type 0 where
    pub switches : switches_of r ≡ min n total
    pub finished : finished_of r ≡ nat_le total n
    pub log : new.log ≡ in_front rotations old.log
    pub words : length rotations ≡ switches_of r
    pub logged : take (switches_of r) new.log ≡ rotations

  pub exact_count : Accepted → Counted
  unfolding keyed_progress
  exact_count ok =
      let s = ap switches_of (run_answer k ok) in
      let l = run_logged k ok in
      let c = rotations_count slots strategy (offsets_of map_of) n ∙ sym s in
      record { switches = s; finished = ap finished_of (run_answer k ok); log = l; words = c; logged = ap (take (switches_of r)) l ∙ front_words rotations old.log (switches_of r) c }

  -- it says finished exactly if it was accepted and made them all
  pub said_finished : finished_of r ≡ true → Accepted × (total ≤ n)
  said_finished f = finished_answer slots strategy map_of n (keyed_refusal slots count pairs values input strategy held old) (sym (ap finished_of k.answer) ∙ f)

  pub finished_exactly : Accepted → (finished_of r ≡ true → switches_of r ≡ total) × (switches_of r ≡ total → finished_of r ≡ true)
  finished_exactly ok =
      let c = exact_count ok in
      (λ f. c.switches ∙ min-eq_right (leb-true total n (sym c.finished ∙ f)), λ e. c.finished ∙ le-leb total n (omega (arith, c.switches, e)))

  -- ---- finished, out is the map's matrix times the input, and what the plain run gives by any strategy

  pub finished_is_product : Accepted → total ≤ n → new.out ≡ in_front (tabulate slots (product modulus slots map_of input)) old.out
  finished_is_product ok h = run_finished k ok h

  pub finished_is_matrix : Accepted → total ≤ n → (s : ℕ) → s < slots → slice_index new.out s ≡ dot modulus slots (matrix slots map_of s) input
  finished_is_matrix ok h s l = ap (λ (v : List ℕ). slice_index v s) (run_finished k ok h) ∙ product_slot (run_taken k ok) old.out s l

  pub finished_is_plain : Accepted → total ≤ n → {strategy' : LinearTransformationStrategy} {out out' : List ℕ} {e : Result Unit Refusal} → Evaluated slots count pairs values input strategy' out out' e → e ≡ Ok tt
      → (take slots new.out ≡ take slots out') × (out ≡ old.out → out' ≡ new.out)
  finished_is_plain ok h plain z = run_plain k ok h plain z

  -- ---- it rotates by held keys alone, and a finished run has used every key that it asked for

  pub held_keys_only : Accepted → Each (λ x. among x held ≡ true) rotations
  held_keys_only ok = rotations_held (run_taken k ok) n

  pub no_key_in_vain : total ≤ n → Each (λ key. among key rotations ≡ true) keys_of
  no_key_in_vain h = keys_made slots strategy (offsets_of map_of) n h

-- ---- with powers of two and no gap, at most b switches more than with a key for each rotation

pub few_switches : (slots count : ℕ) (pairs values : List ℕ) (width : ℕ) → map_refusal slots count pairs values ≡ None → 0 < width → NoGaps slots width (offsets_of (view count pairs values))
    → map_switches slots (BsgsPowersOfTwo width) (view count pairs values) ≤ map_switches slots (Bsgs width) (view count pairs values) + (plan_tree slots width (offsets_of (view count pairs values))).bits
few_switches slots count pairs values width e w gaps = map_few slots count pairs values width e w gaps

pub few_switches_made : {slots count width : ℕ} {pairs values input held : List ℕ} {n : ℕ} {old new : Lent} {r : Result Progress Refusal} (k : KeyedRun slots count pairs values input (BsgsPowersOfTwo width) held n old new r) → Accepted k → NoGaps slots width (offsets_of (map_of k))
    → switches_of r ≤ map_switches slots (Bsgs width) (map_of k) + (plan_tree slots width (offsets_of (map_of k))).bits
few_switches_made {slots} {count} {width} {pairs} {values} k ok gaps =
    omega (arith, (exact_count k ok).switches, few_switches slots count pairs values width (run_taken k ok).map_accepted (run_taken k ok).width gaps)

-- ---- what is switched depends on the stored offsets alone: not on a slot of the map or the input, nor on what is held

module _ {slots count count' : ℕ} {pairs pairs' values values' input input' : List ℕ} {strategy : LinearTransformationStrategy} {held held' : List ℕ} {n : ℕ} {old old' new new' : Lent} {r r' : Result Progress Refusal}
    (k : KeyedRun slots count pairs values input strategy held n old new r) (k' : KeyedRun slots count' pairs' values' input' strategy held' n old' new' r') where
  pub record SameSchedule : Type 0 where
    pub answers : r ≡ r'
    pub plan_words_fact : map_plan slots strategy (map_of k) ≡ map_plan slots strategy (map_of k')
    pub pair_records : plan_records slots strategy (offsets_of (map_of k)) ≡ plan_records slots strategy (offsets_of (map_of k'))
    pub log_words : rotations k ≡ rotations k'
    pub plan : old.plan ≡ old'.plan → new.plan ≡ new'.plan
    pub records : old.records ≡ old'.records → new.records ≡ new'.records
    pub log : old.log ≡ old'.log → new.log ≡ new'.log

  pub schedule_reads_no_slot : Accepted k → Accepted k' → offsets_of (map_of k) ≡ offsets_of (map_of k') → SameSchedule
  schedule_reads_no_slot a b e =
      record {
        answers = run_answer k a ∙ ap Ok (progress_alike slots strategy n (map_of k) (map_of k') e) ∙ sym (run_answer k' b);
        plan_words_fact = rw e;
        pair_records = rw e;
        log_words = rw e;
        plan = λ q. (every_word k a).plan ∙ rw (e, q) (sym (every_word k' b).plan);
        records = λ q. (every_word k a).records ∙ rw (e, q) (sym (every_word k' b).records);
        log = λ q. run_logged k a ∙ rw (e, q) (sym (run_logged k' b));
      }
