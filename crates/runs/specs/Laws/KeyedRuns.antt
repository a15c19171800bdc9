-- Laws of the keyed run: what an accepted one tells of its arguments, answers and leaves, and when it says key missing.
-- Assumes nothing.
use Rattle.std.specs.Prelude.{◌≡◌, ℕ, zero, suc, ◌+◌, ◌-◌, ◌*◌, ◌<◌, ◌≤◌, min, Bool, true, false, not, ◌⊎◌, List, [], ◌∷◌, ◌++◌, map, length, take, drop, ◌==◌, ◌≢◌, slice_index, None, Some, Result, Ok, Err, refl}
use Rattle.std.proofs.Common.{sym, ◌∙◌, inl, inr, arith, ltb-false, eqb-true, length-take, take_all, take_at}
use Rattle.std.proofs.Math.Path.{ap}
use Rattle.std.proofs.Math.Nat.{min-eq_left, min-eq_right}
use Rattle.std.proofs.lemmas.Bool.{not-false}
use Rattle.std.proofs.lemmas.List.{length-map}
use Rattle.ring.specs.Slots.{modulus}
use Rattle.ring.specs.Lists.{Each, among}
use Rattle.ring.specs.Vectors.{tabulate, in_front}
use Rattle.ring.specs.declared.refusal.Refusal.{Refusal}
use Rattle.ring.specs.declared.refusal.Refusal.TheVariants.{OutOfRange, Length, Key, Room}
use Rattle.ring.specs.Refusals.{pick, first_refusal, Range}
use Rattle.ring.specs.Answers.{answered}
use Rattle.ring.specs.Laws.Answers.{when_ok, when_refused}
use Rattle.ring.specs.Laws.Refusals.{on_accept_refused, on_accept_accepted, first_later, none_of_both, none_holds, inside}
use Rattle.ring.specs.Laws.Lists.{each_map}
use Rattle.ring.specs.Laws.Searches.{lt_or_ge}
use Rattle.ring.specs.Laws.Vectors.{length_tabulate, get_or_tabulate, in_front_new}
use Rattle.diagonals.specs.Maps.{Diagonal, offsets_of, FormedMap, view}
use Rattle.diagonals.specs.Products.{matrix, product, dot}
use Rattle.diagonals.specs.Calls.{map_refusals, map_refusal}
use Rattle.diagonals.specs.Laws.Matrices.{product_is_matrix}
use Rattle.diagonals.specs.Laws.Reading.{accepted_range, accepted_formed}
use Rattle.linear_transformation.specs.declared.LinearTransformationStrategy.{LinearTransformationStrategy}
use Rattle.linear_transformation.specs.declared.LinearTransformationStrategy.TheVariants.{Bsgs, BsgsPowersOfTwo, Direct}
use Rattle.linear_transformation.specs.Strategies.{width_outside}
use Rattle.linear_transformation.specs.Plans.{width_of}
use Rattle.linear_transformation.specs.Schedules.{plan_keys, plan_tree, plan_switches, NoGaps}
use Rattle.linear_transformation.specs.Stored.{is_missing}
use Rattle.linear_transformation.specs.Laws.Widths.{distinct_planned}
use Rattle.linear_transformation.specs.Laws.Switches.{switches_bound}
use Rattle.runs.specs.declared.keyed.Progress.{Progress}
use Rattle.runs.specs.Calls.{evaluate_refusal, Evaluated}
use Rattle.runs.specs.Plans.{map_babies, map_giants, map_keys, map_switches}
use Rattle.runs.specs.Switches.{rotation_of, schedule}
use Rattle.runs.specs.Machines.{State, machine}
use Rattle.runs.specs.Keyed.{Lent, lent_state, keyed_room, keyed_refusal, keyed_progress, keyed_left, KeyedRun}
use Rattle.runs.specs.Laws.Plans.{map_distinct}
use Rattle.runs.specs.Laws.PassSchedules.{schedule_count}
use Rattle.runs.specs.Laws.KeysUsed.{keys_are_used, missing_key, key_missing, held_alone}
use Rattle.runs.specs.Laws.Finished.{machine_last, machine_log, finished_product}

-- a width that is not outside is not 0
width_positive : (strategy : LinearTransformationStrategy) → width_outside strategy ≡ false → 0 < width_of strategy
width_positive (Bsgs width) e = (inside width e).0
width_positive (BsgsPowersOfTwo width) e = (inside width e).0
width_positive Direct e = omega arith

module _ (slots count : ℕ) (pairs values input : List ℕ) (strategy : LinearTransformationStrategy) where
  abbrev before_keys : List (Bool × Refusal)
  before_keys = map_refusals slots count pairs values ++ (width_outside strategy, OutOfRange) ∷ (not (length input == slots), Length) ∷ []

  -- none of the refusals before the keys applies: a missing key, and then the room, decide
  module _ (held : List ℕ) (lent : Lent) where
    then_keys : first_refusal (map_refusals slots count pairs values ++ (width_outside strategy, OutOfRange) ∷ (not (length input == slots), Length) ∷ []) ≡ None
        → keyed_refusal slots count pairs values input strategy held lent ≡ pick (is_missing held (map_keys slots strategy (view count pairs values))) Key (first_refusal (keyed_room slots strategy (view count pairs values) lent))
    then_keys z = first_later before_keys ((is_missing held (map_keys slots strategy (view count pairs values)), Key) ∷ keyed_room slots strategy (view count pairs values) lent) z

-- the room is refused by `Room` alone
all_room : (cs : List (Bool × Refusal)) → Each (λ c. c.1 ≡ Room) cs → first_refusal cs ≢ Some Key
all_room [] h e = cc
all_room (c ∷ cs) h e = by c.0 (all_room cs h.1) e
  where
    by : (b : Bool) → (first_refusal cs ≢ Some Key) → pick b c.1 (first_refusal cs) ≢ Some Key
    by true f e = let r = h.0 in cc
    by false f e = f e

only_keys : (b : Bool) (slots : ℕ) (strategy : LinearTransformationStrategy) (ds : List Diagonal) (lent : Lent) → pick b Key (first_refusal (keyed_room slots strategy ds lent)) ≡ Some Key → b ≡ true
only_keys true slots strategy ds lent e = refl
only_keys false slots strategy ds lent e = absurd (all_room (keyed_room slots strategy ds lent) (refl, (refl, (refl, (refl, (refl, (refl, tt)))))) e)

module _ (slots count : ℕ) (pairs values input : List ℕ) (strategy : LinearTransformationStrategy) (held : List ℕ) (lent : Lent) (n : ℕ)
    (z : first_refusal (map_refusals slots count pairs values ++ (width_outside strategy, OutOfRange) ∷ (not (length input == slots), Length) ∷ []) ≡ None) where
  -- where no refusal before the keys applies, the answer is `Key` exactly if a key is missing
  missing_answered : is_missing held (map_keys slots strategy (view count pairs values)) ≡ true
      → answered (keyed_refusal slots count pairs values input strategy held lent) (keyed_progress slots strategy (view count pairs values) n) ≡ Err Key
  missing_answered e = rw (then_keys slots count pairs values input strategy held lent z, e)

  answered_missing : answered (keyed_refusal slots count pairs values input strategy held lent) (keyed_progress slots strategy (view count pairs values) n) ≡ Err Key
      → is_missing held (map_keys slots strategy (view count pairs values)) ≡ true
  answered_missing e =
      only_keys (is_missing held (map_keys slots strategy (view count pairs values))) slots strategy (view count pairs values) lent
      (sym (then_keys slots count pairs values input strategy held lent z)
      ∙ when_refused (keyed_refusal slots count pairs values input strategy held lent) (keyed_progress slots strategy (view count pairs values) n) Key (sym e))

-- what no refusal tells
pub record RunTaken (slots count : ℕ) (pairs values input : List ℕ) (strategy : LinearTransformationStrategy) (held : List ℕ) (lent : Lent) : Type 0 where
  pub map_accepted : map_refusal slots count pairs values ≡ None
  pub range : Range slots
  pub formed : FormedMap slots (view count pairs values)
  pub width : 0 < width_of strategy
  pub whole : length input ≡ slots
  pub held_all : is_missing held (map_keys slots strategy (view count pairs values)) ≡ false
  pub cache_room : (length (map_babies slots strategy (view count pairs values)) - 1) * slots ≤ length lent.cache
  pub nodes_room : length (map_giants slots strategy (view count pairs values)) * slots ≤ length lent.nodes
  pub log_room : map_switches slots strategy (view count pairs values) ≤ length lent.log
  pub out_room : slots ≤ length lent.out

module _ (slots count : ℕ) (pairs values input : List ℕ) (strategy : LinearTransformationStrategy) (held : List ℕ) (lent : Lent) where
  abbrev behind_map : List (Bool × Refusal)
  behind_map =
      (width_outside strategy, OutOfRange)
      ∷ (not (length input == slots), Length)
      ∷ (is_missing held (map_keys slots strategy (view count pairs values)), Key)
      ∷ keyed_room slots strategy (view count pairs values) lent

  none_refused : keyed_refusal slots count pairs values input strategy held lent ≡ None → RunTaken slots count pairs values input strategy held lent
  none_refused ok =
      let both = none_of_both (map_refusals slots count pairs values) behind_map ok in
      let t = none_holds behind_map both.1 in
      let roomy = t.1.1.1 in
      record {
        map_accepted = both.0;
        range = accepted_range slots count pairs values both.0;
        formed = accepted_formed slots count pairs values both.0;
        width = width_positive strategy t.0;
        whole = eqb-true (length input) slots (not-false _ t.1.0);
        held_all = t.1.1.0;
        cache_room = ltb-false _ _ roomy.1.1.0;
        nodes_room = ltb-false _ _ roomy.1.1.1.0;
        log_room = ltb-false _ _ roomy.1.1.1.1.0;
        out_room = ltb-false _ _ roomy.1.1.1.1.1.0;
      }

-- ---- a vector in front of a buffer

pub front_words : (new old : List ℕ) (n : ℕ) → length new ≡ n → take n (in_front new old) ≡ new
unfolding in_front
front_words new old n e = take_at new (drop (length new) old) n e

module _ (n : ℕ) (f : ℕ → ℕ) (old : List ℕ) where
  front_taken : take n (in_front (tabulate n f) old) ≡ tabulate n f
  front_taken = front_words (tabulate n f) old n (length_tabulate n f)

  front_slot : (s : ℕ) → s < n → slice_index (in_front (tabulate n f) old) s ≡ f s
  front_slot s l = in_front_new (tabulate n f) old s 0 (rw (length_tabulate n f) l) ∙ get_or_tabulate n f s 0 l

-- ---- the rotations of the first n switches

each_first : {A : Type 0} (P : A → Type 0) (n : ℕ) (xs : List A) → Each P xs → Each P (take n xs)
each_first P zero xs h = tt
each_first P (suc n) [] h = tt
each_first P (suc n) (x ∷ xs) h = (h.0, each_first P n xs h.1)

module _ (slots : ℕ) (strategy : LinearTransformationStrategy) (ks : List ℕ) (n : ℕ) where
  pub rotations_count : length (map rotation_of (take n (schedule slots strategy ks))) ≡ min n (plan_switches slots strategy ks)
  rotations_count =
      let ws = schedule slots strategy ks in
      length-map (take n ws) rotation_of ∙ length-take n ws ∙ ap (min n) (schedule_count slots strategy ks)

  -- all of them: each key is used
  pub keys_made : plan_switches slots strategy ks ≤ n → Each (λ x. among x (map rotation_of (take n (schedule slots strategy ks))) ≡ true) (plan_keys slots strategy ks)
  keys_made h = rw (take_all n (schedule slots strategy ks) (rw (schedule_count slots strategy ks) h)) (keys_are_used slots strategy ks)

-- what an accepted run tells knows the offsets alone
pub progress_alike : (slots : ℕ) (strategy : LinearTransformationStrategy) (n : ℕ) (ds es : List Diagonal) → offsets_of ds ≡ offsets_of es → keyed_progress slots strategy ds n ≡ keyed_progress slots strategy es n
unfolding keyed_progress
progress_alike slots strategy n ds es e =
    let l : length ds ≡ length es = sym (length-map ds (λ (d : Diagonal). d.offset)) ∙ ap length e ∙ length-map es (λ (d : Diagonal). d.offset) in
    rw (e, l)

-- of an accepted map: with powers of two and no gap at most b switches more
pub map_few : (slots count : ℕ) (pairs values : List ℕ) (width : ℕ) → map_refusal slots count pairs values ≡ None → 0 < width → NoGaps slots width (offsets_of (view count pairs values))
    → map_switches slots (BsgsPowersOfTwo width) (view count pairs values) ≤ map_switches slots (Bsgs width) (view count pairs values) + (plan_tree slots width (offsets_of (view count pairs values))).bits
map_few slots count pairs values width e w gaps =
    switches_bound (distinct_planned (map_distinct slots (accepted_range slots count pairs values e).low (view count pairs values) (accepted_formed slots count pairs values e)) width w) gaps

-- ---- the machine of such a run

module _ {slots count : ℕ} {pairs values input : List ℕ} {strategy : LinearTransformationStrategy} {held : List ℕ} {lent : Lent} (t : RunTaken slots count pairs values input strategy held lent) where
  abbrev ds : List Diagonal
  ds = view count pairs values

  -- the log has the rotations of the first n switches in front
  run_log : (n : ℕ) → (machine modulus slots strategy (view count pairs values) input (lent_state lent) n).log ≡ in_front (map rotation_of (take n (schedule slots strategy (offsets_of (view count pairs values))))) lent.log
  run_log n = machine_log modulus slots strategy ds input (lent_state lent) n refl (rw (schedule_count slots strategy (offsets_of ds)) t.log_room)

  -- the answer of a finished run is the product
  run_product : (n : ℕ) → map_switches slots strategy (view count pairs values) ≤ n → (machine modulus slots strategy (view count pairs values) input (lent_state lent) n).out ≡ in_front (tabulate slots (product modulus slots (view count pairs values) input)) lent.out
  run_product n h =
      finished_product modulus slots strategy ds t.formed t.range.low t.range.high t.width input t.whole (lent_state lent) t.cache_room t.nodes_room n
      (rw (schedule_count slots strategy (offsets_of ds)) h)

  pub product_slot : (old : List ℕ) (s : ℕ) → s < slots → slice_index (in_front (tabulate slots (product modulus slots (view count pairs values) input)) old) s ≡ dot modulus slots (matrix slots (view count pairs values) s) input
  product_slot old s l = front_slot slots (product modulus slots ds input) old s l ∙ product_is_matrix modulus slots s input l ds t.formed

  -- every switch rotates by a held key
  pub rotations_held : (n : ℕ) → Each (λ x. among x held ≡ true) (map rotation_of (take n (schedule slots strategy (offsets_of (view count pairs values)))))
  rotations_held n =
      let ws = schedule slots strategy (offsets_of ds) in
      each_map (λ x. among x held ≡ true) rotation_of (take n ws) (each_first (λ w. among (rotation_of w) held ≡ true) n ws (held_alone held slots strategy (offsets_of ds) t.held_all))

-- the machine after n switches is that after as many of them as there are
pub machine_min : (m slots : ℕ) (strategy : LinearTransformationStrategy) (ds : List Diagonal) (input : List ℕ) (lent : State) (n : ℕ)
    → machine m slots strategy ds input lent n ≡ machine m slots strategy ds input lent (min n (map_switches slots strategy ds))
machine_min m slots strategy ds input lent n = by (lt_or_ge n (map_switches slots strategy ds))
  where
    by : (n < map_switches slots strategy ds) ⊎ (map_switches slots strategy ds ≤ n) → machine m slots strategy ds input lent n ≡ machine m slots strategy ds input lent (min n (map_switches slots strategy ds))
    by (inl h) = let e : min n (map_switches slots strategy ds) ≡ n = min-eq_left (omega arith) in rw e
    by (inr h) =
        let c = schedule_count slots strategy (offsets_of ds) in
        let e : min n (map_switches slots strategy ds) ≡ map_switches slots strategy ds = min-eq_right (omega arith) in
        rw e (rw c at (machine_last m slots strategy ds input lent n (rw c h)))

-- ---- the call

module _ {slots count : ℕ} {pairs values input : List ℕ} {strategy : LinearTransformationStrategy} {held : List ℕ} {n : ℕ} {old new : Lent} {r : Result Progress Refusal} (k : KeyedRun slots count pairs values input strategy held n old new r) where
  module _ (ok : keyed_refusal slots count pairs values input strategy held old ≡ None) where
    -- an accepted one: what its arguments are, what it answers and what it leaves
    pub run_taken : RunTaken slots count pairs values input strategy held old
    run_taken = none_refused slots count pairs values input strategy held old ok

    pub run_answer : r ≡ Ok (keyed_progress slots strategy (view count pairs values) n)
    run_answer = k.answer ∙ rw ok

    pub run_left : new ≡ keyed_left slots strategy (view count pairs values) input old n
    run_left = k.words ∙ on_accept_accepted _ _ _ ok

    pub run_logged : new.log ≡ in_front (map rotation_of (take n (schedule slots strategy (offsets_of (view count pairs values))))) old.log
    unfolding keyed_left
    run_logged = ap (λ (l : Lent). l.log) run_left ∙ run_log run_taken n

    pub run_finished : map_switches slots strategy (view count pairs values) ≤ n → new.out ≡ in_front (tabulate slots (product modulus slots (view count pairs values) input)) old.out
    unfolding keyed_left
    run_finished h = ap (λ (l : Lent). l.out) run_left ∙ run_product run_taken n h

    -- the plain run of the same map and input, by any strategy
    pub run_plain : map_switches slots strategy (view count pairs values) ≤ n → {strategy' : LinearTransformationStrategy} {out out' : List ℕ} {e : Result Unit Refusal} → Evaluated slots count pairs values input strategy' out out' e → e ≡ Ok tt
        → (take slots new.out ≡ take slots out') × (out ≡ old.out → out' ≡ new.out)
    run_plain h {strategy'} {out} {out'} plain z =
        let a = run_finished h in
        let refusal = evaluate_refusal slots count pairs values input strategy' out in
        let b = plain.out ∙ on_accept_accepted refusal _ _ (when_ok refusal tt tt (sym z ∙ plain.answer)).0 in
        let f = product modulus slots (view count pairs values) input in
        (ap (take slots) a ∙ front_taken slots f old.out ∙ sym (ap (take slots) b ∙ front_taken slots f out), λ q. b ∙ ap (in_front (tabulate slots f)) q ∙ sym a)

  -- a refused one leaves all as it was
  pub run_refused : (keyed_refusal slots count pairs values input strategy held old ≢ None) → new ≡ old
  run_refused h = k.words ∙ on_accept_refused _ _ _ h

  -- the answer `Key`
  pub run_missing : first_refusal (map_refusals slots count pairs values ++ (width_outside strategy, OutOfRange) ∷ (not (length input == slots), Length) ∷ []) ≡ None → r ≡ Err Key
      → (key : ℕ) × ((among key (map_keys slots strategy (view count pairs values)) ≡ true) × (among key held ≡ false))
  run_missing z e = missing_key held (map_keys slots strategy (view count pairs values)) (answered_missing slots count pairs values input strategy held old n z (sym k.answer ∙ e))

  pub run_misses : first_refusal (map_refusals slots count pairs values ++ (width_outside strategy, OutOfRange) ∷ (not (length input == slots), Length) ∷ []) ≡ None
      → (key : ℕ) × ((among key (map_keys slots strategy (view count pairs values)) ≡ true) × (among key held ≡ false)) → r ≡ Err Key
  run_misses z m = k.answer ∙ missing_answered slots count pairs values input strategy held old n z (key_missing held (map_keys slots strategy (view count pairs values)) m.0 m.1.0 m.1.1)
