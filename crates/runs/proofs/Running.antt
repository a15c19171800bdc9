-- The run by a plan that is written: what its parts ask follows from the plan, and what they leave is the machine's.
-- Assumes nothing.
use Rattle.std.proofs.Common.{◌≡◌, ℕ, zero, suc, ◌+◌, ◌-◌, ◌*◌, ◌<◌, ◌≤◌, min, List, [], ◌∷◌, ◌++◌, map, length, get_or, get_or-take, take, drop, sym, ap, ◌∙◌, arith, length-take-le, take_all, le-ltb, lt-ltb}
use native.Mathlib.Decide.{dec_lt}
use Rattle.ring.specs.Slots.{modulus}
use Rattle.ring.specs.Lists.{join}
use Rattle.ring.specs.Refusals.{Range}
use Rattle.ring.specs.Vectors.{tabulate, in_front, put_at}
use Rattle.ring.specs.Laws.Vectors.{tabulate_cong}
use Rattle.diagonals.specs.declared.map.Map.{Map}
use Rattle.linear_transformation.specs.declared.LinearTransformationStrategy.{LinearTransformationStrategy}
use Rattle.linear_transformation.specs.Plans.{Distinct, Planned, width_of, plan_pairs}
use Rattle.linear_transformation.specs.Closures.{nonzeros}
use Rattle.linear_transformation.specs.Schedules.{plan_babies, plan_giants, plan_words, plan_switches}
use Rattle.std.specs.Prelude.{Option, None, Some}
use Rattle.runs.specs.declared.run.Run.{Run}
use Rattle.runs.specs.declared.surveying.Parts.{Parts}
use Rattle.runs.specs.declared.surveying.Powers.{Powers}
use Rattle.runs.specs.declared.surveying.Words.{Words}
use Rattle.linear_transformation.specs.Laws.Plans.{width_positive, words_length}
use Rattle.linear_transformation.specs.Laws.Runs.{planned_length, giants_few}
use Rattle.runs.specs.declared.surveying.Survey.{Survey}
use Rattle.runs.specs.Switches.{Switch, rotation_of, baby_schedule, giant_schedule}
use Rattle.runs.specs.Machines.{answer_of}
use Rattle.runs.specs.Laws.Answers.{length_answer}
use Rattle.runs.specs.Laws.Caches.{cache_room}
use Rattle.runs.specs.Laws.NodeRuns.{map_planned}
use Rattle.runs.specs.Laws.PassSchedules.{baby_count, giant_count}
use Rattle.runs.specs.Laws.PlanWords.{babies_read, giants_read, pairs_read}
use Rattle.runs.specs.Laws.Schedules.{plan_babies_front, plan_babies_rise, plan_babies_low}
use Rattle.runs.specs.Steps.Nodes.{NodesAsked, NodesMade}
use Rattle.runs.specs.Steps.Surveys.{offsets_in, powers_of, takes, cut_at, Cut, Sized}
use Rattle.runs.specs.Steps.Runs.{answer_by, PlanWritten, RunAsked, nodes_in, first_turns, NodesTurned, turned_nodes, GiantsLeft}
use Rattle.runs.proofs.Entries.{map_range, map_formed, map_few}
use Rattle.runs.proofs.FromNodes.{nodes_of, nodes_made}
use Rattle.runs.proofs.FromGiants as Own
use Rattle.runs.proofs.FromPairs as Pairs
use Rattle.runs.proofs.NodeTurning.{no_powers, some_powers, Turning}

-- ---- sizes

-- the numbers of an accepted map's plan
pub sized : (m : Map) (strategy : LinearTransformationStrategy) {survey : Survey} → survey ≡ takes m.slots strategy (offsets_in m) m.count → Sized survey m.slots
unfolding takes
sized m strategy e =
    let ks = offsets_in m in
    let r = map_range m in
    let bs : Planned m.slots 1 (plan_babies m.slots strategy ks) = record { rises = plan_babies_rise m.slots strategy ks; low = plan_babies_low m.slots strategy ks; positive = omega arith } in
    rw e
    (record {
      slots_low = r.high;
      some = omega (arith, ap length (plan_babies_front m.slots r.high r.low strategy ks));
      babies_low = omega (arith, planned_length bs, r.high);
      giants_low = omega (arith, giants_few m.slots (width_of strategy) ks, r.high);
      diagonals_low = map_few m;
    })

-- the first n, or all where there are fewer
pub take_least : {A : Type 0} (xs : List A) (n k : ℕ) → k ≡ min n (length xs) → take k xs ≡ take n xs
take_least xs n k e = by (dec_lt n (length xs))
  where
    by : Dec (n < length xs) → take k xs ≡ take n xs
    by (yes l) = ap (λ (x : ℕ). take x xs) (let q : k ≡ n = omega arith in q)
    by (no l) = take_all k xs (omega arith) ∙ sym (take_all n xs (omega arith))

-- the buffers that were lent, with other words
abbrev pub holding : Words → List ℕ → List ℕ → List ℕ → List ℕ → List ℕ → Words
holding w plan cache nodes log out =
    record {
      plan = record { ref_ptr = w.plan.ref_ptr; ghost_name = w.plan.ghost_name; now = plan };
      cache = record { ref_ptr = w.cache.ref_ptr; ghost_name = w.cache.ghost_name; now = cache };
      nodes = record { ref_ptr = w.nodes.ref_ptr; ghost_name = w.nodes.ghost_name; now = nodes };
      log = record { ref_ptr = w.log.ref_ptr; ghost_name = w.log.ghost_name; now = log };
      out = record { ref_ptr = w.out.ref_ptr; ghost_name = w.out.ghost_name; now = out };
    }

-- as many words as before, with the same plan
pub same_asked : {r : Run} {w : Words} → RunAsked r w → {cache nodes log : List ℕ} → length cache ≡ length w.cache.now → length nodes ≡ length w.nodes.now → length log ≡ length w.log.now → RunAsked r (holding w w.plan.now cache nodes log w.out.now)
same_asked a c n l =
    let d = a.written in
    record {
      written = record { old_plan = d.old_plan; plan_is = d.plan_is; plan_room = d.plan_room; cache_room = rw c d.cache_room; nodes_room = rw n d.nodes_room };
      log_room = rw l a.log_room;
      out_room = a.out_room;
    }

module _ {r : Run} {plan cache nodes : List ℕ} (d : PlanWritten r plan cache nodes) where
  abbrev m : Map
  m = r.asked.map

  abbrev slots : ℕ
  slots = r.asked.map.slots

  abbrev strategy : LinearTransformationStrategy
  strategy = r.asked.strategy

  abbrev survey : Survey
  survey = r.survey

  abbrev input : List ℕ
  input = r.asked.input.now

  abbrev ks : List ℕ
  ks = offsets_in r.asked.map

  pub range : Range slots
  range = map_range m

  wide : 0 < width_of strategy
  wide = width_positive strategy r.width

  pub planned : Planned slots (width_of strategy) ks
  planned = map_planned (map_formed m) range.low strategy wide

  pub distinct : Distinct slots ks
  distinct = record { rises = planned.rises; low = planned.low }

  -- ---- the numbers

  pub babies_are : survey.babies ≡ length (plan_babies slots strategy ks)
  unfolding takes
  babies_are = ap (λ (s : Survey). s.babies) r.survey_is

  pub giants_are : survey.giants ≡ length (plan_giants slots strategy ks)
  unfolding takes
  giants_are = ap (λ (s : Survey). s.giants) r.survey_is

  switches_are : survey.switches ≡ plan_switches slots strategy ks
  unfolding takes
  switches_are = ap (λ (s : Survey). s.switches) r.survey_is

  pub powers_are : survey.powers ≡ powers_of slots strategy ks
  unfolding takes
  powers_are = ap (λ (s : Survey). s.powers) r.survey_is

  own_are : survey.babies - 1 ≡ length (nonzeros (plan_babies slots strategy ks))
  own_are = ap (λ (x : ℕ). x - 1) babies_are ∙ cache_room slots range.low range.high strategy ks

  pub own_switches : survey.babies - 1 ≡ length (baby_schedule slots strategy ks)
  own_switches = own_are ∙ sym (baby_count slots strategy ks)

  pub all_switches : survey.switches ≡ survey.babies - 1 + length (giant_schedule slots strategy ks)
  unfolding plan_switches
  all_switches = omega (arith, switches_are, own_are, giant_count slots strategy ks)

  pub turns_told : {own : ℕ} → own ≡ survey.babies - 1 → survey.switches - own ≡ length (giant_schedule slots strategy ks)
  turns_told e = omega (arith, all_switches)

  pub some_baby : 1 ≤ survey.babies
  some_baby = omega (arith, babies_are, ap length (plan_babies_front slots range.high range.low strategy ks))

  pub own_low : survey.babies - 1 ≤ survey.switches
  own_low = omega (arith, all_switches)

  pub sizes : Sized survey slots
  sizes = sized m strategy r.survey_is

  -- ---- the plan's words

  words_many : length (plan_words slots strategy ks) ≡ length (plan_babies slots strategy ks) + 3 * length (plan_giants slots strategy ks) + length ks
  unfolding plan_words
  words_many = words_length planned (plan_babies slots strategy ks)

  pub plan_parts : survey.babies + 3 * survey.giants ≤ length plan
  plan_parts = omega (arith, babies_are, giants_are, d.plan_room, words_many)

  module _ {p : Parts} (q : Cut survey plan p) where
    pub babies_cut : p.babies.now ≡ plan_babies slots strategy ks
    babies_cut = q.babies_are ∙ ap (λ (x : ℕ). take x plan) babies_are ∙ babies_read slots strategy ks plan d.old_plan d.plan_is

    pub giants_cut : p.giants.now ≡ plan_giants slots strategy ks
    giants_cut =
        let e : take survey.giants (drop survey.babies plan) ≡ take (length (plan_giants slots strategy ks)) (drop (length (plan_babies slots strategy ks)) plan) = cc (babies_are, giants_are) in
        q.giants_are ∙ e ∙ giants_read slots strategy ks plan d.old_plan d.plan_is

    cuts_cut : p.cuts.now ≡ tabulate (length (plan_giants slots strategy ks)) (cut_at (join (λ c. c.0 ∷ c.1 ∷ []) (plan_pairs slots (width_of strategy) ks)))
    cuts_cut =
        let e : tabulate survey.giants (cut_at (drop (survey.babies + survey.giants) plan)) ≡ tabulate (length (plan_giants slots strategy ks)) (cut_at (drop (length (plan_babies slots strategy ks) + length (plan_giants slots strategy ks)) plan)) = cc (babies_are, giants_are) in
        q.cuts_are ∙ e ∙ tabulate_cong (length (plan_giants slots strategy ks)) _ _ same
      where
        word : (j : ℕ) → j < 2 * length (plan_giants slots strategy ks) → get_or (drop (length (plan_babies slots strategy ks) + length (plan_giants slots strategy ks)) plan) j 0 ≡ get_or (join (λ c. c.0 ∷ c.1 ∷ []) (plan_pairs slots (width_of strategy) ks)) j 0
        word j h = sym (get_or-take (2 * length (plan_giants slots strategy ks)) _ j 0 h) ∙ ap (λ (x : List ℕ). get_or x j 0) (pairs_read slots strategy ks plan d.old_plan d.plan_is)

        same : (i : ℕ) → i < length (plan_giants slots strategy ks) → cut_at (drop (length (plan_babies slots strategy ks) + length (plan_giants slots strategy ks)) plan) i ≡ cut_at (join (λ c. c.0 ∷ c.1 ∷ []) (plan_pairs slots (width_of strategy) ks)) i
        same i l = cc (word (2 * i) (omega arith), word (2 * i + 1) (omega arith))

  -- ---- the nodes

  pub plan_cached : (length (plan_babies slots strategy ks) - 1) * slots ≤ length cache
  plan_cached = rw (← babies_are) d.cache_room

  pub roomy : length (plan_giants slots strategy ks) * slots ≤ length nodes
  roomy = rw (← giants_are) d.nodes_room

  module _ {p : Parts} (q : Cut survey plan p) where
    pub nodes_asked : NodesAsked p.babies.now p.giants.now p.cuts.now m.count m.pairs.now input cache nodes
    nodes_asked = nodes_of (map_formed m) range strategy r.width input r.whole plan_cached roomy (babies_cut q) (giants_cut q) (cuts_cut q)

    pub nodes_are : {made : List ℕ} → NodesMade p.babies.now p.giants.now p.cuts.now m.pairs.now m.values.now input cache nodes made → made ≡ nodes_in r cache nodes
    nodes_are k = nodes_made (map_formed m) range strategy r.width input r.whole (babies_cut q) (giants_cut q) (cuts_cut q) cache k

-- ---- the giant switches

module _ {r : Run} {w : Words} (a : RunAsked r w) where
  abbrev all_slots : ℕ
  all_slots = r.asked.map.slots

  abbrev all_offsets : List ℕ
  all_offsets = offsets_in r.asked.map

  abbrev turns : List Switch
  turns = giant_schedule all_slots r.asked.strategy all_offsets

  abbrev own : ℕ
  own = r.survey.babies - 1

  pub turning_asked : {p : Parts} → Cut r.survey w.plan.now p → {made : ℕ} → own + made ≤ r.survey.switches → Turning r.asked.strategy made all_slots all_offsets p.giants.now w.nodes.now
  turning_asked q l =
      let d = a.written in
      record {
        range = range d;
        width = r.width;
        distinct = distinct d;
        giants_are = giants_cut d q;
        few = omega (arith, all_switches d);
        room = rw (giants_cut d q) (roomy d);
      }

  module _ {made : List ℕ} (k : made ≡ nodes_in r w.cache.now w.nodes.now) (len : length made ≡ length w.nodes.now) (n : ℕ) (from : own ≤ n) {turned : ℕ} (e : turned ≡ min n r.survey.switches - own) {w₁ : Words} (t : NodesTurned r turned (holding w w.plan.now w.cache.now made w.log.now w.out.now) w₁) where
    scheduled : first_turns r turned ≡ first_turns r (n - own)
    scheduled = take_least turns (n - own) turned (omega (arith, all_switches a.written))

    turned_are : w₁.nodes.now ≡ turned_nodes r n w.cache.now w.nodes.now
    turned_are = t.turned ∙ rw (scheduled, k)

    log_is : w₁.log.now ≡ put_at own (map rotation_of (first_turns r (n - own))) w.log.now
    log_is = t.logs ∙ rw scheduled

    -- not finished
    pub unfinished : n < r.survey.switches → GiantsLeft r n w w₁
    unfinished l =
        record {
          plan_is = t.plan_is;
          cache_is = t.cache_is;
          nodes_are = turned_are;
          log_is = log_is;
          out_is = t.out_is ∙ sym (rw (lt-ltb n r.survey.switches l));
        }

    -- ---- the answer

    abbrev answer : List ℕ
    answer = answer_of modulus all_slots r.asked.strategy all_offsets w₁.nodes.now

    front : length (take all_slots w₁.out.now) ≡ all_slots
    front = length-take-le all_slots w₁.out.now (rw t.out_is a.out_room)

    answer_by_lem : (powers : Option Powers) (giants : ℕ) → powers ≡ powers_of all_slots r.asked.strategy all_offsets → giants ≡ length (plan_giants all_slots r.asked.strategy all_offsets) → answer_by powers giants w₁.nodes.now all_slots ≡ answer
    answer_by_lem None g x y = rw y (sym (Own.answer_own modulus all_slots r.asked.strategy all_offsets w₁.nodes.now (no_powers all_slots r.asked.strategy all_offsets (sym x))))
    answer_by_lem (Some p) zero x y = sym (Pairs.answer_none all_slots r.asked.strategy all_offsets (some_powers all_slots r.asked.strategy all_offsets p (sym x)).0 modulus w₁.nodes.now (sym y))
    answer_by_lem (Some p) (suc g) x y = sym (Pairs.answer_some all_slots r.asked.strategy all_offsets (some_powers all_slots r.asked.strategy all_offsets p (sym x)).0 r.width (distinct a.written) modulus w₁.nodes.now (omega (arith, y)))

    -- finished, with words of which the out alone is another
    pub finished : r.survey.switches ≤ n → {ys : List ℕ} → ys ≡ answer_by r.survey.powers r.survey.giants w₁.nodes.now (length (take all_slots w₁.out.now)) → GiantsLeft r n w (holding w₁ w₁.plan.now w₁.cache.now w₁.nodes.now w₁.log.now (ys ++ drop all_slots w₁.out.now))
    unfolding in_front
    finished l {ys} x =
        let d = a.written in
        let is : ys ≡ answer = x ∙ rw front (answer_by_lem r.survey.powers r.survey.giants (powers_are d) (giants_are d)) in
        let long : length w₁.nodes.now ≡ length w.nodes.now = t.len ∙ len in
        let many : length answer ≡ all_slots = length_answer modulus all_slots r.asked.strategy all_offsets (planned d) w₁.nodes.now (omega (arith, roomy d, long)) in
        record {
          plan_is = t.plan_is;
          cache_is = t.cache_is;
          nodes_are = turned_are;
          log_is = log_is;
          out_is = rw (le-ltb n r.survey.switches l, is, many, t.out_is);
        }
