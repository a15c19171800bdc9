-- The whole run: its baby switches alone, or with all that follows them, leave what the machine leaves after n switches.
-- Assumes nothing.
use Rattle.std.proofs.Common.{◌≡◌, ℕ, ◌+◌, ◌-◌, ◌<◌, ◌≤◌, min, Bool, true, false, cond, ltb, List, ◌++◌, map, length, take, sym, refl, ap, subst, ◌∙◌, arith, length-append, take_all, le-ltb, lt-ltb}
use mathlib.Core.List.{map-append}
use lib.ListN.{length-map}
use lib.Seq.{take-append-add, take-append-le}
use Rattle.ring.specs.Slots.{modulus}
use Rattle.ring.specs.Laws.Lists.{each_take}
use Rattle.ring.specs.Vectors.{in_front, put_at}
use Rattle.diagonals.specs.Maps.{Diagonal, offsets_of}
use Rattle.linear_transformation.specs.declared.LinearTransformationStrategy.{LinearTransformationStrategy}
use Rattle.linear_transformation.specs.Closures.{nonzeros}
use Rattle.linear_transformation.specs.Schedules.{plan_babies}
use Rattle.runs.specs.declared.run.Run.{Run}
use Rattle.runs.specs.declared.surveying.Parts.{Parts}
use Rattle.runs.specs.declared.surveying.Survey.{Survey}
use Rattle.runs.specs.declared.surveying.Words.{Words}
use Rattle.runs.specs.Switches.{Switch, rotation_of, baby_schedule, giant_schedule, schedule}
use Rattle.runs.specs.Machines.{State, switched_all, node_words, answer_of, with_nodes, with_answer, machine}
use Rattle.runs.specs.Laws.Switching.{OfCache, OfNodes, babies_leave, giants_leave, switches_out, babies_of_cache, giants_of_nodes}
use Rattle.runs.specs.Laws.Folds.{cache_by_lem, nodes_by_lem}
use Rattle.runs.specs.Laws.Finished.{machine_log}
use Rattle.runs.specs.Laws.PassSchedules.{baby_count}
use Rattle.ring.specs.Vectors.{tabulate}
use Rattle.std.specs.Prelude.{Option}
use Rattle.runs.specs.declared.surveying.Powers.{Powers}
use Rattle.runs.specs.Laws.PassSchedules.{making}
use Rattle.runs.specs.Steps.Keyed.{cache_by, nodes_by, turn_by, Caching, BabiesMade}
use Rattle.runs.specs.Steps.Surveys.{stored_in, powers_of, Cut}
use Rattle.runs.specs.Steps.Runs.{RunAsked, GiantsLeft}
use Rattle.runs.proofs.Entries.{map_range}
use Rattle.runs.proofs.FromBabies.{caching_of, babies_by, babies_logged}
use Rattle.ring.specs.Laws.Places.{put_both}
use Rattle.runs.proofs.Running.{holding, take_least, plan_cached, powers_are, own_switches, all_switches, babies_cut}

-- ---- the machine's parts

module _ (m slots : ℕ) (strategy : LinearTransformationStrategy) (ds : List Diagonal) (input : List ℕ) (lent : State) (n : ℕ) where
  abbrev babies : List Switch
  babies = baby_schedule slots strategy (offsets_of ds)

  abbrev giants : List Switch
  giants = giant_schedule slots strategy (offsets_of ds)

  abbrev cached : State
  cached = switched_all m slots input lent (take n babies)

  abbrev turned : State
  turned = switched_all m slots input (with_nodes m slots strategy ds input cached) (take (n - length babies) giants)

  -- before the last baby switch
  early : n < length babies → machine m slots strategy ds input lent n ≡ cached
  unfolding machine
  early l = rw (lt-ltb n (length babies) l)

  cached_nodes : cached.nodes ≡ lent.nodes
  cached_nodes = babies_leave m slots input lent (take n babies) (each_take OfCache n babies (babies_of_cache slots strategy (offsets_of ds)))

  cached_cache : cached.cache ≡ cache_by slots input lent.cache (take n babies)
  cached_cache = cache_by_lem m slots input lent (take n babies)

  cached_out : cached.out ≡ lent.out
  cached_out = switches_out m slots input lent (take n babies)

  -- from it on
  late : length babies ≤ n → machine m slots strategy ds input lent n ≡ cond (ltb n (length babies + length giants)) turned (with_answer m slots strategy ds turned)
  unfolding machine
  late l = rw (le-ltb n (length babies) l)

  turned_cache : turned.cache ≡ cache_by slots input lent.cache (take n babies)
  unfolding with_nodes
  turned_cache = giants_leave m slots input (with_nodes m slots strategy ds input cached) (take (n - length babies) giants) (each_take OfNodes (n - length babies) giants (giants_of_nodes slots strategy (offsets_of ds))) ∙ cached_cache

  turned_nodes_lem : turned.nodes ≡ nodes_by m slots (in_front (node_words m slots strategy ds input (cache_by slots input lent.cache (take n babies))) lent.nodes) (take (n - length babies) giants)
  unfolding with_nodes
  turned_nodes_lem = nodes_by_lem m slots input (with_nodes m slots strategy ds input cached) (take (n - length babies) giants) ∙ rw (cached_nodes, cached_cache)

  turned_out : turned.out ≡ lent.out
  unfolding with_nodes
  turned_out = switches_out m slots input (with_nodes m slots strategy ds input cached) (take (n - length babies) giants) ∙ cached_out

  late_cache : length babies ≤ n → (machine m slots strategy ds input lent n).cache ≡ cache_by slots input lent.cache (take n babies)
  unfolding with_answer
  late_cache l = ap (λ (s : State). s.cache) (late l) ∙ by (ltb n (length babies + length giants))
    where
      by : (b : Bool) → (cond b turned (with_answer m slots strategy ds turned)).cache ≡ cache_by slots input lent.cache (take n babies)
      by true = turned_cache
      by false = turned_cache

  late_nodes : length babies ≤ n → (machine m slots strategy ds input lent n).nodes ≡ turned.nodes
  unfolding with_answer
  late_nodes l = ap (λ (s : State). s.nodes) (late l) ∙ by (ltb n (length babies + length giants))
    where
      by : (b : Bool) → (cond b turned (with_answer m slots strategy ds turned)).nodes ≡ turned.nodes
      by true = refl
      by false = refl

  late_out : length babies ≤ n → (machine m slots strategy ds input lent n).out ≡ cond (ltb n (length babies + length giants)) lent.out (in_front (answer_of m slots strategy (offsets_of ds) turned.nodes) lent.out)
  unfolding with_answer
  late_out l = ap (λ (s : State). s.out) (late l) ∙ by (ltb n (length babies + length giants))
    where
      by : (b : Bool) → (cond b turned (with_answer m slots strategy ds turned)).out ≡ cond b lent.out (in_front (answer_of m slots strategy (offsets_of ds) turned.nodes) lent.out)
      by true = turned_out
      by false = rw turned_out

-- words behind those in front
front_put : (xs ys old : List ℕ) (n : ℕ) → n ≡ length xs → put_at n ys (in_front xs old) ≡ in_front (xs ++ ys) old
unfolding put_at
front_put xs ys old n e = put_both 0 n xs ys old (omega arith) (omega (arith, e))

-- ---- the run

-- the machine after n switches, from the lent words on
abbrev pub state_of : Words → State
state_of w = record { cache = w.cache.now; nodes = w.nodes.now; log = w.log.now; out = w.out.now; made = 0 }

abbrev pub left_by : Run → ℕ → Words → State
left_by r n w = machine modulus r.asked.map.slots r.asked.strategy (stored_in r.asked.map) r.asked.input.now (state_of w) n

pub record RunLeft (r : Run) (n : ℕ) (old new : Words) : Type 0 where
  pub plan_is : new.plan.now ≡ old.plan.now
  pub cache_is : new.cache.now ≡ (left_by r n old).cache
  pub nodes_are : new.nodes.now ≡ (left_by r n old).nodes
  pub log_is : new.log.now ≡ (left_by r n old).log
  pub out_is : new.out.now ≡ (left_by r n old).out

module _ {r : Run} {w : Words} (a : RunAsked r w) where
  abbrev slots : ℕ
  slots = r.asked.map.slots

  abbrev strategy : LinearTransformationStrategy
  strategy = r.asked.strategy

  abbrev survey : Survey
  survey = r.survey

  abbrev input : List ℕ
  input = r.asked.input.now

  abbrev map_is : List Diagonal
  map_is = stored_in r.asked.map

  abbrev all_babies : List Switch
  all_babies = baby_schedule slots strategy (offsets_of map_is)

  abbrev all_giants : List Switch
  all_giants = giant_schedule slots strategy (offsets_of map_is)

  abbrev state : State
  state = state_of w

  own_nonzeros : survey.babies - 1 ≡ length (nonzeros (plan_babies slots strategy (offsets_of map_is)))
  own_nonzeros = own_switches a.written ∙ baby_count slots strategy (offsets_of map_is)

  module _ {p : Parts} (q : Cut survey w.plan.now p) where
    pub babies_asked : Caching p.babies.now survey.powers input w.cache.now
    babies_asked = subst (λ (o : Option Powers). Caching p.babies.now o input w.cache.now) (sym (powers_are a.written)) (rw (babies_cut a.written q) (caching_of slots strategy (offsets_of map_is) (map_range r.asked.map) r.whole (plan_cached a.written)))

    module _ (n : ℕ) {first : ℕ} (e : first ≡ min n (survey.babies - 1)) where
      first_low : first ≤ length (nonzeros (plan_babies slots strategy (offsets_of map_is)))
      first_low = omega (arith, own_nonzeros)

      pub first_babies : first ≤ length (nonzeros p.babies.now)
      first_babies = rw (babies_cut a.written q) first_low

      pub first_logged : first ≤ length w.log.now
      first_logged = omega (arith, a.log_room, all_switches a.written)

      module _ {cache' log' : List ℕ} (b : BabiesMade p.babies.now survey.powers first input w.cache.now cache' w.log.now log') where
        firsts : take first all_babies ≡ take n all_babies
        firsts = take_least all_babies n first (e ∙ ap (min n) (own_switches a.written))

        -- the switches made are the plan's
        abbrev plan_making : ℕ → Switch
        plan_making = making (plan_babies slots strategy (offsets_of map_is)) (turn_by (powers_of slots strategy (offsets_of map_is)))

        made_are : making p.babies.now (turn_by survey.powers) ≡ plan_making
        made_are = cc (babies_cut a.written q, powers_are a.written)

        cache_is : cache' ≡ cache_by slots input w.cache.now (take n all_babies)
        cache_is =
            let e : tabulate first (making p.babies.now (turn_by survey.powers)) ≡ take n all_babies = ap (tabulate first) made_are ∙ babies_by slots strategy (offsets_of map_is) first_low ∙ firsts in
            let z : cache_by (length input) input w.cache.now (tabulate first (making p.babies.now (turn_by survey.powers))) ≡ cache_by slots input w.cache.now (take n all_babies) = cc (r.whole, e) in
            b.cache ∙ z

        log_is : log' ≡ in_front (map rotation_of (take n all_babies)) w.log.now
        log_is =
            b.logged
            ∙ ap (λ (t : List ℕ). in_front t w.log.now)
            (ap (λ (f : ℕ → Switch). tabulate first (λ k. rotation_of (f k))) made_are
            ∙ babies_logged slots strategy (offsets_of map_is) first_low
            ∙ ap (map rotation_of) firsts)

        log_room : length (schedule slots strategy (offsets_of map_is)) ≤ length w.log.now
        log_room = omega (arith, a.log_room, all_switches a.written, own_switches a.written, length-append all_babies all_giants)

        -- words of which the cache and the log alone are others
        abbrev w₁ : Words
        w₁ = holding w w.plan.now cache' w.nodes.now log' w.out.now

        -- stopped before the last baby switch
        pub stopped : n < survey.babies - 1 → RunLeft r n w w₁
        stopped l =
            let l' : n < length all_babies = omega (arith, own_switches a.written) in
            let s = early modulus slots strategy map_is input state n l' in
            record {
              plan_is = refl;
              cache_is = cache_is ∙ sym (ap (λ (x : State). x.cache) s ∙ cached_cache modulus slots strategy map_is input state n);
              nodes_are = sym (ap (λ (x : State). x.nodes) s ∙ cached_nodes modulus slots strategy map_is input state n);
              log_is = log_is ∙ sym (machine_log modulus slots strategy map_is input state n refl log_room ∙ ap (λ (t : List Switch). in_front (map rotation_of t) w.log.now) (take-append-le n all_babies all_giants (omega arith)));
              out_is = sym (ap (λ (x : State). x.out) s ∙ cached_out modulus slots strategy map_is input state n);
            }

        -- and gone on
        pub gone_on : survey.babies - 1 ≤ n → {w₂ : Words} → GiantsLeft r n w₁ w₂ → RunLeft r n w w₂
        gone_on l {w₂} g =
            let own : survey.babies - 1 ≡ length all_babies = own_switches a.written in
            let l' : length all_babies ≤ n = omega arith in
            let all : take n all_babies ≡ all_babies = take_all n all_babies l' in
            let turning : w₂.nodes.now ≡ (turned modulus slots strategy map_is input state n).nodes = g.nodes_are ∙ rw (cache_is, own) (sym (turned_nodes_lem modulus slots strategy map_is input state n)) in
            let total : survey.switches ≡ length all_babies + length all_giants = omega (arith, all_switches a.written) in
            record {
              plan_is = g.plan_is;
              cache_is = g.cache_is ∙ cache_is ∙ sym (late_cache modulus slots strategy map_is input state n l');
              nodes_are = turning ∙ sym (late_nodes modulus slots strategy map_is input state n l');
              log_is = g.log_is ∙ rw (log_is, own, all) (front_put (map rotation_of all_babies) (map rotation_of (take (n - length all_babies) all_giants)) w.log.now (length all_babies) (sym (length-map all_babies rotation_of)) ∙ rotations l' ∙ sym (machine_log modulus slots strategy map_is input state n refl log_room));
              out_is = g.out_is ∙ rw (total, turning) (sym (late_out modulus slots strategy map_is input state n l'));
            }
          where
            rotations : length all_babies ≤ n → in_front (map rotation_of all_babies ++ map rotation_of (take (n - length all_babies) all_giants)) w.log.now ≡ in_front (map rotation_of (take n (all_babies ++ all_giants))) w.log.now
            rotations h =
                let k : length all_babies + (n - length all_babies) ≡ n = omega arith in
                ap (λ (t : List ℕ). in_front t w.log.now) (sym (map-append rotation_of all_babies (take (n - length all_babies) all_giants)) ∙ ap (map rotation_of) (sym (take-append-add all_babies all_giants (n - length all_babies)) ∙ ap (λ (x : ℕ). take x (all_babies ++ all_giants)) k))
