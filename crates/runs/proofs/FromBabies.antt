-- The baby switches by a plan's own babies and its step: the turn of each, the switches as the schedule has them, and what the
-- caching of them asks.
-- Assumes nothing.
use Rattle.std.proofs.Common.{◌≡◌, ℕ, ◌-◌, ◌*◌, ◌≤◌, true, List, map, length, get_or, take, sym, refl, ap, ◌∙◌, mul-le-mul_right, one-mul, arith}
use Rattle.ring.specs.Lists.{among, Each}
use Rattle.ring.specs.Refusals.{Range}
use Rattle.ring.specs.Vectors.{tabulate}
use Rattle.ring.specs.Laws.Lists.{each_all, each_map, each_then, each_both}
use Rattle.ring.specs.Laws.Members.{among_each}
use Rattle.ring.specs.Laws.Vectors.{map_tabulate, tabulate_cong}
use Rattle.linear_transformation.specs.declared.LinearTransformationStrategy.{LinearTransformationStrategy}
use Rattle.linear_transformation.specs.declared.LinearTransformationStrategy.TheVariants.{Bsgs, BsgsPowersOfTwo, Direct}
use Rattle.linear_transformation.specs.Closures.{closure, nonzeros}
use Rattle.linear_transformation.specs.Schedules.{baby_step, baby_multiples, plan_babies}
use Rattle.linear_transformation.specs.Stored.{step_of}
use Rattle.linear_transformation.specs.Laws.Turns.{nonzeros_times}
use Rattle.runs.specs.Switches.{rotation_of, baby_schedule}
use Rattle.runs.specs.Laws.Caches.{plan_turns, cache_room}
use Rattle.runs.specs.Laws.PassSchedules.{making, turn_of, baby_schedule_lem, nonzeros_positive, nonzeros_each}
use Rattle.runs.specs.Laws.Schedules.{step_positive, plan_babies_rise, plan_babies_front, plan_babies_low}
use Rattle.std.specs.Prelude.{Some}
use Rattle.linear_transformation.specs.Stored.{bits_for}
use Rattle.runs.specs.Steps.Surveys.{powers_of}
use Rattle.runs.proofs.FromGiants.{take_tabulate}
use Rattle.runs.specs.Steps.Keyed.{turn_by, StepUpTo, Babies, Caching}

-- ---- turns

-- each baby has the turn of its strategy
pub turn_by_lem : (slots : ℕ) (strategy : LinearTransformationStrategy) (ks : List ℕ) (v : ℕ) → turn_by (powers_of slots strategy ks) v ≡ turn_of slots strategy ks v
unfolding step_of
turn_by_lem slots (Bsgs width) ks v = refl
turn_by_lem slots (BsgsPowersOfTwo width) ks v = refl
turn_by_lem slots Direct ks v = refl

-- ---- switches

making_same : (bs : List ℕ) (f g : ℕ → ℕ) → ((v : ℕ) → f v ≡ g v) → (p : ℕ) → making bs f p ≡ making bs g p
making_same bs f g same p = rw (same (get_or (nonzeros bs) p 0))

module _ (slots : ℕ) (strategy : LinearTransformationStrategy) (ks : List ℕ) {n : ℕ} (h : n ≤ length (nonzeros (plan_babies slots strategy ks))) where
  -- the first n switches are those of the schedule
  pub babies_by : tabulate n (making (plan_babies slots strategy ks) (turn_by (powers_of slots strategy ks))) ≡ take n (baby_schedule slots strategy ks)
  babies_by =
      let bs = plan_babies slots strategy ks in
      tabulate_cong n (making bs (turn_by (powers_of slots strategy ks))) (making bs (turn_of slots strategy ks))
      (λ p l. making_same bs (turn_by (powers_of slots strategy ks)) (turn_of slots strategy ks) (turn_by_lem slots strategy ks) p)
      ∙ sym (ap (take n) (baby_schedule_lem slots strategy ks) ∙ take_tabulate n (length (nonzeros bs)) (making bs (turn_of slots strategy ks)) h)

  -- and so are their rotations
  pub babies_logged : tabulate n (λ p. rotation_of (making (plan_babies slots strategy ks) (turn_by (powers_of slots strategy ks)) p)) ≡ map rotation_of (take n (baby_schedule slots strategy ks))
  babies_logged = sym (map_tabulate rotation_of n (making (plan_babies slots strategy ks) (turn_by (powers_of slots strategy ks)))) ∙ ap (map rotation_of) babies_by

-- ---- what the caching asks

-- a multiple that is not 0 is no less than the step
multiples_high : (step bits : ℕ) (cs : List ℕ) → 1 ≤ step → Each (λ b. StepUpTo b (Some (record { step = step; bits = bits }))) (nonzeros (map (λ k. k * step) cs))
multiples_high step bits cs s =
    rw (nonzeros_times step cs s)
    (each_map (λ b. StepUpTo b (Some (record { step = step; bits = bits }))) (λ k. k * step) (nonzeros cs)
    (each_then (λ k l. let e : 1 * step ≤ k * step = mul-le-mul_right step l in (s, omega (arith, one-mul step))) (nonzeros cs) (nonzeros_positive cs)))

plan_steps : (slots : ℕ) (strategy : LinearTransformationStrategy) (ks : List ℕ) → Each (λ b. StepUpTo b (powers_of slots strategy ks)) (nonzeros (plan_babies slots strategy ks))
unfolding step_of plan_babies
plan_steps slots (Bsgs width) ks = each_all (λ b. tt) (nonzeros (plan_babies slots (Bsgs width) ks))
plan_steps slots (BsgsPowersOfTwo width) ks = multiples_high (baby_step slots width ks) (bits_for slots (BsgsPowersOfTwo width) ks) (closure 16 (baby_multiples slots width ks)) (step_positive slots width ks)
plan_steps slots Direct ks = each_all (λ b. tt) (nonzeros (plan_babies slots Direct ks))

module _ (slots : ℕ) (strategy : LinearTransformationStrategy) (ks : List ℕ) (r : Range slots) where
  -- what its turn leaves of a baby is a baby
  turn_left : (b : ℕ) → among b (plan_babies slots strategy ks) ≡ true → 1 ≤ b → among (b - turn_by (powers_of slots strategy ks) b) (plan_babies slots strategy ks) ≡ true
  turn_left b a l = rw (turn_by_lem slots strategy ks b) (plan_turns slots r.low r.high strategy ks b a l).left

  plan_closed : Each (λ b. among (b - turn_by (powers_of slots strategy ks) b) (plan_babies slots strategy ks) ≡ true) (nonzeros (plan_babies slots strategy ks))
  plan_closed =
      let bs = plan_babies slots strategy ks in
      each_both turn_left (nonzeros bs)
      (nonzeros_each (λ b. among b bs ≡ true) bs (among_each (λ b. among b bs ≡ true) bs (λ b a. a)))
      (nonzeros_positive bs)

  -- the plan's babies, with room for a vector of each but 0
  pub babies_of_lem : {input cache : List ℕ} → length input ≡ slots → (length (plan_babies slots strategy ks) - 1) * slots ≤ length cache → Babies (plan_babies slots strategy ks) input cache
  babies_of_lem e h =
      record {
        rises = plan_babies_rise slots strategy ks;
        front = plan_babies_front slots r.high r.low strategy ks;
        room = rw (e, ← cache_room slots r.low r.high strategy ks) h;
      }

  pub caching_of : {input cache : List ℕ} → length input ≡ slots → (length (plan_babies slots strategy ks) - 1) * slots ≤ length cache → Caching (plan_babies slots strategy ks) (powers_of slots strategy ks) input cache
  caching_of e h =
      record {
        babies = babies_of_lem e h;
        some = rw e r.low;
        small = rw e r.high;
        low = rw e (plan_babies_low slots strategy ks);
        steps = plan_steps slots strategy ks;
        closed = plan_closed;
      }
