-- The giant switches of a plan where each rotation has its own key: their table, what the loop over them asks, and the answer.
-- Assumes nothing.
use Rattle.std.proofs.Common.{◌≡◌, ℕ, zero, suc, ◌-◌, ◌*◌, ◌≤◌, List, ◌∷◌, length, take, sym, refl, ap, ◌∙◌, le_of_suc-le-suc, not-suc-le-zero, arith}
use Rattle.ring.specs.Vectors.{tabulate}
use Rattle.ring.specs.Laws.Vectors.{length_tabulate}
use Rattle.linear_transformation.specs.declared.LinearTransformationStrategy.{LinearTransformationStrategy}
use Rattle.linear_transformation.specs.declared.LinearTransformationStrategy.TheVariants.{Bsgs, BsgsPowersOfTwo, Direct}
use Rattle.linear_transformation.specs.Plans.{width_of}
use Rattle.linear_transformation.specs.Closures.{nonzeros}
use Rattle.linear_transformation.specs.Schedules.{plan_giants}
use Rattle.linear_transformation.specs.Stored.{step_of}
use Rattle.linear_transformation.specs.Laws.Plans.{giants_rise, giants_below}
use Rattle.linear_transformation.specs.Laws.Stored.{nonzeros_few}
use Rattle.runs.specs.Switches.{Switch, own_giants, giant_schedule}
use Rattle.runs.specs.Machines.{node_sum, answer_of}
use Rattle.runs.specs.Laws.Schedules.{step_positive, own_giants_lem}
use Rattle.runs.specs.Steps.Giants.{turn_at, TurnsAsked}

-- the first elements of a table
pub take_tabulate : {A : Type 0} (n k : ℕ) (f : ℕ → A) → n ≤ k → take n (tabulate k f) ≡ tabulate n f
take_tabulate zero k f h = refl
take_tabulate (suc n) zero f h = absurd (not-suc-le-zero h)
take_tabulate (suc n) (suc k) f h = ap (λ (t : List _). f 0 ∷ t) (take_tabulate n k (λ i. f (suc i)) (le_of_suc-le-suc h))

-- each nonzero giant has its own switch
own_switches : (slots : ℕ) (strategy : LinearTransformationStrategy) (ks : List ℕ) → step_of slots strategy ks ≡ 0 → giant_schedule slots strategy ks ≡ own_giants (plan_giants slots strategy ks)
unfolding giant_schedule step_of
own_switches slots (Bsgs width) ks s = refl
own_switches slots (BsgsPowersOfTwo width) ks s = absurd (omega (arith, step_positive slots width ks))
own_switches slots Direct ks s = refl

-- the answer is the sum of the nodes
pub answer_own : (m slots : ℕ) (strategy : LinearTransformationStrategy) (ks nodes : List ℕ) → step_of slots strategy ks ≡ 0 → answer_of m slots strategy ks nodes ≡ node_sum m slots (length (plan_giants slots strategy ks)) nodes
unfolding answer_of step_of
answer_own m slots (Bsgs width) ks nodes s = refl
answer_own m slots (BsgsPowersOfTwo width) ks nodes s = absurd (omega (arith, step_positive slots width ks))
answer_own m slots Direct ks nodes s = refl

module _ (slots : ℕ) (strategy : LinearTransformationStrategy) (ks : List ℕ) (s : step_of slots strategy ks ≡ 0) where
  abbrev gs : List ℕ
  gs = plan_giants slots strategy ks

  abbrev switches : List Switch
  switches = giant_schedule slots strategy ks

  table : switches ≡ tabulate (length (nonzeros gs)) (turn_at gs (length gs - length (nonzeros gs)))
  table = own_switches slots strategy ks s ∙ own_giants_lem gs (giants_rise slots (width_of strategy) ks)

  -- as many as there are nonzero giants
  pub giants_many : length (giant_schedule slots strategy ks) ≡ length (nonzeros (plan_giants slots strategy ks))
  giants_many = ap length table ∙ length_tabulate (length (nonzeros gs)) (turn_at gs (length gs - length (nonzeros gs)))

  -- so at most as many as there are giants
  pub giants_fewer : length (giant_schedule slots strategy ks) ≤ length (plan_giants slots strategy ks)
  giants_fewer = omega (arith, giants_many, nonzeros_few gs)

  module _ (n : ℕ) (h : n ≤ length (giant_schedule slots strategy ks)) where
    -- the first of them, as a table over the giants behind the 0
    pub giants_by : let gs = plan_giants slots strategy ks in let ws = giant_schedule slots strategy ks in
        tabulate n (turn_at gs (length gs - length ws)) ≡ take n ws
    giants_by =
        rw (giants_many)
        (sym (ap (take n) table ∙ take_tabulate n (length (nonzeros gs)) (turn_at gs (length gs - length (nonzeros gs))) (omega (arith, giants_many))))

    -- what the loop over them asks
    pub turns_of : let gs = plan_giants slots strategy ks in let ws = giant_schedule slots strategy ks in
        (nodes : List ℕ) → length gs * slots ≤ length nodes
        → TurnsAsked gs (length gs - length ws) n slots nodes
    turns_of nodes room =
        record { inside = omega (arith, giants_fewer); low = giants_below slots (width_of strategy) ks; room = room }
