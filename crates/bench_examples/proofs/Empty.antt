-- The empty map: its babies are 0 alone and it has no giant, so nothing is switched and the answer is zeros.
-- Assumes nothing.
use Prim.Native.Nat.{ℕ, zero, suc, ◌<◌}
use mathlib.Core.Path.{◌≡◌, refl, ap, ◌∙◌}
use mathlib.Core.List.{List, [], ◌∷◌, ◌++◌}
use native.Mathlib.Omega.{arith}
use lib.Dec.{eqb-suc-zero}
use lib.ListN.{length}
use Rattle.ring.specs.Slots.{modulus}
use Rattle.ring.specs.Divisors.{gcd_of}
use Rattle.ring.specs.Searches.{below, least, greatest}
use Rattle.ring.specs.Vectors.{tabulate, in_front}
use Rattle.linear_transformation.specs.declared.LinearTransformationStrategy.{LinearTransformationStrategy}
use Rattle.linear_transformation.specs.declared.LinearTransformationStrategy.TheVariants.{Bsgs, BsgsPowersOfTwo, Direct}
use Rattle.linear_transformation.specs.Plans.{babies, giants}
use Rattle.linear_transformation.specs.Closures.{top_bit, met_in, closure, targets, passes}
use Rattle.linear_transformation.specs.Trees.{there, nodes, pairs_at, levels_of, tree_of, tree_keys}
use Rattle.linear_transformation.specs.Digits.{all_within, largest, bits_of}
use Rattle.linear_transformation.specs.Schedules.{baby_step, baby_multiples, plan_babies, plan_tree, plan_keys}
use Rattle.runs.specs.Switches.{Switch, plan_passes, baby_schedule, giant_schedule, schedule}
use Rattle.runs.specs.Machines.{State, node_sum, answer_of, with_nodes, with_answer, machine}
use Rattle.runs.specs.Laws.Finished.{machine_last}
use Rattle.bench_examples.specs.BenchExamples.{EmptyMap}

babies_none : (n width : ℕ) → babies (suc n) width [] ≡ 0 ∷ []
unfolding babies below
babies_none zero width = refl
babies_none (suc n) width = rw (eqb-suc-zero n) (ap (λ (bs : List ℕ). bs ++ []) (babies_none n width))

giants_none : (n width : ℕ) → giants n width [] ≡ []
unfolding giants below
giants_none zero width = refl
giants_none (suc n) width = ap (λ (gs : List ℕ). gs ++ []) (giants_none n width)

-- with no switch to make, it does not matter how many may be made
zeros_left : (slots : ℕ) (strategy : LinearTransformationStrategy) (input : List ℕ) (lent : State) → schedule slots strategy [] ≡ [] → (machine modulus slots strategy [] input lent 0).out ≡ in_front (tabulate slots (λ s. 0)) lent.out → (n : ℕ) → (machine modulus slots strategy [] input lent n).out ≡ in_front (tabulate slots (λ s. 0)) lent.out
zeros_left slots strategy input lent e z n =
    let none : length (schedule slots strategy []) ≡ 0 = ap (λ (ws : List Switch). length ws) e in
    ap (λ (st : State). st.out) (machine_last modulus slots strategy [] input lent n (omega (arith, none)) ∙ ap (machine modulus slots strategy [] input lent) none) ∙ z

-- the baby step, and the closure of 0
step_none : (n width : ℕ) → baby_step (suc n) width [] ≡ 1
unfolding baby_step gcd_of greatest
step_none n width = rw (babies_none n width)

multiples_none : (n width : ℕ) → baby_multiples (suc n) width [] ≡ 0 ∷ []
unfolding baby_multiples baby_step gcd_of greatest
multiples_none n width = rw (babies_none n width)

closure_zero : closure 16 (0 ∷ []) ≡ 0 ∷ []
unfolding closure below met_in
closure_zero = refl

closure_none : (n width : ℕ) → closure 16 (baby_multiples (suc n) width []) ≡ 0 ∷ []
closure_none n width = ap (closure 16) (multiples_none n width) ∙ closure_zero

pub empty_map : (slots : ℕ) → 0 < slots → (strategy : LinearTransformationStrategy) → EmptyMap slots strategy
unfolding plan_babies plan_keys targets passes top_bit greatest plan_tree tree_of levels_of there nodes pairs_at below tree_keys all_within largest least bits_of plan_passes baby_schedule giant_schedule machine with_nodes with_answer answer_of node_sum
empty_map zero p strategy = elim p [ ]
empty_map (suc n) p (Bsgs width) =
    let b = babies_none n width in
    let g = giants_none (suc n) width in
    let none : schedule (suc n) (Bsgs width) [] ≡ [] = rw (b, g) in
    record { babies_zero = b; no_key = rw (b, g); no_switch = none; zeros = λ input lent. zeros_left (suc n) (Bsgs width) input lent none (rw (b, g)) }
empty_map (suc n) p (BsgsPowersOfTwo width) =
    let b = closure_none n width in
    let g = giants_none (suc n) width in
    let none : schedule (suc n) (BsgsPowersOfTwo width) [] ≡ [] = rw (b, g) in
    record { babies_zero = rw (b, step_none n width); no_key = rw (b, g); no_switch = none; zeros = λ input lent. zeros_left (suc n) (BsgsPowersOfTwo width) input lent none (rw (b, g)) }
empty_map (suc n) p Direct =
    let b = babies_none n 1 in
    let g = giants_none (suc n) 1 in
    let none : schedule (suc n) Direct [] ≡ [] = rw (b, g) in
    record { babies_zero = b; no_key = rw (b, g); no_switch = none; zeros = λ input lent. zeros_left (suc n) Direct input lent none (rw (b, g)) }
