-- What a finished run logs, and E6's schedule with powers of two, computed part by part.
-- Assumes nothing.
use Prim.Native.Nat.{ℕ, ◌≤◌}
use mathlib.Core.Path.{◌≡◌, refl, sym, ap, ◌∙◌}
use mathlib.Core.List.{List, [], ◌∷◌, map}
use native.Mathlib.Omega.{arith}
use lib.ListN.{length, length-map}
use lib.Seq.{take_all}
use Rattle.ring.specs.Slots.{modulus}
use Rattle.ring.specs.Vectors.{in_front}
use Rattle.ring.specs.Searches.{least, greatest, below}
use Rattle.ring.specs.Divisors.{gcd_of}
use Rattle.ring.specs.Residues.{named, diagonals_of}
use Rattle.diagonals.specs.Maps.{Diagonal, offsets_of}
use Rattle.linear_transformation.specs.declared.LinearTransformationStrategy.{LinearTransformationStrategy}
use Rattle.linear_transformation.specs.declared.LinearTransformationStrategy.TheVariants.{BsgsPowersOfTwo}
use Rattle.linear_transformation.specs.Plans.{baby_of, giant_of, babies, giants}
use Rattle.linear_transformation.specs.Closures.{top_bit, cleared, met_in, closure, targets, passes}
use Rattle.linear_transformation.specs.Trees.{there, nodes, pairs_at, levels_of, tree_of}
use Rattle.linear_transformation.specs.Digits.{digit, within, all_within, largest, bits_of, level_digit, level_rotation}
use Rattle.linear_transformation.specs.Schedules.{baby_step, baby_multiples, plan_babies, plan_tree}
use Rattle.runs.specs.Switches.{baby, pair, from_input, from_cache, none, at, rotation_of, plan_passes, node_place, baby_schedule, giant_schedule, schedule}
use Rattle.runs.specs.Machines.{State, machine}
use Rattle.runs.specs.Laws.Finished.{machine_log}
use Rattle.bench_examples.specs.BenchExamples.{e6_diagonals}

-- a finished run logs the rotations of the schedule of its map's offsets
pub finished_log : (slots : ℕ) (strategy : LinearTransformationStrategy) (ks rotations : List ℕ) → map rotation_of (schedule slots strategy ks) ≡ rotations → (ds : List Diagonal) → offsets_of ds ≡ ks → (input : List ℕ) (lent : State) → lent.made ≡ 0 → length rotations ≤ length lent.log → (n : ℕ) → length rotations ≤ n → (machine modulus slots strategy ds input lent n).log ≡ in_front rotations lent.log
finished_log slots strategy ks rotations e ds o input lent z h n l =
    let ws = schedule slots strategy (offsets_of ds) in
    let same : map rotation_of ws ≡ rotations = ap (λ (ks : List ℕ). map rotation_of (schedule slots strategy ks)) o ∙ e in
    let many : length ws ≡ length rotations = sym (length-map ws rotation_of) ∙ ap (λ (xs : List ℕ). length xs) same in
    machine_log modulus slots strategy ds input lent n z (omega (arith, many, h))
    ∙ ap (λ (xs : List ℕ). in_front xs lent.log) (ap (map rotation_of) (take_all n ws (omega (arith, many, l))) ∙ same)

-- ---- the schedule of E6's diagonals with powers of two

step_is : baby_step 16 4 e6_diagonals ≡ 1
unfolding named diagonals_of below baby_of babies gcd_of greatest baby_step
step_is = refl

closure_is : closure 16 (baby_multiples 16 4 e6_diagonals) ≡ 0 ∷ 1 ∷ 2 ∷ 3 ∷ []
unfolding named diagonals_of below baby_of babies gcd_of greatest baby_step baby_multiples top_bit cleared met_in closure
closure_is = refl

passes_are : plan_passes 16 4 e6_diagonals ≡ passes 16 1 (0 ∷ 1 ∷ 2 ∷ 3 ∷ [])
unfolding plan_passes
passes_are = rw (step_is, closure_is)

babies_are : plan_babies 16 (BsgsPowersOfTwo 4) e6_diagonals ≡ 0 ∷ 1 ∷ 2 ∷ 3 ∷ []
unfolding plan_babies
babies_are = rw (step_is, closure_is)

baby_switches : baby_schedule 16 (BsgsPowersOfTwo 4) e6_diagonals ≡ baby 0 from_input 1 ∷ baby 1 from_input 2 ∷ baby 2 (from_cache 0) 2 ∷ []
unfolding baby_schedule passes targets top_bit greatest
baby_switches = rw (babies_are, passes_are)

pair_switches : giant_schedule 16 (BsgsPowersOfTwo 4) e6_diagonals ≡ pair 1 (at 0) 4 ∷ pair 2 none 4 ∷ pair 2 (at 0) 8 ∷ []
unfolding named diagonals_of below baby_of giant_of giants there nodes pairs_at levels_of tree_of least digit within all_within largest bits_of level_digit level_rotation plan_tree node_place giant_schedule
pair_switches = refl

pub rotations_are : map rotation_of (schedule 16 (BsgsPowersOfTwo 4) e6_diagonals) ≡ 1 ∷ 2 ∷ 2 ∷ 4 ∷ 4 ∷ 8 ∷ []
rotations_are = rw (baby_switches, pair_switches)
