-- The bench examples hold, by computing the definitions; E7's log and E10 by laws.
-- Assumes nothing.
use mathlib.Core.Path.{refl}
use mathlib.Core.List.{[], ◌∷◌}
use Rattle.ring.specs.Slots.{addm, mulm}
use Rattle.ring.specs.Searches.{least, greatest, every, below}
use Rattle.ring.specs.Divisors.{gcd_of, lcm_of}
use Rattle.ring.specs.Periods.{min_period, is_period, repeats}
use Rattle.ring.specs.Rotations.{rotated}
use Rattle.diagonals.specs.Products.{product}
use Rattle.diagonals.specs.SlotMaps.{terms_of, slot_map}
use Rattle.diagonals.specs.Transposing.{transposed}
use Rattle.diagonals.specs.Shrinking.{common_period, shrunk}
use Rattle.linear_transformation.specs.declared.LinearTransformationStrategy.TheVariants.{BsgsPowersOfTwo}
use Rattle.linear_transformation.specs.Plans.{baby_of, giant_of, babies, giants, babies_at, plan_index, plan_pairs, words_with}
use Rattle.ring.specs.Residues.{named, diagonals_of}
use Rattle.linear_transformation.specs.Closures.{top_bit, cleared, met_in, closure, targets, passes}
use Rattle.linear_transformation.specs.Trees.{there, nodes, pairs_at, levels_of, tree_of, tree_keys, tree_switches}
use Rattle.linear_transformation.specs.Schedules.{baby_step, baby_multiples, plan_babies, plan_words, plan_tree, plan_keys, giant_switches, plan_switches}
use Rattle.linear_transformation.specs.Widths.{smallest_gap, own_babies, cost, candidate, cheapest, best_width}
use Rattle.linear_transformation.specs.Digits.{digit, within, all_within, largest, bits_of, level_digit, level_rotation}
use Rattle.maps.specs.Readings.{reads, whole_map, rule_map}
use Rattle.runs.specs.Switches.{baby_schedule, giant_schedule}
use Rattle.bench_examples.specs.BenchExamples.{BenchExamples, e6_diagonals}
use Rattle.bench_examples.proofs.Empty.{empty_map}
use Rattle.bench_examples.proofs.Logs.{rotations_are, finished_log}

pub bench_examples : BenchExamples
unfolding gcd_of lcm_of least greatest min_period is_period repeats every below addm mulm rotated product terms_of slot_map transposed named diagonals_of baby_of giant_of babies giants babies_at plan_index plan_pairs words_with top_bit cleared met_in closure targets passes there nodes pairs_at levels_of tree_of tree_keys tree_switches baby_step baby_multiples plan_babies plan_words plan_tree plan_keys giant_switches plan_switches smallest_gap own_babies cost candidate cheapest best_width digit within all_within largest bits_of level_digit level_rotation common_period shrunk reads whole_map rule_map baby_schedule giant_schedule
bench_examples = record { e1 = refl; e2 = refl; e3 = refl; e4 = refl; e5 = refl; e6_babies = refl; e6_giants = refl; e6_index = refl; e7_digits = refl; e7_bits = refl; e7_keys = refl; e7_switches = (refl, refl); e7_rotations = rotations_are; e7_log = finished_log 16 (BsgsPowersOfTwo 4) e6_diagonals (1 ∷ 2 ∷ 2 ∷ 4 ∷ 4 ∷ 8 ∷ []) rotations_are; e7_per_rotation = refl; e8 = (refl, refl); e8_top = (refl, refl); e9 = refl; e9_costs = (refl, refl); e10_plan = refl; e10 = empty_map; e11 = refl; e12 = refl }
