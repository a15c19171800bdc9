-- Document 01, "Bench examples": statements about the definitions, in one list that is proved as a whole.
-- Assumes nothing.
use Rattle.std.specs.Prelude.{ℕ, ◌-◌, ◌^◌, ◌≤◌, ◌<◌, ◌≡◌, List, [], ◌∷◌, map, pos, neg_ℤ, length}
use Rattle.ring.specs.Slots.{modulus, mulm}
use Rattle.ring.specs.Divisors.{lcm_of}
use Rattle.ring.specs.Periods.{min_period}
use Rattle.ring.specs.Vectors.{tabulate, in_front}
use Rattle.diagonals.specs.Maps.{Diagonal, offsets_of}
use Rattle.diagonals.specs.Products.{product}
use Rattle.diagonals.specs.SlotMaps.{terms_of, slot_map}
use Rattle.diagonals.specs.Transposing.{transposed}
use Rattle.linear_transformation.specs.declared.digits.Rot.{Rot}
use Rattle.linear_transformation.specs.Plans.{babies, giants, babies_at}
use Rattle.ring.specs.Residues.{diagonals_of}
use Rattle.linear_transformation.specs.declared.LinearTransformationStrategy.{LinearTransformationStrategy}
use Rattle.linear_transformation.specs.declared.LinearTransformationStrategy.TheVariants.{Bsgs, BsgsPowersOfTwo}
use Rattle.linear_transformation.specs.Schedules.{plan_babies, plan_words, plan_tree, plan_keys, plan_switches}
use Rattle.linear_transformation.specs.Trees.{digits_of}
use Rattle.linear_transformation.specs.Widths.{cost, best_width}
use Rattle.linear_transformation.specs.Digits.{digit, bits_of, level_rotation}
use Rattle.runs.specs.Switches.{rotation_of, schedule}
use Rattle.runs.specs.Machines.{State, machine}
use Rattle.maps.specs.declared.rules.Rule.TheVariants.{Sigma}
use Rattle.maps.specs.Readings.{rule_map}

-- a diagonal by its offset and values
abbrev pub at : ℕ → List ℕ → Diagonal
at offset values = record { offset = offset; values = values }

-- the slot map of E3: slots 4, period 2, terms (0,1,5), (0,1,7), (1,0,2)
abbrev pub e3_map : List Diagonal
e3_map = slot_map modulus 4 2 (terms_of (0 ∷ 0 ∷ 1 ∷ []) (1 ∷ 1 ∷ 0 ∷ []) (5 ∷ 7 ∷ 2 ∷ []))

-- the diagonals of E6, of 16 slots
abbrev pub e6_diagonals : List ℕ
e6_diagonals = diagonals_of 16 (pos 0 ∷ pos 1 ∷ pos 2 ∷ pos 5 ∷ pos 15 ∷ [])

-- the diagonals of E9, of 8 slots
abbrev pub e9_diagonals : List ℕ
e9_diagonals = diagonals_of 8 (pos 0 ∷ pos 2 ∷ pos 5 ∷ [])

abbrev pub rotation : ℕ → Rot
rotation n = record { 0 = n }

-- the rotation of the top level of the tree of these giants
abbrev pub top_rotation : ℕ → ℕ → List Rot → Rot
top_rotation slots step giants =
    let b = bits_of (map (digit slots step) giants) in
    level_rotation slots step b (b - 1)

-- E10: what the empty map asks for, and what a run of it leaves, however many switches it may make
pub record EmptyMap (slots : ℕ) (strategy : LinearTransformationStrategy) : Type 0 where
  pub babies_zero : plan_babies slots strategy [] ≡ 0 ∷ []
  pub no_key : plan_keys slots strategy [] ≡ []
  pub no_switch : schedule slots strategy [] ≡ []
  pub zeros : (input : List ℕ) (lent : State) (n : ℕ) → (machine modulus slots strategy [] input lent n).out ≡ in_front (tabulate slots (λ s. 0)) lent.out

pub record BenchExamples : Type 0 where
  pub e1 : lcm_of 4 6 ≡ 12
  pub e2 : min_period (1 ∷ 2 ∷ 1 ∷ 2 ∷ 1 ∷ 2 ∷ []) ≡ 2
  pub e3 : e3_map ≡ at 1 (12 ∷ 0 ∷ []) ∷ at 3 (0 ∷ 2 ∷ []) ∷ []
  pub e4 : tabulate 4 (product modulus 4 e3_map (1 ∷ 2 ∷ 3 ∷ 4 ∷ [])) ≡ 24 ∷ 2 ∷ 48 ∷ 6 ∷ []
  pub e5 : transposed 4 e3_map ≡ at 1 (2 ∷ 0 ∷ []) ∷ at 3 (0 ∷ 12 ∷ []) ∷ []
  pub e6_babies : babies 16 4 e6_diagonals ≡ 0 ∷ 1 ∷ 2 ∷ 3 ∷ []
  pub e6_giants : giants 16 4 e6_diagonals ≡ 0 ∷ 4 ∷ 12 ∷ []
  pub e6_index : map (babies_at 4 e6_diagonals) (giants 16 4 e6_diagonals) ≡ (0 ∷ 1 ∷ 2 ∷ []) ∷ (1 ∷ []) ∷ (3 ∷ []) ∷ []
  pub e7_digits : map (λ d. d.0) (digits_of 16 4 (map rotation (giants 16 4 e6_diagonals))) ≡ pos 0 ∷ pos 1 ∷ neg_ℤ (pos 1) ∷ []
  pub e7_bits : (plan_tree 16 4 e6_diagonals).bits ≡ 2
  pub e7_keys : plan_keys 16 (BsgsPowersOfTwo 4) e6_diagonals ≡ 1 ∷ 2 ∷ 4 ∷ 8 ∷ []
  pub e7_switches : (plan_switches 16 (BsgsPowersOfTwo 4) e6_diagonals ≡ 6) × (plan_switches 16 (Bsgs 4) e6_diagonals ≡ 5)
  pub e7_rotations : map rotation_of (schedule 16 (BsgsPowersOfTwo 4) e6_diagonals) ≡ 1 ∷ 2 ∷ 2 ∷ 4 ∷ 4 ∷ 8 ∷ []
  pub e7_log : (ds : List Diagonal) → offsets_of ds ≡ e6_diagonals → (input : List ℕ) (lent : State) → lent.made ≡ 0 → 6 ≤ length lent.log → (n : ℕ) → 6 ≤ n → (machine modulus 16 (BsgsPowersOfTwo 4) ds input lent n).log ≡ in_front (1 ∷ 2 ∷ 2 ∷ 4 ∷ 4 ∷ 8 ∷ []) lent.log
  pub e7_per_rotation : length (schedule 16 (Bsgs 4) e6_diagonals) ≡ 5
  pub e8 : ((digit 16 4 (rotation 8)).0 ≡ neg_ℤ (pos 2)) × ((digit 10 4 (rotation 8)).0 ≡ pos 2)
  pub e8_top : ((digit 20 4 (rotation 12)).0 ≡ neg_ℤ (pos 2)) × (top_rotation 20 4 (rotation 12 ∷ []) ≡ rotation 12)
  pub e9 : best_width 8 e9_diagonals ≡ 6
  pub e9_costs : (cost 8 e9_diagonals 6 ≡ 6) × (cost 8 e9_diagonals 3 ≡ 4)
  pub e10_plan : plan_words 16 (BsgsPowersOfTwo 4) (diagonals_of 16 []) ≡ 0 ∷ []
  pub e10 : (slots : ℕ) → 0 < slots → (strategy : LinearTransformationStrategy) → EmptyMap slots strategy
  pub e11 : rule_map modulus 4 2 Sigma ≡ at 0 (1 ∷ 1 ∷ 0 ∷ 0 ∷ []) ∷ at 1 (0 ∷ 0 ∷ 1 ∷ 0 ∷ []) ∷ at 3 (0 ∷ 0 ∷ 0 ∷ 1 ∷ []) ∷ []
  pub e12 : mulm modulus (2 ^ 63) 2 ≡ 0
