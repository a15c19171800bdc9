-- What the private steps of the tree's calls ask and ensure.
-- Assumes nothing. The nodes stand in a heap: node n of level i at 2^(b-i) + n, the parent of h at h / 2.
use Rattle.std.specs.Prelude.{ℕ, suc, ◌+◌, ◌*◌, ◌-◌, ◌%◌, ◌^◌, ◌≤◌, ◌<◌, ◌≡◌, Bool, false, ◌||◌, List, [], ◌∷◌, map, ℤ, length, None}
use Rattle.std.specs.Int.Signed.{mag}
use Rattle.ring.specs.Lists.{join, among}
use Rattle.ring.specs.Marks.{marks}
use Rattle.ring.specs.Searches.{below}
use Rattle.ring.specs.Vectors.{tabulate}
use Rattle.ring.specs.Residues.{residue_of}
use Rattle.ring.specs.Refusals.{first_refusal}
use Rattle.linear_transformation.specs.declared.digits.Digit.{Digit}
use Rattle.linear_transformation.specs.declared.rotations.BsgsRotations.TheVariants.{PowersOfTwo}
use Rattle.linear_transformation.specs.declared.tree.Tree.{Tree}
use Rattle.linear_transformation.specs.Digits.{rot_of, digit, largest, bits_of, leaf, level_digit, level_rotation}
use Rattle.linear_transformation.specs.declared.records.PairRecord.{PairRecord}
use Rattle.linear_transformation.specs.Trees.{digits_of, leaves_of, there, Level, keyed}
use Rattle.linear_transformation.specs.Listed.{giant_refusals}

-- ---- refusals

-- a listed giant: a multiple of the step, modulo slots
abbrev pub Listed : ℕ → ℕ → ℤ → Type 0
Listed slots step z = residue_of z slots % step ≡ 0

-- an accepted list of giants: no refusal applies, and its parts are those that the call was given
pub record GiantsAccepted (baby_step giant_step slots : ℕ) (gs : List ℤ) (step₁ slots₁ : ℕ) (gs₁ : List ℤ) : Type 0 where
  pub none : first_refusal (giant_refusals (PowersOfTwo baby_step giant_step slots) gs) ≡ None
  pub step_is : step₁ ≡ giant_step
  pub slots_is : slots₁ ≡ slots
  pub giants_are : gs₁ ≡ gs

-- ---- digits and leaves

abbrev pub digit_at : ℕ → ℕ → ℤ → Digit
digit_at slots step z = digit slots step (rot_of slots z)

pub record DigitIs (slots step : ℕ) (z : ℤ) (d : Digit) : Type 0 where
  pub is : d ≡ digit_at slots step z
  pub small : mag d.0 < 2 ^ 15

pub record LargestIs (slots step : ℕ) (gs : List ℤ) (r : ℕ) : Type 0 where
  pub is : r ≡ largest (digits_of slots step (map (rot_of slots) gs))
  pub small : r < 2 ^ 15

-- b, from the largest magnitude
pub record BitsAre (x r : ℕ) : Type 0 where
  pub positive : 1 ≤ r
  pub small : r ≤ 16
  pub is : (ds : List Digit) → largest ds ≡ x → bits_of ds ≡ r

-- a leaf of b bits
pub record LeafIs (slots step bits : ℕ) (z : ℤ) (r : ℕ) : Type 0 where
  pub is : r ≡ leaf bits (digit_at slots step z)
  pub low : r < 2 ^ bits

-- the leaves of b bits of listed giants
abbrev pub leaves_at : ℕ → ℕ → ℕ → List ℤ → List ℕ
leaves_at slots step bits gs = map (λ z. leaf bits (digit_at slots step z)) gs

-- ---- the heap

pub record Blank (heap : List Bool) : Type 0 where
  pub size : length heap ≡ 131072
  pub none : (h : ℕ) → marks heap h ≡ false

-- the leaves are marked
pub record LeavesMarked (bits : ℕ) (leaves : List ℕ) (heap : List Bool) : Type 0 where
  pub size : length heap ≡ 131072
  pub marked : (n : ℕ) → marks heap (2 ^ bits + n) ≡ among n leaves

-- the leaves are as they were, and an inner node is there exactly if one of its children is
pub record Climbed (size : ℕ) (old new : List Bool) : Type 0 where
  pub len : length new ≡ 131072
  pub leaves : (h : ℕ) → size ≤ h → marks new h ≡ marks old h
  pub inner : (h : ℕ) → 1 ≤ h → h < size → marks new h ≡ (marks new (2 * h) || marks new (2 * h + 1))

pub record Climbing (size : ℕ) (heap : List Bool) : Type 0 where
  pub len : length heap ≡ 131072
  pub low : size ≤ 65536

pub record Heaped (bits : ℕ) (leaves : List ℕ) (heap : List Bool) : Type 0 where
  pub size : length heap ≡ 131072
  pub nodes : (i n : ℕ) → i ≤ bits → n < 2 ^ (bits - i) → marks heap (2 ^ (bits - i) + n) ≡ there leaves i n

pub record Planted (slots step : ℕ) (gs : List ℤ) (heap : List Bool) (r : ℕ) : Type 0 where
  pub bits : r ≡ bits_of (digits_of slots step (map (rot_of slots) gs))
  pub positive : 1 ≤ r
  pub small : r ≤ 16
  pub heaped : Heaped r (leaves_of (digits_of slots step (map (rot_of slots) gs))) heap

-- the tree over giants
pub record TreeOf (slots step : ℕ) (gs : List ℤ) (t : Tree) : Type 0 where
  pub step_is : t.steps.step ≡ step
  pub slots_is : t.steps.slots ≡ slots
  pub planted : Planted slots step gs t.nodes.now t.bits

-- ---- levels, from the heap alone

-- the k-th two of the level with 2·m places: an even node, and the odd one behind it
abbrev pub two_at : List Bool → ℕ → ℕ → List Bool
two_at heap m k = marks heap (2 * (m + k)) ∷ marks heap (2 * (m + k) + 1) ∷ []

-- the nodes of level i of b, in twos
abbrev pub level_nodes : List Bool → ℕ → ℕ → List (List Bool)
level_nodes heap b i = tabulate (2 ^ (b - suc i)) (two_at heap (2 ^ (b - suc i)))

-- whether the k-th odd node of the level with 2·m places is there, k from 0 on; and its pair
abbrev pub odd_at : List Bool → ℕ → ℕ → Bool
odd_at heap m k = marks heap (2 * (m + k) + 1)

abbrev pub pair_at : List Bool → ℕ → ℕ → PairRecord
pair_at heap m k = record { odd = 2 * k + 1; even_there = marks heap (2 * (m + k)) }

-- the pairs of the first n odd nodes of that level
unfoldable pub heap_pairs : List Bool → ℕ → ℕ → List PairRecord
heap_pairs heap m n = map (pair_at heap m) (below (odd_at heap m) n)

-- the pairs of level i of b
abbrev pub level_pairs : List Bool → ℕ → ℕ → List PairRecord
level_pairs heap b i = heap_pairs heap (2 ^ (b - suc i)) (2 ^ (b - suc i))

abbrev pub heap_level : ℕ → ℕ → ℕ → List Bool → ℕ → Level
heap_level slots step b heap i = record { rotation = level_rotation slots step b i; pairs = level_pairs heap b i }

-- the first n levels
unfoldable pub heap_levels : ℕ → ℕ → ℕ → List Bool → ℕ → List Level
heap_levels slots step b heap n = tabulate n (heap_level slots step b heap)

-- the pairs of the first n levels, counted
unfoldable pub heap_switches : ℕ → List Bool → ℕ → ℕ
heap_switches b heap n = length (join (level_pairs heap b) (tabulate n (λ i. i)))

-- the same of all levels of a tree
abbrev pub levels_in : Tree → List Level
levels_in t = heap_levels t.steps.slots t.steps.step t.bits t.nodes.now t.bits

abbrev pub switches_in : Tree → ℕ
switches_in t = heap_switches t.bits t.nodes.now t.bits

abbrev pub keys_of : List Level → List ℕ
keys_of ls = join (λ l. keyed l.rotation l.pairs) ls

pub record LevelDigit (b i : ℕ) (d : Digit) : Type 0 where
  pub is : d ≡ level_digit b i
  pub small : mag d.0 ≤ 65536
