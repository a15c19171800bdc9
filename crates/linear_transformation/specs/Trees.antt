-- Document 01, "Keys": the tree over the giants' digits: leaves, nodes, and each level's rotation and pairs.
-- Assumes nothing. A node is a number; level 0 has the leaves, and each level the halves of the one before.
use Rattle.std.specs.Prelude.{ℕ, ◌-◌, ◌/◌, ◌%◌, ◌^◌, Bool, true, false, List, [], ◌∷◌, map, eqb, length}
use Rattle.ring.specs.Lists.{join, some}
use Rattle.ring.specs.Searches.{below, only}
use Rattle.ring.specs.Vectors.{tabulate}
use Rattle.linear_transformation.specs.declared.records.PairRecord.{PairRecord}
use Rattle.linear_transformation.specs.declared.digits.Rot.{Rot}
use Rattle.linear_transformation.specs.declared.digits.Digit.{Digit}
use Rattle.linear_transformation.specs.Digits.{digit, bits_of, leaf, level_rotation}

-- the digits of the giants, in their order
abbrev pub digits_of : ℕ → ℕ → List Rot → List Digit
digits_of slots step giants = map (digit slots step) giants

-- the leaves of the digits, in their order
abbrev pub leaves_of : List Digit → List ℕ
leaves_of ds = map (leaf (bits_of ds)) ds

-- node n is on level i: a leaf, halved i times, is n
unfoldable pub there : List ℕ → ℕ → ℕ → Bool
there leaves i n = some (λ l. eqb (l / 2 ^ i) n) leaves

-- the nodes of level i: rising, distinct
unfoldable pub nodes : ℕ → List ℕ → ℕ → List ℕ
nodes b leaves i = below (there leaves i) (2 ^ (b - i))

-- the pairs of level i, odd rising: the odd node, and whether node odd - 1 is there
unfoldable pub pairs_at : ℕ → List ℕ → ℕ → List PairRecord
pairs_at b leaves i =
    map (λ n. record { odd = n; even_there = there leaves i (n - 1) }) (join (λ n. only (eqb (n % 2) 1) n) (nodes b leaves i))

-- a level: its rotation and its pairs
pub record Level : Type 0 where
  pub rotation : Rot
  pub pairs : List PairRecord

-- the levels 0 to b - 1
unfoldable pub levels_of : ℕ → ℕ → ℕ → List ℕ → List Level
levels_of slots step b leaves =
    tabulate b (λ i. record { rotation = level_rotation slots step b i; pairs = pairs_at b leaves i })

-- a tree: b, the leaves of the giants and the levels
pub record Tree : Type 0 where
  pub bits : ℕ
  pub leaves : List ℕ
  pub levels : List Level

unfoldable pub tree_of : ℕ → ℕ → List Rot → Tree
tree_of slots step giants =
    let ds = digits_of slots step giants in
    record { bits = bits_of ds; leaves = leaves_of ds; levels = levels_of slots step (bits_of ds) (leaves_of ds) }

-- the records of a tree: the pairs of all levels, level after level
abbrev pub tree_records : Tree → List PairRecord
tree_records t = join (λ l. l.pairs) t.levels

-- ---- as words

-- for each level its rotation and its number of pairs
abbrev pub level_words : List Level → List ℕ
level_words ls = join (λ l. l.rotation.0 ∷ length l.pairs ∷ []) ls

-- 1 for true, 0 for false
abbrev pub flag : Bool → ℕ
flag true = 1
flag false = 0

-- ---- keys and switches

-- the rotations of the levels that have pairs
abbrev pub keyed : Rot → List PairRecord → List ℕ
keyed rot [] = []
keyed rot (p ∷ ps) = rot.0 ∷ []

unfoldable pub tree_keys : Tree → List ℕ
tree_keys t = join (λ l. keyed l.rotation l.pairs) t.levels

-- the pairs of all levels
unfoldable pub tree_switches : Tree → ℕ
tree_switches t = length (tree_records t)
