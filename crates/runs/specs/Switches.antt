-- Document 01, "Keyed run" 1, 2 and 4: the switches that a plan determines, in order, with the places that each reads and
-- writes. A cache vector stands per nonzero plan baby, rising, and a node vector per giant, rising.
-- Assumes nothing.
use Rattle.std.specs.Prelude.{ℕ, zero, suc, ◌+◌, ◌-◌, ◌*◌, cond, List, [], ◌∷◌, ◌++◌, map, ◌==◌}
use Rattle.ring.specs.Lists.{join}
use Rattle.linear_transformation.specs.declared.LinearTransformationStrategy.{LinearTransformationStrategy}
use Rattle.linear_transformation.specs.declared.LinearTransformationStrategy.TheVariants.{Bsgs, BsgsPowersOfTwo, Direct}
use Rattle.linear_transformation.specs.Plans.{giants}
use Rattle.linear_transformation.specs.Closures.{closure, Pass, passes, nonzeros}
use Rattle.linear_transformation.specs.declared.records.PairRecord.{PairRecord}
use Rattle.linear_transformation.specs.Trees.{there, Level, Tree}
use Rattle.linear_transformation.specs.Schedules.{baby_step, baby_multiples, plan_babies, plan_tree}

-- the place of k in a list: that of the first element that is k
abbrev pub place_of : ℕ → List ℕ → ℕ
place_of k [] = 0
place_of k (x ∷ xs) = cond (x == k) 0 (suc (place_of k xs))

-- 1. what is read: the input, or a vector of the cache
pub data Source : Type 0 where
  from_input : Source
  from_cache : ℕ → Source

-- rotation 0 is read from the input, any other from the cache
abbrev pub source_of : List ℕ → ℕ → Source
source_of bs zero = from_input
source_of bs (suc k) = from_cache (place_of (suc k) (nonzeros bs))

-- the even's place, if it is there
pub data Even : Type 0 where
  none : Even
  at : ℕ → Even

-- a baby switch: the cache place that it writes, what it reads, and its rotation; a giant switch: the node place and the
-- rotation; a pair switch: the odd's place, the even's, and the rotation
pub data Switch : Type 0 where
  baby : ℕ → Source → ℕ → Switch
  giant : ℕ → ℕ → Switch
  pair : ℕ → Even → ℕ → Switch

-- the rotation of a switch, which it logs
abbrev pub rotation_of : Switch → ℕ
rotation_of (baby place source rotation) = rotation
rotation_of (giant place rotation) = rotation
rotation_of (pair odd even rotation) = rotation

-- ---- 2. baby switches

-- per rotation: each nonzero baby, rising, from the input
abbrev pub own_babies : List ℕ → List Switch
own_babies bs = map (λ k. baby (place_of k (nonzeros bs)) from_input k) (nonzeros bs)

-- with powers of two: passes in order, targets rising, each from its source by the pass rotation
abbrev pub moved : List ℕ → ℕ → ℕ × ℕ → Switch
moved bs rotation m = baby (place_of m.1 (nonzeros bs)) (source_of bs m.0) rotation

abbrev pub pass_babies : List ℕ → List Pass → List Switch
pass_babies bs ps = join (λ p. map (moved bs p.rotation) p.moves) ps

-- the passes of a plan
unfoldable pub plan_passes : ℕ → ℕ → List ℕ → List Pass
plan_passes slots width diagonals = passes 16 (baby_step slots width diagonals) (closure 16 (baby_multiples slots width diagonals))

unfoldable pub baby_schedule : ℕ → LinearTransformationStrategy → List ℕ → List Switch
baby_schedule slots (Bsgs width) ks = own_babies (plan_babies slots (Bsgs width) ks)
baby_schedule slots (BsgsPowersOfTwo width) ks = pass_babies (plan_babies slots (BsgsPowersOfTwo width) ks) (plan_passes slots width ks)
baby_schedule slots Direct ks = own_babies (plan_babies slots Direct ks)

-- ---- 4. giant switches

-- per rotation: each nonzero giant, rising, at its own place
abbrev pub own_giants : List ℕ → List Switch
own_giants gs = map (λ g. giant (place_of g gs) g) (nonzeros gs)

-- where the vector of node n of level i stands: a leaf's at its giant's place, a parent's where its even stood, or its odd
-- where there is no even
unfoldable pub node_place : List ℕ → ℕ → ℕ → ℕ
node_place leaves zero n = place_of n leaves
node_place leaves (suc i) n = cond (there leaves i (2 * n)) (node_place leaves i (2 * n)) (node_place leaves i (2 * n + 1))

-- the switch of a pair of level i
abbrev pub even_place : List ℕ → ℕ → PairRecord → Even
even_place leaves i p = cond p.even_there (at (node_place leaves i (p.odd - 1))) none

abbrev pub joined : List ℕ → ℕ → ℕ → PairRecord → Switch
joined leaves i rotation p = pair (node_place leaves i p.odd) (even_place leaves i p) rotation

-- levels upward from level i on, pairs in order
abbrev pub level_switches : List ℕ → ℕ → List Level → List Switch
level_switches leaves i [] = []
level_switches leaves i (l ∷ ls) = map (joined leaves i l.rotation.0) l.pairs ++ level_switches leaves (suc i) ls

abbrev pub tree_schedule : Tree → List Switch
tree_schedule t = level_switches t.leaves 0 t.levels

unfoldable pub giant_schedule : ℕ → LinearTransformationStrategy → List ℕ → List Switch
giant_schedule slots (Bsgs width) ks = own_giants (giants slots width ks)
giant_schedule slots (BsgsPowersOfTwo width) ks = tree_schedule (plan_tree slots width ks)
giant_schedule slots Direct ks = own_giants (giants slots 1 ks)

-- ---- the schedule: babies first

abbrev pub schedule : ℕ → LinearTransformationStrategy → List ℕ → List Switch
schedule slots strategy ks = baby_schedule slots strategy ks ++ giant_schedule slots strategy ks
