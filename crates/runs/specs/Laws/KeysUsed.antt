-- Laws of a plan's keys: each switch of the schedule rotates by a key rotation of the plan, and each key rotation is that of
-- a switch; so a run whose keys are held asks for no other.
-- Assumes nothing.
use Rattle.std.specs.Prelude.{◌≡◌, ℕ, suc, ◌≤◌, true, false, not, List, [], ◌∷◌, ◌++◌, map, length}
use Rattle.std.proofs.Common.{ap, ◌∙◌, map-id, not-suc-le-zero, arith}
use Rattle.std.proofs.lemmas.Simd.{map-map}
use Rattle.std.proofs.lemmas.List.{map-append}
use Rattle.std.proofs.lemmas.Bool.{not-true, not-false}
use Rattle.ring.specs.Lists.{join, some, Each, among}
use Rattle.ring.specs.Vectors.{tabulate}
use Rattle.ring.specs.Laws.Lists.{each_all, each_append, each_front, each_back, each_map, map_each}
use Rattle.ring.specs.Laws.Members.{among_each, among_some}
use Rattle.ring.specs.Laws.Refusals.{either}
use Rattle.linear_transformation.specs.declared.LinearTransformationStrategy.{LinearTransformationStrategy}
use Rattle.linear_transformation.specs.declared.LinearTransformationStrategy.TheVariants.{Bsgs, BsgsPowersOfTwo, Direct}
use Rattle.linear_transformation.specs.declared.digits.Rot.{Rot}
use Rattle.linear_transformation.specs.Plans.{babies, giants}
use Rattle.linear_transformation.specs.Closures.{closure, targets, Pass, pass_of, passes, nonzeros}
use Rattle.linear_transformation.specs.declared.records.PairRecord.{PairRecord}
use Rattle.linear_transformation.specs.Trees.{Level, keyed, tree_keys}
use Rattle.linear_transformation.specs.Schedules.{baby_step, baby_multiples, plan_babies, plan_tree, keys_per_rotation, plan_keys}
use Rattle.linear_transformation.specs.Laws.Runs.{some_member}
use Rattle.runs.specs.Switches.{place_of, from_input, Switch, baby, giant, rotation_of, own_babies, moved, pass_babies, plan_passes, baby_schedule, own_giants, joined, level_switches, giant_schedule, schedule}
use Rattle.linear_transformation.specs.Stored.{is_missing}

-- ---- a key for each rotation

own_rotations : (bs gs : List ℕ) → map rotation_of (own_babies bs ++ own_giants gs) ≡ keys_per_rotation bs gs
own_rotations bs gs =
    map-append rotation_of (own_babies bs) (own_giants gs)
    ∙ rw (map-map rotation_of (λ k. baby (place_of k (nonzeros bs)) from_input k) (nonzeros bs), map-map rotation_of (λ g. giant (place_of g gs) g) (nonzeros gs), map-id (nonzeros bs), map-id (nonzeros gs))

-- ---- with powers of two

module _ (P : ℕ → Type 0) where
  -- P of a switch's rotation
  abbrev Of : Switch → Type 0
  Of w = P (rotation_of w)

  module _ (bs : List ℕ) where
    -- each move of a pass rotates by the pass rotation
    passes_to : (ps : List Pass) → Each P (map (λ p. p.rotation) ps) → Each Of (pass_babies bs ps)
    passes_to [] h = tt
    passes_to (p ∷ ps) h =
        each_append Of (map (moved bs p.rotation) p.moves) (pass_babies bs ps)
        (each_map Of (moved bs p.rotation) p.moves (each_all (λ m. h.0) p.moves))
        (passes_to ps h.1)

    one_move : (rotation : ℕ) (ms : List (ℕ × ℕ)) → 1 ≤ length ms → Each Of (map (moved bs rotation) ms) → P rotation
    one_move rotation [] l h = absurd (not-suc-le-zero l)
    one_move rotation (m ∷ ms) l h = h.0

    -- and each pass has a move
    passes_from : (ps : List Pass) → Each (λ p. 1 ≤ length p.moves) ps → Each Of (pass_babies bs ps) → Each P (map (λ p. p.rotation) ps)
    passes_from [] n h = tt
    passes_from (p ∷ ps) n h =
        let front = map (moved bs p.rotation) p.moves in
        (one_move p.rotation p.moves n.0 (each_front Of front (pass_babies bs ps) h), passes_from ps n.1 (each_back Of front (pass_babies bs ps) h))

  module _ (leaves : List ℕ) where
    -- each pair of a level rotates by the level's rotation
    pairs_to : (i : ℕ) (rot : Rot) (ps : List PairRecord) → Each P (keyed rot ps) → Each Of (map (joined leaves i rot.0) ps)
    pairs_to i rot [] h = tt
    pairs_to i rot (p ∷ ps) h = each_map Of (joined leaves i rot.0) (p ∷ ps) (each_all (λ q. h.0) (p ∷ ps))

    pairs_from : (i : ℕ) (rot : Rot) (ps : List PairRecord) → Each Of (map (joined leaves i rot.0) ps) → Each P (keyed rot ps)
    pairs_from i rot [] h = tt
    pairs_from i rot (p ∷ ps) h = (h.0, tt)

    abbrev keys_of : List Level → List ℕ
    keys_of ls = join (λ l. keyed l.rotation l.pairs) ls

    levels_to : (i : ℕ) (ls : List Level) → Each P (keys_of ls) → Each Of (level_switches leaves i ls)
    levels_to i [] h = tt
    levels_to i (l ∷ ls) h =
        each_append Of (map (joined leaves i l.rotation.0) l.pairs) (level_switches leaves (suc i) ls)
        (pairs_to i l.rotation l.pairs (each_front P (keyed l.rotation l.pairs) (keys_of ls) h))
        (levels_to (suc i) ls (each_back P (keyed l.rotation l.pairs) (keys_of ls) h))

    levels_from : (i : ℕ) (ls : List Level) → Each Of (level_switches leaves i ls) → Each P (keys_of ls)
    levels_from i [] h = tt
    levels_from i (l ∷ ls) h =
        let front = map (joined leaves i l.rotation.0) l.pairs in
        let back = level_switches leaves (suc i) ls in
        each_append P (keyed l.rotation l.pairs) (keys_of ls)
        (pairs_from i l.rotation l.pairs (each_front Of front back h))
        (levels_from (suc i) ls (each_back Of front back h))

-- no pass is without a move
passes_move : (b step : ℕ) (cs : List ℕ) → Each (λ p. 1 ≤ length p.moves) (passes b step cs)
unfolding passes
passes_move b step cs = all (tabulate b (λ i. i))
  where
    one : (i : ℕ) (ks : List ℕ) → Each (λ p. 1 ≤ length p.moves) (pass_of step i ks)
    one i [] = tt
    one i (k ∷ ks) = (omega arith, tt)

    all : (is : List ℕ) → Each (λ p. 1 ≤ length p.moves) (join (λ i. pass_of step i (targets cs i)) is)
    all [] = tt
    all (i ∷ is) = each_append (λ p. 1 ≤ length p.moves) (pass_of step i (targets cs i)) (join (λ i. pass_of step i (targets cs i)) is) (one i (targets cs i)) (all is)

-- ---- the keys of a plan

module _ (P : ℕ → Type 0) (slots : ℕ) where
  own_to : (bs gs : List ℕ) → Each P (keys_per_rotation bs gs) → Each (λ w. P (rotation_of w)) (own_babies bs ++ own_giants gs)
  own_to bs gs h = map_each P rotation_of (own_babies bs ++ own_giants gs) (rw (own_rotations bs gs) h)

  own_from : (bs gs : List ℕ) → Each (λ w. P (rotation_of w)) (own_babies bs ++ own_giants gs) → Each P (keys_per_rotation bs gs)
  own_from bs gs h = rw (own_rotations bs gs) at (each_map P rotation_of (own_babies bs ++ own_giants gs) h)

  -- what holds of each key rotation holds of each switch's rotation
  pub keys_each : (strategy : LinearTransformationStrategy) (ks : List ℕ) → Each P (plan_keys slots strategy ks) → Each (λ w. P (rotation_of w)) (schedule slots strategy ks)
  unfolding plan_keys plan_babies plan_passes baby_schedule giant_schedule tree_keys
  keys_each (Bsgs width) ks h = own_to (babies slots width ks) (giants slots width ks) h
  keys_each (BsgsPowersOfTwo width) ks h =
      let bs = plan_babies slots (BsgsPowersOfTwo width) ks in
      let ps = plan_passes slots width ks in
      let t = plan_tree slots width ks in
      let front = map (λ (p : Pass). p.rotation) ps in
      each_append (λ w. P (rotation_of w)) (pass_babies bs ps) (level_switches t.leaves 0 t.levels)
      (passes_to P bs ps (each_front P front (tree_keys t) h))
      (levels_to P t.leaves 0 t.levels (each_back P front (tree_keys t) h))
  keys_each Direct ks h = own_to (babies slots 1 ks) (giants slots 1 ks) h

  -- and the other way round
  pub switches_each : (strategy : LinearTransformationStrategy) (ks : List ℕ) → Each (λ w. P (rotation_of w)) (schedule slots strategy ks) → Each P (plan_keys slots strategy ks)
  unfolding plan_keys plan_babies plan_passes baby_schedule giant_schedule tree_keys
  switches_each (Bsgs width) ks h = own_from (babies slots width ks) (giants slots width ks) h
  switches_each (BsgsPowersOfTwo width) ks h =
      let bs = plan_babies slots (BsgsPowersOfTwo width) ks in
      let step = baby_step slots width ks in
      let cs = closure 16 (baby_multiples slots width ks) in
      let ps = plan_passes slots width ks in
      let t = plan_tree slots width ks in
      let back = level_switches t.leaves 0 t.levels in
      each_append P (map (λ (p : Pass). p.rotation) ps) (tree_keys t)
      (passes_from P bs ps (passes_move 16 step cs) (each_front (λ w. P (rotation_of w)) (pass_babies bs ps) back h))
      (levels_from P t.leaves 0 t.levels (each_back (λ w. P (rotation_of w)) (pass_babies bs ps) back h))
  switches_each Direct ks h = own_from (babies slots 1 ks) (giants slots 1 ks) h

module _ (slots : ℕ) (strategy : LinearTransformationStrategy) (ks : List ℕ) where
  -- each switch rotates by a key rotation of the plan
  pub rotations_are_keys : Each (λ w. among (rotation_of w) (plan_keys slots strategy ks) ≡ true) (schedule slots strategy ks)
  rotations_are_keys =
      let keys = plan_keys slots strategy ks in
      keys_each (λ k. among k keys ≡ true) slots strategy ks (among_each (λ k. among k keys ≡ true) keys (λ k h. h))

  -- each key rotation is that of a switch
  pub keys_are_used : Each (λ k. among k (map rotation_of (schedule slots strategy ks)) ≡ true) (plan_keys slots strategy ks)
  keys_are_used =
      let ws = schedule slots strategy ks in
      let used = map rotation_of ws in
      switches_each (λ k. among k used ≡ true) slots strategy ks
      (map_each (λ k. among k used ≡ true) rotation_of ws (among_each (λ k. among k used ≡ true) used (λ k h. h)))

-- ---- the held keys

-- none is missing: each is held
pub none_missing : (held keys : List ℕ) → is_missing held keys ≡ false → Each (λ k. among k held ≡ true) keys
unfolding is_missing
none_missing held [] e = tt
none_missing held (k ∷ ks) e =
    let b = either (not (among k held)) (some (λ k. not (among k held)) ks) e in
    (not-false (among k held) b.0, none_missing held ks b.1)

-- one is missing exactly if some key of the list is not held
pub missing_key : (held keys : List ℕ) → is_missing held keys ≡ true → (k : ℕ) × ((among k keys ≡ true) × (among k held ≡ false))
unfolding is_missing
missing_key held keys e =
    let x = some_member (λ k. not (among k held)) keys e in
    (x.0, (x.1.0, not-true (among x.0 held) x.1.1))

pub key_missing : (held keys : List ℕ) (k : ℕ) → among k keys ≡ true → among k held ≡ false → is_missing held keys ≡ true
unfolding is_missing
key_missing held keys k a e = among_some (λ k. not (among k held)) keys k a (ap not e)

-- where no key of the plan is missing, each switch rotates by a held one
pub held_alone : (held : List ℕ) (slots : ℕ) (strategy : LinearTransformationStrategy) (ks : List ℕ) → is_missing held (plan_keys slots strategy ks) ≡ false → Each (λ w. among (rotation_of w) held ≡ true) (schedule slots strategy ks)
held_alone held slots strategy ks e = keys_each (λ k. among k held ≡ true) slots strategy ks (none_missing held (plan_keys slots strategy ks) e)
