-- The answers of the calls about a plan's babies, keys and switches.
-- Assumes nothing.
use Prim.Native.Nat.{ℕ, ◌+◌, ◌-◌, ◌*◌, ◌^◌, ◌≤◌, ◌<◌}
use mathlib.Core.Path.{◌≡◌, refl, sym, ap, ap₂, ◌∙◌}
use mathlib.Core.Bool.{Bool, false}
use mathlib.Core.List.{List, [], ◌∷◌, ◌++◌, map}
use mathlib.Core.Logic.{◌⊎◌, inl, inr}
use native.Mathlib.Nat.{le_refl, mod-eq_of_lt, eq-zero-or-pos}
use native.Mathlib.Omega.{arith}
use lib.IntN.{ℤ, pos}
use lib.ListN.{length, set, length-set, take, drop, length-map, length-append}
use lib.Pow.{pow_mono}
use lib.Seq.{take_at, get_or-set_same, get_or-set_other}
use Rattle.ring.specs.Lists.{Each}
use Rattle.ring.specs.Vectors.{in_front, Behind}
use Rattle.ring.specs.Searches.{below}
use Rattle.ring.specs.Marks.{marks}
use Rattle.ring.specs.Refusals.{first_refusal, outside}
use Rattle.ring.specs.Answers.{answered}
use Rattle.std.specs.Prelude.{Result, Ok, Err}
use Rattle.ring.specs.declared.refusal.Refusal.{Refusal}
use Rattle.ring.specs.declared.refusal.Refusal.TheVariants.{Room}
use Rattle.ring.specs.Laws.Below.{below_le}
use Rattle.ring.specs.Laws.Vectors.{length_tabulate, in_front_in_front}
use Rattle.ring.specs.Laws.Residues.{residue_pos}
use Rattle.linear_transformation.specs.declared.LinearTransformationStrategy.{LinearTransformationStrategy}
use Rattle.linear_transformation.specs.declared.LinearTransformationStrategy.TheVariants.{BsgsPowersOfTwo}
use Rattle.linear_transformation.specs.declared.digits.Rot.{Rot}
use Rattle.linear_transformation.specs.declared.tree.Tree.{Tree as HeapTree}
use Rattle.linear_transformation.specs.Strategies.{width_outside}
use Rattle.linear_transformation.specs.Plans.{width_of, babies, giants}
use Rattle.ring.specs.Residues.{diagonals_of}
use Rattle.linear_transformation.specs.Closures.{closure, targets, pass_rotations, nonzeros, non_empty}
use Rattle.linear_transformation.specs.Digits.{rot_of}
use Rattle.linear_transformation.specs.Trees.{tree_of, tree_keys, tree_switches}
use Rattle.linear_transformation.specs.Listed.{list_tree}
use Rattle.linear_transformation.specs.Schedules.{baby_step, baby_multiples, plan_babies, plan_tree, keys_per_rotation, plan_keys, giant_switches}
use Rattle.linear_transformation.specs.Calls.{ListWritten}
use Rattle.linear_transformation.specs.Steps.Plans.{DiagonalsAccepted}
use Rattle.linear_transformation.specs.Steps.Trees.{Planted, TreeOf, heap_level, heap_levels, heap_switches, levels_in, keys_of}
use Rattle.linear_transformation.specs.Steps.Keys.{Sizable, Accepted, BabyTable, ClosureTable, giants_of, Switches, BabySwitches}
use Rattle.linear_transformation.specs.Laws.Plans.{planned, width_positive, giants_below}
use Rattle.linear_transformation.specs.Laws.Runs.{giants_bound, giants_few}
use Rattle.linear_transformation.specs.Laws.Passes.{rotations_are}
use Rattle.linear_transformation.specs.Laws.Stored.{nonzeros_few, keyed_few, babies_switched}
use Rattle.linear_transformation.specs.Laws.Turns.{nonzeros_below, nonzeros_times}
use Rattle.linear_transformation.proofs.Writings.{writing_then, writing_done}
use Rattle.linear_transformation.proofs.BabyLists.{list_later_by, list_short, list_written}
use Rattle.linear_transformation.proofs.Heaps.{switches_low}
use Rattle.linear_transformation.proofs.Growth.{tree_switches_lem, keys_of_tree}
use Rattle.linear_transformation.proofs.Strategies.{Own}
use Rattle.linear_transformation.proofs.PlanAnswers.{in_range_lem}
use Rattle.linear_transformation.specs.Steps.Tables.{Bounded, tops_of, Writing}

-- ---- accepted diagonals

-- what is made of accepted diagonals: a list, or a number
module _ {cs : List (Bool × Refusal)} {slots : ℕ} {s : LinearTransformationStrategy} {ds : List ℕ} {n : ℕ} {t : LinearTransformationStrategy} {ks : List ℕ} (k : DiagonalsAccepted cs slots s ds n t ks) where
  pub plan_later : (f : ℕ → LinearTransformationStrategy → List ℕ → List ℕ) {old new : List ℕ} {a : Result ℕ Refusal} → ListWritten [] (f n t ks) old new a → ListWritten cs (f slots s ds) old new a
  plan_later f w = rw (k.slots_is, k.strategy_is, k.diagonals_are) at (list_later_by cs k.none w)

  pub count_later : (f : ℕ → LinearTransformationStrategy → List ℕ → ℕ) {v : ℕ} → v ≡ f n t ks → Ok v ≡ answered (first_refusal cs) (f slots s ds)
  count_later f q = rw (k.none, q, k.slots_is, k.strategy_is, k.diagonals_are) refl

-- the diagonals that indexes name
pub named_accepted : {slots : ℕ} {s : LinearTransformationStrategy} (zs : List ℤ) {ds : List ℕ} → outside slots ≡ false → width_outside s ≡ false → ds ≡ diagonals_of slots zs → Accepted slots s ds
named_accepted {slots} {s} zs o w e = rw e (record { slots_in_fact = in_range_lem o; width_in = w; planned = planned slots (width_of s) zs (width_positive s w) })

-- ---- babies

module _ {bs : List ℕ} {seen : List Bool} {n step : ℕ} (t : BabyTable bs seen n step) where
  table_length : length (below (marks seen) n) ≡ length bs
  table_length = sym (length-map (below (marks seen) n) (λ k. k * step)) ∙ ap length t.are

  module _ {count : ℕ} (c : count ≡ length (below (marks seen) n)) {old : List ℕ} where
    pub babies_written : {new : List ℕ} {at : ℕ} → count ≤ length old → Writing 0 (map (λ k. k * step) (below (marks seen) n)) old new at → ListWritten [] bs old new (Ok count)
    babies_written l w = list_written bs old (c ∙ table_length) l (writing_done w ∙ ap (λ (t : List ℕ). in_front t old) t.are)

  -- without the mark of 0
  pub turning_babies : map (λ k. k * step) (below (marks (set seen 0 false)) n) ≡ nonzeros bs
  turning_babies =
      ap (map (λ k. k * step))
      (sym (nonzeros_below (marks seen) (marks (set seen 0 false)) n
      (get_or-set_same seen 0 false false (omega (arith, t.bounded.size)))
      (λ k l. sym (get_or-set_other seen 0 k false false (λ q. omega arith)))))
      ∙ sym (nonzeros_times step (below (marks seen) n) t.range.low)
      ∙ ap nonzeros t.are

  turning_length : length (below (marks (set seen 0 false)) n) ≡ length (nonzeros bs)
  turning_length = sym (length-map (below (marks (set seen 0 false)) n) (λ k. k * step)) ∙ ap length turning_babies

  turning_few : length (nonzeros bs) ≤ 65536
  turning_few = omega (arith, turning_length, below_le (marks (set seen 0 false)) n, t.bounded.room)

-- it is a table too
pub cleared_bounded : {seen : List Bool} {n : ℕ} → Bounded seen n → Bounded (set seen 0 false) n
cleared_bounded {seen} {n} b = record { size = simp length-set b.size; room = b.room; above = above }
  where
    by : (k : ℕ) → n ≤ k → (k ≡ 0) ⊎ (0 < k) → marks (set seen 0 false) k ≡ false
    by k l (inl e) = rw e (get_or-set_same seen 0 false false (omega (arith, b.size)))
    by k l (inr h) = get_or-set_other seen 0 k false false (λ q. omega arith) ∙ b.above k l

    above : (k : ℕ) → n ≤ k → marks (set seen 0 false) k ≡ false
    above k l = by k l (eq-zero-or-pos k)

-- one of a plan's babies is 0, which asks for no switch
module _ {slots : ℕ} (s : LinearTransformationStrategy) (ds : List ℕ) {seen : List Bool} {n step count : ℕ} (l : 0 < slots) (t : BabyTable (plan_babies slots s ds) seen n step) (c : count ≡ length (below (marks seen) n)) where
  pub some_babies : count ≡ length (nonzeros (plan_babies slots s ds)) + 1
  some_babies = omega (arith, c, table_length t, babies_switched slots ds l s)

  pub baby_switches : BabySwitches slots s ds (count - 1)
  baby_switches = record { are = omega (arith, some_babies); few = omega (arith, c, below_le (marks seen) n, t.bounded.room) }

-- ---- the tree of a plan

rotations_same : (slots : ℕ) (gs : List ℕ) → 0 < slots → Each (λ g. g < slots) gs → map (rot_of slots) (map pos gs) ≡ map (λ g. record { 0 = g }) gs
rotations_same slots [] l h = refl
rotations_same slots (g ∷ gs) l h =
    ap₂ (λ (x : ℕ) (xs : List Rot). record { 0 = x } ∷ xs) (residue_pos g slots l ∙ mod-eq_of_lt h.0) (rotations_same slots gs l h.1)

module _ {slots width : ℕ} {ds : List ℕ} (z : Sizable slots width ds) where
  same_giants : giants 65536 width ds ≡ giants slots width ds
  same_giants = giants_bound z.planned 65536 z.slots_in_fact.high

  pub plan_tree_lem : list_tree slots width (giants_of width ds) ≡ plan_tree slots width ds
  unfolding plan_tree
  plan_tree_lem = ap (tree_of slots width) (ap (λ (gs : List ℕ). map (rot_of slots) (map pos gs)) same_giants ∙ rotations_same slots (giants slots width ds) z.slots_in_fact.low (giants_below slots width ds))

  pub pairs_counted : {heap : List Bool} {bits count : ℕ} → Planted slots width (giants_of width ds) heap bits → count ≡ heap_switches bits heap bits → Switches slots (BsgsPowersOfTwo width) ds count
  unfolding giant_switches
  pairs_counted {heap} {bits} p c =
      record {
        are = c ∙ tree_switches_lem p ∙ ap tree_switches plan_tree_lem;
        few = omega (arith, c, switches_low bits heap bits (le_refl bits), pow_mono {i = bits} {j = 16} p.small);
      }

-- ---- giants

module _ {slots width : ℕ} {ds : List ℕ} (z : Sizable slots width ds) {n : ℕ} (c : n ≡ length (nonzeros (giants 65536 width ds))) where
  turns_are : n ≡ length (nonzeros (giants slots width ds))
  turns_are = rw (← same_giants z) c

  pub own_few : n ≤ 65536
  own_few = omega (arith, c, nonzeros_few (giants 65536 width ds), giants_few 65536 width ds)

  pub own_switches : {s : LinearTransformationStrategy} → Own s slots ds → width ≡ width_of s → Switches slots s ds n
  own_switches o e = record { are = rw (o.switches_are, ← e) turns_are; few = own_few }

pub powers_switches : {slots width : ℕ} {ds : List ℕ} {n : ℕ} {s : LinearTransformationStrategy} → s ≡ BsgsPowersOfTwo width → Switches slots (BsgsPowersOfTwo width) ds n → Switches slots s ds n
powers_switches e w = rw e w

-- ---- keys

module _ {slots width : ℕ} {ds : List ℕ} (z : Sizable slots width ds) {seen : List Bool} {n step count turns : ℕ} (t : BabyTable (babies slots width ds) seen n step)
    (c : count ≡ length (below (marks (set seen 0 false)) n)) (d : turns ≡ length (nonzeros (giants 65536 width ds))) where
  abbrev own : List ℕ
  own = keys_per_rotation (babies slots width ds) (giants slots width ds)

  own_length : count + turns ≡ length own
  own_length = omega (arith, length-append (nonzeros (babies slots width ds)) (nonzeros (giants slots width ds)), c, turning_length t, turns_are z d)

  pub own_small : count + turns ≤ 131072
  own_small = omega (arith, c, turning_length t, turning_few t, own_few z d)

  module _ (old : List ℕ) where
    pub own_short : length old < count + turns → ListWritten [] own old old (Err Room)
    own_short l = list_short own old own_length l

    module _ (l : count + turns ≤ length old) where
      module _ {mid : List ℕ} {at : ℕ} (u : Writing 0 (map (λ k. k * step) (below (marks (set seen 0 false)) n)) old mid at) where
        behind : at ≡ count
        behind = omega (arith, u.at_is, length-map (below (marks (set seen 0 false)) n) (λ k. k * step), c)

        pub turns_room : count + length (nonzeros (giants 65536 width ds)) ≤ length mid
        turns_room = omega (arith, u.len, d)

        module _ {new : List ℕ} {to : ℕ} (v : Writing count (nonzeros (giants 65536 width ds)) mid new to) where
          pub own_written : ListWritten [] own old new (Ok (count + turns))
          own_written = list_written own old own_length l (writing_done (writing_then (rw behind at u) v) ∙ rw (turning_babies t, same_giants z))

-- with powers of two
levels_length : (slots step b : ℕ) (heap : List Bool) (n : ℕ) → length (heap_levels slots step b heap n) ≡ n
unfolding heap_levels
levels_length slots step b heap n = length_tabulate n (heap_level slots step b heap)

module _ {slots width : ℕ} {ds : List ℕ} (z : Sizable slots width ds) {seen : List Bool} {n step passes levels : ℕ} (t : ClosureTable slots width ds seen n step)
    {h : HeapTree} (o : TreeOf slots width (giants_of width ds) h) (c : passes ≡ length (tops_of (below (marks seen) n) 16)) (d : levels ≡ length (keys_of (levels_in h))) where
  abbrev turns : List ℕ
  turns = pass_rotations 16 step (below (marks seen) n)

  abbrev steps : List ℕ
  steps = keys_of (levels_in h)

  turns_length : length turns ≡ passes
  turns_length = ap length (rotations_are step (below (marks seen) n) 16) ∙ length-map (tops_of (below (marks seen) n) 16) (λ i. 2 ^ i * step) ∙ sym c

  power_keys_are : turns ++ steps ≡ plan_keys slots (BsgsPowersOfTwo width) ds
  unfolding plan_keys
  power_keys_are =
      let a : turns ≡ pass_rotations 16 (baby_step slots width ds) (closure 16 (baby_multiples slots width ds)) = rw (t.closure_is, t.step_is) in
      ap₂ ◌++◌ a (keys_of_tree o ∙ ap tree_keys (plan_tree_lem z))

  power_length : passes + levels ≡ length (plan_keys slots (BsgsPowersOfTwo width) ds)
  power_length = sym (ap length (sym power_keys_are) ∙ length-append turns steps ∙ rw (turns_length, d))

  pub power_small : passes + levels ≤ 32
  power_small = omega (arith, c, below_le (λ i. non_empty (targets (below (marks seen) n) i)) 16, d, keyed_few (levels_in h), levels_length h.steps.slots h.steps.step h.bits h.nodes.now h.bits, h.low)

  module _ (old : List ℕ) where
    pub power_short : length old < passes + levels → ListWritten [] (plan_keys slots (BsgsPowersOfTwo width) ds) old old (Err Room)
    power_short l = list_short (plan_keys slots (BsgsPowersOfTwo width) ds) old power_length l

    module _ (l : passes + levels ≤ length old) where
      module _ {mid : List ℕ} (u : mid ≡ in_front turns old) where
        front_kept : take passes mid ≡ turns
        unfolding in_front
        front_kept = ap (take passes) u ∙ take_at turns (drop (length turns) old) passes turns_length

        module _ {new : List ℕ} {to : ℕ} (v : Behind passes steps mid new to) where
          new_is : new ≡ in_front (turns ++ steps) old
          new_is =
              v.is
              ∙ rw (front_kept, u) (in_front_in_front (turns ++ steps) turns old (omega (arith, length-append turns steps)) (omega (arith, turns_length)))

          pub power_written : ListWritten [] (plan_keys slots (BsgsPowersOfTwo width) ds) old new (Ok (passes + levels))
          power_written = list_written (plan_keys slots (BsgsPowersOfTwo width) ds) old power_length l (new_is ∙ ap (λ (t : List ℕ). in_front t old) power_keys_are)

-- ---- by the strategy

pub keys_own : {slots : ℕ} {s : LinearTransformationStrategy} {ds old new : List ℕ} {r : Result ℕ Refusal} → Own s slots ds → ListWritten [] (keys_per_rotation (babies slots (width_of s) ds) (giants slots (width_of s) ds)) old new r → ListWritten [] (plan_keys slots s ds) old new r
keys_own o t = rw o.keys_are t

module _ (slots : ℕ) (ds : List ℕ) {s : LinearTransformationStrategy} {old new : List ℕ} {r : Result ℕ Refusal} {w : ℕ} where
  pub keys_powers : s ≡ BsgsPowersOfTwo w → ListWritten [] (plan_keys slots (BsgsPowersOfTwo w) ds) old new r → ListWritten [] (plan_keys slots s ds) old new r
  keys_powers e t = rw e t
