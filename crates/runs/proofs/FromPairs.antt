-- The giant switches of a plan with powers of two: its pairs by the places of the leaves, what the walk over them asks, and
-- the answer.
-- Assumes nothing.
use Rattle.std.proofs.Common.{◌≡◌, ℕ, zero, suc, ◌^◌, ◌<◌, ◌≤◌, false, List, [], ◌∷◌, map, length, get_or, take, sym, refl, ap, ◌∙◌, le_of_suc-le-suc, not-suc-le-zero, zero-mul, arith}
use lib.ListN.{length-map}
use Rattle.ring.specs.Lists.{Rising}
use Rattle.ring.specs.Refusals.{Range}
use Rattle.ring.specs.Vectors.{tabulate}
use Rattle.ring.specs.Laws.Lists.{each_both}
use Rattle.linear_transformation.specs.declared.LinearTransformationStrategy.{LinearTransformationStrategy}
use Rattle.linear_transformation.specs.declared.LinearTransformationStrategy.TheVariants.{Bsgs, BsgsPowersOfTwo, Direct}
use Rattle.linear_transformation.specs.Strategies.{width_outside}
use Rattle.linear_transformation.specs.Plans.{width_of, Distinct, Planned}
use Rattle.linear_transformation.specs.Trees.{Tree, tree_of}
use Rattle.linear_transformation.specs.Schedules.{plan_giants, plan_tree}
use Rattle.linear_transformation.specs.Stored.{step_of, bits_for}
use Rattle.linear_transformation.specs.Laws.Plans.{width_positive, giants_below, giants_multiple}
use Rattle.linear_transformation.specs.Laws.Runs.{giants_few}
use Rattle.linear_transformation.specs.Laws.Stored.{tree_bits_low}
use Rattle.linear_transformation.specs.Laws.Widths.{distinct_planned}
use Rattle.linear_transformation.proofs.Keyings.{width_range}
use Rattle.runs.specs.Switches.{tree_schedule, giant_schedule}
use Rattle.runs.specs.Machines.{vector_at, top_node, answer_of}
use Rattle.runs.specs.Laws.NodePlaces.{top_place}
use Rattle.runs.specs.Laws.PairStarts.{levels_starts}
use Rattle.runs.specs.Laws.TreeAnswers.{tree_leaves, length_leaves, leaf_low, tree_rises}
use Rattle.runs.specs.Steps.Giants.{switch_at, starts, join_by}
use Rattle.runs.specs.Steps.Leaves.{leaves_by, EachGiant}

-- the top node of some leaves is the first vector
by_top : (slots b : ℕ) (ls buffer : List ℕ) → 0 < length ls → get_or ls 0 0 < 2 ^ b → Rising ls → top_node slots b ls buffer ≡ take slots buffer
unfolding vector_at
by_top slots b [] buffer h l r = absurd (not-suc-le-zero h)
by_top slots b (x ∷ xs) buffer h l r = rw (top_place x xs b l r, zero-mul slots)

-- ---- a plan with powers of two

module _ (slots : ℕ) (strategy : LinearTransformationStrategy) (ks : List ℕ) (s : 1 ≤ step_of slots strategy ks) where
  powers_by : (g : LinearTransformationStrategy) → 1 ≤ step_of slots g ks → g ≡ BsgsPowersOfTwo (width_of g)
  unfolding step_of
  powers_by (Bsgs width) h = absurd (not-suc-le-zero h)
  powers_by (BsgsPowersOfTwo width) h = refl
  powers_by Direct h = absurd (not-suc-le-zero h)

  -- a step is one of powers of two
  pub powers : strategy ≡ BsgsPowersOfTwo (width_of strategy)
  powers = powers_by strategy s

  pub schedule_is : giant_schedule slots strategy ks ≡ tree_schedule (plan_tree slots (width_of strategy) ks)
  unfolding giant_schedule
  schedule_is = ap (λ (g : LinearTransformationStrategy). giant_schedule slots g ks) powers

  answer_is : (m : ℕ) (buffer : List ℕ) → let t = plan_tree slots (width_of strategy) ks in answer_of m slots strategy ks buffer ≡ top_node slots t.bits t.leaves buffer
  unfolding answer_of
  answer_is m buffer = ap (λ (g : LinearTransformationStrategy). answer_of m slots g ks buffer) powers

  -- the answer of no giants, and of some
  pub answer_none : (m : ℕ) (buffer : List ℕ) → length (plan_giants slots strategy ks) ≡ 0 → answer_of m slots strategy ks buffer ≡ tabulate slots (λ s. 0)
  answer_none m buffer e = let t = plan_tree slots (width_of strategy) ks in answer_is m buffer ∙ by t.leaves (length_leaves slots (width_of strategy) ks ∙ e)
    where
      by : (ls : List ℕ) → length ls ≡ 0 → top_node slots (plan_tree slots (width_of strategy) ks).bits ls buffer ≡ tabulate slots (λ s. 0)
      by [] h = refl
      by (l ∷ ls) h = absurd (omega arith)

  pub answer_some : width_outside strategy ≡ false → Distinct slots ks → (m : ℕ) (buffer : List ℕ) → 0 < length (plan_giants slots strategy ks) → answer_of m slots strategy ks buffer ≡ take slots buffer
  answer_some w d m buffer h =
      let width = width_of strategy in
      let t = plan_tree slots width ks in
      answer_is m buffer
      ∙ by_top slots t.bits t.leaves buffer (rw (length_leaves slots width ks) h) (leaf_low slots width ks 0 h) (tree_rises slots width ks (distinct_planned d width (width_positive strategy w)))

-- the first elements, each replaced
take_table : {A B : Type 0} (f : A → B) (n : ℕ) (xs : List A) (d : A) → n ≤ length xs → tabulate n (λ q. f (get_or xs q d)) ≡ take n (map f xs)
take_table f zero xs d h = refl
take_table f (suc n) [] d h = absurd (not-suc-le-zero h)
take_table f (suc n) (x ∷ xs) d h = ap (λ (t : List _). f x ∷ t) (take_table f n xs d (le_of_suc-le-suc h))

-- ---- its pairs, by the places of the leaves

module _ (slots : ℕ) (strategy : LinearTransformationStrategy) (ks : List ℕ) (s : 1 ≤ step_of slots strategy ks) {bits : ℕ} (eb : bits ≡ bits_for slots strategy ks)
    (r : Range slots) (w : width_outside strategy ≡ false) (d : Distinct slots ks) where
  abbrev width : ℕ
  width = width_of strategy

  abbrev t : Tree
  t = plan_tree slots width ks

  abbrev gs : List ℕ
  gs = plan_giants slots strategy ks

  abbrev leaves : List ℕ
  leaves = leaves_by slots width (2 ^ bits) gs

  planned : Planned slots width ks
  planned = distinct_planned d width (width_positive strategy w)

  bits_are : bits ≡ t.bits
  unfolding bits_for
  bits_are = eb ∙ ap (λ (g : LinearTransformationStrategy). bits_for slots g ks) (powers slots strategy ks s)

  pub bits_low : bits ≤ 16
  bits_low = omega (arith, bits_are, tree_bits_low slots width ks planned.positive r.high)

  leaves_are : leaves ≡ t.leaves
  leaves_are = rw bits_are (sym (tree_leaves slots width ks))

  tree_starts : tree_schedule t ≡ map (switch_at slots width t.bits t.leaves (length t.leaves)) (starts t.leaves (length t.leaves) t.bits)
  unfolding plan_tree tree_of
  tree_starts = levels_starts slots width t.bits t.leaves (tree_rises slots width ks planned) (λ q l. leaf_low slots width ks q (rw (← length_leaves slots width ks) l))

  switches_are : giant_schedule slots strategy ks ≡ map (switch_at slots width bits leaves (length gs)) (starts leaves (length gs) bits)
  switches_are = schedule_is slots strategy ks s ∙ tree_starts ∙ rw (length_leaves slots width ks, leaves_are, bits_are) refl

  -- the giants of the tree
  pub plan_width : Range (width_of strategy)
  plan_width = width_range strategy w

  pub each_giant : EachGiant slots (width_of strategy) (plan_giants slots strategy ks)
  each_giant = each_both (λ g l m. (l, m)) gs (giants_below slots width ks) (giants_multiple slots width ks)

  pub rising_leaves : Rising (leaves_by slots (width_of strategy) (2 ^ bits) (plan_giants slots strategy ks))
  rising_leaves = rw leaves_are (tree_rises slots width ks planned)

  pub plan_giants_low : length (plan_giants slots strategy ks) ≤ 65536
  plan_giants_low = omega (arith, giants_few slots width ks, r.high)

  module _ (n : ℕ) (h : n ≤ length (giant_schedule slots strategy ks)) where
    pub pairs_few : n ≤ length (starts (leaves_by slots (width_of strategy) (2 ^ bits) (plan_giants slots strategy ks)) (length (plan_giants slots strategy ks)) bits)
    pairs_few = omega (arith, ap length switches_are ∙ length-map (starts leaves (length gs) bits) (switch_at slots width bits leaves (length gs)))

    -- the first switches, as a table over the starts
    pub pairs_by : tabulate n (λ q. join_by (plan_giants slots strategy ks) (width_of strategy) slots bits q)
        ≡ take n (giant_schedule slots strategy ks)
    pairs_by = take_table (switch_at slots width bits leaves (length gs)) n (starts leaves (length gs) bits) 0 pairs_few ∙ ap (take n) (sym switches_are)
