-- Laws of the records of a plan: the giants of a plan have themselves as giants, so their tree is the plan's; how many
-- records there are, and none without giants.
-- Assumes nothing.
use Rattle.std.specs.Prelude.{ℕ, zero, suc, ◌-◌, ◌%◌, ◌^◌, ◌<◌, ◌≡◌, refl, true, ◌||◌, List, [], ◌∷◌, ◌++◌, map, eqb, length}
use Rattle.std.proofs.Common.{ap, ap₂, ◌∙◌, arith}
use Rattle.ring.specs.Lists.{join, some, among, Each, Rising}
use Rattle.ring.specs.Vectors.{tabulate}
use Rattle.ring.specs.Laws.Below.{below_ext, below_none}
use Rattle.ring.specs.Laws.Members.{rising_below}
use Rattle.linear_transformation.specs.declared.LinearTransformationStrategy.{LinearTransformationStrategy}
use Rattle.linear_transformation.specs.declared.LinearTransformationStrategy.TheVariants.{Bsgs, BsgsPowersOfTwo, Direct}
use Rattle.linear_transformation.specs.Digits.{bits_of, level_rotation}
use Rattle.linear_transformation.specs.Plans.{giant_of, baby_of, giants}
use Rattle.linear_transformation.specs.Trees.{there, nodes, pairs_at, Level, levels_of, tree_of, tree_records, tree_switches}
use Rattle.linear_transformation.specs.Schedules.{plan_giants, plan_tree}
use Rattle.linear_transformation.specs.Stored.{offsets_rise, pair_count, plan_records}
use Rattle.linear_transformation.specs.Laws.Plans.{giants_rise, giants_below, giants_multiple}
use Rattle.linear_transformation.specs.Laws.Stored.{distinct_rise}

-- ---- the giants of giants

some_own : (width v : ℕ) (gs : List ℕ) → Each (λ g. g % width ≡ 0) gs → some (λ k. eqb (giant_of width k) v) gs ≡ among v gs
unfolding giant_of baby_of
some_own width v [] h = refl
some_own width v (g ∷ gs) h =
    let e : g - g % width ≡ g = omega (arith, h.0) in
    ap₂ ◌||◌ (ap (λ (k : ℕ). eqb k v) e) (some_own width v gs h.1)

-- rising multiples of the width are their own giants
pub giants_own : (slots width : ℕ) (gs : List ℕ) → Rising gs → Each (λ g. g < slots) gs → Each (λ g. g % width ≡ 0) gs → giants slots width gs ≡ gs
unfolding giants
giants_own slots width gs r l m =
    below_ext (λ g. some (λ k. eqb (giant_of width k) g) gs) (λ g. among g gs) slots (λ v _. some_own width v gs m) ∙ rising_below slots gs r l

module _ (slots : ℕ) (s : LinearTransformationStrategy) (ks : List ℕ) where
  -- the giants of a plan rise, below slots
  pub giants_offsets : offsets_rise slots (plan_giants slots s ks) ≡ true
  giants_offsets = distinct_rise slots (plan_giants slots s ks) (record { rises = giants_rise slots _ ks; low = giants_below slots _ ks })

  -- and are the plan's giants over again
  pub giants_again : plan_giants slots s (plan_giants slots s ks) ≡ plan_giants slots s ks
  giants_again = giants_own slots _ (plan_giants slots s ks) (giants_rise slots _ ks) (giants_below slots _ ks) (giants_multiple slots _ ks)

-- ---- the tree over them

pub tree_again : (slots width : ℕ) (ks : List ℕ) → plan_tree slots width (giants slots width ks) ≡ plan_tree slots width ks
unfolding plan_tree
tree_again slots width ks = ap (λ (gs : List ℕ). tree_of slots width (map (λ g. record { 0 = g }) gs)) (giants_again slots (BsgsPowersOfTwo width) ks)

pub records_again : (slots : ℕ) (s : LinearTransformationStrategy) (ks : List ℕ) → plan_records slots s (plan_giants slots s ks) ≡ plan_records slots s ks
unfolding plan_records
records_again slots (Bsgs w) ks = refl
records_again slots (BsgsPowersOfTwo w) ks = ap tree_records (tree_again slots w ks)
records_again slots Direct ks = refl

pub count_again : (slots : ℕ) (s : LinearTransformationStrategy) (ks : List ℕ) → pair_count slots s (plan_giants slots s ks) ≡ pair_count slots s ks
unfolding pair_count
count_again slots (Bsgs w) ks = refl
count_again slots (BsgsPowersOfTwo w) ks = ap tree_switches (tree_again slots w ks)
count_again slots Direct ks = refl

-- ---- how many

pub plan_records_length : (slots : ℕ) (s : LinearTransformationStrategy) (ks : List ℕ) → length (plan_records slots s ks) ≡ pair_count slots s ks
unfolding plan_records pair_count tree_switches
plan_records_length slots (Bsgs w) ks = refl
plan_records_length slots (BsgsPowersOfTwo w) ks = refl
plan_records_length slots Direct ks = refl

no_pairs : (b i : ℕ) → pairs_at b [] i ≡ []
unfolding pairs_at nodes there
no_pairs b i = rw (below_none (2 ^ (b - i))) refl

none_joined : (n : ℕ) (f : ℕ → Level) → ((i : ℕ) → (f i).pairs ≡ []) → join (λ l. l.pairs) (tabulate n f) ≡ []
none_joined zero f h = refl
none_joined (suc n) f h = ap₂ ◌++◌ (h 0) (none_joined n (λ k. f (suc k)) (λ i. h (suc i)))

no_giants : (slots width : ℕ) → giants slots width [] ≡ []
unfolding giants
no_giants slots width = below_none slots

tree_empty : (slots width : ℕ) → tree_records (tree_of slots width []) ≡ []
unfolding tree_of levels_of
tree_empty slots width = none_joined (bits_of []) (λ i. record { rotation = level_rotation slots width (bits_of []) i; pairs = pairs_at (bits_of []) [] i }) (no_pairs (bits_of []))

-- none without giants
pub no_records : (slots width : ℕ) → tree_records (plan_tree slots width []) ≡ []
unfolding plan_tree
no_records slots width = ap (λ (gs : List ℕ). tree_records (tree_of slots width (map (λ g. record { 0 = g }) gs))) (no_giants slots width) ∙ tree_empty slots width
