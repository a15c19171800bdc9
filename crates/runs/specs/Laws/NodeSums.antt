-- Laws of the nodes: each giant's node, rotated by the giant, summed over the giants is Halevi and Shoup's product.
-- Assumes nothing.
use Rattle.std.specs.Prelude.{◌≡◌, ℕ, ◌+◌, ◌-◌, ◌%◌, ◌<◌, ◌≤◌, true, List, [], ◌∷◌, map, length, ◌==◌, slice_index, refl}
use Rattle.std.proofs.Math.Path.{sym, ap}
use Rattle.std.proofs.Common.{◌∙◌, add_comm, mod-lt, arith, eq-eqb, ne_eqb}
use Rattle.std.proofs.Math.Nat.{mod-add-mod}
use Rattle.ring.specs.Slots.{mulm}
use Rattle.ring.specs.Lists.{sum_by, Each, Rising, among}
use Rattle.ring.specs.Searches.{only}
use Rattle.ring.specs.Laws.Slots.{mulm_comm}
use Rattle.ring.specs.Laws.Lists.{each_then, each_both, map_each, sum_by_each, sum_by_map, sum_by_join}
use Rattle.ring.specs.Laws.Members.{among_joined, only_yes, among_each}
use Rattle.diagonals.specs.Maps.{Diagonal, offsets_of, FormedMap}
use Rattle.diagonals.specs.Products.{cell, stretch, term, product}
use Rattle.diagonals.specs.Laws.Matrices.{meets_own}
use Rattle.linear_transformation.specs.declared.LinearTransformationStrategy.{LinearTransformationStrategy}
use Rattle.linear_transformation.specs.Plans.{Planned, width_of, baby_of, giant_of, babies_at}
use Rattle.linear_transformation.specs.Laws.Plans.{index_diagonals, babies_have, giants_below}
use Rattle.linear_transformation.specs.Laws.Widths.{distinct_planned}
use Rattle.linear_transformation.specs.Schedules.{plan_babies, plan_giants}
use Rattle.runs.specs.Switches.{source_of}
use Rattle.runs.specs.Machines.{turned, source_vector, node_at}
use Rattle.runs.specs.Laws.Plans.{map_distinct}
use Rattle.runs.specs.Laws.Schedules.{plan_babies_have}
use Rattle.runs.specs.Laws.Turnings.{get_or_turned}

-- ---- the babies of a giant

-- each is a baby of the plan
pub babies_at_plan : (slots : ℕ) → slots ≤ 65536 → (strategy : LinearTransformationStrategy) (ks : List ℕ) → Planned slots (width_of strategy) ks → (g : ℕ) → Each (λ b. among b (plan_babies slots strategy ks) ≡ true) (babies_at (width_of strategy) ks g)
unfolding babies_at
babies_at_plan slots low strategy ks p g =
    let w = width_of strategy in
    among_each (λ b. among b (plan_babies slots strategy ks) ≡ true) (babies_at w ks g)
    (λ b a.
    let x = among_joined b (λ k. only (giant_of w k == g) (baby_of w k)) ks a in
    let e : b ≡ baby_of w x.0 = (only_yes b (giant_of w x.0 == g) (baby_of w x.0) x.1.1).1 in
    rw e (plan_babies_have slots low strategy ks (baby_of w x.0) (babies_have p x.0 x.1.0)))

-- ---- slots

-- g slots on, and back
pub slot_back : (slots s g : ℕ) → s < slots → g < slots → ((s + g) % slots + (slots - g)) % slots ≡ s
slot_back slots s g l h = rw (add_comm s g) (meets_own slots g h s l)

pub slot_on : (slots s g k : ℕ) → ((s + g) % slots + k) % slots ≡ (s + (g + k)) % slots
slot_on slots s g k = mod-add-mod (s + g) slots k ∙ ap (λ (x : ℕ). x % slots) (let e : s + g + k ≡ s + (g + k) = omega arith in e)

-- ---- the stored values of a diagonal's own offset

own_stretch : (ds : List Diagonal) → Rising (offsets_of ds) → Each (λ d. stretch ds d.offset ≡ d.values) ds
own_stretch [] r = tt
own_stretch (d ∷ ds) r = (
  rw (eq-eqb d.offset d.offset refl),
  each_both (λ x (l : d.offset < x.offset) e. rw (ne_eqb d.offset x.offset (λ q. omega arith)) e) ds (map_each (λ y. d.offset < y) (λ (x : Diagonal). x.offset) ds r.0) (own_stretch ds r.1),
)

-- ---- the sum over the giants

module _
    (m slots : ℕ)
    (strategy : LinearTransformationStrategy)
    (ds : List Diagonal)
    (f : FormedMap slots ds)
    (p : 0 < slots)
    (low : slots ≤ 65536)
    (w : 0 < width_of strategy)
    (input cache : List ℕ)
    (len : length input ≡ slots)
    (holds : (k : ℕ) → among k (plan_babies slots strategy (offsets_of ds)) ≡ true → source_vector slots input cache (source_of (plan_babies slots strategy (offsets_of ds)) k) ≡ turned slots input k)
  where
    abbrev ks : List ℕ
    ks = offsets_of ds

    planned : Planned slots (width_of strategy) ks
    planned = distinct_planned (map_distinct slots p ds f) (width_of strategy) w

    -- what offset j adds at slot s
    abbrev pub at_offset : ℕ → ℕ → ℕ
    at_offset s j = mulm m (slice_index input ((s + j) % slots)) (cell (stretch ds j) s)

    -- what baby k adds to node g, g slots on
    abbrev at_baby : ℕ → ℕ → ℕ → ℕ
    at_baby g i k = mulm m (slice_index (source_vector slots input cache (source_of (plan_babies slots strategy ks) k)) i) (cell (stretch ds (g + k)) ((i + (slots - g)) % slots))

    baby_offset : (g s : ℕ) → g < slots → s < slots → (k : ℕ) → among k (plan_babies slots strategy ks) ≡ true → at_baby g ((s + g) % slots) k ≡ at_offset s (g + k)
    baby_offset g s h l k a = rw (holds k a, get_or_turned slots input len k ((s + g) % slots) (mod-lt (s + g) p), slot_on slots s g k, slot_back slots s g l h)

    -- node g, g slots on: the offsets of its babies
    pub node_sum_lem : (g s : ℕ) → g < slots → s < slots → node_at m slots strategy ds input cache g ((s + g) % slots) ≡ sum_by m (at_offset s) (map (λ b. g + b) (babies_at (width_of strategy) ks g))
    unfolding node_at
    node_sum_lem g s h l =
        let own = babies_at (width_of strategy) ks g in
        sum_by_each m (at_baby g ((s + g) % slots)) (λ k. at_offset s (g + k)) own (each_then (baby_offset g s h l) own (babies_at_plan slots low strategy ks planned g))
        ∙ sym (sum_by_map m (λ b. g + b) (at_offset s) own)

    -- the product is the sum of the nodes, each rotated by its giant
    pub nodes_product : (s : ℕ) → s < slots → sum_by m (λ g. node_at m slots strategy ds input cache g ((s + g) % slots)) (plan_giants slots strategy ks) ≡ product m slots ds input s
    unfolding product
    nodes_product s l =
        let gs = plan_giants slots strategy ks in
        sum_by_each m (λ g. node_at m slots strategy ds input cache g ((s + g) % slots)) (λ g. sum_by m (at_offset s) (map (λ b. g + b) (babies_at (width_of strategy) ks g))) gs
        (each_then (λ g h. node_sum_lem g s h l) gs (giants_below slots (width_of strategy) ks))
        ∙ sym (sum_by_join m (λ g. map (λ b. g + b) (babies_at (width_of strategy) ks g)) (at_offset s) gs)
        ∙ ap (sum_by m (at_offset s)) (index_diagonals planned)
        ∙ sum_by_map m (λ d. d.offset) (at_offset s) ds
        ∙ sum_by_each m (λ d. at_offset s d.offset) (term m slots input s) ds
        (each_then (λ d e. rw e (mulm_comm m (slice_index input ((s + d.offset) % slots)) (cell d.values s))) ds (own_stretch ds f.rising))
