-- From marked leaves to the tree: the heap's levels are the tree's.
-- Assumes nothing.
use Prim.Native.Nat.{ℕ, zero, suc, ◌+◌, ◌*◌, ◌-◌, ◌^◌, ◌≤◌, ◌<◌}
use mathlib.Core.Path.{◌≡◌, refl, sym, ap, ap₂, ◌∙◌}
use mathlib.Core.Bool.{Bool, true, false}
use mathlib.Core.List.{List, ◌++◌, map, map-map, map-append}
use native.Mathlib.Nat.{sub-zero}
use native.Mathlib.Omega.{arith}
use lib.Pow.{pow_pos, pow_mono}
use lib.IntN.{ℤ}
use lib.ListN.{length, replicate, length-replicate}
use Rattle.ring.specs.Lists.{join}
use Rattle.ring.specs.Marks.{marks}
use Rattle.ring.specs.Searches.{below, only}
use Rattle.ring.specs.Vectors.{tabulate}
use Rattle.ring.specs.Laws.Lists.{join_map}
use Rattle.ring.specs.Laws.Vectors.{tabulate_cong, map_tabulate}
use Rattle.linear_transformation.specs.Digits.{rot_of, digit, bits_of, leaf, level_rotation}
use Rattle.linear_transformation.specs.declared.records.PairRecord.{PairRecord}
use Rattle.linear_transformation.specs.Trees.{digits_of, leaves_of, there, Level, pairs_at, levels_of}
use Rattle.linear_transformation.specs.Steps.Trees.{LargestIs, BitsAre, leaves_at, Blank, LeavesMarked, Climbed, Heaped, Planted, odd_at, pair_at, heap_pairs, level_pairs, heap_level, heap_levels, heap_switches}
use Rattle.linear_transformation.specs.Steps.Records.{heap_records}
use Rattle.linear_transformation.proofs.Writings.{no_marks}
use Rattle.linear_transformation.specs.Laws.Trees.{there_zero, there_half, level_places, odds, odds_more, with_even, pairs_odds}

pub blank : Blank (replicate 131072 false)
blank = record { size = length-replicate 131072 false; none = no_marks 131072 }

-- ---- the nodes stand in the heap

module _ {bits : ℕ} {leaves : List ℕ} {old new : List Bool} (m : LeavesMarked bits leaves old) (c : Climbed (2 ^ bits) old new) where
  stands : (i n : ℕ) → i ≤ bits → n < 2 ^ (bits - i) → marks new (2 ^ (bits - i) + n) ≡ there leaves i n
  stands zero n l h =
      rw (sub-zero bits) (c.leaves (2 ^ bits + n) (omega arith) ∙ m.marked n ∙ sym (there_zero leaves n))
  stands (suc i) n l h =
      let p = 2 ^ (bits - suc i) in
      let e : 2 ^ (bits - i) ≡ 2 * p = level_places bits i l in
      let q : 2 ^ (bits - i) ≤ 2 ^ bits = pow_mono {i = bits - i} {j = bits} (omega arith) in
      let a : 2 * (p + n) ≡ 2 ^ (bits - i) + 2 * n = omega arith in
      let b : 2 * (p + n) + 1 ≡ 2 ^ (bits - i) + (2 * n + 1) = omega arith in
      c.inner (p + n) (omega (arith, pow_pos (bits - suc i))) (omega arith)
      ∙ rw (b, a, stands i (2 * n) (omega arith) (omega arith), stands i (2 * n + 1) (omega arith) (omega arith)) (sym (there_half leaves i n))

  pub heaped : Heaped bits leaves new
  heaped = record { size = c.len; nodes = stands }

-- ---- b and the leaves

pub planted : {slots step x r : ℕ} {gs : List ℤ} {old new : List Bool} → LargestIs slots step gs x → BitsAre x r → LeavesMarked r (leaves_at slots step r gs) old → {p : ℕ} → p ≡ 2 ^ r → Climbed p old new → Planted slots step gs new r
planted {slots} {step} {x} {r} {gs} {old} {new} a b m {p} q c =
    let ds = digits_of slots step (map (rot_of slots) gs) in
    let e : bits_of ds ≡ r = b.is ds (sym a.is) in
    let same : leaves_at slots step r gs ≡ leaves_of ds = rw e (sym (ap (map (leaf r)) (map-map (digit slots step) (rot_of slots) gs) ∙ map-map (leaf r) (λ z. digit slots step (rot_of slots z)) gs)) in
    let k : Climbed (2 ^ r) old new = rw q at c in
    record { bits = sym e; positive = b.positive; small = b.small; heaped = rw same at (heaped m k) }

-- ---- the levels of the heap

module _ (heap : List Bool) (m : ℕ) (p : ℕ → Bool) where
  one : (k : ℕ) (t : Bool) → marks heap (2 * (m + k)) ≡ p (2 * k) → map (pair_at heap m) (only t k) ≡ map (with_even p) (only t (2 * k + 1))
  one k true e = let q : 2 * k + 1 - 1 ≡ 2 * k = omega arith in rw (e, q)
  one k false e = refl

  level_is : (n : ℕ) → ((v : ℕ) → v < 2 * n → marks heap (2 * m + v) ≡ p v) → map (pair_at heap m) (below (odd_at heap m) n) ≡ map (with_even p) (odds (below p (2 * n)))
  unfolding below
  level_is zero h = refl
  level_is (suc n) h =
      let a : 2 * (m + n) ≡ 2 * m + 2 * n = omega arith in
      let b : 2 * (m + n) + 1 ≡ 2 * m + (2 * n + 1) = omega arith in
      let o : odd_at heap m n ≡ p (2 * n + 1) = ap (marks heap) b ∙ h (2 * n + 1) (omega arith) in
      let f : marks heap (2 * (m + n)) ≡ p (2 * n) = ap (marks heap) a ∙ h (2 * n) (omega arith) in
      map-append (pair_at heap m) (below (odd_at heap m) n) (only (odd_at heap m n) n)
      ∙ ap₂ ◌++◌ (level_is n (λ v l. h v (omega arith))) (rw o (one n (p (2 * n + 1)) f))
      ∙ sym (ap (map (with_even p)) (odds_more p n) ∙ map-append (with_even p) (odds (below p (2 * n))) (only (p (2 * n + 1)) (2 * n + 1)))

module _ {b : ℕ} {leaves : List ℕ} {heap : List Bool} (h : Heaped b leaves heap) where
  pub pairs_are : (i : ℕ) → i < b → level_pairs heap b i ≡ pairs_at b leaves i
  unfolding heap_pairs
  pairs_are i l =
      let m = 2 ^ (b - suc i) in
      level_is heap m (there leaves i) m (λ v k. rw (← level_places b i l) (h.nodes i v (omega arith) (omega (arith, level_places b i l))))
      ∙ sym (pairs_odds b leaves i l)

  pub levels_are : (slots step : ℕ) → heap_levels slots step b heap b ≡ levels_of slots step b leaves
  unfolding heap_levels levels_of
  levels_are slots step = tabulate_cong b (heap_level slots step b heap) (λ i. record { rotation = level_rotation slots step b i; pairs = pairs_at b leaves i }) (λ i l. ap (λ (ps : List PairRecord). record { rotation = level_rotation slots step b i; pairs = ps }) (pairs_are i l))

-- ---- what the heap's levels give

pub records_are : (slots step b : ℕ) (heap : List Bool) → heap_records b heap ≡ join (λ l. l.pairs) (heap_levels slots step b heap b)
unfolding heap_records heap_levels
records_are slots step b heap = sym (ap (join (λ (l : Level). l.pairs)) (sym (map_tabulate (heap_level slots step b heap) b (λ i. i))) ∙ join_map (heap_level slots step b heap) (λ l. l.pairs) (tabulate b (λ i. i)))

module _ (slots step b : ℕ) (heap : List Bool) (n : ℕ) where
  pub switches_are : heap_switches b heap n ≡ length (join (λ l. l.pairs) (heap_levels slots step b heap n))
  unfolding heap_switches heap_levels
  switches_are = sym (ap (λ (ls : List Level). length (join (λ l. l.pairs) ls)) (sym (map_tabulate (heap_level slots step b heap) n (λ i. i))) ∙ ap length (join_map (heap_level slots step b heap) (λ l. l.pairs) (tabulate n (λ i. i))))
