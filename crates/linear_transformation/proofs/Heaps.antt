-- The walks over the heap: what each loop keeps, a turn, and the end.
-- Assumes nothing.
use Prim.Native.Nat.{ℕ, zero, suc, ◌+◌, ◌*◌, ◌-◌, ◌^◌, ◌≤◌, ◌<◌}
use mathlib.Core.Path.{◌≡◌, refl, sym, ap, ◌∙◌}
use mathlib.Core.Bool.{Bool, ◌||◌}
use mathlib.Core.List.{List, [], ◌∷◌, append-nil}
use native.Mathlib.Nat.{le_refl, sub-zero}
use native.Mathlib.Numerals.{add-one}
use native.Mathlib.Omega.{arith}
use lib.ListN.{length, length-map, length-append, length-drop, get_or, take, drop}
use lib.Seq.{length-take-le}
use Prim.Native.Nat.{◌/◌}
use mathlib.Core.Bool.{true, false, cond}
use native.Mathlib.Nat.{add-zero}
use Rattle.std.specs.Simd.{first_chunks}
use Rattle.std.specs.List.{count_by}
use Rattle.std.proofs.lemmas.List.{get_or-take, get_or-drop}
use Rattle.std.proofs.lemmas.List.Sums.{sum_by_push}
use Rattle.ring.specs.Laws.Vectors.{tabulate_cong, tabulate_snoc, length_tabulate, get_or_tabulate}
use Rattle.ring.specs.Laws.Below.{below_no, length_below_yes}
use lib.Pow.{pow_mono}
use Rattle.ring.specs.Lists.{join}
use Rattle.ring.specs.Marks.{marks}
use Rattle.ring.specs.Searches.{below}
use Rattle.ring.specs.Vectors.{tabulate}
use Rattle.ring.specs.Laws.Lists.{join_append}
use Rattle.ring.specs.Laws.Below.{below_le}
use Rattle.ring.specs.Laws.Vectors.{tabulate_more}
use Rattle.std.specs.List.{sum_by}
use Rattle.linear_transformation.proofs.Ranges.{upto, sum_more}
use Rattle.linear_transformation.specs.Laws.Trees.{level_places}
use Rattle.linear_transformation.specs.declared.records.PairRecord.{PairRecord}
use Rattle.linear_transformation.specs.Steps.Trees.{two_at, odd_at, pair_at, heap_pairs, level_pairs, heap_switches}

-- ---- climbing

pub record Climbs (size : ℕ) (old new : List Bool) (h : ℕ) : Type 0 where
  pub len : length new ≡ 131072
  pub leaves : (k : ℕ) → size ≤ k → marks new k ≡ marks old k
  pub inner : (k : ℕ) → h ≤ k → 1 ≤ k → k < size → marks new k ≡ (marks new (2 * k) || marks new (2 * k + 1))
  pub room : h ≤ size

-- ---- the pairs of a level

pub pairs_length : (heap : List Bool) (m n : ℕ) → length (heap_pairs heap m n) ≡ length (below (odd_at heap m) n)
unfolding heap_pairs
pairs_length heap m n = length-map (below (odd_at heap m) n) (pair_at heap m)

pub pairs_le : (heap : List Bool) (m n : ℕ) → length (heap_pairs heap m n) ≤ n
pairs_le heap m n = rw (pairs_length heap m n) (below_le (odd_at heap m) n)

pub level_counted : (heap : List Bool) (b i : ℕ) {m : ℕ} → m ≡ 2 ^ (b - suc i) → length (below (odd_at heap m) m) ≡ length (level_pairs heap b i)
level_counted heap b i {m} q = sym (pairs_length heap m m) ∙ ap (λ (x : ℕ). length (heap_pairs heap x x)) q

-- ---- the nodes of a level in twos

-- whether the odd one of two is there
abbrev pub has_odd : List Bool → Bool
has_odd t = get_or t 1 false

-- two nodes further on
shifted : (a b : Bool) (xs : List Bool) (i : ℕ) → (get_or xs (2 * i) false ∷ get_or xs (2 * i + 1) false ∷ []) ≡ (get_or (a ∷ b ∷ xs) (2 * suc i) false ∷ get_or (a ∷ b ∷ xs) (2 * suc i + 1) false ∷ [])
shifted a b xs i =
    let e : 2 * suc i ≡ suc (suc (2 * i)) = omega arith in
    let f : 2 * suc i + 1 ≡ suc (suc (2 * i + 1)) = omega arith in
    rw (f, e) refl

chunks_are : (n : ℕ) (xs : List Bool) → 2 * n ≤ length xs → first_chunks 2 n xs ≡ tabulate n (λ i. get_or xs (2 * i) false ∷ get_or xs (2 * i + 1) false ∷ [])
chunks_are zero xs l = refl
chunks_are (suc n) [] l = absurd (omega arith)
chunks_are (suc n) (a ∷ []) l = absurd (omega arith)
chunks_are (suc n) (a ∷ b ∷ xs) l = ap (λ (t : List (List Bool)). (a ∷ b ∷ []) ∷ t) (chunks_are n xs (omega arith) ∙ tabulate_cong n _ _ (λ i l. shifted a b xs i))

module _ (heap : List Bool) (m : ℕ) where
  abbrev places : List Bool
  places = take (4 * m - 2 * m) (drop (2 * m) heap)

  pub places_length : 4 * m ≤ length heap → length places ≡ 2 * m
  places_length l = omega (arith, length-take-le (4 * m - 2 * m) (drop (2 * m) heap) (omega (arith, length-drop (2 * m) heap)))

  place_at : (j : ℕ) → j < 2 * m → get_or places j false ≡ get_or heap (2 * m + j) false
  place_at j l = get_or-take (4 * m - 2 * m) (drop (2 * m) heap) j false (omega arith) ∙ get_or-drop (2 * m) heap j false

  two_is : (k : ℕ) → k < m → (get_or places (2 * k) false ∷ get_or places (2 * k + 1) false ∷ []) ≡ two_at heap m k
  two_is k l =
      let e : 2 * m + 2 * k ≡ 2 * (m + k) = omega arith in
      let f : 2 * m + (2 * k + 1) ≡ 2 * (m + k) + 1 = omega arith in
      cc (place_at (2 * k) (omega arith) ∙ ap (λ j. get_or heap j false) e, place_at (2 * k + 1) (omega arith) ∙ ap (λ j. get_or heap j false) f)

  pub twos_are : 4 * m ≤ length heap → first_chunks 2 (length places / 2) places ≡ tabulate m (two_at heap m)
  twos_are l =
      let e : length places / 2 ≡ m = omega (arith, places_length l) in
      ap (λ n. first_chunks 2 n places) e ∙ chunks_are m places (omega (arith, places_length l)) ∙ tabulate_cong m _ _ two_is

  pub twos_counted : (n : ℕ) → count_by has_odd (tabulate n (two_at heap m)) ≡ length (below (odd_at heap m) n)
  unfolding below
  twos_counted zero = refl
  twos_counted (suc n) =
      ap (count_by has_odd) (tabulate_snoc n (two_at heap m))
      ∙ sum_by_push (λ (t : List Bool). cond (get_or t 1 false) 1 0) (tabulate n (two_at heap m)) (two_at heap m n)
      ∙ one (odd_at heap m n) refl (twos_counted n)
      ∙ ap (λ k. length (below (odd_at heap m) k)) (add-one n)
    where
      one : (b : Bool) → odd_at heap m n ≡ b → count_by has_odd (tabulate n (two_at heap m)) ≡ length (below (odd_at heap m) n)
          → count_by has_odd (tabulate n (two_at heap m)) + cond (odd_at heap m n) 1 0 ≡ length (below (odd_at heap m) (n + 1))
      one true e h = rw e (ap (λ k. k + 1) h ∙ sym (length_below_yes (odd_at heap m) n e))
      one false e h = rw e (add-zero _ ∙ h ∙ sym (ap length (below_no (odd_at heap m) n e)))

  -- a two of the walk
  module _ {nodes : List (List Bool)} (e : nodes ≡ tabulate m (two_at heap m)) where
    nodes_length : length nodes ≡ m
    nodes_length = ap length e ∙ length_tabulate m (two_at heap m)

    pub walked : {k : ℕ} → length nodes ≤ k → m ≤ k
    walked l = omega (arith, l, nodes_length)

    module _ {k : ℕ} (l : k < length nodes) where
      pub place_of : k < m
      place_of = omega (arith, l, nodes_length)

      node_at : get_or nodes k [] ≡ two_at heap m k
      node_at = rw e (get_or_tabulate m (two_at heap m) k [] place_of)

      pub odd_is : {b : Bool} → get_or (get_or nodes k []) 1 false ≡ b → odd_at heap m k ≡ b
      odd_is h = sym (ap (λ (t : List Bool). get_or t 1 false) node_at) ∙ h

      pub pair_is : ◌≡◌ {A = PairRecord} (record { odd = 2 * k + 1; even_there = get_or (get_or nodes k []) 0 false }) (pair_at heap m k)
      pair_is = ap (λ (t : List Bool). record { odd = 2 * k + 1; even_there = get_or t 0 false }) node_at

-- ---- the pairs of all levels

switches_more : (b : ℕ) (heap : List Bool) (i : ℕ) → heap_switches b heap (i + 1) ≡ heap_switches b heap i + length (level_pairs heap b i)
unfolding heap_switches
switches_more b heap i =
    rw (tabulate_more i (λ j. j), join_append (level_pairs heap b) (tabulate i (λ j. j)) (i ∷ []), append-nil (level_pairs heap b i)) (length-append (join (level_pairs heap b) (tabulate i (λ j. j))) (level_pairs heap b i))

switches_none : (b : ℕ) (heap : List Bool) → heap_switches b heap 0 ≡ 0
unfolding heap_switches
switches_none b heap = refl

pub switches_low : (b : ℕ) (heap : List Bool) (i : ℕ) → i ≤ b → heap_switches b heap i + 2 ^ (b - i) ≤ 2 ^ b
switches_low b heap zero l = rw (sub-zero b) (omega (arith, switches_none b heap))
switches_low b heap (suc i) l =
    let e : heap_switches b heap (suc i) ≡ heap_switches b heap (i + 1) = ap (heap_switches b heap) (sym (add-one i)) in
    omega (arith, e, switches_more b heap i, switches_low b heap i (omega arith), level_places b i l, pairs_le heap (2 ^ (b - suc i)) (2 ^ (b - suc i)))

pub switches_counted : (b : ℕ) (heap : List Bool) (n : ℕ) → sum_by (λ i. length (level_pairs heap b i)) (upto n) ≡ heap_switches b heap n
unfolding upto
switches_counted b heap zero = sym (switches_none b heap)
switches_counted b heap (suc n) = sum_more (λ i. length (level_pairs heap b i)) n ∙ ap (λ x. x + length (level_pairs heap b n)) (switches_counted b heap n) ∙ sym (switches_more b heap n) ∙ ap (heap_switches b heap) (add-one n)

pub total_low : {b : ℕ} (heap : List Bool) → b ≤ 16 → sum_by (λ i. length (level_pairs heap b i)) (upto b) < 2 ^ 64
total_low {b} heap h = omega (arith, switches_counted b heap b, switches_low b heap b (le_refl b), pow_mono {i = b} {j = 16} h)

-- a level has fewer pairs than places
pub level_low : {b : ℕ} (heap : List Bool) (i : ℕ) → b ≤ 16 → length (level_pairs heap b i) ≤ 65536
level_low {b} heap i h = omega (arith, pairs_le heap (2 ^ (b - suc i)) (2 ^ (b - suc i)), pow_mono {i = b - suc i} {j = 16} (omega arith))
