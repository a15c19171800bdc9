-- The pairs of an accepted map as a walk over them reads them, and what is known of the map.
-- Assumes nothing.
use Rattle.std.proofs.Common.{◌≡◌, ℕ, ◌+◌, ◌-◌, ◌<◌, ◌≤◌, List, slice_index_or, [], length, take, drop, refl, ap, ◌∙◌, arith, length-drop, get_or-drop, get_or-take, length-take-le}
use Rattle.ring.specs.Refusals.{Range}
use Rattle.ring.specs.Vectors.{tabulate}
use Rattle.ring.specs.Laws.Refusals.{inside}
use Rattle.ring.specs.Laws.Vectors.{length_tabulate, get_or_tabulate, is_tabulate}
use Rattle.diagonals.specs.declared.map.Map.{Map}
use Rattle.diagonals.specs.Maps.{offset_at, length_at, pair_at, WellFormed}
use Rattle.diagonals.specs.Laws.Maps.{formed_means, count_low}

-- ---- an accepted map

module _ (m : Map) where
  pub map_range : Range m.slots
  map_range = let e = inside m.slots m.in_range in record { low = e.0; high = e.1 }

  pub map_formed : WellFormed m.slots m.count m.pairs.now m.values.now
  map_formed = formed_means m.slots m.count m.pairs.now m.values.now m.formed

  pub map_few : m.count ≤ 65536
  map_few = omega (arith, count_low map_formed, map_range.high)

-- ---- pairs

-- the i-th of n pairs, as a walk over them reads it
pub record Entry (pairs : List ℕ) (n i place : ℕ) (entry : List ℕ) : Type 0 where
  pub low : i < n
  pub offset_is : slice_index_or entry 0 0 ≡ offset_at pairs place
  pub length_is : slice_index_or entry 1 0 ≡ length_at pairs place

module _ (pairs : List ℕ) (place : ℕ → ℕ) (n : ℕ) {items : List (List ℕ)} (e : items ≡ tabulate n (λ i. pair_at pairs (place i))) where
  size : length items ≡ n
  size = ap length e ∙ length_tabulate n (λ i. pair_at pairs (place i))

  entry_of : {i : ℕ} → i < length items → Entry pairs n i (place i) (slice_index_or items i [])
  entry_of {i} l =
      let low : i < n = omega (arith, size) in
      let is : slice_index_or items i [] ≡ pair_at pairs (place i) = rw e (get_or_tabulate n (λ i. pair_at pairs (place i)) i [] low) in
      record { low = low; offset_is = rw is refl; length_is = rw is refl }

-- all of them
module _ (pairs : List ℕ) (count : ℕ) {items : List (List ℕ)} (e : items ≡ tabulate count (pair_at pairs)) where
  pub entries_length : length items ≡ count
  entries_length = size pairs (λ i. i) count e

  pub entry_at : {i : ℕ} → i < length items → Entry pairs count i i (slice_index_or items i [])
  entry_at l = entry_of pairs (λ i. i) count e l

  -- n from the first on
  module _ (first n : ℕ) (h : first + n ≤ count) where
    entries_from : take (first + n - first) (drop first items) ≡ tabulate n (λ i. pair_at pairs (first + i))
    entries_from =
        let whole : first + n - first ≡ n = omega arith in
        rw whole
        (is_tabulate n (λ i. pair_at pairs (first + i)) [] (take n (drop first items)) (length-take-le n (drop first items) (omega (arith, length-drop first items, entries_length)))
        (λ i l. get_or-take n (drop first items) i [] l ∙ get_or-drop first items i [] ∙ rw e (get_or_tabulate count (pair_at pairs) (first + i) [] (omega arith))))

    pub length_from : length (take (first + n - first) (drop first items)) ≡ n
    length_from = size pairs (λ i. first + i) n entries_from

    pub entry_from : {i : ℕ} → i < length (take (first + n - first) (drop first items)) → Entry pairs n i (first + i) (slice_index_or (take (first + n - first) (drop first items)) i [])
    entry_from l = entry_of pairs (λ i. first + i) n entries_from l
