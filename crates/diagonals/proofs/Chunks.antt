-- The pairs of a map as the library's chunks of two words.
-- Assumes nothing.
use Rattle.std.specs.List.Sorted.{IsPartitionedBy, IsPartitionPoint}
use Rattle.std.proofs.Common.{◌≡◌, ℕ, zero, suc, ◌+◌, ◌-◌, ◌*◌, ◌<◌, ◌≤◌, List, slice_index_or, [], ◌∷◌, length, take, drop, refl, sym, ap, ◌∙◌, zero-add, arith, ltb, ltb-true, ltb-false, lt-ltb, true, false, ⊎_elim, eq-or-lt_of_le, length-take-le, take-take}
use Rattle.std.specs.List.{sum_by}
use Rattle.std.proofs.lemmas.List.{get_or-take, drop-take}
use Rattle.std.proofs.lemmas.List.Sums.{sum_by_push, sum_by-take-drop}
use Rattle.std.specs.Simd.{first_chunks}
use Rattle.ring.specs.Vectors.{tabulate}
use Rattle.ring.specs.Laws.Vectors.{get_or_tabulate, is_tabulate, tabulate_cong, tabulate_snoc}
use Rattle.diagonals.specs.Maps.{pair_room, offset_at, length_at, pair_at, start_at, well_formed}
use Rattle.diagonals.specs.Steps.Reading.{Placed}
use Rattle.diagonals.specs.Laws.Maps.{formed_means, placed_fits}
use Rattle.diagonals.specs.Laws.Entries.{entries_length, entry_low, entry_offset, entry_length}

-- two words further on
shifted : (a b : ℕ) (ws : List ℕ) (i : ℕ) → pair_at ws i ≡ pair_at (a ∷ b ∷ ws) (suc i)
unfolding offset_at length_at
shifted a b ws i =
    let e : 2 * suc i ≡ suc (suc (2 * i)) = omega arith in
    let f : 2 * suc i + 1 ≡ suc (suc (2 * i + 1)) = omega arith in
    rw (f, e) refl

pub chunks_are : (n k : ℕ) (ws : List ℕ) → n ≤ k → pair_room n ≤ length ws → take n (first_chunks 2 k ws) ≡ tabulate n (pair_at ws)
unfolding pair_room offset_at length_at
chunks_are zero k ws h l = refl
chunks_are (suc n) zero ws h l = absurd (omega arith)
chunks_are (suc n) (suc k) [] h l = absurd (omega arith)
chunks_are (suc n) (suc k) (a ∷ []) h l = absurd (omega arith)
chunks_are (suc n) (suc k) (a ∷ b ∷ ws) h l = ap (λ (t : List (List ℕ)). (a ∷ b ∷ []) ∷ t) (chunks_are n k ws (omega arith) (omega arith) ∙ tabulate_cong n (pair_at ws) (λ i. pair_at (a ∷ b ∷ ws) (suc i)) (λ i l. shifted a b ws i))

-- the lengths of the pairs from the first up to the end add up
lengths_sum : (pairs : List ℕ) (n : ℕ) → sum_by (λ (p : List ℕ). slice_index_or p 1 0) (tabulate n (pair_at pairs)) ≡ start_at pairs n
lengths_sum pairs zero = refl
lengths_sum pairs (suc n) = rw (tabulate_snoc n (pair_at pairs), sum_by_push (λ (p : List ℕ). slice_index_or p 1 0), lengths_sum pairs n) refl

pub lengths_between : (pairs : List ℕ) (n : ℕ) {items : List (List ℕ)} → items ≡ tabulate n (pair_at pairs) → (first end : ℕ) → first ≤ end → end ≤ n
    → start_at pairs first + sum_by (λ (p : List ℕ). slice_index_or p 1 0) (take (end - first) (drop first items)) ≡ start_at pairs end
lengths_between pairs n {items} e first end l h =
    let lens : List ℕ → ℕ = λ p. slice_index_or p 1 0 in
    let q : first + (end - first) ≡ end = omega arith in
    let s = sum_by-take-drop lens (take (first + (end - first)) items) first in
    let front : take first (take (first + (end - first)) items) ≡ take first items = rw q (take-take first end items l) in
    rw (drop-take, front, q, up first (omega arith), up end h) at s
  where
    entries_before : (m : ℕ) → m ≤ n → take m items ≡ tabulate m (pair_at pairs)
    entries_before m l =
        let s : m ≤ length items = omega (arith, entries_length pairs n e) in
        is_tabulate m (pair_at pairs) [] (take m items) (length-take-le m items s) (λ i h. get_or-take m items i [] h ∙ rw e (get_or_tabulate n (pair_at pairs) i [] (omega arith)))

    up : (m : ℕ) → m ≤ n → sum_by (λ (p : List ℕ). slice_index_or p 1 0) (take m items) ≡ start_at pairs m
    up m k = ap (sum_by (λ (p : List ℕ). slice_index_or p 1 0)) (entries_before m k) ∙ lengths_sum pairs m

-- of all from the first on
pub start_first : (pairs : List ℕ) (index : ℕ) {n : ℕ} → start_at pairs 0 + n ≡ start_at pairs index → n ≡ start_at pairs index
start_first pairs index e = sym (zero-add _) ∙ e

-- where the library's search finds the pairs parted by k, the first stands that is not below it
pub point_placed : {pairs : List ℕ} {n k index : ℕ} {items : List (List ℕ)} → items ≡ tabulate n (pair_at pairs) → ((i j : ℕ) → i < j → j < n → offset_at pairs i < offset_at pairs j) → index ≤ n
    → (IsPartitionedBy (λ p. ltb (slice_index_or p 0 0) k) items → IsPartitionPoint (λ p. ltb (slice_index_or p 0 0) k ≡ true) (λ p. ltb (slice_index_or p 0 0) k ≡ false) items index)
    → Placed n pairs k index
point_placed {pairs} {n} {k} {index} {items} e rising b h =
    let point = h (parted) in
    record {
      inside = b;
      before = λ j l. below j l (point.0 j [] (omega arith) l);
      here = λ l. above l (point.1 index [] (omega arith) (omega (arith, entries_length _ _ e)));
    }
  where
    parted : IsPartitionedBy (λ p. ltb (slice_index_or p 0 0) k) items
    parted i j d o l t =
        let lj : j < n = omega (arith, entries_length _ _ e) in
        let li : i < n = omega arith in
        rw (e, get_or_tabulate n (pair_at pairs) i d li) (lt-ltb _ _ (first_below i j o lj (ltb-true _ _ (rw (e, get_or_tabulate n (pair_at pairs) j d lj) at t))))
      where
        first_below : (i j : ℕ) → i ≤ j → j < n → offset_at pairs j < k → offset_at pairs i < k
        first_below i j o l h = ⊎_elim (λ (q : i ≡ j). rw q h) (λ (m : i < j). omega (arith, rising i j m l)) (eq-or-lt_of_le o)

    below : (j : ℕ) → j < index → ltb (slice_index_or (slice_index_or items j []) 0 0) k ≡ true → offset_at pairs j < k
    below j l t = ltb-true _ _ (rw (entry_offset _ _ e (let m : j < length items = omega (arith, entries_length _ _ e) in m)) at t)

    above : index < n → ltb (slice_index_or (slice_index_or items index []) 0 0) k ≡ false → k ≤ offset_at pairs index
    above l t = ltb-false _ _ (rw (entry_offset _ _ e (let m : index < length items = omega (arith, entries_length _ _ e) in m)) at t)

-- the pair that a `get` at i gives
module _ (pairs : List ℕ) (n : ℕ) {items : List (List ℕ)} (e : items ≡ tabulate n (pair_at pairs)) {i : ℕ} {item : List ℕ} (f : (i < length items) × ((d : List ℕ) → item ≡ slice_index_or items i d)) where
  pub gotten_low : i < n
  gotten_low = entry_low pairs n e f.0

  pub gotten_offset : slice_index_or item 0 0 ≡ offset_at pairs i
  gotten_offset = rw (f.1 []) (entry_offset pairs n e f.0)

  pub gotten_length : slice_index_or item 1 0 ≡ length_at pairs i
  gotten_length = rw (f.1 []) (entry_length pairs n e f.0)

  -- its values are there
  pub gotten_fits : (slots k start : ℕ) (values : List ℕ) → well_formed slots n pairs values ≡ true → Placed n pairs k i → start_at pairs 0 + start ≡ start_at pairs i → start + slice_index_or item 1 0 ≤ length values
  gotten_fits slots k start values h p q = placed_fits (formed_means slots n pairs values h) p (λ e. omega (arith, e, gotten_low)) (start_first pairs i q) gotten_length
