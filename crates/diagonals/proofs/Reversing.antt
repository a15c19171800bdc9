-- A walk over the pairs of a map from the last down to the `first`, by the library's `rev` and `enumerate`.
-- Assumes nothing.
use Rattle.std.proofs.Common.{◌≡◌, ℕ, ◌+◌, ◌-◌, ◌<◌, ◌≤◌, List, length, drop, reverse, slice_index_or, refl, ap, ◌∙◌, arith, length-drop, zero-add, take, take_all, Iter}
use Rattle.std.specs.declared.iter.Rev.{Rev}
use Rattle.std.specs.declared.iter.Enumerate.{Enumerate}
use Rattle.std.proofs.lemmas.List.{get_or-drop, get_or-reverse, length-reverse}
use Rattle.std.proofs.lemmas.List.FromFn.{get_or-enumerate_from, length-enumerate_from}
use Rattle.std.specs.List.{enumerate_from}
use Rattle.std.specs.Iterator.Adapters.{enumerate_source, enumerate_count, rev_source, enumerate_steps, rev_steps}
use Rattle.std.specs.Slice.Iter.{iter_rest, iter_steps_back}
use Rattle.std.proofs.lemmas.Iterator.{YieldsList}
use Rattle.std.proofs.lemmas.Iterator.Consumers.{YieldsList-at, YieldsList-from_enumerate}
use Rattle.std.proofs.lemmas.Iterator.Adapters.{YieldsList-from_rev_slice}
use Rattle.ring.specs.Vectors.{tabulate}
use Rattle.ring.specs.Laws.Vectors.{get_or_tabulate}
use Rattle.diagonals.specs.Maps.{offset_at, length_at, pair_at}
use Rattle.diagonals.specs.Laws.Entries.{entries_length}

-- the k-th that is taken is the k-th from the end
pub record Taken (pairs : List ℕ) (count first k n : ℕ) (entry : List ℕ) : Type 0 where
  pub n_is : n ≡ k
  pub low : first + k < count
  pub offset_is : slice_index_or entry 0 0 ≡ offset_at pairs (count - k - 1)
  pub length_is : slice_index_or entry 1 0 ≡ length_at pairs (count - k - 1)

module _ (pairs : List ℕ) (count first : ℕ) {items : List (List ℕ)} (e : items ≡ tabulate count (pair_at pairs)) (l : first ≤ count) where
  abbrev walked : List (ℕ × List ℕ)
  walked = enumerate_from 0 (reverse (drop first items))

  length_walked : length walked ≡ count - first
  length_walked = length-enumerate_from 0 (reverse (drop first items)) ∙ length-reverse (drop first items) ∙ length-drop first items ∙ ap (λ n. n - first) (entries_length pairs count e)

  walked_at : (k : ℕ) (d : ℕ × List ℕ) → k < count - first → slice_index_or walked k d ≡ (k, pair_at pairs (count - k - 1))
  walked_at k d h =
      let later = drop first items in
      let n : length later ≡ count - first = length-drop first items ∙ ap (λ n. n - first) (entries_length pairs count e) in
      let i : first + (length later - 1 - k) ≡ count - k - 1 = omega arith in
      get_or-enumerate_from 0 (reverse later) k d (omega (arith, length-reverse later))
      ∙ ap (λ (m : ℕ). (m, slice_index_or (reverse later) k d.1)) (zero-add k)
      ∙ ap (λ (t : List ℕ). (k, t))
      (get_or-reverse later k d.1 (omega arith)
      ∙ get_or-drop first items (length later - 1 - k) d.1
      ∙ ap (λ m. slice_index_or items m d.1) i
      ∙ rw e (get_or_tabulate count (pair_at pairs) (count - k - 1) d.1 (omega arith)))

  pub taken_of : {k n : ℕ} {entry : List ℕ} → (k < length walked) × ((n, entry) ≡ slice_index_or walked k (n, entry)) → Taken pairs count first k n entry
  taken_of {k} {n} {entry} t =
      let h : k < count - first = omega (arith, t.0, length_walked) in
      let q : (n, entry) ≡ (k, pair_at pairs (count - k - 1)) = t.1 ∙ walked_at k (n, entry) h in
      let p : entry ≡ pair_at pairs (count - k - 1) = ap (λ (x : ℕ × List ℕ). x.1) q in
      record {
        n_is = ap (λ (x : ℕ × List ℕ). x.0) q;
        low = omega arith;
        offset_is = rw p refl;
        length_is = rw p refl;
      }

  pub all_taken : {k : ℕ} → k ≡ length walked → first + k ≡ count
  all_taken h = omega (arith, h, length_walked)

  -- what the walk gives, by the clauses of its calls
  pub road : {it : Iter (List ℕ)} {rv : Rev (Iter (List ℕ))} {en s : Enumerate (Rev (Iter (List ℕ)))} → s ≡ en → enumerate_source en ≡ rv → enumerate_count en ≡ 0 → rev_source rv ≡ it → iter_rest it ≡ take (length items - first) (drop first items)
      → YieldsList (enumerate_steps (rev_steps iter_steps_back)) (λ p. (p.0, p.1.now)) s walked
  road a b z d h =
      YieldsList-at a
      (YieldsList-from_enumerate
      (YieldsList-at b (YieldsList-from_rev_slice (drop first items) (ap iter_rest d ∙ h ∙ take_all _ _ (omega (arith, length-drop first items)))))
      z)
