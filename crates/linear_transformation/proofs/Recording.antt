-- The records of a tree, written level after level.
-- Assumes nothing.
use Rattle.std.specs.Prelude.{◌≡◌, ℕ, suc, ◌+◌, ◌-◌, ◌^◌, ◌<◌, ◌≤◌, Bool, true, false, List, [], ◌∷◌, ◌++◌, length, slice_set}
use Rattle.std.proofs.Common.{sym, ap, subst, ◌∙◌, length-append, arith}
use mathlib.Core.List.{map-append}
use Rattle.ring.specs.Lists.{join}
use Rattle.ring.specs.Vectors.{in_front, tabulate}
use Rattle.ring.specs.Searches.{below}
use Rattle.ring.specs.Laws.Below.{below_yes, below_no, below_before}
use Rattle.linear_transformation.specs.declared.records.PairRecord.{PairRecord}
use Rattle.linear_transformation.specs.Steps.Trees.{odd_at, pair_at, heap_pairs, level_pairs}
use Rattle.linear_transformation.specs.Steps.Records.{heap_records}
use Rattle.linear_transformation.proofs.Heaps.{pairs_length}
use Rattle.linear_transformation.proofs.Writings.{writing_none, writing_more, writing_then, writing_done}
use Rattle.linear_transformation.proofs.Writing.{joined_more, joined_le}
use Rattle.linear_transformation.specs.Steps.Tables.{Writing}

-- ---- a level

-- the pairs of the first k odd nodes are written
pub record Pairing (heap : List Bool) (m at : ℕ) (old new : List PairRecord) (to k : ℕ) : Type 0 where
  pub writing : Writing at (heap_pairs heap m k) old new to
  pub room : k ≤ m

pub pairing_none : (heap : List Bool) (m at : ℕ) (old : List PairRecord) → Pairing heap m at old old at 0
unfolding heap_pairs below
pairing_none heap m at old = record { writing = writing_none at old; room = omega arith }

module _ (heap : List Bool) (m k : ℕ) where
  pairs_yes : odd_at heap m k ≡ true → heap_pairs heap m (k + 1) ≡ heap_pairs heap m k ++ (pair_at heap m k ∷ [])
  unfolding heap_pairs
  pairs_yes e = rw (below_yes (odd_at heap m) k e, map-append)

  pairs_no : odd_at heap m k ≡ false → heap_pairs heap m (k + 1) ≡ heap_pairs heap m k
  unfolding heap_pairs
  pairs_no e = rw (below_no (odd_at heap m) k e)

module _ {heap : List Bool} {m at : ℕ} {old new : List PairRecord} {to k : ℕ} (s : Pairing heap m at old new to k) (l : k < m) where
  pub pairing_room : odd_at heap m k ≡ true → at + length (heap_pairs heap m m) ≤ length old → to < length new
  pairing_room e h = omega (arith, s.writing.at_is, s.writing.len, pairs_length heap m k, pairs_length heap m m, below_before (odd_at heap m) k m l e)

  pub pairing_yes : {r : PairRecord} → r ≡ pair_at heap m k → odd_at heap m k ≡ true → to < length new → Pairing heap m at old (slice_set new to r) (to + 1) (k + 1)
  pairing_yes q e h = record { writing = rw (pairs_yes heap m k e, q) (writing_more s.writing h (pair_at heap m k)); room = omega arith }

  pub pairing_no : odd_at heap m k ≡ false → Pairing heap m at old new to (k + 1)
  pairing_no e = record { writing = rw (pairs_no heap m k e) s.writing; room = omega arith }

pub pairing_done : {heap : List Bool} (b i : ℕ) {m at : ℕ} {old new : List PairRecord} {to k : ℕ} → Pairing heap m at old new to k → m ≡ 2 ^ (b - suc i) → m ≤ k → Writing at (level_pairs heap b i) old new to
pairing_done {heap} b i {m} {at} {old} {new} {to} {k} s q l =
    let e : m ≡ k = omega (arith, s.room) in
    rw (← q) (subst (λ (x : ℕ). Writing at (heap_pairs heap m x) old new to) (sym e) s.writing)

-- ---- all levels

-- the records of the first i levels are written
pub record Recorded (b : ℕ) (heap : List Bool) (old new : List PairRecord) (at i : ℕ) : Type 0 where
  pub writing : Writing 0 (join (level_pairs heap b) (tabulate i (λ j. j))) old new at
  pub room : i ≤ b

pub recorded_none : (b : ℕ) (heap : List Bool) (old : List PairRecord) → Recorded b heap old old 0 0
recorded_none b heap old = record { writing = writing_none 0 old; room = omega arith }

module _ {b : ℕ} {heap : List Bool} {old new : List PairRecord} {at i : ℕ} (s : Recorded b heap old new at i) where
  pub recorded_room : i < b → length (heap_records b heap) ≤ length old → at + length (level_pairs heap b i) ≤ length new
  unfolding heap_records
  recorded_room l h =
      omega (
        arith,
        s.writing.at_is,
        s.writing.len,
        ap length (joined_more (level_pairs heap b) (λ j. j) i),
        length-append (join (level_pairs heap b) (tabulate i (λ j. j))) (level_pairs heap b i),
        joined_le (level_pairs heap b) (λ j. j) (i + 1) b (omega arith),
      )

  pub recorded_more : {new' : List PairRecord} {to : ℕ} → i < b → Writing at (level_pairs heap b i) new new' to → Recorded b heap old new' to (i + 1)
  recorded_more l w = record { writing = rw (joined_more (level_pairs heap b) (λ j. j) i) (writing_then s.writing w); room = omega arith }

  pub recorded_all : b ≤ i → new ≡ in_front (heap_records b heap) old
  unfolding heap_records
  recorded_all l = let e : i ≡ b = omega (arith, s.room) in writing_done s.writing ∙ ap (λ (x : ℕ). in_front (join (level_pairs heap b) (tabulate x (λ j. j))) old) e
