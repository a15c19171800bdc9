-- What the steps of setting a diagonal ask and ensure.
-- Assumes nothing.
use Rattle.std.specs.Prelude.{◌≡◌, ℕ, ◌+◌, ◌-◌, ◌≤◌, List, ◌++◌, length, take, drop}
use Rattle.ring.specs.Vectors.{in_front}
use Rattle.diagonals.specs.declared.setting.Change.{Change}
use Rattle.diagonals.specs.Maps.{Diagonal, pair_room, pair_of, start_at}
use Rattle.diagonals.specs.Steps.Reading.{Placed}

-- what a set of `len` values at offset k changes: the first pair not below k, the first above it, and the new counts
pub record Changed (count : ℕ) (pairs : List ℕ) (k len : ℕ) (r : Change) : Type 0 where
  pub here : Placed count pairs k r.index
  pub above : Placed count pairs (k + 1) r.behind
  pub start_is : r.start ≡ start_at pairs r.index
  pub from_is : r.from ≡ start_at pairs r.behind
  pub end_is : r.end ≡ start_at pairs count
  pub pairs_is : r.pairs ≡ r.index + 1 + (count - r.behind)
  pub values_is : r.values ≡ r.start + len + (r.end - r.from)

-- words with `new` in place of those from `at` up to `from`, and the words up to `end` behind them; further words are kept
unfoldable pub spliced : {A : Type 0} → ℕ → ℕ → ℕ → List A → List A → List A
spliced at from end new w = in_front (take at w ++ (new ++ take (end - from) (drop from w))) w

-- these words are inside, before and after
pub record Spliceable (at from end n room : ℕ) : Type 0 where
  pub order : from ≤ end
  pub inside : end ≤ room
  pub fits : at + n + (end - from) ≤ room

-- one pair in place of those from `index` up to `behind`, of which there is at most one
pub record PairSpliceable (index behind count : ℕ) (pairs : List ℕ) : Type 0 where
  pub inside : Spliceable (pair_room index) (pair_room behind) (pair_room count) (pair_room 1) (length pairs)
  pub order : index ≤ behind
  pub next : behind ≤ index + 1
  pub end : behind ≤ count

pub record PairSpliced (index behind count k len : ℕ) (old new : List ℕ) : Type 0 where
  pub is : (d : Diagonal) → k ≡ d.offset → len ≡ length d.values → new ≡ spliced (pair_room index) (pair_room behind) (pair_room count) (pair_of d) old
