-- `diagonals::fill` meets its contract: `Spinning` is what the loop keeps, and `more` a turn, on plain values. Assumes nothing.
use Rattle.std.proofs.Common.{◌≡◌, ℕ, ◌+◌, ◌-◌, ◌%◌, ◌<◌, List, length}
use Rattle.ring.specs.Vectors.{Filling}
use Rattle.diagonals.specs.Steps.Writing.{spin}
use Rattle.diagonals.proofs.fill.Given as goal

pub record Spinning (src : List ℕ) (from : ℕ) (out₀ out : List ℕ) (run at : ℕ) : Type 0 where
  pub so_far : Filling (spin src from) out₀ out at
  pub turn : at < length out → run ≡ (at + from) % length src
  pub inside : run < length src

abbrev pub invariant-loop-at : goal.invariant-loop-at
invariant-loop-at l = Spinning l.src l.from l.initial.out l.out l.run l.at

abbrev pub decreases-loop-at : goal.decreases-loop-at
decreases-loop-at l = length l.initial.out - l.at
