-- Laws of vectors turned and summed, by their slots, and what the giant switches leave.
-- Assumes nothing.
use Rattle.std.specs.Prelude.{◌≡◌, ℕ, ◌+◌, ◌%◌, ◌<◌, List, length, pos, slice_index}
use Rattle.std.proofs.Common.{◌∙◌, arith}
use Rattle.ring.specs.Lists.{sum_by}
use Rattle.ring.specs.Slots.{addm}
use Rattle.ring.specs.Vectors.{tabulate}
use Rattle.ring.specs.Laws.Residues.{residue_pos}
use Rattle.ring.specs.Laws.Rotations.{length_rotated, get_or_rotated}
use Rattle.ring.specs.Laws.Vectors.{length_tabulate, get_or_tabulate}
use Rattle.runs.specs.Machines.{State, vector_at, turned, summed}

-- ---- vectors

pub length_turned : (slots : ℕ) (v : List ℕ) (k : ℕ) → length (turned slots v k) ≡ slots
length_turned slots v k = length_rotated v (pos k) slots

-- slot s of a turned vector is slot s + k
pub get_or_turned : (slots : ℕ) (v : List ℕ) → length v ≡ slots → (k s : ℕ) → s < slots → slice_index (turned slots v k) s ≡ slice_index v ((s + k) % slots)
get_or_turned slots v len k s l = get_or_rotated v (pos k) slots s l ∙ rw (len, residue_pos (s + k) slots (omega arith))

module _ (m slots : ℕ) (v w : List ℕ) where
  pub length_summed : length (summed m slots v w) ≡ slots
  unfolding summed
  length_summed = length_tabulate slots _

  pub get_or_summed : (s : ℕ) → s < slots → slice_index (summed m slots v w) s ≡ addm m (slice_index v s) (slice_index w s)
  unfolding summed
  get_or_summed s l = get_or_tabulate slots _ s 0 l

-- ---- the giant switches

-- what the giant switches leave from st on: the answer is the sum of the giants' vectors, each turned by its giant, and all
-- but the nodes' words and the log is kept
pub record Finished (m slots : ℕ) (gs : List ℕ) (st after : State) (answer : List ℕ) : Type 0 where
  pub slot : (s : ℕ) → s < slots → slice_index answer s ≡ sum_by m (λ place. slice_index (vector_at slots st.nodes place) ((s + slice_index gs place) % slots)) (tabulate (length gs) (λ place. place))
  pub nodes_size : length after.nodes ≡ length st.nodes
  pub cache_kept : after.cache ≡ st.cache
  pub out_kept : after.out ≡ st.out
