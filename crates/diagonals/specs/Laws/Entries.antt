-- A walk over the pairs of an accepted map: what each is, and the diagonals' values split off one after the other.
-- Assumes nothing.
use Rattle.std.specs.Prelude.{◌≡◌, ℕ, ◌+◌, ◌<◌, ◌≤◌, List, [], length, take, drop, slice_index_or, refl}
use Rattle.std.proofs.Common.{sym, ap, ◌∙◌, arith, length-drop, drop-drop}
use Rattle.ring.specs.Vectors.{tabulate}
use Rattle.ring.specs.Laws.Vectors.{length_tabulate, get_or_tabulate}
use Rattle.diagonals.specs.Maps.{offset_at, length_at, pair_at, start_at, diagonal_at, WellFormed}
use Rattle.diagonals.specs.Laws.Maps.{start_more, values_end}

-- the i-th of the first n pairs, as a walk over them reads it
module _ (pairs : List ℕ) (n : ℕ) {items : List (List ℕ)} (e : items ≡ tabulate n (pair_at pairs)) where
  pub entries_length : length items ≡ n
  entries_length = ap length e ∙ length_tabulate n (pair_at pairs)

  module _ {i : ℕ} (l : i < length items) where
    pub entry_low : i < n
    entry_low = omega (arith, entries_length)

    entry_is : slice_index_or items i [] ≡ pair_at pairs i
    entry_is = rw e (get_or_tabulate n (pair_at pairs) i [] entry_low)

    pub entry_offset : slice_index_or (slice_index_or items i []) 0 0 ≡ offset_at pairs i
    entry_offset = rw entry_is refl

    pub entry_length : slice_index_or (slice_index_or items i []) 1 0 ≡ length_at pairs i
    entry_length = rw entry_is refl

-- the values of the i-th, split off those that are left
module _ (pairs values : List ℕ) {rest : List ℕ} (i : ℕ) (e : rest ≡ drop (start_at pairs i) values) {len : ℕ} (l : len ≡ length_at pairs i) where
  -- the part that is split off, and what is left
  pub walk_part : take len rest ≡ (diagonal_at pairs values i).values
  walk_part = rw (e, l)

  pub walk_rest : drop len rest ≡ drop (start_at pairs (i + 1)) values
  walk_rest = rw (e, l, drop-drop) (ap (λ (n : ℕ). drop n values) (sym (start_more pairs i)))

  pub walk_fits : {slots count : ℕ} → WellFormed slots count pairs values → i < count → len ≤ length rest
  walk_fits w h = rw e (omega (arith, l, length-drop (start_at pairs i) values, values_end w i h))
