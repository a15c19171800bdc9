-- Document 01, "Map store": slot maps.
-- Assumes nothing.
use Rattle.std.specs.Prelude.{ℕ, ◌+◌, ◌*◌, ◌%◌, Bool, false, cond, ◌&&◌, ◌||◌, List, [], ◌∷◌, map, length, ℤ, pos, ◌-ℤ◌, ◌==◌, nat_lt, slice_index}
use Rattle.ring.specs.Slots.{mulm}
use Rattle.ring.specs.Lists.{sum_by}
use Rattle.ring.specs.Vectors.{tabulate}
use Rattle.ring.specs.Residues.{residue_of}
use Rattle.ring.specs.Searches.{every, below}
use Rattle.diagonals.specs.Maps.{Diagonal}

-- a term (i, j, w): output i reads input j with weight w
pub record Term : Type 0 where
  pub i : ℕ
  pub j : ℕ
  pub w : ℕ

-- the terms of three lists of equal length
unfoldable pub terms_of : List ℕ → List ℕ → List ℕ → List Term
terms_of is js ws = tabulate (length is) (λ t. record { i = slice_index is t; j = slice_index js t; w = slice_index ws t })

-- every term has i < period and j < slots
unfoldable pub in_range : ℕ → ℕ → List ℕ → List ℕ → Bool
in_range slots period is js = every (λ t. nat_lt (slice_index is t) period && nat_lt (slice_index js t) slots) (length is)

-- how far from its output a term reads: j - i
abbrev pub difference : Term → ℤ
difference t = pos t.j -ℤ pos t.i

-- the diagonal (j - i) mod slots that a term reaches
abbrev pub offset_of : ℕ → Term → ℕ
offset_of slots t = residue_of (difference t) slots

-- some term reaches diagonal k
abbrev pub reached : ℕ → List Term → ℕ → Bool
reached slots [] k = false
reached slots (t ∷ ts) k = offset_of slots t == k || reached slots ts k

-- what a term adds to diagonal k at position p
abbrev pub weight : ℕ → ℕ → ℕ → Term → ℕ
weight slots k p t = cond (offset_of slots t == k && t.i == p) t.w 0

-- diagonal k of the slot map: terms on one entry add up modulo m
abbrev pub gathered : ℕ → ℕ → ℕ → List Term → ℕ → Diagonal
gathered m slots period ts k = record { offset = k; values = tabulate period (λ p. sum_by m (weight slots k p) ts) }

-- how many numbers below k pass: the place of k among them
abbrev pub rank : (ℕ → Bool) → ℕ → ℕ
rank p k = length (below p k)

-- each diagonal that a term reaches, stored at the period, zero or not
unfoldable pub slot_map : ℕ → ℕ → ℕ → List Term → List Diagonal
slot_map m slots period ts = map (gathered m slots period ts) (below (reached slots ts) slots)

-- zeros at the offsets ks, stored at the period
abbrev pub zeros_at : ℕ → ℕ → Diagonal
zeros_at period k = record { offset = k; values = tabulate period (λ _. 0) }

unfoldable pub zero_map : ℕ → List ℕ → List Diagonal
zero_map period ks = map (zeros_at period) ks

-- output i + q·period sums, modulo m, w·input[(j + q·period) mod slots] over the terms (i, j, w)
unfoldable pub slot_sum : ℕ → ℕ → ℕ → List Term → List ℕ → ℕ → ℕ → ℕ
slot_sum m slots period ts input i q =
    sum_by m (λ t. cond (t.i == i) (mulm m t.w (slice_index input ((t.j + q * period) % slots))) 0) ts
