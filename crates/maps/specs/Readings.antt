-- Document 01, "Matrix maps": the maps that read one entry or none, by their JKLS formulas.
-- Assumes nothing.
use Rattle.std.specs.Prelude.{◌≡◌, ℕ, ◌+◌, ◌-◌, ◌*◌, ◌%◌, ◌<◌, Bool, true, false, cond, List, [], ◌∷◌, map, ◌==◌, nat_le, nat_lt, slice_index}
use Rattle.ring.specs.Lists.{join}
use Rattle.ring.specs.Vectors.{tabulate}
use Rattle.diagonals.specs.Maps.{Diagonal}
use Rattle.diagonals.specs.Products.{product}
use Rattle.diagonals.specs.SlotMaps.{Term, slot_map}
use Rattle.diagonals.specs.Shrinking.{shrunk}
use Rattle.maps.specs.declared.rules.Rule.{Rule}
use Rattle.maps.specs.declared.rules.Rule.TheVariants.{Sigma, Tau, Transpose, RotateRows, RotateCols, RowsUpper, RowsLower, ColsLeft, ColsRight, RowsLeft, RowsRight}
use Rattle.maps.specs.Entries.{Entry, place, entry_of}

-- the entry (r, c), read where the test says so
abbrev pub reading : Bool → ℕ → ℕ → List Entry
reading true r c = record { row = r; col = c } ∷ []
reading false r c = []

-- where output (r, c) reads: one entry or none. The two rotations take their shift modulo d (document 02, A2)
unfoldable pub reads : Rule → ℕ → ℕ → ℕ → List Entry
reads Sigma d r c = reading true r ((r + c) % d)
reads Tau d r c = reading true ((r + c) % d) c
reads Transpose d r c = reading true c r
reads (RotateRows k) d r c = reading true ((r + k % d) % d) c
reads (RotateCols k) d r c = reading true r ((c + k % d) % d)
reads (RowsUpper k) d r c = reading (nat_lt (r + k) d) (r + k) c
reads (RowsLower k) d r c = reading (nat_le d (r + k)) (r + k - d) c
reads (ColsLeft k) d r c = reading (nat_lt (c + k) d) r (c + k)
reads (ColsRight k) d r c = reading (nat_le d (c + k)) r (c + k - d)
reads (RowsLeft k) d r c = reading (nat_lt (c + k) d) ((r + k) % d) c
reads (RowsRight k) d r c = reading (nat_le d (c + k)) ((r + k) % d) c

-- where outputs read so: the terms of output t of a matrix slot, each of weight 1, and those of all outputs
abbrev pub terms_at : (ℕ → ℕ → List Entry) → ℕ → ℕ → List Term
terms_at read d t = map (λ e. record { i = t; j = place d e; w = 1 }) (read (entry_of d t).row (entry_of d t).col)

abbrev pub terms_by : (ℕ → ℕ → List Entry) → ℕ → List Term
terms_by read d = join (terms_at read d) (tabulate (d * d) (λ t. t))

-- those of a rule
abbrev pub read_terms : Rule → ℕ → ℕ → List Term
read_terms rule d t = terms_at (reads rule d) d t

abbrev pub rule_terms : Rule → ℕ → List Term
rule_terms rule d = terms_by (reads rule d) d

-- the map before it shrinks: stored at d²
unfoldable pub whole_map : ℕ → ℕ → ℕ → Rule → List Diagonal
whole_map m slots d rule = slot_map m slots (d * d) (rule_terms rule d)

-- every diagonal stored at the smallest period that holds them all
unfoldable pub rule_map : ℕ → ℕ → ℕ → Rule → List Diagonal
rule_map m slots d rule = shrunk (whole_map m slots d rule)

-- the vector that it gives
abbrev pub after : ℕ → ℕ → ℕ → Rule → List ℕ → List ℕ
after m slots d rule a = tabulate slots (product m slots (rule_map m slots d rule) a)

-- the shift that a rule has; 0 of the others
abbrev pub shift_of : Rule → ℕ
shift_of Sigma = 0
shift_of Tau = 0
shift_of Transpose = 0
shift_of (RotateRows k) = k
shift_of (RotateCols k) = k
shift_of (RowsUpper k) = k
shift_of (RowsLower k) = k
shift_of (ColsLeft k) = k
shift_of (ColsRight k) = k
shift_of (RowsLeft k) = k
shift_of (RowsRight k) = k

-- the two rotations go round their matrix
abbrev pub goes_round : Rule → Bool
goes_round Sigma = false
goes_round Tau = false
goes_round Transpose = false
goes_round (RotateRows k) = true
goes_round (RotateCols k) = true
goes_round (RowsUpper k) = false
goes_round (RowsLower k) = false
goes_round (ColsLeft k) = false
goes_round (ColsRight k) = false
goes_round (RowsLeft k) = false
goes_round (RowsRight k) = false

-- the largest shift that a rule takes, of d rows and columns: refusal 6 (document 02, A2)
abbrev pub shift_limit : Rule → ℕ → ℕ
shift_limit rule d = cond (goes_round rule) 65536 d

-- the shift that it makes
abbrev pub made_shift : Rule → ℕ → ℕ
made_shift rule d = cond (goes_round rule) (shift_of rule % d) (shift_of rule)

-- ---- on replicated inputs

-- every matrix slot of the input is matrix slot 0
abbrev pub Replicated : ℕ → ℕ → List ℕ → Type 0
Replicated slots d input = (i : ℕ) → i < slots → slice_index input i ≡ slice_index input (i % (d * d))

-- `tau_rep`: a diagonal at each c·d, the mask of column c, stored at d
unfoldable pub tau_rep : ℕ → List Diagonal
tau_rep d = tabulate d (λ c. record { offset = c * d; values = tabulate d (λ x. cond (x == c) 1 0) })

-- `rotate_rows_rep`: the rotation by k·d, one diagonal of one 1
unfoldable pub rotate_rows_rep : ℕ → ℕ → ℕ → List Diagonal
rotate_rows_rep slots d k = record { offset = k * d % slots; values = 1 ∷ [] } ∷ []
