-- What the private steps of the keyed run ask and ensure.
-- Assumes nothing.
use Rattle.std.specs.Prelude.{◌≡◌, ℕ, ◌+◌, ◌-◌, ◌*◌, ◌%◌, ◌<◌, ◌≤◌, true, List, [], ◌∷◌, length, take, slice_index, Option, None, Some}
use Rattle.ring.specs.Slots.{modulus, addm, mulm}
use Rattle.ring.specs.Lists.{join, sum_by, among, Each, Rising}
use Rattle.ring.specs.Vectors.{tabulate, in_front}
use Rattle.diagonals.specs.Maps.{offset_at, diagonal_at}
use Rattle.diagonals.specs.Products.{cell}
use Rattle.linear_transformation.specs.Plans.{babies_at}
use Rattle.linear_transformation.specs.Closures.{nonzeros}
use Rattle.runs.specs.declared.surveying.Powers.{Powers}
use Rattle.runs.specs.Switches.{place_of, Switch, source_of, rotation_of}
use Rattle.runs.specs.Machines.{source_vector, cache_after, nodes_after}
use Rattle.runs.specs.Laws.PassSchedules.{top_turn, making}

-- ---- vectors of one buffer

-- out[s] and the vector's word
abbrev pub vector_added : List ℕ → List ℕ → ℕ → ℕ
vector_added v out s = addm modulus (slice_index out s) (slice_index v s)

-- a vector of the buffer, and a rotation
pub record TurnAsked (slots : ℕ) (buffer : List ℕ) (place k : ℕ) : Type 0 where
  pub low : k < slots
  pub room : place * slots + slots ≤ length buffer

-- a vector and one behind it, and a rotation
pub record AddTurn (slots : ℕ) (buffer : List ℕ) (even odd k : ℕ) : Type 0 where
  pub low : k < slots
  pub order : even < odd
  pub room : odd * slots + slots ≤ length buffer

-- ---- nodes

-- the diagonals of the p-th giant: from which place of the map on they stand, and how many they are
abbrev pub first_diagonal : ℕ → List ℕ → List ℕ → ℕ → ℕ
first_diagonal width ks gs p = length (join (babies_at width ks) (take p gs))

abbrev pub size_of : ℕ → List ℕ → List ℕ → ℕ → ℕ
size_of width ks gs p = length (babies_at width ks (slice_index gs p))

-- what the i-th diagonal of the map brings to the node of giant g at slot s
abbrev pub node_term : ℕ → ℕ → List ℕ → List ℕ → List ℕ → List ℕ → List ℕ → ℕ → ℕ → ℕ → ℕ
node_term m slots bs pairs values input cache g s i =
    mulm m (slice_index (source_vector slots input cache (source_of bs (offset_at pairs i - g))) s) (cell (diagonal_at pairs values i).values ((s + (slots - g)) % slots))

-- the sum over n diagonals from the first on
abbrev pub node_run : ℕ → ℕ → List ℕ → List ℕ → List ℕ → List ℕ → List ℕ → ℕ → ℕ → ℕ → ℕ → ℕ
node_run m slots bs pairs values input cache g first n s = sum_by m (node_term m slots bs pairs values input cache g s) (tabulate n (λ i. first + i))

-- ---- switches

-- caches and nodes after switches, one after the other
abbrev pub cache_by : ℕ → List ℕ → List ℕ → List Switch → List ℕ
cache_by slots input cache [] = cache
cache_by slots input cache (w ∷ ws) = cache_by slots input (cache_after slots input cache w) ws

abbrev pub nodes_by : ℕ → ℕ → List ℕ → List Switch → List ℕ
nodes_by m slots nodes [] = nodes
nodes_by m slots nodes (w ∷ ws) = nodes_by m slots (nodes_after m slots nodes w) ws

-- ---- baby switches

-- the rotation that makes baby v: v itself, and with powers of two the top bit of its multiple of the step
abbrev pub turn_by : Option Powers → ℕ → ℕ
turn_by None v = v
turn_by (Some p) v = top_turn p.step v

-- with powers of two: v is not below the step
abbrev pub StepUpTo : ℕ → Option Powers → Type 0
StepUpTo v None = Unit
StepUpTo v (Some p) = (1 ≤ p.step) × (p.step ≤ v)

pub record Listed (bs : List ℕ) (k : ℕ) : Type 0 where
  pub rises : Rising bs
  pub has : among k bs ≡ true

-- a plan's babies, 0 first, and room for the vectors of the others
pub record Babies (bs input cache : List ℕ) : Type 0 where
  pub rises : Rising bs
  pub front : bs ≡ 0 ∷ nonzeros bs
  pub room : length (nonzeros bs) * length input ≤ length cache

-- a baby whose vector is in the cache
pub record Reading (bs : List ℕ) (k : ℕ) (input cache : List ℕ) : Type 0 where
  pub rises : Rising bs
  pub front : bs ≡ 0 ∷ nonzeros bs
  pub has : among k bs ≡ true
  pub room : place_of k bs * length input ≤ length cache

-- a baby that a rotation makes
pub record Turnable (v : ℕ) (powers : Option Powers) : Type 0 where
  pub some : 1 ≤ v
  pub low : StepUpTo v powers
  pub small : v < 65536

pub record TurnIs (v : ℕ) (powers : Option Powers) (r : ℕ) : Type 0 where
  pub is : r ≡ turn_by powers v
  pub some : 1 ≤ r
  pub within : r ≤ v

-- each baby is made from 0 or from an earlier one
pub record Caching (bs : List ℕ) (powers : Option Powers) (input cache : List ℕ) : Type 0 where
  pub babies : Babies bs input cache
  pub some : 1 ≤ length input
  pub small : length input ≤ 65536
  pub low : Each (λ b. b < length input) bs
  pub steps : Each (λ b. StepUpTo b powers) (nonzeros bs)
  pub closed : Each (λ b. among (b - turn_by powers b) bs ≡ true) (nonzeros bs)

pub record BabyMade (bs : List ℕ) (powers : Option Powers) (p : ℕ) (input old new : List ℕ) (r : ℕ) : Type 0 where
  pub cache : new ≡ cache_after (length input) input old (making bs (turn_by powers) p)
  pub turn : r ≡ turn_by powers (slice_index (nonzeros bs) p)

pub record BabiesMade (bs : List ℕ) (powers : Option Powers) (n : ℕ) (input old new log log' : List ℕ) : Type 0 where
  pub cache : new ≡ cache_by (length input) input old (tabulate n (making bs (turn_by powers)))
  pub logged : log' ≡ in_front (tabulate n (λ p. rotation_of (making bs (turn_by powers) p))) log
