-- What the private steps of the nodes ask and ensure.
-- Assumes nothing.
use Rattle.std.specs.Prelude.{◌≡◌, ℕ, ◌+◌, ◌-◌, ◌*◌, ◌<◌, ◌≤◌, true, List, [], length, slice_index, slice_index_or}
use Rattle.ring.specs.Slots.{modulus}
use Rattle.ring.specs.Lists.{join, among}
use Rattle.ring.specs.Vectors.{tabulate, in_front}
use Rattle.diagonals.specs.Maps.{offset_at, start_at}
use Rattle.runs.specs.declared.nodes.Sums.{Sums}
use Rattle.runs.specs.Steps.Keyed.{Babies, node_run}

-- the diagonals first .. first + n - 1 of a map are those of giant g: each is g and a baby of the list
pub record GiantRun (bs : List ℕ) (g first n count : ℕ) (pairs input : List ℕ) : Type 0 where
  pub inside : first + n ≤ count
  pub low : g < length input
  pub above : (i : ℕ) → i < n → g ≤ offset_at pairs (first + i)
  pub has : (i : ℕ) → i < n → among (offset_at pairs (first + i) - g) bs ≡ true

pub record GiantAsked (bs : List ℕ) (g first n start count : ℕ) (pairs input cache : List ℕ) : Type 0 where
  pub babies : Babies bs input cache
  pub run : GiantRun bs g first n count pairs input
  pub start_is : start ≡ start_at pairs first

-- a part of a node, from a slot on
pub record PartAsked (slot : ℕ) (input part : List ℕ) : Type 0 where
  pub inside : slot + length part ≤ length input

pub record PartMade (bs : List ℕ) (g first n : ℕ) (pairs values input cache : List ℕ) (slot size : ℕ) (part : List ℕ) (r : ℕ) : Type 0 where
  pub part_is : part ≡ tabulate size (λ j. node_run modulus (length input) bs pairs values input cache g first n (slot + j))
  pub end : r ≡ start_at pairs (first + n)

-- the cut of the p-th giant: its first diagonal, and how many they are
abbrev pub first_in : List (List ℕ) → ℕ → ℕ
first_in cuts p = slice_index_or (slice_index_or cuts p []) 0 0

abbrev pub many_in : List (List ℕ) → ℕ → ℕ
many_in cuts p = slice_index_or (slice_index_or cuts p []) 1 0

-- all giants: their diagonals stand one after the other
pub record NodesAsked (bs gs : List ℕ) (cuts : List (List ℕ)) (count : ℕ) (pairs input cache nodes : List ℕ) : Type 0 where
  pub babies : Babies bs input cache
  pub sizes : length cuts ≡ length gs
  pub runs : (p : ℕ) → p < length gs → GiantRun bs (slice_index gs p) (first_in cuts p) (many_in cuts p) count pairs input
  pub first : 0 < length gs → first_in cuts 0 ≡ 0
  pub next : (p : ℕ) → p + 1 < length gs → first_in cuts (p + 1) ≡ first_in cuts p + many_in cuts p
  pub room : length gs * length input ≤ length nodes

-- the p-th node at slot s
abbrev pub node_slot : List ℕ → List ℕ → List (List ℕ) → List ℕ → List ℕ → List ℕ → List ℕ → ℕ → ℕ → ℕ
node_slot bs gs cuts pairs values input cache p = node_run modulus (length input) bs pairs values input cache (slice_index gs p) (first_in cuts p) (many_in cuts p)

-- n nodes of which each is made up to a slot; all else is as it was
pub record MadeTo (f : ℕ → ℕ → ℕ) (n slots : ℕ) (upto : ℕ → ℕ) (old new : List ℕ) : Type 0 where
  pub len : length new ≡ length old
  pub done : (p s : ℕ) → p < n → s < slots → s < upto p → slice_index new (p * slots + s) ≡ f p s
  pub todo : (p s : ℕ) → p < n → s < slots → upto p ≤ s → slice_index new (p * slots + s) ≡ slice_index old (p * slots + s)
  pub behind : (i : ℕ) → n * slots ≤ i → slice_index new i ≡ slice_index old i

pub record TileAsked (bs gs : List ℕ) (cuts : List (List ℕ)) (count : ℕ) (pairs input cache : List ℕ) (slot size : ℕ) (nodes : List ℕ) : Type 0 where
  pub asked : NodesAsked bs gs cuts count pairs input cache nodes
  pub inside : slot + size ≤ length input

-- nodes that were made up to a slot are made `size` slots further
pub record TileMade (bs gs : List ℕ) (cuts : List (List ℕ)) (pairs values input cache : List ℕ) (slot size : ℕ) (nodes nodes' : List ℕ) : Type 0 where
  pub len : length nodes' ≡ length nodes
  pub further : (old : List ℕ) → MadeTo (node_slot bs gs cuts pairs values input cache) (length gs) (length input) (λ p. slot) old nodes
      → MadeTo (node_slot bs gs cuts pairs values input cache) (length gs) (length input) (λ p. slot + size) old nodes'

-- the first n nodes
abbrev pub first_nodes : List ℕ → List ℕ → List (List ℕ) → List ℕ → List ℕ → List ℕ → List ℕ → ℕ → List ℕ
first_nodes bs gs cuts pairs values input cache n = join (λ p. tabulate (length input) (node_slot bs gs cuts pairs values input cache p)) (tabulate n (λ p. p))

pub record NodesMade (bs gs : List ℕ) (cuts : List (List ℕ)) (pairs values input cache old new : List ℕ) : Type 0 where
  pub nodes : new ≡ in_front (first_nodes bs gs cuts pairs values input cache (length gs)) old

-- ---- the same of what the nodes are made of

abbrev pub GiantOf : Sums → ℕ → ℕ → ℕ → ℕ → Type 0
GiantOf m g first n start = GiantAsked m.parts.babies.now g first n start m.map.count m.map.pairs.now m.input.now m.cache.now

abbrev pub PartOf : Sums → ℕ → ℕ → ℕ → ℕ → ℕ → List ℕ → ℕ → Type 0
PartOf m g first n slot size part r = PartMade m.parts.babies.now g first n m.map.pairs.now m.map.values.now m.input.now m.cache.now slot size part r

abbrev pub NodesOf : Sums → List ℕ → Type 0
NodesOf m nodes = NodesAsked m.parts.babies.now m.parts.giants.now m.parts.cuts.now m.map.count m.map.pairs.now m.input.now m.cache.now nodes

abbrev pub TileOf : Sums → ℕ → ℕ → List ℕ → Type 0
TileOf m slot size nodes = TileAsked m.parts.babies.now m.parts.giants.now m.parts.cuts.now m.map.count m.map.pairs.now m.input.now m.cache.now slot size nodes

abbrev pub TileMadeOf : Sums → ℕ → ℕ → List ℕ → List ℕ → Type 0
TileMadeOf m slot size old new = TileMade m.parts.babies.now m.parts.giants.now m.parts.cuts.now m.map.pairs.now m.map.values.now m.input.now m.cache.now slot size old new

abbrev pub NodesMadeOf : Sums → List ℕ → List ℕ → Type 0
NodesMadeOf m old new = NodesMade m.parts.babies.now m.parts.giants.now m.parts.cuts.now m.map.pairs.now m.map.values.now m.input.now m.cache.now old new
