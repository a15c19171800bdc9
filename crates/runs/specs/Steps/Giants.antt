-- What the private steps of the giant switches ask and ensure.
-- Assumes nothing.
use Rattle.std.specs.Prelude.{◌≡◌, ℕ, zero, suc, ◌+◌, ◌-◌, ◌*◌, ◌/◌, ◌%◌, ◌^◌, ◌<◌, ◌≤◌, Bool, true, false, cond, not, ◌&&◌, List, length, ◌==◌, pos, slice_index}
use Rattle.ring.specs.Slots.{modulus}
use Rattle.ring.specs.Lists.{Each}
use Rattle.ring.specs.Refusals.{on_accept}
use Rattle.ring.specs.Searches.{below}
use Rattle.ring.specs.Residues.{residue_of}
use Rattle.ring.specs.Vectors.{tabulate}
use Rattle.linear_transformation.specs.Digits.{digit, rot_of, level_rotation}
use Rattle.linear_transformation.specs.Calls.{digit_refusal}
use Rattle.runs.specs.declared.tree.Tree.{Tree}
use Rattle.runs.specs.Steps.Leaves.{leaves_by}
use Rattle.linear_transformation.specs.Trees.{there}
use Rattle.runs.specs.Switches.{none, at, Switch, giant, pair, rotation_of, node_place}
use Rattle.runs.specs.Machines.{nodes_after}
use Rattle.runs.specs.Steps.Keyed.{nodes_by}

-- ---- per rotation

-- the switch of the giant at a place
abbrev pub turn_at : List ℕ → ℕ → ℕ → Switch
turn_at gs start p = giant (start + p) (slice_index gs (start + p))

pub record TurnsAsked (gs : List ℕ) (start n slots : ℕ) (nodes : List ℕ) : Type 0 where
  pub inside : start + n ≤ length gs
  pub low : Each (λ g. g < slots) gs
  pub room : length gs * slots ≤ length nodes

pub record GiantsTurned (gs : List ℕ) (start n slots : ℕ) (nodes nodes' log : List ℕ) : Type 0 where
  pub turned : nodes' ≡ nodes_by modulus slots nodes (tabulate n (turn_at gs start))
  pub logs : log ≡ tabulate n (λ p. rotation_of (turn_at gs start p))

-- ---- leaves

-- of any number: 0 where it is no giant
abbrev pub leaf_or_zero : Tree → ℕ → ℕ
leaf_or_zero t g =
    on_accept (digit_refusal t.slots t.width (pos g)) (residue_of (digit t.slots t.width (rot_of t.slots (pos g))).0 (2 ^ t.bits)) 0

abbrev pub leaves_of : Tree → List ℕ
leaves_of t = leaves_by t.slots t.width (2 ^ t.bits) t.giants.now

pub record NodeAsked (t : Tree) (level node : ℕ) : Type 0 where
  pub there_is : there (leaves_of t) level node ≡ true
  pub small : node * 2 ^ level < 65536
  pub low : level < 17

-- ---- pairs

-- the node of level i above the leaf at place p
abbrev pub node_at : List ℕ → ℕ → ℕ → ℕ
node_at leaves i p = slice_index leaves p / 2 ^ i

-- no leaf before it is under the same node
abbrev pub is_first : List ℕ → ℕ → ℕ → Bool
is_first leaves i zero = true
is_first leaves i (suc p) = not (node_at leaves i p == node_at leaves i (suc p))

-- a pair of level i starts there: with the first leaf under an odd node
unfoldable pub starts_pair : List ℕ → ℕ → ℕ → Bool
starts_pair leaves i p = node_at leaves i p % 2 == 1 && is_first leaves i p

-- the even node is there: the leaf before is under it
unfoldable pub has_even : List ℕ → ℕ → ℕ → Bool
has_even leaves i zero = false
has_even leaves i (suc p) = node_at leaves i p + 1 == node_at leaves i (suc p)

-- the switch of the pair that starts there
abbrev pub start_switch : List ℕ → ℕ → ℕ → ℕ → Switch
start_switch leaves i rotation p = pair p (cond (has_even leaves i p) (at (node_place leaves i (node_at leaves i (p - 1)))) none) rotation

-- the places of all levels in one row: place p of level i, of n places, is the (i * n + p)-th
abbrev pub starts_at : List ℕ → ℕ → ℕ → Bool
starts_at leaves n c = starts_pair leaves (c / n) (c % n)

abbrev pub switch_at : ℕ → ℕ → ℕ → List ℕ → ℕ → ℕ → Switch
switch_at slots width bits leaves n c = start_switch leaves (c / n) (level_rotation slots width bits (c / n)).0 (c % n)

-- those with which a pair starts
abbrev pub starts : List ℕ → ℕ → ℕ → List ℕ
starts leaves n bits = below (starts_at leaves n) (bits * n)

-- the q-th switch
abbrev pub join_by : List ℕ → ℕ → ℕ → ℕ → ℕ → Switch
join_by gs width slots bits q =
    let leaves = leaves_by slots width (2 ^ bits) gs in
    switch_at slots width bits leaves (length gs) (slice_index (starts leaves (length gs) bits) q)

abbrev pub join_at : Tree → ℕ → Switch
join_at t q = join_by t.giants.now t.width t.slots t.bits q

-- a place of a level
pub record PlaceAsked (t : Tree) (level place : ℕ) : Type 0 where
  pub inside : place < length t.giants.now
  pub low : level < 17

pub record PairAsked (t : Tree) (level place n : ℕ) : Type 0 where
  pub inside : place < length t.giants.now
  pub low : level < t.bits
  pub room : length t.giants.now * t.slots ≤ n

pub record PairJoined (t : Tree) (level place : ℕ) (old new : List ℕ) (r : ℕ) : Type 0 where
  pub nodes : new ≡ nodes_after modulus t.slots old (start_switch (leaves_of t) level (level_rotation t.slots t.width t.bits level).0 place)
  pub turn : r ≡ (level_rotation t.slots t.width t.bits level).0
  pub len : length new ≡ length old

pub record PairsAsked (t : Tree) (n size-of-nodes : ℕ) : Type 0 where
  pub giants_low : length t.giants.now ≤ 65536
  pub few : n ≤ length (starts (leaves_of t) (length t.giants.now) t.bits)
  pub room : length t.giants.now * t.slots ≤ size-of-nodes

pub record PairsJoined (t : Tree) (n : ℕ) (nodes nodes' log : List ℕ) : Type 0 where
  pub joined_all : nodes' ≡ nodes_by modulus t.slots nodes (tabulate n (join_at t))
  pub logs : log ≡ tabulate n (λ q. rotation_of (join_at t q))
