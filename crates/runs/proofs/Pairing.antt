-- A pair of the tree: the leaves of the giants, the search for a node's place, and the switch.
-- Assumes nothing.
use Rattle.std.proofs.Common.{◌≡◌, ℕ, zero, suc, ◌+◌, ◌-◌, ◌*◌, ◌/◌, ◌%◌, ◌^◌, ◌<◌, ◌≤◌, true, false, not, eqb, List, length, get_or, pos, sym, refl, ap, ◌∙◌, ⊎_elim, true≢false, mod-eq_of_lt, div-lt_iff_lt-mul, le-div_iff_mul-le, div-le_self, div-mul-le_self, arith, pow_pos, pow_mono, eq-eqb, ne_eqb}
use native.Mathlib.Decide.{dec_lt, ℕ_discrete}
use lib.ListN.{length-map}
use Rattle.ring.specs.Slots.{modulus}
use Rattle.ring.specs.Residues.{residue_of}
use Rattle.ring.specs.Laws.Lists.{each_at}
use Rattle.ring.specs.Laws.Refusals.{not_outside}
use Rattle.ring.specs.Laws.Residues.{residue_pos, residue_lt}
use Rattle.ring.specs.Laws.Searches.{lt_or_ge}
use Rattle.ring.specs.Answers.{answered}
use Rattle.ring.specs.declared.refusal.Refusal.{Refusal}
use Rattle.ring.specs.Laws.Answers.{when_ok}
use Rattle.std.specs.Prelude.{Option, None, Result, Ok}
use Rattle.linear_transformation.specs.Digits.{digit, level_rotation}
use Rattle.linear_transformation.specs.Calls.{digit_refusal, level_refusal}
use Rattle.runs.specs.Switches.{node_place}
use Rattle.runs.specs.Machines.{put_vector, turned, summed, vector_at}
use Rattle.runs.specs.Laws.Places.{inside_first, length_put_vector}
use Rattle.linear_transformation.specs.Laws.Runs.{rising_at}
use Rattle.runs.specs.Laws.NodePlaces.{there_at, NodeFirst, node_first}
use Rattle.runs.specs.Laws.Turnings.{length_summed}
use Rattle.runs.specs.Laws.Elements.{mapped_at}
use Rattle.runs.specs.Steps.Keyed.{TurnAsked, AddTurn}
use Rattle.runs.proofs.TwoRuns.{apart}
use Rattle.runs.specs.declared.tree.Tree.{Tree}
use Rattle.runs.specs.Steps.Leaves.{leaf_by}
use Rattle.runs.specs.Steps.Giants.{leaf_or_zero, leaves_of, NodeAsked, node_at, starts_pair, has_even, PlaceAsked, PairAsked, PairJoined}
use Rattle.ring.specs.Laws.Refusals.{on_accept_accepted}
use Rattle.std.specs.List.Sorted.{IsPartitionPoint, IsNonDecreasingBy}
use Rattle.std.proofs.lemmas.Bool.{ltb-true}
use Rattle.std.proofs.lemmas.List.{get_or_default}
use Rattle.std.proofs.Common.{ltb, ltb-false}
use Rattle.std.specs.Prelude.{slice_index_or}

-- ---- leaves

module _ (t : Tree) where
  some_slots : 1 ≤ t.slots
  some_slots = t.slots_range.low

  -- a number that is accepted as a giant rotation
  module _ (g : ℕ) where
    abbrev refusal : Option Refusal
    refusal = digit_refusal t.slots t.width (pos g)

  -- a giant of the plan
  own_leaf : (g : ℕ) → (g < t.slots) × (g % t.width ≡ 0) → leaf_or_zero t g ≡ leaf_by t.slots t.width (2 ^ t.bits) g
  own_leaf g is =
      let own : residue_of (pos g) t.slots ≡ g = residue_pos g t.slots some_slots ∙ mod-eq_of_lt is.0 in
      let none : refusal g ≡ None = rw (not_outside t.slots some_slots t.slots_range.high, not_outside t.width t.width_range.low t.width_range.high, own, eq-eqb (g % t.width) 0 is.1) in
      on_accept_accepted (refusal g) _ _ none ∙ rw own

  leaves_many : length (leaves_of t) ≡ length t.giants.now
  leaves_many = length-map t.giants.now (leaf_by t.slots t.width (2 ^ t.bits))

  leaf_there : (place : ℕ) → place < length t.giants.now → leaf_or_zero t (get_or t.giants.now place 0) ≡ get_or (leaves_of t) place 0
  leaf_there place l =
      own_leaf (get_or t.giants.now place 0) (each_at (λ g. (g < t.slots) × (g % t.width ≡ 0)) t.giants.now 0 t.giants_each place l)
      ∙ sym (mapped_at (leaf_by t.slots t.width (2 ^ t.bits)) t.giants.now place 0 0 l)

  leaf_low : (place : ℕ) → place < length t.giants.now → get_or (leaves_of t) place 0 < 65536
  leaf_low place l =
      rw (mapped_at (leaf_by t.slots t.width (2 ^ t.bits)) t.giants.now place 0 0 l)
      (omega (arith, residue_lt (digit t.slots t.width (record { 0 = get_or t.giants.now place 0 })).0 (2 ^ t.bits) (pow_pos t.bits), pow_mono {i = t.bits} {j = 16} t.bits_low))

  -- they do not fall
  pub leaves_order : IsNonDecreasingBy (λ g. suc (leaf_or_zero t g)) t.giants.now
  leaves_order i j d l m = by (ℕ_discrete i j)
    where
      word : (i : ℕ) → i < length t.giants.now → suc (leaf_or_zero t (slice_index_or t.giants.now i d)) ≡ suc (get_or (leaves_of t) i 0)
      word i h = ap suc (ap (leaf_or_zero t) (get_or_default t.giants.now i d 0 h) ∙ leaf_there i h)

      by : Dec (i ≡ j) → suc (leaf_or_zero t (slice_index_or t.giants.now i d)) ≤ suc (leaf_or_zero t (slice_index_or t.giants.now j d))
      by (yes e) = rw e (omega arith)
      by (no n) = rw (word i (omega arith), word j m) (omega (arith, rising_at (leaves_of t) 0 t.leaves_rise i j (omega arith) (omega (arith, leaves_many))))

-- ---- the place of a node

module _ {t : Tree} {level node : ℕ} (a : NodeAsked t level node) where
  abbrev place : ℕ
  place = node_place (leaves_of t) level node

  first : NodeFirst (leaves_of t) level node place
  first = node_first (leaves_of t) t.leaves_rise level node a.there_is

  -- the leaf at the place is not below the first under the node
  under : node * 2 ^ level ≤ get_or (leaves_of t) place 0
  under = (le-div_iff_mul-le (pow_pos level)).0 (omega (arith, first.under))

  -- where the leaves below the first under the node end
  pub point_is_place : {x r : ℕ} → x ≡ node * 2 ^ level → IsPartitionPoint (λ g. ltb (leaf_or_zero t g) x ≡ true) (λ g. ltb (leaf_or_zero t g) x ≡ false) t.giants.now r → r ≡ place
  point_is_place {x} {r} e p = by (dec_lt r place) (ℕ_discrete r place)
    where
      inside : place < length t.giants.now
      inside = omega (arith, first.inside, leaves_many t)

      by : Dec (r < place) → Dec (r ≡ place) → r ≡ place
      by (yes q) d =
          absurd (omega (arith, e, (div-lt_iff_lt-mul (pow_pos level)).0 (first.before r q), leaf_there t r (omega (arith, inside)), ltb-false (leaf_or_zero t (get_or t.giants.now r 0)) x (p.1 r 0 (omega arith) (omega (arith, inside)))))
      by (no q) (yes d) = d
      by (no q) (no d) = absurd (omega (arith, e, under, leaf_there t place inside, ltb-true (leaf_or_zero t (get_or t.giants.now place 0)) x (p.0 place 0 (omega arith) (omega arith))))

-- ---- a place of a level

module _ {t : Tree} {level place : ℕ} (a : PlaceAsked t level place) where
  pub node_is : {l : ℕ} → l ≡ leaf_or_zero t (get_or t.giants.now place 0) → l / 2 ^ level ≡ node_at (leaves_of t) level place
  node_is e = ap (λ (x : ℕ). x / 2 ^ level) (e ∙ leaf_there t place a.inside)

  pub node_small : node_at (leaves_of t) level place < 65536
  node_small = omega (arith, leaf_low t place a.inside, div-le_self (get_or (leaves_of t) place 0) (2 ^ level))

  pub before_asked : PlaceAsked t level (place - 1)
  before_asked = record { inside = omega (arith, a.inside); low = a.low }

  -- the node above it is searched for, and stands there or before
  pub node_asked : {n : ℕ} → n ≡ node_at (leaves_of t) level place → NodeAsked t level n
  node_asked e =
      rw e
      (record {
        there_is = there_at (leaves_of t) level place (omega (arith, a.inside, leaves_many t));
        small = omega (arith, leaf_low t place a.inside, div-mul-le_self (get_or (leaves_of t) place 0) (2 ^ level));
        low = a.low;
      })

  pub node_up_to : node_place (leaves_of t) level (node_at (leaves_of t) level place) ≤ place
  node_up_to =
      let f = node_first (leaves_of t) t.leaves_rise level (node_at (leaves_of t) level place) (there_at (leaves_of t) level place (omega (arith, a.inside, leaves_many t))) in
      ⊎_elim (λ (m : place < node_place (leaves_of t) level (node_at (leaves_of t) level place)). absurd (omega (arith, f.before place m)))
      (λ (m : node_place (leaves_of t) level (node_at (leaves_of t) level place) ≤ place). m)
      (lt_or_ge place (node_place (leaves_of t) level (node_at (leaves_of t) level place)))

-- whether a pair starts there
module _ (leaves : List ℕ) (level : ℕ) where
  pub starts_not : (place : ℕ) {node : ℕ} → node ≡ node_at leaves level place → (node % 2 ≡ 1 → ⊥) → false ≡ starts_pair leaves level place
  unfolding starts_pair
  starts_not place e n = rw (ne_eqb (node_at leaves level place % 2) 1 (λ q. n (ap (λ (x : ℕ). x % 2) e ∙ q)))

  pub starts_zero : (place : ℕ) {node : ℕ} → node ≡ node_at leaves level place → node % 2 ≡ 1 → place ≡ 0 → true ≡ starts_pair leaves level place
  unfolding starts_pair
  starts_zero place e o z = rw (eq-eqb (node_at leaves level place % 2) 1 (ap (λ (x : ℕ). x % 2) (sym e) ∙ o), z)

  pub starts_later : (place : ℕ) {node before : ℕ} → node ≡ node_at leaves level place → node % 2 ≡ 1 → (place ≡ 0 → ⊥) → before ≡ node_at leaves level (place - 1) → not (eqb before node) ≡ starts_pair leaves level place
  unfolding starts_pair
  starts_later zero e o z q = absurd (z refl)
  starts_later (suc place) e o z q =
      let p : suc place - 1 ≡ place = omega arith in
      rw (eq-eqb (node_at leaves level (suc place) % 2) 1 (ap (λ (x : ℕ). x % 2) (sym e) ∙ o), e, q, p)

  pub even_zero : (place : ℕ) → place ≡ 0 → false ≡ has_even leaves level place
  unfolding has_even
  even_zero place z = rw z

  pub even_later : (place : ℕ) {node before : ℕ} → node ≡ node_at leaves level place → (place ≡ 0 → ⊥) → before ≡ node_at leaves level (place - 1) → eqb (before + 1) node ≡ has_even leaves level place
  unfolding has_even
  even_later zero e z q = absurd (z refl)
  even_later (suc place) e z q =
      let p : suc place - 1 ≡ place = omega arith in
      rw (e, q, p)

  pub even_some : (place : ℕ) → has_even leaves level place ≡ true → 1 ≤ place
  unfolding has_even
  even_some zero h = absurd (true≢false (sym h))
  even_some (suc place) h = omega arith

-- ---- the rotation of a level

turn_under : (slots width bits level : ℕ) → 0 < slots → (level_rotation slots width bits level).0 < slots
unfolding level_rotation
turn_under slots width bits level p = residue_lt _ slots p

module _ (t : Tree) {level : ℕ} (l : level < t.bits) {r : Result ℕ Refusal} (e : r ≡ answered (level_refusal t.slots t.width t.bits level) (level_rotation t.slots t.width t.bits level).0) where
  pub turn_is : {k : ℕ} → r ≡ Ok k → k ≡ (level_rotation t.slots t.width t.bits level).0
  turn_is {k} h = (when_ok _ _ k (sym h ∙ e)).1

  pub turn_small : {k : ℕ} → r ≡ Ok k → k < 65536
  turn_small h = omega (arith, turn_is h, turn_under t.slots t.width t.bits level t.slots_range.low, t.slots_range.high)

-- ---- the switch of a pair

module _ {t : Tree} {level place n : ℕ} (a : PairAsked t level place n) where
  pub placed : PlaceAsked t level place
  placed = record { inside = a.inside; low = omega (arith, a.low, t.bits_low) }

  pub even_asked : {o : ℕ} → o ≡ node_at (leaves_of t) level (place - 1) → NodeAsked t level o
  even_asked e = node_asked (before_asked placed) e

  module _ (nodes : List ℕ) (len : length nodes ≡ n) {r : ℕ} (q : r ≡ (level_rotation t.slots t.width t.bits level).0) where
    odd_room : place * t.slots + t.slots ≤ length nodes
    odd_room = (inside_first t.slots nodes (length t.giants.now) place (omega (arith, a.room)) a.inside).room

    turn_low : r < t.slots
    turn_low = rw q (turn_under t.slots t.width t.bits level t.slots_range.low)

    -- with no even
    pub alone_asked : TurnAsked t.slots nodes place r
    alone_asked = record { low = turn_low; room = odd_room }

    -- with an even
    module _ (h : has_even (leaves_of t) level place ≡ true) {o s : ℕ} (e : o ≡ node_at (leaves_of t) level (place - 1)) (i : s ≡ node_place (leaves_of t) level o) where
      even_place_lem : s ≡ node_place (leaves_of t) level (node_at (leaves_of t) level (place - 1))
      even_place_lem = i ∙ ap (node_place (leaves_of t) level) e

      before : s < place
      before = omega (arith, even_place_lem, node_up_to (before_asked placed), even_some (leaves_of t) level place h)

      pub both_asked : AddTurn t.slots nodes s place r
      both_asked = record { low = turn_low; order = before; room = odd_room }

      pub both : {new : List ℕ} → new ≡ put_vector t.slots nodes s (summed modulus t.slots (vector_at t.slots nodes s) (turned t.slots (vector_at t.slots nodes place) r)) → PairJoined t level place nodes new r
      both w =
          record {
            nodes = w ∙ rw (h, even_place_lem, q);
            turn = q;
            len = ap length w ∙ length_put_vector t.slots (summed modulus t.slots (vector_at t.slots nodes s) (turned t.slots (vector_at t.slots nodes place) r)) (length_summed modulus t.slots _ _) (record { room = omega (arith, odd_room, apart t.slots s place before) });
          }
