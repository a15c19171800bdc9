-- The giant switches of a plan: by their own rotations, or by the pairs of the tree; they are the first switches of the
-- schedule.
-- Assumes nothing.
use Rattle.std.proofs.Common.{◌≡◌, ℕ, ◌+◌, ◌-◌, ◌*◌, ◌^◌, ◌<◌, ◌≤◌, false, List, ◌++◌, map, length, take, drop, sym, refl, ap, ◌∙◌, arith}
use Rattle.ring.specs.Vectors.{tabulate}
use Rattle.ring.specs.Laws.Vectors.{map_tabulate, length_tabulate}
use Rattle.linear_transformation.specs.declared.LinearTransformationStrategy.{LinearTransformationStrategy}
use Rattle.linear_transformation.specs.Plans.{width_of}
use Rattle.linear_transformation.specs.Stored.{step_of, bits_for}
use Rattle.linear_transformation.specs.declared.LinearTransformationStrategy.TheVariants.{Bsgs, BsgsPowersOfTwo, Direct}
use Rattle.std.specs.Prelude.{Option, None, Some}
use Rattle.runs.specs.declared.surveying.Powers.{Powers}
use Rattle.runs.specs.Switches.{rotation_of, giant_schedule}
use Rattle.runs.specs.Laws.Schedules.{step_positive}
use Rattle.runs.specs.Steps.Surveys.{powers_of}
use Rattle.runs.specs.declared.tree.Tree.{Tree}
use Rattle.runs.specs.Steps.Leaves.{leaves_by, EachGiant}
use Rattle.ring.specs.Lists.{Rising}
use Rattle.ring.specs.Refusals.{Range}
use Rattle.linear_transformation.specs.Schedules.{plan_giants}
use Rattle.runs.specs.Steps.Giants.{turn_at, leaves_of, starts, join_by, join_at, TurnsAsked, GiantsTurned, PairsAsked, PairsJoined}
use Rattle.ring.specs.Slots.{modulus}
use Rattle.ring.specs.Vectors.{in_front, put_at}
use Rattle.linear_transformation.specs.Strategies.{width_outside}
use Rattle.linear_transformation.specs.Plans.{Distinct}
use Rattle.runs.specs.Steps.Keyed.{nodes_by}
use Rattle.runs.proofs.FromGiants as Own
use Rattle.runs.proofs.FromPairs as Pairs

-- the first `made` switches of the giants gs of a plan, by the map's offsets ks
pub record Turning (strategy : LinearTransformationStrategy) (made slots : ℕ) (ks gs nodes : List ℕ) : Type 0 where
  pub range : Range slots
  pub width : width_outside strategy ≡ false
  pub distinct : Distinct slots ks
  pub giants_are : gs ≡ plan_giants slots strategy ks
  pub few : made ≤ length (giant_schedule slots strategy ks)
  pub room : length gs * slots ≤ length nodes

-- the words `log` are what they log
pub record Turned (strategy : LinearTransformationStrategy) (made slots : ℕ) (ks nodes nodes' log : List ℕ) : Type 0 where
  pub turned : nodes' ≡ nodes_by modulus slots nodes (take made (giant_schedule slots strategy ks))
  pub logs : log ≡ map rotation_of (take made (giant_schedule slots strategy ks))
  pub len : length log ≡ made

-- the part of a log that is written, put back
pub put_back : {at made own : ℕ} {new words : List ℕ} (log : List ℕ) → at ≡ own → new ≡ words → length new ≡ made → take at log ++ (new ++ drop (at + made - at) (drop at log)) ≡ put_at own words log
unfolding put_at in_front
put_back {at} {made} {own} {new} {words} log a e l = let k : at + made - at ≡ length words = omega (arith, l, ap length e) in rw (k, a, e)

-- ---- whether it is by powers of two

pub no_powers : (slots : ℕ) (strategy : LinearTransformationStrategy) (ks : List ℕ) → powers_of slots strategy ks ≡ None → step_of slots strategy ks ≡ 0
unfolding step_of
no_powers slots (Bsgs width) ks e = refl
no_powers slots (BsgsPowersOfTwo width) ks e = cc
no_powers slots Direct ks e = refl

pub some_powers : (slots : ℕ) (strategy : LinearTransformationStrategy) (ks : List ℕ) (p : Powers) → powers_of slots strategy ks ≡ Some p → (1 ≤ step_of slots strategy ks) × (p.bits ≡ bits_for slots strategy ks)
unfolding step_of
some_powers slots (Bsgs width) ks p e = cc
some_powers slots (BsgsPowersOfTwo width) ks p e = (step_positive slots width ks, ap (λ (x : Powers). x.bits) (same e))
  where
    same : {x y : Powers} → ◌≡◌ {A = Option Powers} (Some x) (Some y) → y ≡ x
    same h = cc
some_powers slots Direct ks p e = cc

-- each by its own rotation
module _ {strategy : LinearTransformationStrategy} {made slots : ℕ} {ks gs nodes : List ℕ} (a : Turning strategy made slots ks gs nodes) {powers : Option Powers} {turns : ℕ} (e : powers ≡ powers_of slots strategy ks) (n : turns ≡ length (giant_schedule slots strategy ks)) (z : powers ≡ None) where
  own : step_of slots strategy ks ≡ 0
  own = no_powers slots strategy ks (sym e ∙ z)

  pub turns_inside : turns ≤ length gs
  turns_inside = rw (a.giants_are, n) (Own.giants_fewer slots strategy ks own)

  pub turns_asked : {k : ℕ} → k ≡ made → TurnsAsked gs (length gs - turns) k slots nodes
  turns_asked q = rw (q, a.giants_are, n) (Own.turns_of slots strategy ks own made a.few nodes (rw (← a.giants_are) a.room))

  pub turned_own : {k : ℕ} → k ≡ made → {nodes' log : List ℕ} → GiantsTurned gs (length gs - turns) k slots nodes nodes' log → Turned strategy made slots ks nodes nodes' log
  turned_own q t =
      record {
        turned = t.turned ∙ rw (q, switches);
        logs = t.logs ∙ rw (q, ← map_tabulate rotation_of made (turn_at gs (length gs - turns)), switches);
        len = ap length t.logs ∙ length_tabulate _ _ ∙ q;
      }
    where
      switches : tabulate made (turn_at gs (length gs - turns)) ≡ take made (giant_schedule slots strategy ks)
      switches = rw (a.giants_are, n) (Own.giants_by slots strategy ks own made a.few)

-- with powers of two
module _ {strategy : LinearTransformationStrategy} {made slots : ℕ} {ks gs nodes : List ℕ} (a : Turning strategy made slots ks gs nodes) {powers : Option Powers} {p : Powers} (e : powers ≡ powers_of slots strategy ks) (z : powers ≡ Some p) where
  some : 1 ≤ step_of slots strategy ks
  some = (some_powers slots strategy ks p (sym e ∙ z)).0

  b : p.bits ≡ bits_for slots strategy ks
  b = (some_powers slots strategy ks p (sym e ∙ z)).1

  pub bits_low : p.bits < 32
  bits_low = omega (arith, Pairs.bits_low slots strategy ks some b a.range a.width a.distinct)

  module _ {width : ℕ} (v : width ≡ width_of strategy) where
    -- the facts that the tree over the giants keeps
    pub tree_width : Range width
    tree_width = rw v (Pairs.plan_width slots strategy ks some b a.range a.width a.distinct)

    pub tree_bits : p.bits ≤ 16
    tree_bits = Pairs.bits_low slots strategy ks some b a.range a.width a.distinct

    pub tree_giants : EachGiant slots width gs
    tree_giants = rw (a.giants_are, v) (Pairs.each_giant slots strategy ks some b a.range a.width a.distinct)

    pub tree_leaves : Rising (leaves_by slots width (2 ^ p.bits) gs)
    tree_leaves = rw (a.giants_are, v) (Pairs.rising_leaves slots strategy ks some b a.range a.width a.distinct)

    -- a tree over the giants
    module _ (t : Tree) (g : t.giants.now ≡ gs) (w : t.width ≡ width) (s : t.slots ≡ slots) (q : t.bits ≡ p.bits) where
      pub pairs_asked : {k : ℕ} → k ≡ made → PairsAsked t k (length nodes)
      pairs_asked made_is =
          rw made_is
          (record {
            giants_low = let e : length t.giants.now ≡ length (plan_giants slots strategy ks) = cc (g, a.giants_are) in omega (arith, e, Pairs.plan_giants_low slots strategy ks some b a.range a.width a.distinct);
            few = few (Pairs.pairs_few slots strategy ks some b a.range a.width a.distinct made a.few);
            room = let e : length t.giants.now * t.slots ≡ length gs * slots = cc (g, s) in omega (arith, e, a.room);
          })
        where
          few : made ≤ length (starts (leaves_by slots (width_of strategy) (2 ^ p.bits) (plan_giants slots strategy ks)) (length (plan_giants slots strategy ks)) p.bits) → made ≤ length (starts (leaves_of t) (length t.giants.now) t.bits)
          few h = let e : length (starts (leaves_of t) (length t.giants.now) t.bits) ≡ length (starts (leaves_by slots (width_of strategy) (2 ^ p.bits) (plan_giants slots strategy ks)) (length (plan_giants slots strategy ks)) p.bits) = cc (g, w, s, q, a.giants_are, v) in omega (arith, e, h)

      pub turned_pairs : {k : ℕ} → k ≡ made → {nodes' log : List ℕ} → PairsJoined t k nodes nodes' log → Turned strategy made slots ks nodes nodes' log
      turned_pairs made_is j =
          record {
            turned = j.joined_all ∙ rw made_is (cc (s, switches));
            logs = j.logs ∙ rw (made_is, ← map_tabulate rotation_of made (join_at t), switches);
            len = ap length j.logs ∙ length_tabulate _ _ ∙ made_is;
          }
        where
          switches : tabulate made (join_at t) ≡ take made (giant_schedule slots strategy ks)
          switches = let e : join_at t ≡ join_by (plan_giants slots strategy ks) (width_of strategy) slots p.bits = cc (g, w, s, q, a.giants_are, v) in ap (tabulate made) e ∙ (Pairs.pairs_by slots strategy ks some b a.range a.width a.distinct made a.few)
