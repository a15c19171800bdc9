-- The calls over a list of giants: their refusals, sizes and answers.
-- Assumes nothing.
use Prim.Native.Nat.{ℕ, ◌*◌, ◌≤◌, ◌<◌}
use mathlib.Core.Path.{◌≡◌, refl, sym, ap, ◌∙◌}
use mathlib.Core.Bool.{Bool, false}
use mathlib.Core.List.{List, [], ◌++◌, map, map-map}
use native.Mathlib.Omega.{arith}
use borrow.Author.Tests.{lt-ltb, le-ltb}
use lib.Dec.{ltb}
use lib.IntN.{ℤ}
use lib.ListN.{length, length-map}
use Rattle.ring.specs.Lists.{join}
use Rattle.ring.specs.Vectors.{in_front, Behind}
use Rattle.ring.specs.Answers.{answered}
use Rattle.std.specs.Prelude.{Option, None, Some, Ok, Err}
use Rattle.ring.specs.declared.refusal.Refusal.{Refusal}
use Rattle.ring.specs.declared.refusal.Refusal.TheVariants.{Room}
use Rattle.ring.specs.Refusals.{first_refusal}
use Rattle.ring.specs.Laws.Refusals.{first_later}
use Rattle.linear_transformation.specs.declared.rotations.BsgsRotations.TheVariants.{PowersOfTwo}
use Rattle.linear_transformation.specs.declared.records.PairRecord.{PairRecord}
use Rattle.linear_transformation.specs.declared.digits.Digit.{Digit}
use Rattle.linear_transformation.specs.declared.tree.Tree.{Tree as HeapTree}
use Rattle.linear_transformation.specs.Digits.{rot_of, digit, bits_of, leaf}
use Rattle.linear_transformation.specs.Trees.{digits_of, leaves_of, Level, levels_of, Tree, tree_of, level_words, tree_records, tree_keys, tree_switches}
use Rattle.linear_transformation.specs.Listed.{giant_refusals, list_tree}
use Rattle.linear_transformation.specs.Calls.{ListWritten, tree_room, TreeWritten}
use Rattle.linear_transformation.specs.Stored.{RecordsLeft}
use Rattle.linear_transformation.specs.Steps.Trees.{GiantsAccepted, leaves_at, Planted, TreeOf, heap_levels, heap_switches, levels_in, switches_in, keys_of}
use Rattle.linear_transformation.specs.Steps.Records.{heap_records, records_in}
use Rattle.linear_transformation.proofs.BabyLists.{list_later_by, list_short, list_written}
use Rattle.linear_transformation.proofs.Writing.{words_length}
use Rattle.linear_transformation.proofs.Planting.{levels_are, switches_are, records_are}

-- ---- the tree of the list, from the heap

pub record Sizes (slots step : ℕ) (gs : List ℤ) (heap : List Bool) (r count : ℕ) : Type 0 where
  pub bits : r ≡ (list_tree slots step gs).bits
  pub switches : count ≡ tree_switches (list_tree slots step gs)
  pub leaves_are : leaves_at slots step r gs ≡ (list_tree slots step gs).leaves
  pub levels_are : heap_levels slots step r heap r ≡ (list_tree slots step gs).levels
  pub leaves : length (list_tree slots step gs).leaves ≡ length gs
  pub levels : length (level_words (list_tree slots step gs).levels) ≡ 2 * r
  pub records_are : heap_records r heap ≡ tree_records (list_tree slots step gs)
  pub positive : 1 ≤ r
  pub small : r ≤ 16

module _ {slots step : ℕ} {gs : List ℤ} {heap : List Bool} {r : ℕ} (p : Planted slots step gs heap r) where
  abbrev ds : List Digit
  ds = digits_of slots step (map (rot_of slots) gs)

  tree_leaves : leaves_at slots step r gs ≡ (list_tree slots step gs).leaves
  unfolding tree_of
  tree_leaves = rw p.bits (sym (ap (map (leaf (bits_of ds))) (map-map (digit slots step) (rot_of slots) gs) ∙ map-map (leaf (bits_of ds)) (λ z. digit slots step (rot_of slots z)) gs))

  pub tree_levels : heap_levels slots step r heap r ≡ (list_tree slots step gs).levels
  unfolding tree_of
  tree_levels = levels_are p.heaped slots step ∙ ap (λ (x : ℕ). levels_of slots step x (leaves_of ds)) p.bits

  tree_bits : r ≡ (list_tree slots step gs).bits
  unfolding tree_of
  tree_bits = p.bits

  pub tree_switches_lem : heap_switches r heap r ≡ tree_switches (list_tree slots step gs)
  unfolding tree_switches
  tree_switches_lem = switches_are slots step r heap r ∙ ap (λ (ls : List Level). length (join (λ l. l.pairs) ls)) tree_levels

  tree_records_lem : heap_records r heap ≡ tree_records (list_tree slots step gs)
  tree_records_lem = records_are slots step r heap ∙ ap (join (λ (l : Level). l.pairs)) tree_levels

  pub tree_keys_lem : keys_of (heap_levels slots step r heap r) ≡ tree_keys (list_tree slots step gs)
  unfolding tree_keys
  tree_keys_lem = ap keys_of tree_levels

  pub sizes : {count : ℕ} → count ≡ heap_switches r heap r → Sizes slots step gs heap r count
  sizes {count} e =
      record {
        bits = tree_bits;
        switches = e ∙ tree_switches_lem;
        leaves_are = tree_leaves;
        levels_are = tree_levels;
        leaves = ap length (sym tree_leaves) ∙ length-map gs (λ z. leaf r (digit slots step (rot_of slots z)));
        levels = ap (λ (ls : List Level). length (level_words ls)) (sym tree_levels) ∙ words_length slots step r heap r ∙ omega arith;
        records_are = tree_records_lem;
        positive = p.positive;
        small = p.small;
      }

-- ---- the same of a tree that is planted

module _ {b g n : ℕ} {gs gs' : List ℤ} {step slots : ℕ} {t : HeapTree} where
  -- over giants that were accepted
  pub tree_accepted : GiantsAccepted b g n gs step slots gs' → TreeOf slots step gs' t → TreeOf n g gs t
  tree_accepted a o = rw (a.step_is, a.slots_is, a.giants_are) at o

module _ {slots step : ℕ} {gs : List ℤ} {t : HeapTree} (o : TreeOf slots step gs t) where
  pub levels_of_tree : levels_in t ≡ (list_tree slots step gs).levels
  levels_of_tree = rw (o.slots_is, o.step_is) (tree_levels o.planted)

  pub switches_of_tree : {count : ℕ} → count ≡ switches_in t → count ≡ tree_switches (list_tree slots step gs)
  switches_of_tree k = k ∙ tree_switches_lem o.planted

  pub keys_of_tree : keys_of (levels_in t) ≡ tree_keys (list_tree slots step gs)
  keys_of_tree = rw (o.slots_is, o.step_is) (tree_keys_lem o.planted)

-- ---- records

module _ {slots step : ℕ} {gs : List ℤ} {heap : List Bool} {bits count : ℕ} (s : Sizes slots step gs heap bits count) where
  pub records_counted : count ≡ length (heap_records bits heap)
  unfolding tree_switches
  records_counted = s.switches ∙ ap length (sym s.records_are)

  pub records_told : {e : Option Refusal} {ps ps' : List PairRecord} → e ≡ None → ps' ≡ in_front (heap_records bits heap) ps
      → RecordsLeft e (list_tree slots step gs) ps ps' (Ok (Some (record { bits = bits; pairs = count })))
  records_told {ps = ps} q w = record { answer = rw (q, s.bits, s.switches) refl; records_are = rw q (w ∙ ap (λ (x : List PairRecord). in_front x ps) s.records_are) }

-- a refused call writes no records
pub records_refused : {e : Option Refusal} {t : Tree} {x : Refusal} → e ≡ Some x → (ps : List PairRecord) → RecordsLeft e t ps ps (Err x)
records_refused q ps = record { answer = rw q; records_are = rw q }

-- ---- the answers of the tree

module _ (b g n : ℕ) (gs : List ℤ) (ls vs : List ℕ) (ps : List PairRecord) where
  abbrev tree_refusal : Option Refusal
  tree_refusal = first_refusal (giant_refusals (PowersOfTwo b g n) gs ++ tree_room (list_tree n g gs) ls vs (length ps))

  refused_by : {x : Refusal} → tree_refusal ≡ Some x → TreeWritten (PowersOfTwo b g n) gs ls ls vs vs ps ps (Err x)
  refused_by q = let k = records_refused {t = list_tree n g gs} q ps in record { answer = k.answer; leaves_are = rw q; levels_are = rw q; records_are = k.records_are }

  module _ (z : first_refusal (giant_refusals (PowersOfTwo b g n) gs) ≡ None) {t : HeapTree} (o : TreeOf n g gs t) {count : ℕ} (c : count ≡ switches_in t) where
    abbrev s : Sizes n g gs t.nodes.now t.bits count
    s = sizes o.planted c

    later : tree_refusal ≡ first_refusal (tree_room (list_tree n g gs) ls vs (length ps))
    later = first_later (giant_refusals (PowersOfTwo b g n) gs) (tree_room (list_tree n g gs) ls vs (length ps)) z

    pub leaves_small : length ls < length gs → TreeWritten (PowersOfTwo b g n) gs ls ls vs vs ps ps (Err Room)
    leaves_small l = refused_by (later ∙ rw (s.leaves, lt-ltb _ _ l))

    pub levels_small : length gs ≤ length ls → length vs < 2 * t.bits → TreeWritten (PowersOfTwo b g n) gs ls ls vs vs ps ps (Err Room)
    levels_small k l = refused_by (later ∙ rw (s.leaves, s.levels, le-ltb _ _ k, lt-ltb _ _ l))

    pub pairs_small : length gs ≤ length ls → 2 * t.bits ≤ length vs → length ps < count → TreeWritten (PowersOfTwo b g n) gs ls ls vs vs ps ps (Err Room)
    pairs_small k m l = refused_by (later ∙ rw (s.leaves, s.levels, ← s.switches, le-ltb _ _ k, le-ltb _ _ m, lt-ltb _ _ l))

    pub tree_written : {ls' vs' : List ℕ} {ps' : List PairRecord} → length gs ≤ length ls → 2 * t.bits ≤ length vs → count ≤ length ps
        → ls' ≡ in_front (leaves_at n g t.bits gs) ls → vs' ≡ in_front (level_words (levels_in t)) vs → ps' ≡ in_front (records_in t) ps
        → TreeWritten (PowersOfTwo b g n) gs ls ls' vs vs' ps ps' (Ok (Some (record { bits = t.bits; pairs = count })))
    tree_written k m l x y w =
        let q : tree_refusal ≡ None = later ∙ rw (s.leaves, s.levels, ← s.switches, le-ltb _ _ k, le-ltb _ _ m, le-ltb _ _ l) in
        let r = records_told s q w in
        record {
          answer = r.answer;
          leaves_are = rw q (x ∙ ap (λ (w : List ℕ). in_front w ls) s.leaves_are);
          levels_are = rw q (y ∙ ap (λ (w : List Level). in_front (level_words w) vs) (levels_of_tree o));
          records_are = r.records_are;
        }

-- ---- keys

module _ (b g n : ℕ) (gs : List ℤ) (old : List ℕ) where
  module _ (z : first_refusal (giant_refusals (PowersOfTwo b g n) gs) ≡ None) {t : HeapTree} (o : TreeOf n g gs t) {count : ℕ} (k : count ≡ length (keys_of (levels_in t))) where
    keys_counted : count ≡ length (tree_keys (list_tree n g gs))
    keys_counted = k ∙ ap length (keys_of_tree o)

    pub keys_small : length old < count → ListWritten (giant_refusals (PowersOfTwo b g n) gs) (tree_keys (list_tree n g gs)) old old (Err Room)
    keys_small l = list_later_by (giant_refusals (PowersOfTwo b g n) gs) z (list_short (tree_keys (list_tree n g gs)) old keys_counted l)

    pub keys_written : {new : List ℕ} {x : ℕ} → count ≤ length old → Behind 0 (keys_of (levels_in t)) old new x → ListWritten (giant_refusals (PowersOfTwo b g n) gs) (tree_keys (list_tree n g gs)) old new (Ok count)
    keys_written l w =
        list_later_by (giant_refusals (PowersOfTwo b g n) gs) z
        (list_written (tree_keys (list_tree n g gs)) old keys_counted l (w.is ∙ ap (λ (x : List ℕ). in_front x old) (keys_of_tree o)))

-- ---- switches

pub switches_right : (b g n : ℕ) (gs : List ℤ) {step slots : ℕ} {gs' : List ℤ} {count : ℕ} → GiantsAccepted b g n gs step slots gs' → count ≡ tree_switches (list_tree slots step gs')
    → Ok count ≡ answered (first_refusal (giant_refusals (PowersOfTwo b g n) gs)) (tree_switches (list_tree n g gs))
switches_right b g n gs a k = rw (a.none, k, a.slots_is, a.step_is, a.giants_are) refl

-- ---- per rotation

pub no_keys : {old : List ℕ} → ListWritten [] [] old old (Ok 0)
unfolding in_front
no_keys {old} = let e : ltb (length old) 0 ≡ false = le-ltb (length old) 0 (omega arith) in record { answer = rw e refl; words = rw e refl }
