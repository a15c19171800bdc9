-- A part of the node of a giant: its diagonals added one after the other.
-- Assumes nothing.
use Rattle.std.proofs.Common.{◌≡◌, ℕ, zero, suc, ◌+◌, ◌-◌, ◌%◌, ◌<◌, ◌≤◌, true, List, length, get_or, take, drop, sym, refl, ap, ◌∙◌, add-zero, mod-lt, arith, length-drop, length-take, get_or-drop, get_or-take}
use native.Mathlib.Nat.{mod-add-mod, mod-mod_of_dvd}
use Rattle.ring.specs.Slots.{modulus, addm, mulm}
use Rattle.ring.specs.Lists.{sum_by, among}
use Rattle.ring.specs.Vectors.{tabulate}
use Rattle.ring.specs.Laws.Slots.{mulm_comm}
use Rattle.ring.specs.Laws.Lists.{sum_by_snoc}
use Rattle.ring.specs.Laws.Vectors.{length_tabulate, get_or_tabulate, tabulate_cong, tabulate_more}
use Rattle.diagonals.specs.Maps.{length_at, offset_at, start_at, diagonal_at, WellFormed}
use Rattle.diagonals.specs.Products.{cell}
use Rattle.diagonals.specs.Laws.Maps.{start_more, stored_some, values_end}
use Rattle.linear_transformation.specs.Closures.{nonzeros}
use Rattle.std.specs.Prelude.{replicate}
use Rattle.runs.proofs.Parts.{cleared}
use Rattle.runs.specs.Switches.{place_of, source_of}
use Rattle.runs.specs.Machines.{source_vector}
use Rattle.runs.specs.Laws.Places.{inside_first, length_vector_at}
use Rattle.ring.specs.Lists.{among}
use Rattle.runs.proofs.Babies.{baby_read}
use Rattle.runs.specs.Steps.Keyed.{Babies, Reading, node_term, node_run}
use Rattle.runs.specs.Steps.Plain.{Around, around_added}
use Rattle.runs.specs.declared.nodes.Sums.{Sums}
use Rattle.runs.specs.Steps.Nodes.{GiantAsked, PartMade}
use Rattle.runs.proofs.Entries.{map_formed}
use Rattle.runs.proofs.Babies.{place_within}

-- a rotated input is as long as the input
source_length : {bs input cache : List ℕ} → Babies bs input cache → (k : ℕ) → among k bs ≡ true → length (source_vector (length input) input cache (source_of bs k)) ≡ length input
source_length b zero a = refl
source_length {bs} {input} {cache} b (suc k) a =
    length_vector_at (length input) (inside_first (length input) cache (length (nonzeros bs)) (place_of (suc k) (nonzeros bs)) b.room (place_within bs (suc k) b.front (omega arith) a))

-- the first i diagonals are added, and the values of the next start at `at`
pub record Running (bs : List ℕ) (g first n : ℕ) (pairs values input cache : List ℕ) (slot size : ℕ) (part table : List ℕ) (at i : ℕ) : Type 0 where
  pub room : i ≤ n
  pub at_is : at ≡ start_at pairs (first + i)
  pub sum : part ≡ tabulate size (λ j. node_run modulus (length input) bs pairs values input cache g first i (slot + j))
  pub len : length part ≡ size
  pub table_len : length table ≡ 512

pub running_none : {bs : List ℕ} {g first n start count slot size : ℕ} {pairs values input cache part table : List ℕ} → GiantAsked bs g first n start count pairs input cache → part ≡ replicate {A = ℕ} size 0 → length table ≡ 512 → Running bs g first n pairs values input cache slot size part table start 0
running_none {first} {size = size} {pairs} a e t =
    record {
      room = omega arith;
      at_is = a.start_is ∙ ap (start_at pairs) (sym (add-zero first));
      sum = cleared size e;
      len = ap length (cleared size e) ∙ length_tabulate {A = ℕ} size (λ j. 0);
      table_len = t;
    }

module _ {bs : List ℕ} {g first n start count slot size at i : ℕ} {pairs values input cache part table : List ℕ} (w : WellFormed (length input) count pairs values) (a : GiantAsked bs g first n start count pairs input cache) (inside : slot + size ≤ length input) (r : Running bs g first n pairs values input cache slot size part table at i) (l : i < n) where
  within : first + i < count
  within = omega (arith, a.run.inside)

  pub above : {o : ℕ} → o ≡ offset_at pairs (first + i) → g ≤ o
  above e = rw e (a.run.above i l)

  pub reading : {o : ℕ} → o ≡ offset_at pairs (first + i) → Reading bs (o - g) input cache
  reading {o} e =
      let has : among (o - g) bs ≡ true = rw e (a.run.has i l) in
      record { rises = a.babies.rises; front = a.babies.front; has = has; room = baby_read (o - g) a.babies has }

  module _ {len : ℕ} (e : len ≡ length_at pairs (first + i)) where
    pub values_inside : at + len ≤ length values
    values_inside = omega (arith, r.at_is, values_end w (first + i) within)

    pub len_some : 0 < len
    len_some = omega (arith, e, stored_some w (first + i) within)

    abbrev period : List ℕ
    period = take (at + len - at) (drop at values)

    period_length : length period ≡ len
    period_length = simp (length-take, length-drop) (omega (arith, values_inside))

    period_is : period ≡ (diagonal_at pairs values (first + i)).values
    period_is = let p : at + len - at ≡ length_at pairs (first + i) = omega arith in rw (p, r.at_is)

    module _ {o : ℕ} (q : o ≡ offset_at pairs (first + i)) {vector : List ℕ} (v : vector ≡ source_vector (length input) input cache (source_of bs (o - g))) where
      pub vector_length : length vector ≡ length input
      vector_length = ap length v ∙ source_length a.babies (o - g) (rw q (a.run.has i l))

      -- the part's slots of the rotated input
      abbrev words : List ℕ
      words = take (slot + size - slot) (drop slot vector)

      pub around : (back : ℕ) → Around period (back % len) words part
      around back =
          record {
            low = rw period_length (mod-lt back len_some);
            same = let m : slot + size - slot ≤ length vector - slot = omega (arith, vector_length) in simp (length-take, length-drop) (omega (arith, r.len));
          }

      module _ {back : ℕ} (b : back ≡ slot + length input - g) where
        -- the period at back + j is the diagonal at slot s - g
        turned : (j : ℕ) → cell period (back % len + j) ≡ cell (diagonal_at pairs values (first + i)).values ((slot + j + (length input - g)) % length input)
        turned j =
            let d = (w.each (first + i) within).divides in
            let whole : length (diagonal_at pairs values (first + i)).values ≡ len = sym (ap length period_is) ∙ period_length in
            let same : back + j ≡ slot + j + (length input - g) = omega (arith, a.run.low) in
            rw (← period_is, mod-mod_of_dvd (length period) {b = length input} (slot + j + (length input - g)) (rw (← period_is) at d), period_length)
            (ap (λ (x : ℕ). get_or period x 0) (mod-add-mod back len j ∙ ap (λ (x : ℕ). x % len) same))

        word : (j : ℕ) → j < size → around_added period (back % len) words part j ≡ node_run modulus (length input) bs pairs values input cache g first (i + 1) (slot + j)
        word j h =
            let s = slot + j in
            let term = node_term modulus (length input) bs pairs values input cache g s in
            let here : get_or part j 0 ≡ sum_by modulus term (tabulate i (λ k. first + k)) = ap (λ (x : List ℕ). get_or x j 0) r.sum ∙ get_or_tabulate size (λ k. node_run modulus (length input) bs pairs values input cache g first i (slot + k)) j 0 h in
            let read : get_or words j 0 ≡ get_or vector s 0 = get_or-take (slot + size - slot) (drop slot vector) j 0 (omega arith) ∙ get_or-drop slot vector j 0 in
            let last : mulm modulus (cell period (back % len + j)) (get_or words j 0) ≡ term (first + i) = rw (turned j, read, v, q) (mulm_comm modulus _ _) in
            ap (λ (x : ℕ). addm modulus x (mulm modulus (cell period (back % len + j)) (get_or words j 0))) here
            ∙ ap (addm modulus (sum_by modulus term (tabulate i (λ k. first + k)))) last
            ∙ sym (sum_by_snoc modulus term (tabulate i (λ k. first + k)) (first + i))
            ∙ ap (sum_by modulus term) (sym (tabulate_more i (λ k. first + k)))

        pub running_more : {new table' : List ℕ} → new ≡ tabulate (length part) (around_added period (back % len) words part) → length table' ≡ length table → Running bs g first n pairs values input cache slot size new table' (at + len) (i + 1)
        running_more f t =
            let e' = f ∙ ap (λ (x : ℕ). tabulate x (around_added period (back % len) words part)) r.len ∙ tabulate_cong size _ _ word in
            record {
              room = omega arith;
              at_is = rw (e, r.at_is) (sym (start_more pairs (first + i))) ∙ ap (start_at pairs) (let z : first + i + 1 ≡ first + (i + 1) = omega arith in z);
              sum = e';
              len = ap length e' ∙ length_tabulate size _;
              table_len = t ∙ r.table_len;
            }

-- all are
pub running_done : {bs : List ℕ} {g first n slot size at i : ℕ} {pairs values input cache part table : List ℕ} → Running bs g first n pairs values input cache slot size part table at i → n ≤ i → PartMade bs g first n pairs values input cache slot size part at
running_done {bs} {g} {first} {n} {slot} {size} {at} {i} {pairs} {values} {input} {cache} r l =
    let e : i ≡ n = omega (arith, r.room) in
    record {
      part_is = r.sum ∙ ap (λ (k : ℕ). tabulate size (λ j. node_run modulus (length input) bs pairs values input cache g first k (slot + j))) e;
      end = r.at_is ∙ ap (λ (k : ℕ). start_at pairs (first + k)) e;
    }

-- the map of the nodes
pub sums_formed : (m : Sums) → WellFormed (length m.input.now) m.map.count m.map.pairs.now m.map.values.now
sums_formed m = rw m.whole (map_formed m.map)
