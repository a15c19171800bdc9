-- The answer: nodes added one after the other, and the top node copied.
-- Assumes nothing.
use Rattle.std.proofs.Common.{◌≡◌, ℕ, suc, ◌+◌, ◌-◌, ◌*◌, ◌<◌, ◌≤◌, List, ◌++◌, length, get_or, take, drop, sym, ap, ◌∙◌, ⊎_elim, arith, add-one, zero-mul, suc-mul, mul-le-mul_right, eq-or-lt_of_le, take_at, take-take, drop_at, drop-drop, length-append, length-drop, length-take-le}
use Rattle.std.proofs.lemmas.List.{drop-take}
use Rattle.ring.specs.Slots.{modulus, addm}
use Rattle.ring.specs.Lists.{sum_by}
use Rattle.ring.specs.Vectors.{tabulate}
use Rattle.ring.specs.Laws.Lists.{sum_by_snoc}
use Rattle.ring.specs.Laws.Vectors.{length_tabulate, get_or_tabulate, tabulate_cong, tabulate_more}
use Rattle.std.specs.Prelude.{replicate}
use Rattle.runs.specs.Machines.{vector_at, node_sum}
use Rattle.runs.specs.Steps.Keyed.{vector_added}
use Rattle.runs.proofs.Parts.{cleared}
use Rattle.runs.specs.Steps.Runs.{top_by}

table_of : (slots : ℕ) (nodes : List ℕ) (k : ℕ) → node_sum modulus slots k nodes ≡ tabulate slots (λ s. get_or (node_sum modulus slots k nodes) s 0)
unfolding node_sum
table_of slots nodes k = tabulate_cong slots _ _ (λ s l. sym (get_or_tabulate slots _ s 0 l))

-- the first p nodes are added, and the words of the others are left, to be read `size` at a time
pub record Summed (n : ℕ) (nodes : List ℕ) (slots : ℕ) (out rest : List ℕ) (size p : ℕ) : Type 0 where
  pub sum : out ≡ node_sum modulus slots p nodes
  pub len : length out ≡ slots
  pub room : p ≤ n
  pub rest_is : rest ≡ drop (p * slots) (take (n * slots) nodes)
  pub size_is : size ≡ slots

pub summed_none : (n : ℕ) (nodes : List ℕ) (slots : ℕ) {out rest : List ℕ} {size : ℕ} → out ≡ replicate {A = ℕ} slots 0 → rest ≡ take (n * slots) nodes → size ≡ slots → Summed n nodes slots out rest size 0
unfolding node_sum
summed_none n nodes slots e r s =
    record {
      sum = cleared slots e;
      len = ap length (cleared slots e) ∙ length_tabulate {A = ℕ} slots (λ s. 0);
      room = omega arith;
      rest_is = rw zero-mul r;
      size_is = s;
    }

module _ {n slots size p : ℕ} {nodes out rest : List ℕ} (u : Summed n nodes slots out rest size p) (h : n * slots ≤ length nodes) (some : 1 ≤ slots) where
  left : length rest ≡ n * slots - p * slots
  left = ap length u.rest_is ∙ length-drop (p * slots) (take (n * slots) nodes) ∙ ap (λ (k : ℕ). k - p * slots) (length-take-le (n * slots) nodes h)

  pub summed_done : length rest < size → out ≡ node_sum modulus slots n nodes
  summed_done l =
      let q : p ≡ n = ⊎_elim (λ (e : p ≡ n). e) (λ (k : p < n). absurd (let j : suc p * slots ≤ n * slots = mul-le-mul_right slots k in omega (arith, left, l, u.size_is, suc-mul p slots, j))) (eq-or-lt_of_le u.room) in
      u.sum ∙ ap (λ (k : ℕ). node_sum modulus slots k nodes) q

  module _ (node rest' : List ℕ) (e : rest ≡ node ++ rest') (k : length node ≡ size) where
    here : p < n
    here = ⊎_elim (λ (q : p ≡ n). absurd (omega (arith, some, left, length-append node rest', ap length e, k, u.size_is, ap (λ (x : ℕ). x * slots) q))) (λ (l : p < n). l) (eq-or-lt_of_le u.room)

    pub node_length : length node ≡ length out
    node_length = k ∙ u.size_is ∙ sym u.len

    room_behind : p * slots + slots ≤ n * slots
    room_behind = let q : suc p * slots ≤ n * slots = mul-le-mul_right slots here in omega (arith, suc-mul p slots, q)

    -- the node that is read
    node_is : node ≡ vector_at slots nodes p
    unfolding vector_at
    node_is =
        let w : length node ≡ slots = k ∙ u.size_is in
        sym (take_at node rest' slots w)
        ∙ ap (take slots) (sym e ∙ u.rest_is)
        ∙ ap (λ (x : ℕ). take slots (drop (p * slots) (take x nodes))) (let q : n * slots ≡ p * slots + (n * slots - p * slots) = omega (arith, room_behind) in q)
        ∙ ap (take slots) (drop-take (p * slots) (n * slots - p * slots) nodes)
        ∙ take-take slots (n * slots - p * slots) (drop (p * slots) nodes) (omega (arith, room_behind))

    rest_next : rest' ≡ drop ((p + 1) * slots) (take (n * slots) nodes)
    rest_next =
        let w : length node ≡ slots = k ∙ u.size_is in
        sym (drop_at node rest' slots w)
        ∙ ap (drop slots) (sym e ∙ u.rest_is)
        ∙ drop-drop slots (p * slots) (take (n * slots) nodes)
        ∙ ap (λ (x : ℕ). drop x (take (n * slots) nodes)) (let q : p * slots + slots ≡ (p + 1) * slots = omega (arith, suc-mul p slots, ap (λ (x : ℕ). x * slots) (add-one p)) in q)

    slot : (s : ℕ) → s < slots → vector_added node out s ≡ get_or (node_sum modulus slots (p + 1) nodes) s 0
    unfolding node_sum
    slot s l =
        let f : ℕ → ℕ = λ place. get_or (vector_at slots nodes place) s 0 in
        let so_far : get_or out s 0 ≡ sum_by modulus f (tabulate p (λ place. place)) = ap (λ (x : List ℕ). get_or x s 0) u.sum ∙ get_or_tabulate slots _ s 0 l in
        let last : get_or node s 0 ≡ f p = ap (λ (x : List ℕ). get_or x s 0) node_is in
        ap (λ (x : ℕ). addm modulus x (get_or node s 0)) so_far
        ∙ ap (addm modulus (sum_by modulus f (tabulate p (λ place. place)))) last
        ∙ sym (sum_by_snoc modulus f (tabulate p (λ place. place)) p)
        ∙ ap (sum_by modulus f) (sym (tabulate_more p (λ place. place)))
        ∙ sym (get_or_tabulate slots _ s 0 l)

    pub summed_more : {new : List ℕ} {size' p' : ℕ} → new ≡ tabulate (length out) (vector_added node out) → size' ≡ size → p' ≡ p + 1 → Summed n nodes slots new rest' size' p'
    summed_more {new} f s q =
        rw q
        (record {
          sum = f ∙ ap (λ (x : ℕ). tabulate x (vector_added node out)) u.len ∙ tabulate_cong slots _ _ slot ∙ sym (table_of slots nodes (p + 1));
          len = ap length f ∙ length_tabulate (length out) _ ∙ u.len;
          room = omega (arith, here);
          rest_is = rest_next;
          size_is = s ∙ u.size_is;
        })

-- ---- the answer

pub none_by : (giants : ℕ) (nodes : List ℕ) (slots : ℕ) {out : List ℕ} → giants ≡ 0 → out ≡ replicate {A = ℕ} slots 0 → out ≡ top_by giants nodes slots
none_by giants nodes slots e q = cleared slots q ∙ rw e
