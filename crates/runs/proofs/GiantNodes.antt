-- The nodes of the giants, made part after part: what is made up to a slot of each, and a part more.
-- Assumes nothing.
use Rattle.std.proofs.Common.{◌≡◌, ℕ, zero, suc, ◌+◌, ◌-◌, ◌*◌, ◌/◌, ◌%◌, ◌<◌, ◌≤◌, cond, ltb, ◌≢◌, ◌⊎◌, List, ◌++◌, length, get_or, take, drop, sym, refl, ap, ◌∙◌, inl, inr, ⊎_elim, mul-le-mul_right, mod-lt, suc-mul, div-lt_iff_lt-mul, div-add-mod', zero-mul, arith, length-drop, length-take, ext_get_or, le-ltb, lt-ltb}
use native.Mathlib.Decide.{ℕ_discrete}
use Rattle.ring.specs.Lists.{join}
use Rattle.ring.specs.Vectors.{tabulate, in_front, put_at}
use Rattle.ring.specs.Laws.Searches.{lt_or_ge}
use Rattle.ring.specs.Laws.Vectors.{length_tabulate, get_or_tabulate, length_in_front, in_front_new, in_front_old, join_tables}
use Rattle.diagonals.specs.Maps.{start_at}
use Rattle.ring.specs.Laws.Places.{length_put_at, put_at_before, put_at_new, put_at_behind}
use Rattle.runs.specs.Steps.Nodes.{PartMade, first_in, many_in, NodesAsked, node_slot, MadeTo, TileAsked, TileMade, NodesMade}

-- ---- parts of vectors

-- a part of a buffer has so many words
pub part_length : (buffer : List ℕ) (size at : ℕ) → at + size ≤ length buffer → length (take (at + size - at) (drop at buffer)) ≡ size
part_length buffer size at h = simp (length-take, length-drop) (omega arith)

-- the vectors before one, and it, are within those of n
vector_room : (p n slots : ℕ) → p < n → p * slots + slots ≤ n * slots
vector_room p n slots l =
    let e : suc p * slots ≤ n * slots = mul-le-mul_right slots l in
    omega (arith, suc-mul p slots, e)

module _ {f : ℕ → ℕ → ℕ} {n slots : ℕ} {old : List ℕ} where
  module _ {upto : ℕ → ℕ} {new : List ℕ} (m : MadeTo f n slots upto old new) (room : n * slots ≤ length old) (p slot size : ℕ) (l : p < n) (here : upto p ≡ slot) (inside : slot + size ≤ slots) {ys : List ℕ} (is : ys ≡ tabulate size (λ j. f p (slot + j))) where
    abbrev at : ℕ
    at = p * slots + slot

    size_is : length ys ≡ size
    size_is = ap length is ∙ length_tabulate size (λ j. f p (slot + j))

    fit : at + length ys ≤ length new
    fit = omega (arith, size_is, m.len, vector_room p n slots l)

    -- words outside of the part are kept
    kept : (i : ℕ) → (i < at) ⊎ (at + size ≤ i) → get_or (put_at at ys new) i 0 ≡ get_or new i 0
    kept i (inl b) = put_at_before at ys new fit i 0 b
    kept i (inr b) =
        let e : i ≡ at + (i - at) = omega arith in
        ap (λ (x : ℕ). get_or (put_at at ys new) x 0) e ∙ put_at_behind at ys new fit (i - at) 0 (omega (arith, size_is)) ∙ ap (λ (x : ℕ). get_or new x 0) (sym e)

    -- those of another vector are
    apart : (q s : ℕ) → q ≢ p → s < slots → (q * slots + s < at) ⊎ (at + size ≤ q * slots + s)
    apart q s d h =
        ⊎_elim
        (λ (b : q < p). inl (omega (arith, vector_room q p slots b)))
        (λ (b : p ≤ q). inr (omega (arith, vector_room p q slots (let z : p < q = omega arith in z))))
        (lt_or_ge q p)

    -- those of the part are the node's
    put : (s : ℕ) → slot ≤ s → s < slot + size → get_or (put_at at ys new) (p * slots + s) 0 ≡ f p s
    put s b h =
        let e : p * slots + s ≡ at + (s - slot) = omega arith in
        let j : s - slot < size = omega arith in
        ap (λ (x : ℕ). get_or (put_at at ys new) x 0) e
        ∙ put_at_new at ys new fit (s - slot) 0 (omega (arith, size_is))
        ∙ ap (λ (x : List ℕ). get_or x (s - slot) 0) is
        ∙ get_or_tabulate size (λ j. f p (slot + j)) (s - slot) 0 j
        ∙ ap (f p) (let z : slot + (s - slot) ≡ s = omega arith in z)

    pub made_more : {upto' : ℕ → ℕ} → upto' p ≡ slot + size → ((q : ℕ) → q ≢ p → upto' q ≡ upto q) → MadeTo f n slots upto' old (put_at at ys new)
    made_more {upto'} now-here same =
        record {
          len = length_put_at at ys new fit ∙ m.len;
          done = λ q s k h b. done_by q s k h b (ℕ_discrete q p);
          todo = λ q s k h b. todo_by q s k h b (ℕ_discrete q p);
          behind = λ i h. kept i (inr (omega (arith, vector_room p n slots l))) ∙ m.behind i h;
        }
      where
        done_by : (q s : ℕ) → q < n → s < slots → s < upto' q → Dec (q ≡ p) → get_or (put_at at ys new) (q * slots + s) 0 ≡ f q s
        done_by q s k h b (yes e) =
            rw e
            (⊎_elim
            (λ (z : s < slot). kept (p * slots + s) (inl (omega arith)) ∙ m.done p s l h (omega arith))
            (λ (z : slot ≤ s). put s z (rw (e, now-here) at b))
            (lt_or_ge s slot))
        done_by q s k h b (no d) = kept (q * slots + s) (apart q s d h) ∙ m.done q s k h (rw (same q d) at b)

        todo_by : (q s : ℕ) → q < n → s < slots → upto' q ≤ s → Dec (q ≡ p) → get_or (put_at at ys new) (q * slots + s) 0 ≡ get_or old (q * slots + s) 0
        todo_by q s k h b (yes e) =
            let z : slot + size ≤ s = rw (e, now-here) at b in
            rw e (kept (p * slots + s) (inr (omega arith)) ∙ m.todo p s l h (omega arith))
        todo_by q s k h b (no d) = kept (q * slots + s) (apart q s d h) ∙ m.todo q s k h (rw (same q d) at b)

  -- ---- whole vectors

  module _ {upto : ℕ → ℕ} {new : List ℕ} (m : MadeTo f n slots upto old new) (room : n * slots ≤ length old) (all : (p s : ℕ) → s < slots → s < upto p) (some : 0 < n → 0 < slots) where
    abbrev words : List ℕ
    words = join (λ p. tabulate slots (f p)) (tabulate n (λ p. p))

    pub made_whole : new ≡ in_front words old
    unfolding in_front
    made_whole = by n refl
      where
        by : (k : ℕ) → n ≡ k → new ≡ in_front words old
        by zero e =
            rw e
            (ext_get_or 0 new old m.len (λ i h. m.behind i (rw (e, zero-mul) (omega arith))))
        by (suc k) e = ext_get_or 0 new (in_front words old) (m.len ∙ sym (length_in_front words old (rw size room))) word
          where
            p : 0 < slots
            p = some (omega arith)

            table : words ≡ tabulate (n * slots) (λ x. f (get_or (tabulate n (λ q. q)) (x / slots) 0) (x % slots))
            table = join_tables slots p f 0 (tabulate n (λ q. q)) ∙ ap (λ (x : ℕ). tabulate (x * slots) (λ x. f (get_or (tabulate n (λ q. q)) (x / slots) 0) (x % slots))) (length_tabulate n (λ q. q))

            size : length words ≡ n * slots
            size = ap length table ∙ length_tabulate (n * slots) _

            word : (i : ℕ) → i < length new → get_or new i 0 ≡ get_or (in_front words old) i 0
            word i h =
                ⊎_elim
                (λ (b : i < n * slots).
                let q : i / slots < n = (div-lt_iff_lt-mul p).1 b in
                let s : i % slots < slots = mod-lt i p in
                ap (λ (x : ℕ). get_or new x 0) (sym (div-add-mod' i slots))
                ∙ m.done (i / slots) (i % slots) q s (all (i / slots) (i % slots) s)
                ∙ ap (λ (x : ℕ). f x (i % slots)) (sym (get_or_tabulate n (λ q. q) (i / slots) 0 q))
                ∙ sym (in_front_new words old i 0 (omega (arith, size)) ∙ ap (λ (x : List ℕ). get_or x i 0) table ∙ get_or_tabulate (n * slots) _ i 0 b))
                (λ (b : n * slots ≤ i). m.behind i b ∙ sym (in_front_old words old i 0 (omega (arith, size))))
                (lt_or_ge i (n * slots))

-- ---- a tile

-- the nodes before place p are made `size` slots further
abbrev tile_to : ℕ → ℕ → ℕ → ℕ → ℕ
tile_to slot size p q = cond (ltb q p) (slot + size) slot

tile_next : (slot size p q : ℕ) → q ≢ p → tile_to slot size (p + 1) q ≡ tile_to slot size p q
tile_next slot size p q d =
    ⊎_elim
    (λ (b : q < p). let c : q < p + 1 = omega arith in rw (lt-ltb q p b, lt-ltb q (p + 1) c))
    (λ (b : p ≤ q). let c : p + 1 ≤ q = omega arith in rw (le-ltb q p b, le-ltb q (p + 1) c))
    (lt_or_ge q p)

module _ (bs gs : List ℕ) (cuts : List (List ℕ)) (pairs values input cache : List ℕ) where
  abbrev node : ℕ → ℕ → ℕ
  node = node_slot bs gs cuts pairs values input cache

  pub record Tiling (slot size : ℕ) (nodes₀ nodes : List ℕ) (at p : ℕ) : Type 0 where
    pub room : p ≤ length gs
    pub len : length nodes ≡ length nodes₀
    pub at_is : p < length gs → at ≡ start_at pairs (first_in cuts p)
    pub further : (old : List ℕ) → MadeTo node (length gs) (length input) (λ q. slot) old nodes₀ → MadeTo node (length gs) (length input) (tile_to slot size p) old nodes

  module _ {slot size : ℕ} {nodes₀ : List ℕ} {count : ℕ} (t : TileAsked bs gs cuts count pairs input cache slot size nodes₀) where
    module _ {nodes : List ℕ} {at p : ℕ} (n : Tiling slot size nodes₀ nodes at p) (l : p < length gs) where
      pub part_room : p * length input + slot + size ≤ length nodes
      part_room = omega (arith, vector_room p (length gs) (length input) l, t.asked.room, t.inside, n.len)

      pub tiling_more : {g first many end size' : ℕ} → g ≡ get_or gs p 0 → first ≡ first_in cuts p → many ≡ many_in cuts p → size' ≡ size → {ys : List ℕ} → PartMade bs g first many pairs values input cache slot size' ys end
          → Tiling slot size nodes₀ (take (p * length input + slot) nodes ++ (ys ++ drop (p * length input + slot + size - (p * length input + slot)) (drop (p * length input + slot) nodes))) end (p + 1)
      unfolding put_at in_front
      tiling_more {g} {first} {many} {end} {size'} e f s z {ys} m =
          record {
            room = omega arith;
            len = ap length whole ∙ length_put_at start ys nodes fits ∙ n.len;
            at_is = λ h. m.end ∙ rw (f, s) (ap (start_at pairs) (sym (t.asked.next p h)));
            further = λ old b. rw whole (made_more (n.further old b) (omega (arith, t.asked.room, b.len)) p slot size l (rw (le-ltb p p (omega arith))) t.inside is (rw (lt-ltb p (p + 1) (omega arith))) (tile_next slot size p));
          }
        where
          start : ℕ
          start = p * length input + slot

          is : ys ≡ tabulate size (λ j. node p (slot + j))
          is = m.part_is ∙ rw (e, f, s, z)

          size_is : length ys ≡ size
          size_is = ap length is ∙ length_tabulate size _

          fits : start + length ys ≤ length nodes
          fits = omega (arith, size_is, part_room)

          whole : take (p * length input + slot) nodes ++ (ys ++ drop (p * length input + slot + size - (p * length input + slot)) (drop (p * length input + slot) nodes)) ≡ put_at start ys nodes
          whole = ap (λ (x : ℕ). take start nodes ++ (ys ++ drop x (drop start nodes))) (let q : p * length input + slot + size - (p * length input + slot) ≡ length ys = omega (arith, size_is) in q)

  -- ---- all tiles

  pub record Noding (old nodes : List ℕ) (slot : ℕ) : Type 0 where
    pub room : slot ≤ length input
    pub made : MadeTo node (length gs) (length input) (λ q. slot) old nodes

  module _ {old : List ℕ} {count : ℕ} (a : NodesAsked bs gs cuts count pairs input cache old) where
    module _ {nodes : List ℕ} {slot : ℕ} (n : Noding old nodes slot) where
      pub noding_more : {size : ℕ} {new : List ℕ} → size ≤ length input - slot → TileMade bs gs cuts pairs values input cache slot size nodes new → Noding old new (slot + size)
      noding_more h t = record { room = omega (arith, n.room); made = t.further old n.made }

      pub noding_done : length input ≤ slot → NodesMade bs gs cuts pairs values input cache old nodes
      noding_done h = record { nodes = made_whole n.made a.room (λ p s l. omega arith) (λ l. omega (arith, (a.runs 0 l).low)) }
