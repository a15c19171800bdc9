-- Laws of switches made one after the other: what they keep, what they write, and what they log.
-- Assumes nothing.
use Rattle.std.specs.Prelude.{◌≡◌, ℕ, suc, ◌+◌, ◌*◌, ◌≤◌, List, [], ◌∷◌, ◌++◌, map, length, take}
use Rattle.std.proofs.Math.Path.{refl, sym}
use Rattle.std.proofs.Common.{ap, ◌∙◌, add-zero, mul-le-mul_right, suc-mul, arith, take-append-drop, take-suc-set}
use mathlib.Core.List.{append-nil, append_assoc}
use Rattle.std.proofs.Math.ListN.{length-map, length-append, length-set}
use Rattle.std.proofs.Math.Seq.{length-take-le, drop-set-lt}
use Rattle.ring.specs.Lists.{Each}
use Rattle.ring.specs.Vectors.{in_front}
use Rattle.ring.specs.Laws.Lists.{each_all, each_append, each_map, each_tabulate}
use Rattle.linear_transformation.specs.declared.LinearTransformationStrategy.{LinearTransformationStrategy}
use Rattle.linear_transformation.specs.Closures.{nonzeros}
use Rattle.linear_transformation.specs.declared.LinearTransformationStrategy.TheVariants.{Bsgs, BsgsPowersOfTwo, Direct}
use Rattle.linear_transformation.specs.Plans.{giants}
use Rattle.linear_transformation.specs.Trees.{Level}
use Rattle.linear_transformation.specs.Schedules.{plan_babies, plan_tree}
use Rattle.runs.specs.Switches.{place_of, none, at, Switch, baby, giant, pair, rotation_of, own_giants, joined, level_switches, baby_schedule, giant_schedule}
use Rattle.runs.specs.Machines.{State, vector_at, put_vector, turned, summed, source_vector, cache_after, nodes_after, switched, switched_all}
use Rattle.runs.specs.Laws.Places.{length_put_vector}
use Rattle.runs.specs.Laws.Turnings.{length_turned, length_summed}
use Rattle.runs.specs.Laws.PassSchedules.{making, turn_of, baby_schedule_lem}

-- ---- what a switch keeps

-- the place that a switch writes is inside its buffer, of c words of cache and n words of nodes
abbrev pub Fits : ℕ → ℕ → ℕ → Switch → Type 0
Fits slots c n (baby place source k) = place * slots + slots ≤ c
Fits slots c n (giant place k) = place * slots + slots ≤ n
Fits slots c n (pair odd none k) = odd * slots + slots ≤ n
Fits slots c n (pair odd (at even) k) = even * slots + slots ≤ n

-- the buffers are as long as they were, and the answer is as it was
pub record Kept (old new : State) : Type 0 where
  pub cache_length : length new.cache ≡ length old.cache
  pub nodes_length : length new.nodes ≡ length old.nodes
  pub log_length : length new.log ≡ length old.log
  pub out_same : new.out ≡ old.out

-- a baby switch writes the cache alone, any other the nodes alone
abbrev pub OfCache : Switch → Type 0
OfCache (baby place source k) = Unit {0}
OfCache (giant place k) = ⊥
OfCache (pair odd even k) = ⊥

abbrev pub OfNodes : Switch → Type 0
OfNodes (baby place source k) = ⊥
OfNodes (giant place k) = Unit {0}
OfNodes (pair odd even k) = Unit {0}

module _ (m slots : ℕ) (input : List ℕ) where
  put_length : (buffer : List ℕ) (place : ℕ) (v : List ℕ) → length v ≡ slots → place * slots + slots ≤ length buffer → length (put_vector slots buffer place v) ≡ length buffer
  put_length buffer place v len h = length_put_vector slots {buffer = buffer} {place = place} v len (record { room = h })

  cache_kept : (cache nodes : List ℕ) (w : Switch) → Fits slots (length cache) (length nodes) w → length (cache_after slots input cache w) ≡ length cache
  cache_kept cache nodes (baby place source k) h =
      put_length cache place (turned slots (source_vector slots input cache source) k) (length_turned slots (source_vector slots input cache source) k) h
  cache_kept cache nodes (giant place k) h = refl
  cache_kept cache nodes (pair odd even k) h = refl

  nodes_kept : (cache nodes : List ℕ) (w : Switch) → Fits slots (length cache) (length nodes) w → length (nodes_after m slots nodes w) ≡ length nodes
  nodes_kept cache nodes (baby place source k) h = refl
  nodes_kept cache nodes (giant place k) h =
      put_length nodes place (turned slots (vector_at slots nodes place) k) (length_turned slots (vector_at slots nodes place) k) h
  nodes_kept cache nodes (pair odd none k) h =
      put_length nodes odd (turned slots (vector_at slots nodes odd) k) (length_turned slots (vector_at slots nodes odd) k) h
  nodes_kept cache nodes (pair odd (at even) k) h =
      put_length nodes even (summed m slots (vector_at slots nodes even) (turned slots (vector_at slots nodes odd) k)) (length_summed m slots (vector_at slots nodes even) (turned slots (vector_at slots nodes odd) k)) h

  switched_kept : (st : State) (w : Switch) → Fits slots (length st.cache) (length st.nodes) w → Kept st (switched m slots input st w)
  unfolding switched
  switched_kept st w h =
      record {
        cache_length = cache_kept st.cache st.nodes w h;
        nodes_length = nodes_kept st.cache st.nodes w h;
        log_length = length-set st.log st.made (rotation_of w);
        out_same = refl;
      }

  kept_all : (st first : State) (ws : List Switch) → Kept first st → Each (Fits slots (length first.cache) (length first.nodes)) ws → Kept first (switched_all m slots input st ws)
  kept_all st first [] k h = k
  kept_all st first (w ∷ ws) k h =
      let f : Fits slots (length st.cache) (length st.nodes) w = rw (k.cache_length, k.nodes_length) h.0 in
      let one = switched_kept st w f in
      kept_all (switched m slots input st w) first ws
      (record {
        cache_length = one.cache_length ∙ k.cache_length;
        nodes_length = one.nodes_length ∙ k.nodes_length;
        log_length = one.log_length ∙ k.log_length;
        out_same = one.out_same ∙ k.out_same;
      })
      h.1

  -- switches that fit keep the lengths and the answer
  pub switches_kept : (st : State) (ws : List Switch) → Each (Fits slots (length st.cache) (length st.nodes)) ws → Kept st (switched_all m slots input st ws)
  switches_kept st ws h = kept_all st st ws (record { cache_length = refl; nodes_length = refl; log_length = refl; out_same = refl }) h

  -- ---- one after the other

  pub switched_append : (st : State) (xs ys : List Switch) → switched_all m slots input st (xs ++ ys) ≡ switched_all m slots input (switched_all m slots input st xs) ys
  switched_append st [] ys = refl
  switched_append st (x ∷ xs) ys = switched_append (switched m slots input st x) xs ys

  pub switches_made : (st : State) (ws : List Switch) → (switched_all m slots input st ws).made ≡ st.made + length ws
  unfolding switched
  switches_made st [] = sym (add-zero st.made)
  switches_made st (w ∷ ws) = omega (arith, switches_made (switched m slots input st w) ws)

  pub switches_out : (st : State) (ws : List Switch) → (switched_all m slots input st ws).out ≡ st.out
  unfolding switched
  switches_out st [] = refl
  switches_out st (w ∷ ws) = switches_out (switched m slots input st w) ws

  -- baby switches leave the nodes, the others the cache
  pub babies_leave : (st : State) (ws : List Switch) → Each OfCache ws → (switched_all m slots input st ws).nodes ≡ st.nodes
  unfolding switched
  babies_leave st [] h = refl
  babies_leave st (baby place source k ∷ ws) h = babies_leave (switched m slots input st (baby place source k)) ws h.1
  babies_leave st (giant place k ∷ ws) h = absurd h.0
  babies_leave st (pair odd even k ∷ ws) h = absurd h.0

  pub giants_leave : (st : State) (ws : List Switch) → Each OfNodes ws → (switched_all m slots input st ws).cache ≡ st.cache
  unfolding switched
  giants_leave st [] h = refl
  giants_leave st (baby place source k ∷ ws) h = absurd h.0
  giants_leave st (giant place k ∷ ws) h = giants_leave (switched m slots input st (giant place k)) ws h.1
  giants_leave st (pair odd even k ∷ ws) h = giants_leave (switched m slots input st (pair odd even k)) ws h.1

  -- the rotations stand in the log behind those before
  pub switches_log : (st : State) (ws : List Switch) → st.made + length ws ≤ length st.log → (switched_all m slots input st ws).log ≡ in_front (take st.made st.log ++ map rotation_of ws) st.log
  unfolding switched in_front
  switches_log st [] h =
      let n = st.made in
      rw (append-nil (take n st.log), length-take-le n st.log (omega arith)) (sym (take-append-drop n st.log))
  switches_log st (w ∷ ws) h =
      let n = st.made in
      let old = st.log in
      let words = take n old ++ (rotation_of w ∷ map rotation_of ws) in
      let len : length words ≡ n + suc (length ws) = length-append (take n old) (rotation_of w ∷ map rotation_of ws) ∙ rw (length-take-le n old (omega arith), length-map ws rotation_of) in
      switches_log (switched m slots input st w) ws (rw (length-set old n (rotation_of w)) (omega arith))
      ∙ rw (take-suc-set old n (rotation_of w) (omega arith), append_assoc (take n old) (rotation_of w ∷ []) (map rotation_of ws), drop-set-lt (length words) old n (rotation_of w) (omega arith))

  -- from the first switch on they are in front
  pub switches_logged : (st : State) (ws : List Switch) → st.made ≡ 0 → length ws ≤ length st.log → (switched_all m slots input st ws).log ≡ in_front (map rotation_of ws) st.log
  switches_logged st ws e h =
      switches_log st ws (omega arith)
      ∙ ap (λ (n : ℕ). in_front (take n st.log ++ map rotation_of ws) st.log) e

-- ---- the switches of a plan

pub babies_of_cache : (slots : ℕ) (strategy : LinearTransformationStrategy) (ks : List ℕ) → Each OfCache (baby_schedule slots strategy ks)
babies_of_cache slots strategy ks =
    let bs = plan_babies slots strategy ks in
    rw (baby_schedule_lem slots strategy ks) (each_tabulate OfCache (length (nonzeros bs)) (making bs (turn_of slots strategy ks)) (λ p l. tt))

-- a cache of as many vectors as babies that are not 0 is enough
pub babies_fit : (slots : ℕ) (strategy : LinearTransformationStrategy) (ks : List ℕ) (c n : ℕ) → length (nonzeros (plan_babies slots strategy ks)) * slots ≤ c → Each (Fits slots c n) (baby_schedule slots strategy ks)
babies_fit slots strategy ks c n h =
    let bs = plan_babies slots strategy ks in
    let z = length (nonzeros bs) in
    rw (baby_schedule_lem slots strategy ks)
    (each_tabulate (Fits slots c n) z (making bs (turn_of slots strategy ks))
    (λ p l. let e : suc p * slots ≤ z * slots = mul-le-mul_right slots l in omega (arith, suc-mul p slots, e)))

pub levels_of_nodes : (leaves : List ℕ) (i : ℕ) (ls : List Level) → Each OfNodes (level_switches leaves i ls)
levels_of_nodes leaves i [] = tt
levels_of_nodes leaves i (l ∷ ls) =
    each_append OfNodes (map (joined leaves i l.rotation.0) l.pairs) (level_switches leaves (suc i) ls)
    (each_map OfNodes (joined leaves i l.rotation.0) l.pairs (each_all (λ p. tt) l.pairs))
    (levels_of_nodes leaves (suc i) ls)

pub giants_own : (gs : List ℕ) → Each OfNodes (own_giants gs)
giants_own gs = each_map OfNodes (λ g. giant (place_of g gs) g) (nonzeros gs) (each_all (λ g. tt) (nonzeros gs))

pub giants_of_nodes : (slots : ℕ) (strategy : LinearTransformationStrategy) (ks : List ℕ) → Each OfNodes (giant_schedule slots strategy ks)
unfolding giant_schedule
giants_of_nodes slots (Bsgs width) ks = giants_own (giants slots width ks)
giants_of_nodes slots (BsgsPowersOfTwo width) ks = let t = plan_tree slots width ks in levels_of_nodes t.leaves 0 t.levels
giants_of_nodes slots Direct ks = giants_own (giants slots 1 ks)
