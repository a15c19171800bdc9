-- Laws of slot maps: the product of the built map is the slot map's sum, whatever the terms are; its diagonals rise, lie
-- below slots and have period values; its words.
-- Assumes nothing.
use Rattle.std.specs.Prelude.{◌≡◌, ℕ, zero, suc, ◌+◌, ◌*◌, ◌%◌, ◌<◌, ◌≤◌, Bool, true, false, cond, ◌&&◌, ◌||◌, List, [], ◌∷◌, ◌++◌, map, length, ℤ, pos, ◌+ℤ◌, ◌-ℤ◌, ◌==◌, slice_index, slice_index_or}
use Rattle.std.specs.Int.{◌∣◌}
use Rattle.std.proofs.Math.Path.{refl, sym, ap}
use Rattle.std.proofs.Common.{◌∙◌, eq-eqb, eqb-true}
use Rattle.std.proofs.Math.Bool.{or-true, or_assoc}
use mathlib.Core.List.{map-append}
use native.Mathlib.Nat.{not-suc-le-zero, le_of_suc-le-suc, zero-mod, mod-eq_of_lt, add-mul-mod_self_right}
use Rattle.std.proofs.Math.IntN.{+ℤ_comm, -ℤ-+ℤ_cancel, +ℤ_assoc}
use Rattle.std.proofs.Math.ListN.{length-map}
use Rattle.ring.specs.Slots.{mulm}
use Rattle.ring.specs.Lists.{sum_by, Each, Rising}
use Rattle.ring.specs.Vectors.{tabulate}
use Rattle.ring.specs.Residues.{residue_of, named, diagonals_of}
use Rattle.ring.specs.Searches.{below}
use Rattle.ring.specs.Laws.Slots.{mulm_comm, mulm_mod, zero_mulm}
use Rattle.ring.specs.Laws.Lists.{each_all, each_then, each_map, each_both, sum_by_cong, sum_by_each, sum_by_map, sum_by_scale, sum_by_exchange, join_map, join_cong}
use Rattle.ring.specs.Laws.Vectors.{length_tabulate, get_or_tabulate, join_tables}
use Rattle.ring.specs.Laws.Residues.{residue_add, residue_pos, residue_lt}
use Rattle.ring.specs.Laws.Below.{below_ext, below_low, below_rising, sum_below_one}
use Rattle.diagonals.specs.Maps.{Diagonal, offsets_of, pair_of, pair_words, value_words, FormedMap}
use Rattle.diagonals.specs.Laws.Pairs.{pair_alike}
use Rattle.diagonals.specs.Products.{cell, term, product}
use Rattle.diagonals.specs.SlotMaps.{Term, terms_of, difference, offset_of, reached, weight, gathered, rank, slot_map, zeros_at, zero_map, slot_sum}
use Rattle.diagonals.specs.Building.{sum_at}

-- ---- the terms of three lists

abbrev pub term_at : List ℕ → List ℕ → List ℕ → ℕ → Term
term_at is js ws t = record { i = slice_index is t; j = slice_index js t; w = slice_index ws t }

module _ (is js ws : List ℕ) where
  pub length_terms : length (terms_of is js ws) ≡ length is
  unfolding terms_of
  length_terms = length_tabulate (length is) (term_at is js ws)

  pub term_at_lem : (t : ℕ) (d : Term) → t < length is → slice_index_or (terms_of is js ws) t d ≡ term_at is js ws t
  unfolding terms_of
  term_at_lem t d l = get_or_tabulate (length is) (term_at is js ws) t d l

-- ---- which diagonals are reached

module _ (slots : ℕ) where
  -- those that the differences name
  pub reached_named : (ts : List Term) (k : ℕ) → reached slots ts k ≡ named slots (map difference ts) k
  unfolding named
  reached_named [] k = refl
  reached_named (t ∷ ts) k = ap (λ (b : Bool). (offset_of slots t == k) || b) (reached_named ts k)

  pub reached_append : (xs ys : List Term) (k : ℕ) → reached slots (xs ++ ys) k ≡ (reached slots xs k || reached slots ys k)
  reached_append [] ys k = refl
  reached_append (x ∷ xs) ys k = rw (reached_append xs ys k) (sym (or_assoc (offset_of slots x == k) (reached slots xs k) (reached slots ys k)))

  -- each term reaches its diagonal
  pub reached_at : (ts : List Term) (t : ℕ) (d : Term) → t < length ts → reached slots ts (offset_of slots (slice_index_or ts t d)) ≡ true
  reached_at [] t d l = absurd (not-suc-le-zero l)
  reached_at (x ∷ ts) zero d l = rw (eq-eqb (offset_of slots x) (offset_of slots x) refl)
  reached_at (x ∷ ts) (suc t) d l = rw (reached_at ts t d (le_of_suc-le-suc l)) (or-true (offset_of slots x == offset_of slots (slice_index_or ts t d)))

  reached_each : (ts : List Term) → Each (λ t. reached slots ts (offset_of slots t) ≡ true) ts
  reached_each [] = tt
  reached_each (x ∷ ts) =
      (rw (eq-eqb (offset_of slots x) (offset_of slots x) refl), each_then (λ t h. rw h (or-true (offset_of slots x == offset_of slots t))) ts (reached_each ts))

-- ---- the map

module _ (m slots period : ℕ) (ts : List Term) where
  -- the offsets of the map
  abbrev pub offsets : List ℕ
  offsets = below (reached slots ts) slots

  pub slot_map_count : length (slot_map m slots period ts) ≡ rank (reached slots ts) slots
  unfolding slot_map
  slot_map_count = length-map offsets (gathered m slots period ts)

  offsets_of_lem : (ks : List ℕ) → offsets_of (map (gathered m slots period ts) ks) ≡ ks
  offsets_of_lem [] = refl
  offsets_of_lem (k ∷ ks) = ap (λ (t : List ℕ). k ∷ t) (offsets_of_lem ks)

  -- they are the diagonals that the differences j - i of the terms name
  pub slot_map_offsets : offsets_of (slot_map m slots period ts) ≡ diagonals_of slots (map difference ts)
  unfolding slot_map diagonals_of
  slot_map_offsets = offsets_of_lem offsets ∙ below_ext (reached slots ts) (named slots (map difference ts)) slots (λ k l. reached_named slots ts k)

  -- offsets rise
  pub slot_map_rising : Rising (offsets_of (slot_map m slots period ts))
  unfolding slot_map
  slot_map_rising = rw (offsets_of_lem offsets) (below_rising (reached slots ts) slots)

  -- and are below slots
  pub slot_map_low : Each (λ d. d.offset < slots) (slot_map m slots period ts)
  unfolding slot_map
  slot_map_low = each_map (λ d. d.offset < slots) (gathered m slots period ts) offsets (below_low (reached slots ts) slots)

  -- each diagonal has period values
  pub slot_map_period : Each (λ d. length d.values ≡ period) (slot_map m slots period ts)
  unfolding slot_map
  slot_map_period = each_map (λ d. length d.values ≡ period) (gathered m slots period ts) offsets (each_all (λ k. length_tabulate period (λ p. sum_by m (weight slots k p) ts)) offsets)

  -- so it is well formed where the period divides slots
  pub slot_map_formed : 1 ≤ period → period ∣ slots → FormedMap slots (slot_map m slots period ts)
  slot_map_formed h d =
      record {
        each = each_both (λ x l e. record { low = l; some = rw e h; divides = rw e d }) (slot_map m slots period ts) slot_map_low slot_map_period;
        rising = slot_map_rising;
      }

  -- ---- its words

  -- its pairs are those of zeros at its offsets
  pub slot_map_pairs : pair_words (slot_map m slots period ts) ≡ pair_words (zero_map period offsets)
  unfolding slot_map zero_map pair_words
  slot_map_pairs =
      join_map (gathered m slots period ts) pair_of offsets
      ∙ join_cong (λ k. pair_of (gathered m slots period ts k)) (λ k. pair_of (zeros_at period k)) same offsets
      ∙ sym (join_map (zeros_at period) pair_of offsets)
    where
      same : (k : ℕ) → pair_of (gathered m slots period ts k) ≡ pair_of (zeros_at period k)
      same k = pair_alike (gathered m slots period ts k) (zeros_at period k) refl (length_tabulate period _ ∙ sym (length_tabulate {A = ℕ} period (λ _. 0)))

  pub slot_map_values : 0 < period → value_words (slot_map m slots period ts) ≡ tabulate (rank (reached slots ts) slots * period) (sum_at m slots period offsets ts)
  unfolding slot_map value_words
  slot_map_values h =
      join_map (gathered m slots period ts) (λ d. d.values) offsets
      ∙ join_tables period h (λ k p. sum_by m (weight slots k p) ts) 0 offsets

-- ---- the words of a map of zeros

module _ (period : ℕ) (ks : List ℕ) where
  pub zero_map_count : length (zero_map period ks) ≡ length ks
  unfolding zero_map
  zero_map_count = length-map ks _

  -- a diagonal more
  pub zero_map_more : (k : ℕ) → zero_map period (ks ++ (k ∷ [])) ≡ zero_map period ks ++ (zeros_at period k ∷ [])
  unfolding zero_map
  zero_map_more k = map-append (zeros_at period) ks (k ∷ [])

  pub zero_map_values : 0 < period → value_words (zero_map period ks) ≡ tabulate (length ks * period) (λ _. 0)
  unfolding zero_map value_words
  zero_map_values h =
      join_map (zeros_at period) (λ (d : Diagonal). d.values) ks
      ∙ join_tables period h (λ k p. 0) 0 ks

-- ---- the product

-- i + s + (j - i) is j + s
shift : (i j s : ℕ) → pos (i + s) +ℤ (pos j -ℤ pos i) ≡ pos (j + s)
shift i j s =
    ap (λ (x : ℕ). pos x +ℤ (pos j -ℤ pos i)) (native.Mathlib.Nat.add_comm i s)
    ∙ +ℤ_assoc (pos s) (pos i) (pos j -ℤ pos i)
    ∙ ap (λ (z : ℤ). pos s +ℤ z) (+ℤ_comm (pos i) (pos j -ℤ pos i) ∙ -ℤ-+ℤ_cancel (pos j) (pos i))
    ∙ +ℤ_comm (pos s) (pos j)

module _ (m slots period : ℕ) (ts : List Term) (input : List ℕ) (i q : ℕ) (p : 0 < slots) (l : i < period) where
  -- the slot that a diagonal reads
  abbrev reads : ℕ → ℕ
  reads k = slice_index input ((i + q * period + k) % slots)

  -- a term's part of the sum
  abbrev part : Term → ℕ
  part t = cond (t.i == i) (mulm m t.w (reads (offset_of slots t))) 0

  cell_is : (k : ℕ) → cell (gathered m slots period ts k).values (i + q * period) ≡ sum_by m (weight slots k i) ts
  cell_is k =
      ap (λ (n : ℕ). slice_index (gathered m slots period ts k).values ((i + q * period) % n)) (length_tabulate period (λ x. sum_by m (weight slots k x) ts))
      ∙ ap (λ (n : ℕ). slice_index (gathered m slots period ts k).values n) (add-mul-mod_self_right i q period ∙ mod-eq_of_lt l)
      ∙ get_or_tabulate period (λ x. sum_by m (weight slots k x) ts) i 0 l

  -- a term counts at its own diagonal alone
  at_own : (t : Term) (k : ℕ) (a b : Bool) → (offset_of slots t == k) ≡ a → (t.i == i) ≡ b → mulm m (reads k) (cond (a && b) t.w 0) ≡ cond a (cond b (mulm m t.w (reads (offset_of slots t))) 0) 0
  at_own t k true true e f = rw (eqb-true (offset_of slots t) k e) (mulm_comm m (reads k) t.w)
  at_own t k true false e f = mulm_comm m (reads k) 0 ∙ zero_mulm m (reads k)
  at_own t k false b e f = mulm_comm m (reads k) 0 ∙ zero_mulm m (reads k)

  part_mod : (t : Term) (b : Bool) → cond b (mulm m t.w (reads (offset_of slots t))) 0 % m ≡ cond b (mulm m t.w (reads (offset_of slots t))) 0
  part_mod t true = mulm_mod m t.w (reads (offset_of slots t))
  part_mod t false = zero-mod m

  -- the sum over the diagonals is that of the term's own
  over_diagonals : (t : Term) → reached slots ts (offset_of slots t) ≡ true → sum_by m (λ k. mulm m (reads k) (weight slots k i t)) (offsets m slots period ts) ≡ part t
  over_diagonals t h =
      sum_by_cong m (λ k. mulm m (reads k) (weight slots k i t)) (λ k. cond (offset_of slots t == k) (part t) 0) (λ k. at_own t k (offset_of slots t == k) (t.i == i) refl refl) (offsets m slots period ts)
      ∙ sum_below_one m (reached slots ts) (offset_of slots t) (part t) slots (residue_lt (difference t) slots p) h
      ∙ part_mod t (t.i == i)

  -- where i is the term's, its own diagonal reads j + q·period
  own_reads : (t : Term) (b : Bool) → (t.i == i) ≡ b → cond b (mulm m t.w (reads (offset_of slots t))) 0 ≡ cond b (mulm m t.w (slice_index input ((t.j + q * period) % slots))) 0
  own_reads t true e =
      ap (λ (x : ℕ). mulm m t.w (slice_index input x))
      (ap (λ (x : ℕ). (x + q * period + offset_of slots t) % slots) (sym (eqb-true t.i i e))
      ∙ sym (residue_add (t.i + q * period) (difference t) slots p)
      ∙ ap (λ (z : ℤ). residue_of z slots) (shift t.i t.j (q * period))
      ∙ residue_pos (t.j + q * period) slots p)
  own_reads t false e = refl

  -- the product of the built map is the slot map's sum
  pub slot_map_product : product m slots (slot_map m slots period ts) input (i + q * period) ≡ slot_sum m slots period ts input i q
  unfolding product slot_map slot_sum
  slot_map_product =
      sum_by_map m (gathered m slots period ts) (term m slots input (i + q * period)) (offsets m slots period ts)
      ∙ sum_by_cong m (λ k. term m slots input (i + q * period) (gathered m slots period ts k)) (λ k. sum_by m (λ t. mulm m (reads k) (weight slots k i t)) ts)
      (λ k.
      ap (λ (x : ℕ). mulm m x (reads k)) (cell_is k)
      ∙ mulm_comm m (sum_by m (weight slots k i) ts) (reads k)
      ∙ sym (sum_by_scale m (reads k) (weight slots k i) ts))
      (offsets m slots period ts)
      ∙ sum_by_exchange m (λ k t. mulm m (reads k) (weight slots k i t)) (offsets m slots period ts) ts
      ∙ sum_by_each m (λ t. sum_by m (λ k. mulm m (reads k) (weight slots k i t)) (offsets m slots period ts)) (λ t. cond (t.i == i) (mulm m t.w (slice_index input ((t.j + q * period) % slots))) 0) ts
      (each_then (λ t h. over_diagonals t h ∙ own_reads t (t.i == i) refl) ts (reached_each slots ts))
