-- Laws of shrinking: the common period divides slots, each diagonal repeats with it, it divides every number with which all
-- repeat, and the shrunk map is well formed with the same matrix.
-- Assumes nothing.
use Rattle.std.specs.Prelude.{◌≡◌, ℕ, ◌+◌, ◌%◌, ◌<◌, ◌≤◌, List, [], ◌∷◌, map, length, refl}
use Rattle.std.specs.Int.{◌∣◌}
use Rattle.std.proofs.Common.{sym, ap, ◌∙◌}
use Rattle.std.proofs.Math.Nat.{dvd_trans, add-mod_right, le_of_dvd}
use Rattle.ring.specs.Lists.{Each}
use Rattle.ring.specs.Periods.{min_period}
use Rattle.ring.specs.Laws.Lists.{each_then, each_both, each_map, map_each}
use Rattle.ring.specs.Laws.Vectors.{length_tabulate}
use Rattle.ring.specs.Laws.Divisors.{lcm_all_pos, lcm_all_most, lcm_all_multiple}
use Rattle.ring.specs.Laws.Periods.{positive, around_multiple, min_is, min_shift}
use Rattle.diagonals.specs.Maps.{Diagonal, offsets_of, Formed, FormedMap}
use Rattle.diagonals.specs.Products.{cell, matrix, product}
use Rattle.diagonals.specs.Shrinking.{common_period, at_period, shrunk}
use Rattle.diagonals.specs.Laws.Matrices.{cell_tabulate, stretch_alike, formed_some, Alike, alike_matrix, alike_product}

-- values read modulo a multiple of their smallest period
cell_period : (v : List ℕ) (p : ℕ) → 1 ≤ length v → min_period v ∣ p → (t : ℕ) → cell v (t % p) ≡ cell v t
cell_period v p n d t = around_multiple v n (min_period v) p (min_is v n) d t

-- ---- the common period

-- of diagonals that have values
module _ (ds : List Diagonal) (some : Each (λ d. 1 ≤ length d.values) ds) where
  periods_pos : Each (λ p. 1 ≤ p) (map (λ d. min_period d.values) ds)
  periods_pos = each_map (λ p. 1 ≤ p) (λ (d : Diagonal). min_period d.values) ds (each_then (λ d n. positive (min_is d.values n)) ds some)

  pub common_pos : 1 ≤ common_period ds
  unfolding common_period
  common_pos = lcm_all_pos (map (λ d. min_period d.values) ds) periods_pos

  common_multiple : Each (λ d. min_period d.values ∣ common_period ds) ds
  unfolding common_period
  common_multiple = map_each (λ p. p ∣ common_period ds) (λ (d : Diagonal). min_period d.values) ds (lcm_all_multiple (map (λ d. min_period d.values) ds) periods_pos)

  common_most : (p : ℕ) → Each (λ d. min_period d.values ∣ p) ds → common_period ds ∣ p
  unfolding common_period
  common_most p h = lcm_all_most (map (λ d. min_period d.values) ds) p periods_pos (each_map (λ x. x ∣ p) (λ (d : Diagonal). min_period d.values) ds h)

  -- each diagonal is read alike modulo the common period
  common_reads : Each (λ d. (t : ℕ) → cell d.values (t % common_period ds) ≡ cell d.values t) ds
  common_reads = each_both (λ d n h. cell_period d.values (common_period ds) n h) ds some common_multiple

  -- each diagonal repeats with it
  pub common_repeats : Each (λ d. (t : ℕ) → cell d.values (t + common_period ds) ≡ cell d.values t) ds
  common_repeats =
      each_then {Q = λ d. (t : ℕ) → cell d.values (t + common_period ds) ≡ cell d.values t}
      (λ d h t. sym (h (t + common_period ds)) ∙ ap (cell d.values) (add-mod_right t (common_period ds)) ∙ h t)
      ds common_reads

  -- and it divides every number with which each repeats, so none is smaller
  pub common_divides : (p : ℕ) → Each (λ d. (t : ℕ) → cell d.values (t + p) ≡ cell d.values t) ds → common_period ds ∣ p
  common_divides p h = common_most p (each_both (λ d n k. min_shift d.values n p k) ds some h)

  pub common_least : (p : ℕ) → 1 ≤ p → Each (λ d. (t : ℕ) → cell d.values (t + p) ≡ cell d.values t) ds → common_period ds ≤ p
  common_least p n h = le_of_dvd n (common_divides p h)

  -- ---- the shrunk map reads alike

  pub shrunk_alike : Alike (shrunk ds) ds
  unfolding shrunk
  shrunk_alike k i =
      stretch_alike k (at_period (common_period ds)) i (λ d. refl) ds
      (each_then (λ d (h : (t : ℕ) → cell d.values (t % common_period ds) ≡ cell d.values t). cell_tabulate (common_period ds) (cell d.values) i common_pos ∙ h i) ds common_reads)

  pub shrunk_matrix : (slots i j : ℕ) → matrix slots (shrunk ds) i j ≡ matrix slots ds i j
  shrunk_matrix slots i j = alike_matrix slots (shrunk ds) ds shrunk_alike i j

-- ---- well-formed maps

offsets_kept : (p : ℕ) (ds : List Diagonal) → offsets_of (map (at_period p) ds) ≡ offsets_of ds
offsets_kept p [] = refl
offsets_kept p (d ∷ ds) = ap (λ (t : List ℕ). d.offset ∷ t) (offsets_kept p ds)

-- shrinking keeps the offsets
pub shrunk_offsets : (ds : List Diagonal) → offsets_of (shrunk ds) ≡ offsets_of ds
unfolding shrunk
shrunk_offsets ds = offsets_kept (common_period ds) ds

module _ (slots : ℕ) (ds : List Diagonal) (f : FormedMap slots ds) where
  abbrev some : Each (λ d. 1 ≤ length d.values) ds
  some = formed_some slots ds f

  pub common_slots : common_period ds ∣ slots
  common_slots =
      common_most ds some slots
      (each_then (λ d (h : Formed slots d). dvd_trans (min_period d.values) (min_is d.values h.some).divides h.divides) ds f.each)

  pub shrunk_formed : FormedMap slots (shrunk ds)
  unfolding shrunk
  shrunk_formed =
      record {
        each = each_map _ (at_period (common_period ds)) ds
            (each_then (λ d (h : Formed slots d). record { low = h.low; some = rw length_tabulate (common_pos ds some); divides = rw length_tabulate common_slots }) ds f.each);
        rising = rw (offsets_kept (common_period ds) ds) f.rising;
      }

  pub shrunk_product : (m : ℕ) (input : List ℕ) (i : ℕ) → i < slots → product m slots (shrunk ds) input i ≡ product m slots ds input i
  shrunk_product m input i l = alike_product m slots (shrunk ds) ds shrunk_formed f (shrunk_alike ds some) input i l
