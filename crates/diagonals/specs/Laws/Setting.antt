-- Laws of setting a diagonal: what is read after it, and that the map stays well formed.
-- Assumes nothing.
use Rattle.std.specs.Prelude.{◌≡◌, ℕ, ◌<◌, ◌≤◌, cond, List, [], ◌∷◌, ◌++◌, length, ◌==◌, ◌≢◌, refl}
use Rattle.std.proofs.Common.{sym, ap, ◌∙◌, ⊎_elim, eq-or-lt_of_le, lt_of_not-le, arith, eq-eqb, ne_eqb, lt-ltb, le-ltb}
use Rattle.std.proofs.Math.Decide.{dec_le}
use Rattle.ring.specs.Lists.{Each, Rising}
use Rattle.ring.specs.Vectors.{in_front}
use Rattle.ring.specs.Laws.Lists.{each_then, each_map, map_each}
use Rattle.diagonals.specs.Maps.{Diagonal, offsets_of, view, Formed, WellFormed, pair_words, value_words, FormedMap, pair_room}
use Rattle.diagonals.specs.Products.{stretch}
use Rattle.diagonals.specs.Setting.{placed}
use Rattle.diagonals.specs.Laws.Words.{formed_view, words_formed}

-- a number beside another
pub data Side (a b : ℕ) : Type 0 where
  below : a < b → Side a b
  equal : a ≡ b → Side a b
  above : b < a → Side a b

pub side : (a b : ℕ) → Side a b
side a b = by_dec (dec_le a b)
  where
    by_dec : Dec (a ≤ b) → Side a b
    by_dec (yes l) = ⊎_elim (λ e. equal e) (λ m. below m) (eq-or-lt_of_le l)
    by_dec (no n) = above (lt_of_not-le n)

-- `vs` at offset k
module _ (k : ℕ) (vs : List ℕ) where
  pub placed_below : (d : Diagonal) (ds : List Diagonal) → d.offset < k → placed k vs (d ∷ ds) ≡ d ∷ placed k vs ds
  placed_below d ds l = rw (lt-ltb d.offset k l)

  pub placed_equal : (d : Diagonal) (ds : List Diagonal) → d.offset ≡ k → placed k vs (d ∷ ds) ≡ record { offset = k; values = vs } ∷ ds
  placed_equal d ds e = rw (le-ltb d.offset k (omega arith), eq-eqb d.offset k e)

  pub placed_above : (d : Diagonal) (ds : List Diagonal) → k < d.offset → placed k vs (d ∷ ds) ≡ record { offset = k; values = vs } ∷ d ∷ ds
  placed_above d ds l = rw (le-ltb d.offset k (omega arith), ne_eqb d.offset k (λ e. omega arith))

  -- behind the diagonals below k
  pub placed_append : (ds es : List Diagonal) → Each (λ d. d.offset < k) ds → placed k vs (ds ++ es) ≡ ds ++ placed k vs es
  placed_append [] es h = refl
  placed_append (d ∷ ds) es h = placed_below d (ds ++ es) h.0 ∙ ap (λ (t : List Diagonal). d ∷ t) (placed_append ds es h.1)

  -- reading after setting
  pub stretch_placed : (ds : List Diagonal) → stretch (placed k vs ds) k ≡ vs
  stretch_placed [] = rw (eq-eqb k k refl)
  stretch_placed (d ∷ ds) = by_side (stretch_placed ds) (side d.offset k)
    where
      by_side : stretch (placed k vs ds) k ≡ vs → Side d.offset k → stretch (placed k vs (d ∷ ds)) k ≡ vs
      by_side h (below l) = ap (λ t. stretch t k) (placed_below d ds l) ∙ rw (ne_eqb d.offset k (λ e. omega arith)) h
      by_side h (equal e) = ap (λ t. stretch t k) (placed_equal d ds e) ∙ rw (eq-eqb k k refl)
      by_side h (above l) = ap (λ t. stretch t k) (placed_above d ds l) ∙ rw (eq-eqb k k refl)

  pub stretch_other : (j : ℕ) → (j ≢ k) → (ds : List Diagonal) → stretch (placed k vs ds) j ≡ stretch ds j
  stretch_other j n [] = rw (ne_eqb k j (λ e. n (sym e)))
  stretch_other j n (d ∷ ds) = by_side (stretch_other j n ds) (side d.offset k)
    where
      by_side : stretch (placed k vs ds) j ≡ stretch ds j → Side d.offset k → stretch (placed k vs (d ∷ ds)) j ≡ stretch (d ∷ ds) j
      by_side h (below l) = ap (λ t. stretch t j) (placed_below d ds l) ∙ ap (cond (d.offset == j) d.values) h
      by_side h (equal e) = ap (λ t. stretch t j) (placed_equal d ds e) ∙ rw (ne_eqb k j (λ q. n (sym q)), ne_eqb d.offset j (λ q. n (sym q ∙ e)))
      by_side h (above l) = ap (λ t. stretch t j) (placed_above d ds l) ∙ rw (ne_eqb k j (λ q. n (sym q)))

  -- what holds of the new diagonal and of each that was there
  placed_each : (P : Diagonal → Type 0) → P (record { offset = k; values = vs }) → (ds : List Diagonal) → Each P ds → Each P (placed k vs ds)
  placed_each P new [] e = (new, tt)
  placed_each P new (d ∷ ds) e = by_side (placed_each P new ds e.1) (side d.offset k)
    where
      by_side : Each P (placed k vs ds) → Side d.offset k → Each P (placed k vs (d ∷ ds))
      by_side h (below l) = rw (placed_below d ds l) (e.0, h)
      by_side h (equal q) = rw (placed_equal d ds q) (new, e.1)
      by_side h (above l) = rw (placed_above d ds l) (new, e)

  placed_rising : (ds : List Diagonal) → Rising (offsets_of ds) → Rising (offsets_of (placed k vs ds))
  placed_rising [] r = (tt, tt)
  placed_rising (d ∷ ds) r = by_side (placed_rising ds r.1) (side d.offset k)
    where
      by_side : Rising (offsets_of (placed k vs ds)) → Side d.offset k → Rising (offsets_of (placed k vs (d ∷ ds)))
      by_side h (below l) = rw (placed_below d ds l) (each_map (λ y. d.offset < y) (λ (x : Diagonal). x.offset) (placed k vs ds) (placed_each (λ e. d.offset < e.offset) l ds (map_each (λ y. d.offset < y) (λ (x : Diagonal). x.offset) ds r.0)), h)
      by_side h (equal e) = rw (placed_equal d ds e, ← e) r
      by_side h (above l) = rw (placed_above d ds l) ((l, each_then (λ x m. omega arith) (offsets_of ds) r.0), r)

  -- setting keeps a map well formed
  pub placed_formed : (slots : ℕ) (ds : List Diagonal) → Formed slots (record { offset = k; values = vs }) → FormedMap slots ds → FormedMap slots (placed k vs ds)
  placed_formed slots ds f m = record { each = placed_each _ f ds m.each; rising = placed_rising ds m.rising }

-- the words of a well-formed map with such a diagonal set are a well-formed map, where they have room
pub set_formed : {slots count : ℕ} {pairs values : List ℕ} → WellFormed slots count pairs values → (k : ℕ) (vs : List ℕ) → Formed slots (record { offset = k; values = vs }) → pair_room (length (placed k vs (view count pairs values))) ≤ length pairs → length (value_words (placed k vs (view count pairs values))) ≤ length values → WellFormed slots (length (placed k vs (view count pairs values))) (in_front (pair_words (placed k vs (view count pairs values))) pairs) (in_front (value_words (placed k vs (view count pairs values))) values)
set_formed {slots} {count} {pairs} {values} w k vs f l m =
    words_formed slots (placed k vs (view count pairs values)) pairs values (placed_formed k vs slots (view count pairs values) f (formed_view slots count pairs values w)) l m
