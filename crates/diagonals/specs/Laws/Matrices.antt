-- Laws of the matrix of a map: which values an offset finds, and Halevi and Shoup's product is the matrix times the vector.
-- Assumes nothing.
use Rattle.std.specs.Prelude.{◌≡◌, ℕ, ◌+◌, ◌-◌, ◌%◌, ◌<◌, ◌≤◌, Bool, true, false, cond, List, [], ◌∷◌, ◌++◌, map, reverse, length, ◌==◌, ◌≢◌, slice_index}
use Rattle.std.proofs.Math.Path.{refl, sym, ap}
use Rattle.std.proofs.Common.{◌∙◌, mod-lt, mod-eq_of_lt, arith, ne_eqb, eqb-true}
use mathlib.Core.List.{reverse-cons}
use Rattle.std.proofs.Math.Nat.{mod-add-mod, add-mod-mod, add-mod_right}
use Rattle.ring.specs.Slots.{addm, mulm}
use Rattle.ring.specs.Lists.{sum_by, Each, Rising}
use Rattle.ring.specs.Vectors.{tabulate}
use Rattle.ring.specs.Laws.Slots.{addm_comm, zero_addm, zero_mulm, mulm_mod}
use Rattle.ring.specs.Laws.Lists.{each_then, each_tabulate, each_reverse, map_each, sum_by_each, sum_by_cong, sum_by_sum, sum_by_zero}
use Rattle.ring.specs.Laws.Vectors.{length_tabulate, get_or_tabulate}
use Rattle.ring.specs.Laws.Searches.{eqb_same}
use Rattle.ring.specs.Laws.Below.{sum_one}
use Rattle.diagonals.specs.Maps.{Diagonal, offsets_of, Formed, FormedMap}
use Rattle.diagonals.specs.Products.{cell, stretch, matrix, term, product, dot}

-- ---- which values an offset finds

pub cell_tabulate : (p : ℕ) (f : ℕ → ℕ) (i : ℕ) → 0 < p → cell (tabulate p f) i ≡ f (i % p)
cell_tabulate p f i h = rw length_tabulate (get_or_tabulate p f (i % p) 0 (mod-lt i h))

module _ (k : ℕ) where
  pub stretch_absent : (ds : List Diagonal) → Each (λ d. d.offset ≢ k) ds → stretch ds k ≡ []
  stretch_absent [] h = refl
  stretch_absent (d ∷ ds) h = rw (ne_eqb d.offset k h.0) (stretch_absent ds h.1)

  -- what holds of no values and of those of each diagonal
  pub stretch_each : (P : List ℕ → Type 0) → P [] → (ds : List Diagonal) → Each (λ d. P d.values) ds → P (stretch ds k)
  stretch_each P z [] h = z
  stretch_each P z (d ∷ ds) h = by (stretch_each P z ds h.1) (d.offset == k)
    where
      by : P (stretch ds k) → (b : Bool) → P (cond b d.values (stretch ds k))
      by rest true = h.0
      by rest false = rest

  -- diagonals changed one by one, where their values are still read alike
  pub stretch_alike : (g : Diagonal → Diagonal) (i : ℕ) → ((d : Diagonal) → (g d).offset ≡ d.offset) → (ds : List Diagonal) → Each (λ d. cell (g d).values i ≡ cell d.values i) ds → cell (stretch (map g ds) k) i ≡ cell (stretch ds k) i
  stretch_alike g i same [] h = refl
  stretch_alike g i same (d ∷ ds) h = rw (same d) (by (stretch_alike g i same ds h.1) (d.offset == k))
    where
      by : cell (stretch (map g ds) k) i ≡ cell (stretch ds k) i → (b : Bool) → cell (cond b (g d).values (stretch (map g ds) k)) i ≡ cell (cond b d.values (stretch ds k)) i
      by rest true = h.0
      by rest false = rest

  -- behind diagonals that are not at k
  stretch_skip : (xs ys : List Diagonal) → Each (λ d. d.offset ≢ k) xs → stretch (xs ++ ys) k ≡ stretch ys k
  stretch_skip [] ys h = refl
  stretch_skip (x ∷ xs) ys h = rw (ne_eqb x.offset k h.0) (stretch_skip xs ys h.1)

  -- before one that is not at k
  stretch_before : (xs : List Diagonal) (d : Diagonal) → (d.offset == k) ≡ false → stretch (xs ++ (d ∷ [])) k ≡ stretch xs k
  stretch_before [] d e = rw e
  stretch_before (x ∷ xs) d e = ap (cond (x.offset == k) x.values) (stretch_before xs d e)

  -- offsets above one that is k are not k
  pub above_absent : (d : Diagonal) (ds : List Diagonal) → d.offset ≡ k → Rising (offsets_of (d ∷ ds)) → Each (λ e. e.offset ≢ k) ds
  above_absent d ds e r = each_then (λ x l q. omega arith) ds (map_each (λ y. d.offset < y) (λ (x : Diagonal). x.offset) ds r.0)

  -- the order does not count where offsets are distinct
  pub stretch_reverse : (ds : List Diagonal) → Rising (offsets_of ds) → stretch (reverse ds) k ≡ stretch ds k
  stretch_reverse [] r = refl
  stretch_reverse (d ∷ ds) r = ap (λ (t : List Diagonal). stretch t k) (reverse-cons d ds) ∙ by (stretch_reverse ds r.1) (d.offset == k) refl
    where
      by : stretch (reverse ds) k ≡ stretch ds k → (b : Bool) → (d.offset == k) ≡ b → stretch (reverse ds ++ (d ∷ [])) k ≡ stretch (d ∷ ds) k
      by rest true e = stretch_skip (reverse ds) (d ∷ []) (each_reverse (λ x. x.offset ≢ k) ds (above_absent d ds (eqb-true _ _ e) r)) ∙ rw e
      by rest false e = stretch_before (reverse ds) d e ∙ rest ∙ rw e

-- ---- the diagonals of a well-formed map

module _ (slots : ℕ) (ds : List Diagonal) (f : FormedMap slots ds) where
  pub formed_low : Each (λ d. d.offset < slots) ds
  formed_low = each_then (λ d (h : Formed slots d). h.low) ds f.each

  pub formed_some : Each (λ d. 1 ≤ length d.values) ds
  formed_some = each_then (λ d (h : Formed slots d). h.some) ds f.each

-- ---- rows, columns and diagonals

-- the diagonal that row i has in column j
abbrev pub meets : ℕ → ℕ → ℕ → ℕ
meets slots i j = (j + (slots - i)) % slots

module _ (slots i : ℕ) (l : i < slots) where
  -- row i has diagonal k in column i + k alone
  pub meets_own : (k : ℕ) → k < slots → meets slots i ((i + k) % slots) ≡ k
  meets_own k h =
      mod-add-mod (i + k) slots (slots - i)
      ∙ ap (λ (x : ℕ). x % slots) (let e : i + k + (slots - i) ≡ k + slots = omega arith in e)
      ∙ add-mod_right k slots
      ∙ mod-eq_of_lt h

  pub own_meets : (j : ℕ) → j < slots → (i + meets slots i j) % slots ≡ j
  own_meets j h =
      add-mod-mod i (j + (slots - i)) slots
      ∙ ap (λ (x : ℕ). x % slots) (let e : i + (j + (slots - i)) ≡ j + slots = omega arith in e)
      ∙ add-mod_right j slots
      ∙ mod-eq_of_lt h

  meets_test : (k j : ℕ) → k < slots → j < slots → (k == meets slots i j) ≡ ((i + k) % slots == j)
  meets_test k j hk hj =
      eqb_same k (meets slots i j) ((i + k) % slots) j
      (λ e. ap (λ (x : ℕ). (i + x) % slots) e ∙ own_meets j hj)
      (λ e. sym (meets_own k hk) ∙ ap (meets slots i) e)

-- ---- the product

pub dot_cong : (m n : ℕ) (r s : ℕ → ℕ) (input : List ℕ) → ((j : ℕ) → j < n → r j ≡ s j) → dot m n r input ≡ dot m n s input
dot_cong m n r s input same =
    sum_by_each m (λ j. mulm m (r j) (slice_index input j)) (λ j. mulm m (s j) (slice_index input j)) (tabulate n (λ j. j))
    (each_tabulate (λ j. mulm m (r j) (slice_index input j) ≡ mulm m (s j) (slice_index input j)) n (λ j. j) (λ j l. ap (λ (x : ℕ). mulm m x (slice_index input j)) (same j l)))

module _ (m slots i : ℕ) (input : List ℕ) (l : i < slots) where
  -- diagonal d's part of column j
  abbrev part : Diagonal → ℕ → ℕ
  part d j = cond (d.offset == meets slots i j) (mulm m (cell d.values i) (slice_index input j)) 0

  -- the entry in column j is that of the first diagonal or that of the others
  entry : (d : Diagonal) (ds : List Diagonal) → Rising (offsets_of (d ∷ ds)) → (j : ℕ) → mulm m (matrix slots (d ∷ ds) i j) (slice_index input j) ≡ addm m (part d j) (mulm m (matrix slots ds i j) (slice_index input j))
  unfolding matrix
  entry d ds r j = by (d.offset == meets slots i j) refl
    where
      by : (b : Bool) → (d.offset == meets slots i j) ≡ b → mulm m (cell (cond b d.values (stretch ds (meets slots i j))) i) (slice_index input j) ≡ addm m (cond b (mulm m (cell d.values i) (slice_index input j)) 0) (mulm m (cell (stretch ds (meets slots i j)) i) (slice_index input j))
      by true e =
          rw (stretch_absent (meets slots i j) ds (above_absent (meets slots i j) d ds (eqb-true _ _ e) r), zero_mulm)
          (sym (addm_comm m (mulm m (cell d.values i) (slice_index input j)) 0 ∙ zero_addm m (mulm m (cell d.values i) (slice_index input j)) ∙ mulm_mod m (cell d.values i) (slice_index input j)))
      by false e = sym (zero_addm m (mulm m (cell (stretch ds (meets slots i j)) i) (slice_index input j)) ∙ mulm_mod m (cell (stretch ds (meets slots i j)) i) (slice_index input j))

  -- over the columns, a diagonal's parts sum to its term
  part_sum : (d : Diagonal) → d.offset < slots → sum_by m (part d) (tabulate slots (λ j. j)) ≡ term m slots input i d
  part_sum d h =
      sum_by_each m (part d) (λ j. cond ((i + d.offset) % slots == j) (term m slots input i d) 0) (tabulate slots (λ j. j))
      (each_tabulate (λ j. part d j ≡ cond ((i + d.offset) % slots == j) (term m slots input i d) 0) slots (λ j. j) (λ j k. rw (meets_test slots i l d.offset j h k) (by j ((i + d.offset) % slots == j) refl)))
      ∙ sum_one m ((i + d.offset) % slots) (term m slots input i d) slots (mod-lt (i + d.offset) (omega arith))
      ∙ mulm_mod m (cell d.values i) (slice_index input ((i + d.offset) % slots))
    where
      by : (j : ℕ) (b : Bool) → ((i + d.offset) % slots == j) ≡ b → cond b (mulm m (cell d.values i) (slice_index input j)) 0 ≡ cond b (term m slots input i d) 0
      by j true e = ap (λ (x : ℕ). mulm m (cell d.values i) (slice_index input x)) (sym (eqb-true _ _ e))
      by j false e = refl

  by_diagonals : (ds : List Diagonal) → Each (λ d. d.offset < slots) ds → Rising (offsets_of ds) → product m slots ds input i ≡ dot m slots (matrix slots ds i) input
  unfolding product matrix
  by_diagonals [] h r = sym (sum_by_cong m (λ j. mulm m 0 (slice_index input j)) (λ j. 0) (λ j. zero_mulm m (slice_index input j)) (tabulate slots (λ j. j)) ∙ sum_by_zero m (tabulate slots (λ j. j)))
  by_diagonals (d ∷ ds) h r =
      sym (sum_by_cong m (λ j. mulm m (matrix slots (d ∷ ds) i j) (slice_index input j)) (λ j. addm m (part d j) (mulm m (matrix slots ds i j) (slice_index input j))) (entry d ds r) (tabulate slots (λ j. j))
      ∙ sum_by_sum m (part d) (λ j. mulm m (matrix slots ds i j) (slice_index input j)) (tabulate slots (λ j. j))
      ∙ ap (λ (x : ℕ). addm m x (dot m slots (matrix slots ds i) input)) (part_sum d h.0)
      ∙ ap (addm m (term m slots input i d)) (sym (by_diagonals ds h.1 r.1)))

  -- Halevi and Shoup's product is the matrix times the vector
  pub product_is_matrix : (ds : List Diagonal) → FormedMap slots ds → product m slots ds input i ≡ dot m slots (matrix slots ds i) input
  product_is_matrix ds f = by_diagonals ds (formed_low slots ds f) f.rising

  -- so maps with the same row have the same product there
  pub product_by_matrix : (ds es : List Diagonal) → FormedMap slots ds → FormedMap slots es → ((j : ℕ) → j < slots → matrix slots ds i j ≡ matrix slots es i j) → product m slots ds input i ≡ product m slots es input i
  product_by_matrix ds es f g same =
      product_is_matrix ds f
      ∙ dot_cong m slots (matrix slots ds i) (matrix slots es i) input same
      ∙ sym (product_is_matrix es g)

-- ---- maps that read alike

-- each diagonal of one, at each slot, is that of the other
abbrev pub Alike : List Diagonal → List Diagonal → Type 0
Alike ds es = (k i : ℕ) → cell (stretch ds k) i ≡ cell (stretch es k) i

pub alike_matrix : (slots : ℕ) (ds es : List Diagonal) → Alike ds es → (i j : ℕ) → matrix slots ds i j ≡ matrix slots es i j
unfolding matrix
alike_matrix slots ds es same i j = same (meets slots i j) i

pub alike_product : (m slots : ℕ) (ds es : List Diagonal) → FormedMap slots ds → FormedMap slots es → Alike ds es → (input : List ℕ) (i : ℕ) → i < slots → product m slots ds input i ≡ product m slots es input i
alike_product m slots ds es f g same input i l = product_by_matrix m slots i input l ds es f g (λ j h. alike_matrix slots ds es same i j)
