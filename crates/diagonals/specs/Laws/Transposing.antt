-- The transposed map by its diagonals, one after the other; it is well formed, and its matrix is the transposed one.
-- Assumes nothing.
use Rattle.std.specs.Prelude.{◌≡◌, ℕ, zero, suc, ◌+◌, ◌-◌, ◌%◌, ◌<◌, ◌≤◌, Bool, true, false, cond, List, [], ◌∷◌, map, reverse, length, pos, ◌==◌, slice_index}
use Rattle.std.specs.Int.{◌∣◌}
use Rattle.std.proofs.Math.Path.{refl, sym, ap}
use Rattle.std.proofs.Common.{subst, ◌∙◌, arith, le-ltb, lt-ltb, eqb-true, mod-eq_of_lt}
use Rattle.std.proofs.lemmas.Bool.{eqb-false}
use Rattle.std.proofs.Math.Nat.{add-mod-mod, mod-add-mod, add-mod_right, mod_self, sub-zero, add-mod, mod-lt, mod-mod_of_dvd}
use Rattle.ring.specs.Lists.{Each, Rising}
use Rattle.ring.specs.Rotations.{rotated}
use Rattle.ring.specs.Laws.Lists.{each_then, each_both, each_map, map_each, each_reverse, map_reverse, rising_reverse}
use Rattle.ring.specs.Laws.Rotations.{length_rotated, get_or_rotated}
use Rattle.ring.specs.Laws.Searches.{eqb_same}
use Rattle.ring.specs.Laws.Residues.{residue_pos}
use Rattle.ring.specs.Vectors.{tabulate}
use Rattle.ring.specs.Laws.Vectors.{map_tabulate, reverse_tabulate, tabulate_cong}
use Rattle.diagonals.specs.Maps.{Diagonal, offsets_of, Formed, diagonal_at, offset_at, view, FormedMap}
use Rattle.diagonals.specs.Products.{cell, stretch, matrix, product, dot}
use Rattle.diagonals.specs.Transposing.{opposite, turned, transposed}
use Rattle.diagonals.specs.Steps.Writing.{spin, leading, turned_at}
use Rattle.diagonals.specs.Laws.Matrices.{formed_low, dot_cong, product_is_matrix, stretch_each, stretch_reverse, meets, meets_own, own_meets}

reversed : (slots n : ℕ) (f : ℕ → Diagonal) → reverse (map (turned slots) (tabulate n f)) ≡ tabulate n (λ i. turned slots (f (n - 1 - i)))
reversed slots n f = ap reverse (map_tabulate (turned slots) n f) ∙ reverse_tabulate n (λ i. turned slots (f i))

module _ (slots : ℕ) (pairs values : List ℕ) where
  by_zero : (n : ℕ) (b : Bool) → cond b (turned slots (diagonal_at pairs values 0) ∷ reverse (map (turned slots) (tabulate n (λ k. diagonal_at pairs values (suc k))))) (reverse (map (turned slots) (tabulate (suc n) (diagonal_at pairs values))))
      ≡ tabulate (suc n) (turned_at slots (suc n) (cond b 1 0) pairs values)
  by_zero n true =
      ap (λ (t : List Diagonal). turned slots (diagonal_at pairs values 0) ∷ t)
      (reversed slots n (λ k. diagonal_at pairs values (suc k))
      ∙ tabulate_cong n (λ i. turned slots (diagonal_at pairs values (suc (n - 1 - i)))) (λ k. turned_at slots (suc n) 1 pairs values (suc k))
      (λ i l. ap (λ (m : ℕ). turned slots (diagonal_at pairs values m)) (rw (le-ltb (suc i) 1 (omega arith)) (omega arith))))
  by_zero n false =
      reversed slots (suc n) (diagonal_at pairs values)
      ∙ tabulate_cong (suc n) (λ i. turned slots (diagonal_at pairs values (suc n - 1 - i))) (turned_at slots (suc n) 0 pairs values)
      (λ i l. ap (λ (m : ℕ). turned slots (diagonal_at pairs values m)) (rw (le-ltb i 0 (omega arith)) (omega arith)))

  pub transposed_is : (count : ℕ) → transposed slots (view count pairs values) ≡ tabulate count (turned_at slots count (leading count pairs) pairs values)
  unfolding transposed view
  transposed_is zero = refl
  transposed_is (suc n) = rw (lt-ltb 0 (suc n) (omega arith)) (by_zero n (offset_at pairs 0 == 0))

-- the values of a turned diagonal, as they are written
pub turned_values : (values : List ℕ) (k : ℕ) → 0 < length values → tabulate (length values) (spin values (k % length values)) ≡ rotated values (pos k) (length values)
unfolding rotated
turned_values values k h = tabulate_cong (length values) _ _ (λ j l. ap (λ (x : ℕ). slice_index values x) (add-mod-mod j k (length values) ∙ sym (residue_pos (j + k) (length values) h)))

-- ---- the opposite offset

module _ (slots : ℕ) where
  opposite_zero : opposite slots 0 ≡ 0
  opposite_zero = rw sub-zero (mod_self slots)

  -- of an offset that is not 0
  opposite_is : (k : ℕ) → 0 < k → k < slots → opposite slots k ≡ slots - k
  opposite_is k p l = mod-eq_of_lt (omega arith)

  opposite_lt : (k : ℕ) → k < slots → opposite slots k < slots
  opposite_lt k l = mod-lt (slots - k) (omega arith)

  -- it is taken back
  opposite_opposite : (k : ℕ) → k < slots → opposite slots (opposite slots k) ≡ k
  opposite_opposite zero l = ap (opposite slots) opposite_zero ∙ opposite_zero
  opposite_opposite (suc k) l =
      let e : slots - (slots - suc k) ≡ suc k = omega arith in
      rw (opposite_is (suc k) (omega arith) l, e) (mod-eq_of_lt l)

  opposite_test : (k j : ℕ) → k < slots → j < slots → (opposite slots k == j) ≡ (k == opposite slots j)
  opposite_test k j hk hj =
      eqb_same (opposite slots k) j k (opposite slots j)
      (λ e. sym (opposite_opposite k hk) ∙ ap (opposite slots) e)
      (λ e. ap (opposite slots) e ∙ opposite_opposite j hj)

  -- larger ones have smaller opposites
  opposite_falls : (x y : ℕ) → 0 < x → y < slots → x < y → opposite slots y < opposite slots x
  opposite_falls x y p h l = rw (opposite_is x p (omega arith), opposite_is y (omega arith) h) (omega arith)

  -- column i of row j is on the diagonal opposite to that of column j of row i
  meets_opposite : (i j : ℕ) → i < slots → j < slots → opposite slots (meets slots i j) ≡ meets slots j i
  meets_opposite i j hi hj =
      let k = meets slots i j in
      let l : k < slots = mod-lt (j + (slots - i)) (omega arith) in
      let back : (j + opposite slots k) % slots ≡ i =
      ap (λ (x : ℕ). (x + opposite slots k) % slots) (sym (own_meets slots i hi j hj))
      ∙ sym (add-mod (i + k) (slots - k) slots)
      ∙ ap (λ (x : ℕ). x % slots) (let e : i + k + (slots - k) ≡ i + slots = omega arith in e)
      ∙ add-mod_right i slots
      ∙ mod-eq_of_lt hi in
      sym (meets_own slots j hj (opposite slots k) (opposite_lt k l)) ∙ ap (meets slots j) back

-- ---- the diagonals of the transposed map

-- the diagonals in the order of their opposites
abbrev ordered : List Diagonal → List Diagonal
ordered [] = []
ordered (d ∷ ds) = cond (d.offset == 0) (d ∷ reverse ds) (reverse (d ∷ ds))

module _ (slots : ℕ) where
  transposed_map : (ds : List Diagonal) → transposed slots ds ≡ map (turned slots) (ordered ds)
  unfolding transposed
  transposed_map [] = refl
  transposed_map (d ∷ ds) = by (d.offset == 0)
    where
      by : (b : Bool) → cond b (turned slots d ∷ reverse (map (turned slots) ds)) (reverse (map (turned slots) (d ∷ ds))) ≡ map (turned slots) (cond b (d ∷ reverse ds) (reverse (d ∷ ds)))
      by true = ap (λ (t : List Diagonal). turned slots d ∷ t) (sym (map_reverse (turned slots) ds))
      by false = sym (map_reverse (turned slots) (d ∷ ds))

ordered_each : (P : Diagonal → Type 0) (ds : List Diagonal) → Each P ds → Each P (ordered ds)
ordered_each P [] h = tt
ordered_each P (d ∷ ds) h = by (d.offset == 0)
  where
    by : (b : Bool) → Each P (cond b (d ∷ reverse ds) (reverse (d ∷ ds)))
    by true = (h.0, each_reverse P ds h.1)
    by false = each_reverse P (d ∷ ds) h

ordered_stretch : (k : ℕ) (ds : List Diagonal) → Rising (offsets_of ds) → stretch (ordered ds) k ≡ stretch ds k
ordered_stretch k [] r = refl
ordered_stretch k (d ∷ ds) r = by (d.offset == 0)
  where
    by : (b : Bool) → stretch (cond b (d ∷ reverse ds) (reverse (d ∷ ds))) k ≡ stretch (d ∷ ds) k
    by true = ap (cond (d.offset == k) d.values) (stretch_reverse k ds r.1)
    by false = stretch_reverse k (d ∷ ds) r

module _ (slots k : ℕ) (l : k < slots) where
  -- values turned by k
  abbrev spun : List ℕ → List ℕ
  spun v = rotated v (pos k) (length v)

  turned_stretch : (ds : List Diagonal) → Each (λ d. d.offset < slots) ds → stretch (map (turned slots) ds) k ≡ spun (stretch ds (opposite slots k))
  unfolding rotated
  turned_stretch [] h = refl
  turned_stretch (d ∷ ds) h =
      rw (opposite_test slots d.offset k h.0 l) (by (turned_stretch ds h.1) (d.offset == opposite slots k) refl)
    where
      by : stretch (map (turned slots) ds) k ≡ spun (stretch ds (opposite slots k)) → (b : Bool) → (d.offset == opposite slots k) ≡ b → cond b (turned slots d).values (stretch (map (turned slots) ds) k) ≡ spun (cond b d.values (stretch ds (opposite slots k)))
      by rest true e = ap (λ (x : ℕ). rotated d.values (pos x) (length d.values)) (ap (opposite slots) (eqb-true _ _ e) ∙ opposite_opposite slots k l)
      by rest false e = rest

  -- turned values at i are the values at j, where j is (i + k) mod slots
  spun_cell : (v : List ℕ) (i j : ℕ) → 1 ≤ length v → length v ∣ slots → (i + k) % slots ≡ j → cell (spun v) i ≡ cell v j
  spun_cell v i j h d e =
      ap (λ (n : ℕ). slice_index (spun v) (i % n)) (length_rotated v (pos k) (length v))
      ∙ get_or_rotated v (pos k) (length v) (i % length v) (mod-lt i h)
      ∙ ap (λ (x : ℕ). slice_index v x)
      (residue_pos (i % length v + k) (length v) h
      ∙ mod-add-mod i (length v) k
      ∙ sym (mod-mod_of_dvd (length v) (i + k) d)
      ∙ ap (λ (x : ℕ). x % length v) e)

-- ---- its offsets_of rise

module _ (slots : ℕ) where
  turned_offsets_of : (xs : List Diagonal) → offsets_of (map (turned slots) xs) ≡ map (opposite slots) (offsets_of xs)
  turned_offsets_of [] = refl
  turned_offsets_of (x ∷ xs) = ap (λ (t : List ℕ). opposite slots x.offset ∷ t) (turned_offsets_of xs)

  abbrev Inner : Diagonal → Type 0
  Inner d = (0 < d.offset) × (d.offset < slots)

  -- of offsets_of that are not 0
  inner_rising : (ds : List Diagonal) → Each Inner ds → Rising (offsets_of ds) → Rising (map (opposite slots) (offsets_of (reverse ds)))
  inner_rising ds h r =
      subst Rising (sym (ap (map (opposite slots)) (map_reverse (λ (d : Diagonal). d.offset) ds) ∙ map_reverse (opposite slots) (offsets_of ds)))
      (rising_reverse (opposite slots) (λ x. (0 < x) × (x < slots)) (λ x y p q l. opposite_falls slots x y p.0 q.1 l) (offsets_of ds) (each_map (λ x. (0 < x) × (x < slots)) (λ (d : Diagonal). d.offset) ds h) r)

  ordered_rising : (ds : List Diagonal) → Each (λ d. d.offset < slots) ds → Rising (offsets_of ds) → Rising (map (opposite slots) (offsets_of (ordered ds)))
  ordered_rising [] h r = tt
  ordered_rising (d ∷ ds) h r = by (d.offset == 0) refl
    where
      above : Each Inner ds
      above = each_both (λ x l m. (omega arith, m)) ds (map_each (λ y. d.offset < y) (λ (x : Diagonal). x.offset) ds r.0) h.1

      by : (b : Bool) → (d.offset == 0) ≡ b → Rising (map (opposite slots) (offsets_of (cond b (d ∷ reverse ds) (reverse (d ∷ ds)))))
      by true e =
          let z : opposite slots d.offset ≡ 0 = ap (opposite slots) (eqb-true _ _ e) ∙ opposite_zero slots in (
            each_map (λ y. opposite slots d.offset < y) (opposite slots) (offsets_of (reverse ds))
                (each_map (λ y. opposite slots d.offset < opposite slots y) (λ (x : Diagonal). x.offset) (reverse ds)
                (each_reverse (λ x. opposite slots d.offset < opposite slots x.offset) ds
                (each_then (λ x (p : Inner x). rw (z, opposite_is slots x.offset p.0 p.1) (omega (arith, p.1))) ds above))),
            inner_rising ds above r.1,
          )
      by false e = inner_rising (d ∷ ds) ((omega (arith, eqb-false d.offset 0 e), h.0), above) r

module _ (slots : ℕ) (ds : List Diagonal) (f : FormedMap slots ds) where
  -- diagonal k of the transposed map is the opposite one, turned by k
  pub transposed_stretch : (k : ℕ) → k < slots → stretch (transposed slots ds) k ≡ rotated (stretch ds (opposite slots k)) (pos k) (length (stretch ds (opposite slots k)))
  transposed_stretch k l =
      ap (λ (t : List Diagonal). stretch t k) (transposed_map slots ds)
      ∙ turned_stretch slots k l (ordered ds) (ordered_each (λ d. d.offset < slots) ds (formed_low slots ds f))
      ∙ ap (spun slots k l) (ordered_stretch (opposite slots k) ds f.rising)

  -- the matrix is transposed
  pub transposed_matrix : (i j : ℕ) → i < slots → j < slots → matrix slots (transposed slots ds) i j ≡ matrix slots ds j i
  unfolding matrix rotated
  transposed_matrix i j hi hj =
      let k = meets slots i j in
      let l : k < slots = mod-lt (j + (slots - i)) (omega arith) in
      ap (λ (v : List ℕ). cell v i) (transposed_stretch k l)
      ∙ stretch_each (opposite slots k) (λ v. cell (spun slots k l v) i ≡ cell v j) refl ds
      (each_then (λ d (h : Formed slots d). spun_cell slots k l d.values i j h.some h.divides (own_meets slots i hi j hj)) ds f.each)
      ∙ ap (λ (x : ℕ). cell (stretch ds x) j) (meets_opposite slots i j hi hj)

  -- and the map is well formed again
  pub transposed_formed : FormedMap slots (transposed slots ds)
  transposed_formed =
      record {
        each = rw (transposed_map slots ds) (each_map _ (turned slots) (ordered ds)
            (each_then (λ d (h : Formed slots d). record { low = opposite_lt slots d.offset h.low; some = rw length_rotated h.some; divides = rw length_rotated h.divides }) (ordered ds) (ordered_each _ ds f.each)));
        rising = rw (transposed_map slots ds, turned_offsets_of) (ordered_rising slots ds (formed_low slots ds f) f.rising);
      }

  -- so its product is the transposed matrix times the vector
  pub transposed_product : (m : ℕ) (input : List ℕ) (i : ℕ) → i < slots → product m slots (transposed slots ds) input i ≡ dot m slots (λ j. matrix slots ds j i) input
  transposed_product m input i l =
      product_is_matrix m slots i input l (transposed slots ds) transposed_formed
      ∙ dot_cong m slots (matrix slots (transposed slots ds) i) (λ j. matrix slots ds j i) input (λ j h. transposed_matrix i j l h)
