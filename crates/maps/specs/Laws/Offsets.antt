-- Laws of the offsets: each matrix map has the diagonals that its formula's indexes name, no others and none left out.
-- Assumes nothing.
use Rattle.std.specs.Prelude.{◌≡◌, ℕ, ◌+◌, ◌-◌, ◌*◌, ◌%◌, ◌<◌, ◌≤◌, Bool, true, false, cond, List, [], ◌∷◌, map, ℤ, pos, ◌-ℤ◌, ◌==◌, nat_le, nat_lt}
use Rattle.std.proofs.Math.Path.{refl, sym, ap, subst}
use Rattle.std.proofs.Common.{◌∙◌, mod-lt, add_comm}
use mathlib.Core.List.Memᴰ
use mathlib.Core.List.{Memᴰ}
use Rattle.std.proofs.Math.Logic.{⊎_elim}
use Rattle.std.proofs.Math.Nat.{mod-eq_of_lt, mod-eq-sub-mod, add-mod-mod, add-mod_right, suc-mul, zero-mod, mul-le-mul_right, mul-lt-mul_of_pos_right}
use native.Mathlib.Omega.{arith}
use borrow.Author.Tests.{eq-eqb, lt-ltb, le-leb, ltb-true, leb-true}
use Rattle.ring.specs.Lists.{join, Each}
use Rattle.ring.specs.Vectors.{tabulate}
use Rattle.ring.specs.Residues.{residue_of, named, diagonals_of}
use Rattle.ring.specs.Laws.Lists.{each_then, each_map, each_append, each_tabulate, rising_tabulate}
use Rattle.ring.specs.Laws.Vectors.{length_tabulate, get_or_tabulate, tabulate_cong, map_tabulate}
use Rattle.ring.specs.Laws.Searches.{lt_or_ge}
use Rattle.ring.specs.Laws.Residues.{residue_pos, equal_gaps, gap_pos}
use Rattle.ring.specs.Laws.Indexes.{mem_tabulate, mem_named, same_diagonals, rising_diagonals, one_diagonal}
use Rattle.diagonals.specs.Maps.{Diagonal, offsets_of}
use Rattle.diagonals.specs.SlotMaps.{Term, difference, offset_of, reached}
use Rattle.diagonals.specs.Laws.SlotMaps.{reached_named, reached_at, slot_map_offsets}
use Rattle.diagonals.specs.Laws.Terms.{reached_row}
use Rattle.diagonals.specs.Laws.Shrinking.{shrunk_offsets}
use Rattle.maps.specs.declared.rules.Rule.{Rule}
use Rattle.maps.specs.declared.rules.Rule.TheVariants.{Sigma, Tau, Transpose, RotateRows, RotateCols, RowsUpper, RowsLower, ColsLeft, ColsRight, RowsLeft, RowsRight}
use Rattle.maps.specs.declared.rules.Product.{Product}
use Rattle.maps.specs.declared.rules.Product.TheVariants.{RightMul, LeftMul, RightJkls, LeftJkls}
use Rattle.maps.specs.Entries.{Entry, InMatrix, place, entry_of, slot_of}
use Rattle.maps.specs.Readings.{reading, reads, read_terms, rule_terms, whole_map, rule_map, made_shift, tau_rep, rotate_rows_rep}
use Rattle.maps.specs.Sums.{factors, period_of, sum_term, output_terms, product_map, left_mul_rep}
use Rattle.maps.specs.Values.{slot_product, first_row, first_col}
use Rattle.maps.specs.Offsets.{forward, around, kept, wrapped, turned, rule_indexes, product_indexes}
use Rattle.maps.specs.Laws.Entries.{place_low, entry_of_place, entry_inside, slot_is, place_is}
use Rattle.maps.specs.Laws.Terms.{each_join}

-- ---- what the lists of indexes hold

-- how far it is from row or column b to a
abbrev pub gap : ℕ → ℕ → ℕ → ℤ
gap step a b = pos (a * step) -ℤ pos (b * step)

-- indexes that a test lets pass
each_test : (P : ℤ → Type 0) (t : Bool) (zs : List ℤ) → (t ≡ true → Each P zs) → Each P (cond t zs [])
each_test P true zs h = h refl
each_test P false zs h = tt

module _ (d step : ℕ) where
  -- all that is from one of d rows or columns to one
  pub around_has : (a b : ℕ) → a < d → b < d → Memᴰ (gap step a b) (around d step)
  unfolding around
  around_has a b h k =
      let q : ℕ = d - 1 - b in
      let e : q + b ≡ d - 1 = omega arith in
      Memᴰ.cast (equal_gaps (a * step) (b * step) ((a + q) * step) ((d - 1) * step) (omega (arith, ap (λ (x : ℕ). x * step) e)))
      (mem_tabulate (2 * d - 1) (λ j. gap step j (d - 1)) (a + q) (omega arith))

  pub around_each : (P : ℤ → Type 0) → ((a b : ℕ) → a < d → b < d → P (gap step a b)) → Each P (around d step)
  unfolding around
  around_each P f =
      each_tabulate P (2 * d - 1) (λ j. gap step j (d - 1))
      (λ j l.
      let a : ℕ = j - (d - 1) in
      let b : ℕ = d - 1 - j in
      let e : a + (d - 1) ≡ j + b = omega arith in
      subst P (equal_gaps (a * step) (b * step) (j * step) ((d - 1) * step) (omega (arith, ap (λ (x : ℕ). x * step) e))) (f a b (omega arith) (omega arith)))

  module _ (k : ℕ) where
    -- from x to x + k
    kept_gap : (x : ℕ) → gap step (x + k) x ≡ pos (k * step)
    kept_gap x = gap_pos ((x + k) * step) (x * step) (k * step) (omega arith)

    kept_has : (x : ℕ) → x + k < d → Memᴰ (gap step (x + k) x) (kept d step k)
    unfolding kept
    kept_has x l = rw (lt-ltb k d (omega arith)) (Memᴰ.head (kept_gap x))

    kept_each : (P : ℤ → Type 0) → ((x : ℕ) → x + k < d → P (gap step (x + k) x)) → Each P (kept d step k)
    unfolding kept
    kept_each P h = each_test P (nat_lt k d) (pos (k * step) ∷ []) (λ e. (subst P (kept_gap 0) (h 0 (omega (arith, ltb-true k d e))), tt))

    -- and to x + k - d
    wrapped_gap : (x : ℕ) → d ≤ x + k → gap step (x + k - d) x ≡ gap step k d
    wrapped_gap x l =
        let e : x + k - d + d ≡ x + k = omega arith in
        equal_gaps ((x + k - d) * step) (x * step) (k * step) (d * step) (omega (arith, ap (λ (y : ℕ). y * step) e))

    wrapped_has : (x : ℕ) → x < d → d ≤ x + k → Memᴰ (gap step (x + k - d) x) (wrapped d step k)
    unfolding wrapped
    wrapped_has x h l = rw (le-leb 1 k (omega arith)) (Memᴰ.head (wrapped_gap x l))

    wrapped_each : 1 ≤ d → (P : ℤ → Type 0) → ((x : ℕ) → x < d → d ≤ x + k → P (gap step (x + k - d) x)) → Each P (wrapped d step k)
    unfolding wrapped
    wrapped_each n P h =
        each_test P (nat_le 1 k) (gap step k d ∷ [])
        (λ e.
        let l : d ≤ d - 1 + k = omega (arith, leb-true 1 k e) in
        (subst P (wrapped_gap (d - 1) l) (h (d - 1) (omega arith) l), tt))

    -- and to (x + k) mod d
    goes_round_lem : (x : ℕ) → x < d → k ≤ d → d ≤ x + k → x + k - d ≡ (x + k) % d
    goes_round_lem x h l m = sym (mod-eq-sub-mod m ∙ mod-eq_of_lt (omega arith))

    turned_has : (x : ℕ) → x < d → k ≤ d → Memᴰ (gap step ((x + k) % d) x) (turned d step k)
    unfolding turned
    turned_has x h l =
        ⊎_elim
        (λ (m : x + k < d). Memᴰ.append_left {s = kept d step k} (wrapped d step k) (rw (mod-eq_of_lt m) (kept_has x m)))
        (λ (m : d ≤ x + k). Memᴰ.append_right (kept d step k) {t = wrapped d step k} (rw (← (goes_round_lem x h l m)) (wrapped_has x h m)))
        (lt_or_ge (x + k) d)

    turned_each : 1 ≤ d → k ≤ d → (P : ℤ → Type 0) → ((x : ℕ) → x < d → P (gap step ((x + k) % d) x)) → Each P (turned d step k)
    unfolding turned
    turned_each n l P h =
        each_append P (kept d step k) (wrapped d step k)
        (kept_each P (λ x m. rw (mod-eq_of_lt m) at (h x (omega arith))))
        (wrapped_each n P (λ x i m. rw (goes_round_lem x i l m) (h x i)))

-- ---- how far an output reads

module _ (d : ℕ) where
  -- in its column, in its row, and from (b, a) to (a, b)
  row_gap : (c a b : ℕ) → pos (a * d + c) -ℤ pos (b * d + c) ≡ gap d a b
  row_gap c a b = equal_gaps (a * d + c) (b * d + c) (a * d) (b * d) (omega arith)

  col_gap : (r a b : ℕ) → pos (r * d + a) -ℤ pos (r * d + b) ≡ gap 1 a b
  col_gap r a b = equal_gaps (r * d + a) (r * d + b) (a * 1) (b * 1) (omega arith)

  cross_gap : (a b : ℕ) → 1 ≤ d → pos (a * d + b) -ℤ pos (b * d + a) ≡ gap (d - 1) a b
  cross_gap a b h =
      let e : d - 1 + 1 ≡ d = omega arith in
      equal_gaps (a * d + b) (b * d + a) (a * (d - 1)) (b * (d - 1)) (omega (arith, ap (λ (x : ℕ). a * x) e, ap (λ (x : ℕ). b * x) e))

-- the number that gives a where b is added to it, modulo d
turn_back : (d a b : ℕ) → a < d → b < d → (b + (a + (d - b)) % d) % d ≡ a
turn_back d a b h k =
    let e : b + (a + (d - b)) ≡ a + d = omega arith in
    add-mod-mod b (a + (d - b)) d ∙ rw e (add-mod_right a d ∙ mod-eq_of_lt h)

each_reading : (P : Entry → Type 0) (t : Bool) (r c : ℕ) → (t ≡ true → P (record { row = r; col = c })) → Each P (reading t r c)
each_reading P true r c h = (h refl, tt)
each_reading P false r c h = tt

module _ (d r c : ℕ) (h : r < d) (k : c < d) where
  abbrev Listed : Rule → Entry → Type 0
  Listed rule e = Memᴰ (pos (place d e) -ℤ pos (r * d + c)) (rule_indexes rule d)

  low : (x : ℕ) → x % d < d
  low x = mod-lt x (omega arith)

  -- what output (r, c) reads is at an index of the map
  reads_listed : (rule : Rule) → made_shift rule d ≤ d → Each (Listed rule) (reads rule d r c)
  unfolding reads rule_indexes
  reads_listed Sigma l = (Memᴰ.cast (col_gap d r ((r + c) % d) c) (around_has d 1 ((r + c) % d) c (low (r + c)) k), tt)
  reads_listed Tau l = (Memᴰ.cast (row_gap d c ((r + c) % d) r) (around_has d d ((r + c) % d) r (low (r + c)) h), tt)
  reads_listed Transpose l = (Memᴰ.cast (cross_gap d c r (omega arith)) (around_has d (d - 1) c r k h), tt)
  reads_listed (RotateRows x) l = (Memᴰ.cast (row_gap d c ((r + x % d) % d) r) (turned_has d d (x % d) r h l), tt)
  reads_listed (RotateCols x) l = (Memᴰ.cast (col_gap d r ((c + x % d) % d) c) (turned_has d 1 (x % d) c k l), tt)
  reads_listed (RowsUpper x) l = each_reading (Listed (RowsUpper x)) (nat_lt (r + x) d) (r + x) c (λ e. Memᴰ.cast (row_gap d c (r + x) r) (kept_has d d x r (ltb-true (r + x) d e)))
  reads_listed (RowsLower x) l = each_reading (Listed (RowsLower x)) (nat_le d (r + x)) (r + x - d) c (λ e. Memᴰ.cast (row_gap d c (r + x - d) r) (wrapped_has d d x r h (leb-true d (r + x) e)))
  reads_listed (ColsLeft x) l = each_reading (Listed (ColsLeft x)) (nat_lt (c + x) d) r (c + x) (λ e. Memᴰ.cast (col_gap d r (c + x) c) (kept_has d 1 x c (ltb-true (c + x) d e)))
  reads_listed (ColsRight x) l = each_reading (Listed (ColsRight x)) (nat_le d (c + x)) r (c + x - d) (λ e. Memᴰ.cast (col_gap d r (c + x - d) c) (wrapped_has d 1 x c k (leb-true d (c + x) e)))
  reads_listed (RowsLeft x) l =
      each_reading (Listed (RowsLeft x)) (nat_lt (c + x) d) ((r + x) % d) c
      (λ e. rw (lt-ltb x d (omega (arith, ltb-true (c + x) d e))) (Memᴰ.cast (row_gap d c ((r + x) % d) r) (turned_has d d x r h l)))
  reads_listed (RowsRight x) l =
      each_reading (Listed (RowsRight x)) (nat_le d (c + x)) ((r + x) % d) c
      (λ e. rw (le-leb 1 x (omega (arith, leb-true d (c + x) e))) (Memᴰ.cast (row_gap d c ((r + x) % d) r) (turned_has d d x r h l)))

-- an output that reads at index z
record ReadsAt (rule : Rule) (d : ℕ) (z : ℤ) : Type 0 where
  output : Entry
  inside : InMatrix d output
  entry : Entry
  found : reads rule d output.row output.col ≡ entry ∷ []
  is : pos (place d entry) -ℤ pos (place d output) ≡ z

module _ (d : ℕ) (n : 1 ≤ d) where
  -- output (b, c) that reads (a, c), and output (r, b) that reads (r, a)
  in_column : (rule : Rule) (c a b : ℕ) → b < d → c < d → reads rule d b c ≡ record { row = a; col = c } ∷ [] → ReadsAt rule d (gap d a b)
  in_column rule c a b h k e =
      record { output = record { row = b; col = c }; inside = record { row_low = h; col_low = k }; entry = record { row = a; col = c }; found = e; is = row_gap d c a b }

  in_row : (rule : Rule) (r a b : ℕ) → r < d → b < d → reads rule d r b ≡ record { row = r; col = a } ∷ [] → ReadsAt rule d (gap 1 a b)
  in_row rule r a b h k e =
      record { output = record { row = r; col = b }; inside = record { row_low = h; col_low = k }; entry = record { row = r; col = a }; found = e; is = col_gap d r a b }

  -- at each index of the map some output reads
  listed_reads : (rule : Rule) → made_shift rule d ≤ d → Each (ReadsAt rule d) (rule_indexes rule d)
  unfolding reads rule_indexes
  listed_reads Sigma l =
      around_each d 1 (ReadsAt Sigma d)
      (λ a b h k. let r : ℕ = (a + (d - b)) % d in in_row Sigma r a b (mod-lt (a + (d - b)) n) k (rw (add_comm r b, turn_back d a b h k)))
  listed_reads Tau l =
      around_each d d (ReadsAt Tau d)
      (λ a b h k. in_column Tau ((a + (d - b)) % d) a b k (mod-lt (a + (d - b)) n) (rw (turn_back d a b h k)))
  listed_reads Transpose l =
      around_each d (d - 1) (ReadsAt Transpose d)
      (λ a b h k.
      record { output = record { row = b; col = a }; inside = record { row_low = k; col_low = h }; entry = record { row = a; col = b }; found = refl; is = cross_gap d a b n })
  listed_reads (RotateRows x) l = turned_each d d (x % d) n l (ReadsAt (RotateRows x) d) (λ y h. in_column (RotateRows x) 0 ((y + x % d) % d) y h n refl)
  listed_reads (RotateCols x) l = turned_each d 1 (x % d) n l (ReadsAt (RotateCols x) d) (λ y h. in_row (RotateCols x) 0 ((y + x % d) % d) y n h refl)
  listed_reads (RowsUpper x) l = kept_each d d x (ReadsAt (RowsUpper x) d) (λ y h. in_column (RowsUpper x) 0 (y + x) y (omega arith) n (rw (lt-ltb (y + x) d h)))
  listed_reads (RowsLower x) l = wrapped_each d d x n (ReadsAt (RowsLower x) d) (λ y h k. in_column (RowsLower x) 0 (y + x - d) y h n (rw (le-leb d (y + x) k)))
  listed_reads (ColsLeft x) l = kept_each d 1 x (ReadsAt (ColsLeft x) d) (λ y h. in_row (ColsLeft x) 0 (y + x) y n (omega arith) (rw (lt-ltb (y + x) d h)))
  listed_reads (ColsRight x) l = wrapped_each d 1 x n (ReadsAt (ColsRight x) d) (λ y h k. in_row (ColsRight x) 0 (y + x - d) y n h (rw (le-leb d (y + x) k)))
  listed_reads (RowsLeft x) l =
      each_test (ReadsAt (RowsLeft x) d) (nat_lt x d) (turned d d x)
      (λ e. turned_each d d x n l (ReadsAt (RowsLeft x) d) (λ y h. in_column (RowsLeft x) 0 ((y + x) % d) y h n (rw (lt-ltb (0 + x) d (omega (arith, ltb-true x d e))))))
  listed_reads (RowsRight x) l =
      each_test (ReadsAt (RowsRight x) d) (nat_le 1 x) (turned d d x)
      (λ e. turned_each d d x n l (ReadsAt (RowsRight x) d) (λ y h. in_column (RowsRight x) (d - 1) ((y + x) % d) y h (omega arith) (rw (le-leb d (d - 1 + x) (omega (arith, leb-true 1 x e))))))

-- ---- the maps that read one entry or none

module _ (m slots d : ℕ) (rule : Rule) (h : 1 ≤ d) (l : made_shift rule d ≤ d) where
  abbrev terms : List Term
  terms = rule_terms rule d

  term_named : (t : ℕ) → t < d * d → Each (λ x. named slots (rule_indexes rule d) (offset_of slots x) ≡ true) (read_terms rule d t)
  term_named t k =
      each_map _ (λ e. record { i = t; j = place d e; w = 1 }) (reads rule d (entry_of d t).row (entry_of d t).col)
      (each_then
      (λ e (m : Memᴰ (pos (place d e) -ℤ pos (place d (entry_of d t))) (rule_indexes rule d)). mem_named slots (rw (place_is d t h k) at m))
      (reads rule d (entry_of d t).row (entry_of d t).col)
      (reads_listed d (entry_of d t).row (entry_of d t).col (entry_inside d t h).row_low (entry_inside d t h).col_low rule l))

  reads_reached : (z : ℤ) → ReadsAt rule d z → reached slots terms (residue_of z slots) ≡ true
  reads_reached z w =
      let t : ℕ = place d w.output in
      let f : Entry → Term = λ e. record { i = t; j = place d e; w = 1 } in
      let one : read_terms rule d t ≡ f w.entry ∷ [] = ap (λ (y : Entry). map f (reads rule d y.row y.col)) (entry_of_place d w.output w.inside) ∙ ap (map f) w.found in
      reached_row (read_terms rule d) slots (residue_of z slots) (d * d) t (place_low d w.output w.inside)
      (rw (one, w.is, eq-eqb (residue_of z slots) (residue_of z slots) refl))

  -- the offsets of the map before it shrinks
  pub whole_map_offsets : offsets_of (whole_map m slots d rule) ≡ diagonals_of slots (rule_indexes rule d)
  unfolding whole_map
  whole_map_offsets =
      slot_map_offsets m slots (d * d) terms
      ∙ same_diagonals slots (map difference terms) (rule_indexes rule d)
      (each_map _ difference terms (each_join _ (read_terms rule d) (tabulate (d * d) (λ t. t)) (each_tabulate _ (d * d) (λ t. t) term_named)))
      (each_then (λ z w. sym (reached_named slots terms (residue_of z slots)) ∙ reads_reached z w) (rule_indexes rule d) (listed_reads d h rule l))

  -- and afterwards
  pub rule_map_offsets : offsets_of (rule_map m slots d rule) ≡ diagonals_of slots (rule_indexes rule d)
  unfolding rule_map
  rule_map_offsets = shrunk_offsets (whole_map m slots d rule) ∙ whole_map_offsets

-- ---- the products by public matrices

-- what a summand of output (r, c) reads is at an index of the map
factors_listed : (p : Product) (d r c l : ℕ) → r < d → c < d → l < d → Memᴰ (pos (place d (factors p d r c l).input) -ℤ pos (r * d + c)) (product_indexes p d)
unfolding factors product_indexes
factors_listed RightMul d r c l h k n = Memᴰ.cast (col_gap d r l c) (around_has d 1 l c n k)
factors_listed LeftMul d r c l h k n = Memᴰ.cast (row_gap d c l r) (around_has d d l r n h)
factors_listed RightJkls d r c l h k n = Memᴰ.cast (col_gap d r ((c + l) % d) c) (around_has d 1 ((c + l) % d) c (mod-lt (c + l) (omega arith)) k)
factors_listed LeftJkls d r c l h k n = Memᴰ.cast (row_gap d c ((r + l) % d) r) (around_has d d ((r + l) % d) r (mod-lt (r + l) (omega arith)) h)

-- a summand, of an output below the period, that reads at index z
record SumsAt (p : Product) (d period : ℕ) (z : ℤ) : Type 0 where
  output : Entry
  inside : InMatrix d output
  low : place d output < period
  l : ℕ
  l_low : l < d
  is : pos (place d (factors p d output.row output.col l).input) -ℤ pos (place d output) ≡ z

module _ (m slots d count : ℕ) (h : 1 ≤ d) (n : 1 ≤ count) where
  whole_low : (e : Entry) → InMatrix d e → place d e < count * (d * d)
  whole_low e i = omega (arith, place_low d e i, mul-le-mul_right {m = 1} {n = count} (d * d) n)

  narrow_low : (b : ℕ) → b < d → (t : Bool) → 0 * d + b < cond t d (count * (d * d))
  narrow_low b k true = omega arith
  narrow_low b k false = whole_low (record { row = 0; col = b }) (record { row_low = h; col_low = k })

  -- of an output in the first row, and in the first column
  first_row_lem : (p : Product) (a b l : ℕ) → b < d → l < d → (factors p d 0 b l).input ≡ record { row = 0; col = a } → 0 * d + b < period_of p d count → SumsAt p d (period_of p d count) (gap 1 a b)
  first_row_lem p a b l k m e i =
      record {
        output = record { row = 0; col = b };
        inside = record { row_low = h; col_low = k };
        low = i;
        l = l;
        l_low = m;
        is = rw e (col_gap d 0 a b);
      }

  first_column : (p : Product) (a b l : ℕ) → b < d → l < d → (factors p d b 0 l).input ≡ record { row = a; col = 0 } → period_of p d count ≡ count * (d * d) → SumsAt p d (period_of p d count) (gap d a b)
  first_column p a b l k m e i =
      record {
        output = record { row = b; col = 0 };
        inside = record { row_low = k; col_low = h };
        low = rw i (whole_low (record { row = b; col = 0 }) (record { row_low = k; col_low = h }));
        l = l;
        l_low = m;
        is = rw e (row_gap d 0 a b);
      }

  -- at each index of the map some summand reads
  listed_sums : (p : Product) → Each (SumsAt p d (period_of p d count)) (product_indexes p d)
  unfolding factors product_indexes period_of
  listed_sums RightMul = around_each d 1 (SumsAt RightMul d (period_of RightMul d count)) (λ a b k m. first_row_lem RightMul a b a m k refl (narrow_low b m (count == 1)))
  listed_sums LeftMul = around_each d d (SumsAt LeftMul d (period_of LeftMul d count)) (λ a b k m. first_column LeftMul a b a m k refl refl)
  listed_sums RightJkls =
      around_each d 1 (SumsAt RightJkls d (period_of RightJkls d count))
      (λ a b k m. first_row_lem RightJkls a b ((a + (d - b)) % d) m (mod-lt (a + (d - b)) h) (rw (turn_back d a b k m)) (narrow_low b m false))
  listed_sums LeftJkls =
      around_each d d (SumsAt LeftJkls d (period_of LeftJkls d count))
      (λ a b k m. first_column LeftJkls a b ((a + (d - b)) % d) m (mod-lt (a + (d - b)) h) (rw (turn_back d a b k m)) refl)

  module _ (p : Product) (b : List ℕ) where
    abbrev sums : List Term
    sums = join (output_terms p d count b) (tabulate (period_of p d count) (λ t. t))

    -- a summand reads in the matrix slot of its output
    sum_gap : (t l : ℕ) → difference (sum_term p d count b t l) ≡ pos (place d (factors p d (entry_of d t).row (entry_of d t).col l).input) -ℤ pos (place d (entry_of d t))
    sum_gap t l =
        let x : ℕ = place d (factors p d (entry_of d t).row (entry_of d t).col l).input in
        equal_gaps (slot_of d t * (d * d) + x) t x (place d (entry_of d t)) (omega (arith, slot_is d t h))

    sum_named : (t l : ℕ) → l < d → named slots (product_indexes p d) (residue_of (difference (sum_term p d count b t l)) slots) ≡ true
    sum_named t l k =
        mem_named slots (Memᴰ.cast (sum_gap t l) (factors_listed p d (entry_of d t).row (entry_of d t).col l (entry_inside d t h).row_low (entry_inside d t h).col_low k))

    sums_reached : (z : ℤ) → SumsAt p d (period_of p d count) z → reached slots sums (residue_of z slots) ≡ true
    sums_reached z w =
        let t : ℕ = place d w.output in
        let e : difference (sum_term p d count b t w.l) ≡ z =
        sum_gap t w.l ∙ ap (λ (y : Entry). pos (place d (factors p d y.row y.col w.l).input) -ℤ pos (place d y)) (entry_of_place d w.output w.inside) ∙ w.is in
        reached_row (output_terms p d count b) slots (residue_of z slots) (period_of p d count) t w.low
        (rw (get_or_tabulate d (sum_term p d count b t) w.l (sum_term p d count b t 0) w.l_low, e) at
        (reached_at slots (output_terms p d count b t) w.l (sum_term p d count b t 0) (rw length_tabulate w.l_low)))

    -- the offsets of a product, whatever the public matrices are
    pub product_map_offsets : offsets_of (product_map m slots d count p b) ≡ diagonals_of slots (product_indexes p d)
    unfolding product_map
    product_map_offsets =
        slot_map_offsets m slots (period_of p d count) sums
        ∙ same_diagonals slots (map difference sums) (product_indexes p d)
        (each_map _ difference sums
        (each_join _ (output_terms p d count b) (tabulate (period_of p d count) (λ t. t))
        (each_tabulate _ (period_of p d count) (λ t. t) (λ t k. each_tabulate _ d (sum_term p d count b t) (sum_named t)))))
        (each_then (λ z w. sym (reached_named slots sums (residue_of z slots)) ∙ sums_reached z w) (product_indexes p d) (listed_sums p))

-- ---- the maps on replicated inputs, products by slot vectors and projections

module _ (slots d : ℕ) (k : 0 < slots) (v : d * d ≤ slots) where
  -- j·d for j < d, in this order
  pub forward_diagonals : diagonals_of slots (forward d d) ≡ tabulate d (λ j. j * d)
  unfolding forward
  forward_diagonals =
      let e : map (λ (z : ℤ). residue_of z slots) (tabulate d (λ j. pos (j * d))) ≡ tabulate d (λ j. j * d) =
      map_tabulate (λ z. residue_of z slots) d (λ j. pos (j * d))
      ∙ tabulate_cong d (λ j. residue_of (pos (j * d)) slots) (λ j. j * d) (λ j l. residue_pos (j * d) slots k ∙ mod-eq_of_lt (omega (arith, suc-mul j d, mul-le-mul_right {m = j + 1} {n = d} d (omega arith)))) in
      rising_diagonals slots k (tabulate d (λ j. pos (j * d))) (rw e (rising_tabulate d (λ j. j * d) (λ i j l m. mul-lt-mul_of_pos_right l (omega arith)))) ∙ e

  -- `tau_rep` and `left_mul_rep`
  pub tau_rep_offsets : offsets_of (tau_rep d) ≡ diagonals_of slots (forward d d)
  unfolding tau_rep
  tau_rep_offsets = map_tabulate (λ (x : Diagonal). x.offset) d (λ c. record { offset = c * d; values = tabulate d (λ x. cond (x == c) 1 0) }) ∙ sym forward_diagonals

  pub left_mul_rep_offsets : (b : List ℕ) → offsets_of (left_mul_rep d b) ≡ diagonals_of slots (forward d d)
  unfolding left_mul_rep
  left_mul_rep_offsets b = map_tabulate (λ (x : Diagonal). x.offset) d _ ∙ sym forward_diagonals

module _ (slots : ℕ) (k : 0 < slots) where
  -- `rotate_rows_rep`: k·d
  pub rotate_rows_rep_offsets : (d x : ℕ) → offsets_of (rotate_rows_rep slots d x) ≡ diagonals_of slots (pos (x * d) ∷ [])
  unfolding rotate_rows_rep
  rotate_rows_rep_offsets d x = sym (one_diagonal slots k (pos (x * d)) ∙ ap (λ (y : ℕ). y ∷ []) (residue_pos (x * d) slots k))

  -- the projections and `slot_product`: 0
  zero_diagonal : 0 ∷ [] ≡ diagonals_of slots (pos 0 ∷ [])
  zero_diagonal = sym (one_diagonal slots k (pos 0) ∙ ap (λ (y : ℕ). y ∷ []) (residue_pos 0 slots k ∙ zero-mod slots))

  pub first_row_offsets : (d : ℕ) → offsets_of (first_row d) ≡ diagonals_of slots (pos 0 ∷ [])
  unfolding first_row
  first_row_offsets d = zero_diagonal

  pub first_col_offsets : (d : ℕ) → offsets_of (first_col d) ≡ diagonals_of slots (pos 0 ∷ [])
  unfolding first_col
  first_col_offsets d = zero_diagonal

  pub slot_product_offsets : (values : List ℕ) (rotation : ℤ) → offsets_of (slot_product values rotation) ≡ diagonals_of slots (pos 0 ∷ [])
  unfolding slot_product
  slot_product_offsets values rotation = zero_diagonal
