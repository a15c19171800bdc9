-- Laws of the pairs of a tree's levels, by the places of the leaves: a pair starts with the first leaf under its odd node, and
-- the switches of all levels are those of the starts.
-- Assumes nothing.
use Rattle.std.specs.Prelude.{◌≡◌, ℕ, zero, suc, ◌+◌, ◌-◌, ◌*◌, ◌/◌, ◌%◌, ◌^◌, ◌<◌, ◌≤◌, Bool, true, false, cond, not, ◌&&◌, ◌≢◌, List, [], ◌∷◌, ◌++◌, map, length, ◌==◌, slice_index, refl}
use Rattle.std.proofs.Math.Path.{sym, ap, ap₂}
use Rattle.std.proofs.Common.{◌∙◌, true≢false, not-suc-le-zero, add-zero, suc-mul, mod-eq_of_lt, le-div_iff_mul-le, div-mul-le_self, eq-or-lt_of_le, le_of_eq}
use Rattle.std.proofs.Math.Logic.{⊎_elim}
use mathlib.Core.List.{map-map, map-append, append-nil, append_assoc}
use Rattle.std.proofs.Math.Nat.{div-eq_of_lt, mul-add-div_right, mul-add-mod_self_right}
use Rattle.std.proofs.Math.Decide.{ℕ_discrete}
use native.Mathlib.Omega.{arith}
use borrow.Author.Tests.{eq-eqb, ne_eqb, eqb-true}
use Rattle.std.proofs.Math.Pow as Pow
use Rattle.ring.specs.Lists.{Each, Rising, among}
use Rattle.ring.specs.Searches.{below, only}
use Rattle.ring.specs.Vectors.{tabulate}
use Rattle.ring.specs.Laws.Below.{below_low, below_passes, below_rising, below_ext}
use Rattle.ring.specs.Laws.Lists.{each_then, each_map, each_both, join_append}
use Rattle.ring.specs.Laws.Members.{among_below, below_among, rising_same}
use Rattle.ring.specs.Laws.Searches.{both, first, second, lt_or_ge}
use Rattle.linear_transformation.specs.Digits.{level_rotation}
use Rattle.linear_transformation.specs.Trees.{there, nodes, pairs_at, Level, levels_of}
use Rattle.linear_transformation.specs.Laws.Runs.{rising_at, among_map, among_mapped}
use Rattle.linear_transformation.specs.Laws.Trees.{odds, with_even}
use Rattle.runs.specs.Switches.{none, at, Even, Switch, pair, node_place, joined, level_switches}
use Rattle.runs.specs.Laws.PassSchedules.{map_each_same}
use Rattle.runs.specs.Laws.NodePlaces.{there_at, NodeFirst, node_first, node_place_is}
use Rattle.runs.specs.Steps.Giants.{node_at, is_first, starts_pair, has_even, start_switch, starts_at, switch_at, starts}

-- ---- lists

rising_on : (f : ℕ → ℕ) (P : ℕ → Type 0) (xs : List ℕ) → ((x y : ℕ) → P x → P y → x < y → f x < f y) → Each P xs → Rising xs → Rising (map f xs)
rising_on f P [] h e r = tt
rising_on f P (x ∷ xs) h e r = (each_map (λ z. f x < z) f xs (each_both (λ y q l. h x y e.0 q l) xs e.1 r.0), rising_on f P xs h e.1 r.1)

odds_one : (t : Bool) (v : ℕ) → odds (only t v) ≡ only (t && v % 2 == 1) v
odds_one true v = append-nil (only (v % 2 == 1) v)
odds_one false v = refl

odds_below : (p : ℕ → Bool) (n : ℕ) → odds (below p n) ≡ below (λ v. p v && v % 2 == 1) n
unfolding below
odds_below p zero = refl
odds_below p (suc n) = join_append (λ v. only (v % 2 == 1) v) (below p n) (only (p n) n) ∙ ap₂ ◌++◌ (odds_below p n) (odds_one (p n) n)

-- the numbers below a sum: those below the first part, then the others
below_add : (p : ℕ → Bool) (m n : ℕ) → below p (m + n) ≡ below p m ++ map (λ v. m + v) (below (λ v. p (m + v)) n)
unfolding below
below_add p m zero = rw (add-zero m) (sym (append-nil (below p m)))
below_add p m (suc n) =
    let e : m + suc n ≡ suc (m + n) = omega arith in
    ap (below p) e
    ∙ ap (λ (t : List ℕ). t ++ only (p (m + n)) (m + n)) (below_add p m n)
    ∙ append_assoc (below p m) (map (λ v. m + v) (below (λ v. p (m + v)) n)) (only (p (m + n)) (m + n))
    ∙ ap (λ (t : List ℕ). below p m ++ t) (ap (λ (t : List ℕ). map (λ v. m + v) (below (λ v. p (m + v)) n) ++ t) (one (p (m + n))) ∙ sym (map-append (λ v. m + v) (below (λ v. p (m + v)) n) (only (p (m + n)) n)))
  where
    one : (t : Bool) → only t (m + n) ≡ map (λ v. m + v) (only t n)
    one true = refl
    one false = refl

-- ---- a level

module _ (leaves : List ℕ) (rises : Rising leaves) (i : ℕ) where
  node_grows : (j k : ℕ) → j ≤ k → k < length leaves → node_at leaves i j ≤ node_at leaves i k
  node_grows j k l h =
      ⊎_elim (λ (e : j ≡ k). le_of_eq (ap (node_at leaves i) e))
      (λ (m : j < k). (le-div_iff_mul-le (Pow.pow_pos i)).1 (omega (arith, div-mul-le_self (slice_index leaves j) (2 ^ i), rising_at leaves 0 rises j k m h)))
      (eq-or-lt_of_le l)

  -- the leaves before a first one are under smaller nodes
  first_before : (p : ℕ) → p < length leaves → is_first leaves i p ≡ true → (j : ℕ) → j < p → node_at leaves i j < node_at leaves i p
  first_before zero l f j h = absurd (not-suc-le-zero h)
  first_before (suc p) l f j h =
      let n : node_at leaves i p ≢ node_at leaves i (suc p) = λ e. true≢false (sym f ∙ ap not (eq-eqb _ _ e)) in
      omega (arith, n, node_grows j p (omega arith) (omega arith), node_grows p (suc p) (omega arith) l)

  first_is : (p n : ℕ) → NodeFirst leaves i n p → is_first leaves i p ≡ true
  first_is zero n f = refl
  first_is (suc p) n f = ap not (ne_eqb (node_at leaves i p) (node_at leaves i (suc p)) (λ e. omega (arith, e, f.before p (omega arith), f.under)))

  -- the first place of an odd node starts a pair
  first_starts : (p n : ℕ) → NodeFirst leaves i n p → n % 2 ≡ 1 → starts_pair leaves i p ≡ true
  unfolding starts_pair
  first_starts p n f o = both (eq-eqb (node_at leaves i p % 2) 1 (ap (λ (x : ℕ). x % 2) f.under ∙ o)) (first_is p n f)

  module _ (p : ℕ) (l : p < length leaves) (s : starts_pair leaves i p ≡ true) where
    start_odd : node_at leaves i p % 2 ≡ 1
    unfolding starts_pair
    start_odd = eqb-true (node_at leaves i p % 2) 1 (first (node_at leaves i p % 2 == 1) (is_first leaves i p) s)

    start_before : (j : ℕ) → j < p → node_at leaves i j < node_at leaves i p
    unfolding starts_pair
    start_before = first_before p l (second (node_at leaves i p % 2 == 1) (is_first leaves i p) s)

    start_place : node_place leaves i (node_at leaves i p) ≡ p
    start_place = node_place_is leaves rises i (node_at leaves i p) p (record { inside = l; under = refl; before = start_before })

  -- a node that is there stands at a place
  there_none : (n : ℕ) → ((q : ℕ) → q < length leaves → node_at leaves i q ≢ n) → there leaves i n ≡ false
  there_none n h = by (there leaves i n) refl
    where
      by : (t : Bool) → there leaves i n ≡ t → there leaves i n ≡ false
      by true e = let f = node_first leaves rises i n e in absurd (h (node_place leaves i n) f.inside f.under)
      by false e = e

  -- the even of a pair that starts
  even_there_lem : (p : ℕ) → p < length leaves → starts_pair leaves i p ≡ true → there leaves i (node_at leaves i p - 1) ≡ has_even leaves i p
  unfolding has_even
  even_there_lem zero l s = there_none _ (λ q h e. omega (arith, e, start_odd 0 l s, node_grows 0 q (omega arith) h))
  even_there_lem (suc p) l s = by (ℕ_discrete (node_at leaves i p + 1) (node_at leaves i (suc p)))
    where
      by : Dec (node_at leaves i p + 1 ≡ node_at leaves i (suc p)) → there leaves i (node_at leaves i (suc p) - 1) ≡ (node_at leaves i p + 1 == node_at leaves i (suc p))
      by (yes e) =
          let n : node_at leaves i (suc p) - 1 ≡ node_at leaves i p = omega arith in
          ap (there leaves i) n ∙ there_at leaves i p (omega arith) ∙ sym (eq-eqb _ _ e)
      by (no n) =
          there_none _
          (λ q h e.
          ⊎_elim (λ (m : q < suc p). omega (arith, e, n, start_odd (suc p) l s, start_before (suc p) l s p (omega arith), node_grows q p (omega arith) (omega arith)))
          (λ (m : suc p ≤ q). omega (arith, e, start_odd (suc p) l s, node_grows (suc p) q m h))
          (lt_or_ge q (suc p)))
          ∙ sym (ne_eqb _ _ n)

  even_node : (p : ℕ) → has_even leaves i p ≡ true → node_at leaves i p - 1 ≡ node_at leaves i (p - 1)
  unfolding has_even
  even_node zero h = absurd (true≢false (sym h))
  even_node (suc p) h =
      let e : suc p - 1 ≡ p = omega arith in
      let n = eqb-true (node_at leaves i p + 1) (node_at leaves i (suc p)) h in
      rw e (omega (arith, n))

  -- the switch of its pair
  start_switch_lem : (rotation p : ℕ) → p < length leaves → starts_pair leaves i p ≡ true → joined leaves i rotation (with_even (there leaves i) (node_at leaves i p)) ≡ start_switch leaves i rotation p
  start_switch_lem rotation p l s =
      ap (λ (x : ℕ). pair x (cond (there leaves i (node_at leaves i p - 1)) (at (node_place leaves i (node_at leaves i p - 1))) none) rotation) (start_place p l s)
      ∙ ap (λ (t : Bool). pair p (cond t (at (node_place leaves i (node_at leaves i p - 1))) none) rotation) (even_there_lem p l s)
      ∙ ap (λ (e : Even). pair p e rotation) (by (has_even leaves i p) refl)
    where
      by : (t : Bool) → has_even leaves i p ≡ t → cond t (at (node_place leaves i (node_at leaves i p - 1))) none ≡ cond t (at (node_place leaves i (node_at leaves i (p - 1)))) none
      by true e = ap (λ (n : ℕ). at (node_place leaves i n)) (even_node p e)
      by false e = refl

  -- the odd nodes of a level are those of the starts
  module _ (b : ℕ) (h : i ≤ b) (low : (q : ℕ) → q < length leaves → slice_index leaves q < 2 ^ b) where
    abbrev firsts : List ℕ
    firsts = below (starts_pair leaves i) (length leaves)

    each_start : Each (λ p. (p < length leaves) × (starts_pair leaves i p ≡ true)) firsts
    each_start = each_both (λ p l s. (l, s)) firsts (below_low (starts_pair leaves i) (length leaves)) (below_passes (starts_pair leaves i) (length leaves))

    node_low : (p : ℕ) → p < length leaves → node_at leaves i p < 2 ^ (b - i)
    node_low p l = let e : b - i + i ≡ b = omega arith in Pow.shr_lt {n = slice_index leaves p} (b - i) i (rw e (low p l))

    odd_nodes : odds (nodes b leaves i) ≡ map (node_at leaves i) firsts
    unfolding nodes
    odd_nodes =
        odds_below (there leaves i) (2 ^ (b - i))
        ∙ rising_same (below (λ v. there leaves i v && v % 2 == 1) (2 ^ (b - i))) (map (node_at leaves i) firsts)
        (below_rising (λ v. there leaves i v && v % 2 == 1) (2 ^ (b - i)))
        (rising_on (node_at leaves i) (λ p. (p < length leaves) × (starts_pair leaves i p ≡ true)) firsts (λ x y q r l. start_before y r.0 r.1 x l) each_start (below_rising (starts_pair leaves i) (length leaves)))
        to from
      where
        to : (k : ℕ) → among k (below (λ v. there leaves i v && v % 2 == 1) (2 ^ (b - i))) ≡ true → among k (map (node_at leaves i) firsts) ≡ true
        to k a =
            let t = below_among k (λ v. there leaves i v && v % 2 == 1) (2 ^ (b - i)) a in
            let f = node_first leaves rises i k (first (there leaves i k) (k % 2 == 1) t.1) in
            let s = first_starts (node_place leaves i k) k f (eqb-true (k % 2) 1 (second (there leaves i k) (k % 2 == 1) t.1)) in
            ap (λ (x : ℕ). among x (map (node_at leaves i) firsts)) (sym f.under) ∙ among_map (node_at leaves i) (node_place leaves i k) firsts (among_below (node_place leaves i k) (starts_pair leaves i) (length leaves) f.inside s)

        from : (k : ℕ) → among k (map (node_at leaves i) firsts) ≡ true → among k (below (λ v. there leaves i v && v % 2 == 1) (2 ^ (b - i))) ≡ true
        from k a =
            let x = among_mapped (node_at leaves i) k firsts a in
            let p = x.0 in
            let t = below_among p (starts_pair leaves i) (length leaves) x.1.0 in
            let yes : (there leaves i (node_at leaves i p) && node_at leaves i p % 2 == 1) ≡ true = both (there_at leaves i p t.0) (eq-eqb (node_at leaves i p % 2) 1 (start_odd p t.0 t.1)) in
            ap (λ (n : ℕ). among n (below (λ v. there leaves i v && v % 2 == 1) (2 ^ (b - i)))) (sym x.1.1) ∙ among_below (node_at leaves i p) (λ v. there leaves i v && v % 2 == 1) (2 ^ (b - i)) (node_low p t.0) yes

    -- so its switches are those of the starts
    pub level_starts : (rotation : ℕ) → map (joined leaves i rotation) (pairs_at b leaves i) ≡ map (start_switch leaves i rotation) (below (starts_pair leaves i) (length leaves))
    unfolding pairs_at
    level_starts rotation =
        ap (λ (ns : List ℕ). map (joined leaves i rotation) (map (with_even (there leaves i)) ns)) odd_nodes
        ∙ ap (map (joined leaves i rotation)) (map-map (with_even (there leaves i)) (node_at leaves i) firsts)
        ∙ map-map (joined leaves i rotation) (λ p. with_even (there leaves i) (node_at leaves i p)) firsts
        ∙ map_each_same (λ p. joined leaves i rotation (with_even (there leaves i) (node_at leaves i p))) (start_switch leaves i rotation) firsts (each_then (λ p q. start_switch_lem rotation p q.0 q.1) firsts each_start)

-- ---- all levels

-- one level more
levels_more : (leaves : List ℕ) (j n : ℕ) (level : ℕ → Level) → level_switches leaves j (tabulate (suc n) level) ≡ level_switches leaves j (tabulate n level) ++ map (joined leaves (j + n) (level n).rotation.0) (level n).pairs
levels_more leaves j zero level = rw (add-zero j) (append-nil (map (joined leaves j (level 0).rotation.0) (level 0).pairs))
levels_more leaves j (suc n) level =
    let here = map (joined leaves j (level 0).rotation.0) (level 0).pairs in
    let e : suc j + n ≡ j + suc n = omega arith in
    ap (λ (t : List Switch). here ++ t) (levels_more leaves (suc j) n (λ k. level (suc k)))
    ∙ sym (append_assoc here (level_switches leaves (suc j) (tabulate n (λ k. level (suc k)))) (map (joined leaves (suc j + n) (level (suc n)).rotation.0) (level (suc n)).pairs))
    ∙ ap (λ (k : ℕ). level_switches leaves j (tabulate (suc n) level) ++ map (joined leaves k (level (suc n)).rotation.0) (level (suc n)).pairs) e

module _ (slots width b : ℕ) (leaves : List ℕ) (rises : Rising leaves) (low : (q : ℕ) → q < length leaves → slice_index leaves q < 2 ^ b) where
  abbrev many : ℕ
  many = length leaves

  row_level : (k p : ℕ) → p < many → (k * many + p) / many ≡ k
  row_level k p l = mul-add-div_right (omega arith) k p ∙ rw (div-eq_of_lt l) (add-zero k)

  row_place : (k p : ℕ) → p < many → (k * many + p) % many ≡ p
  row_place k p l = mul-add-mod_self_right k many p ∙ mod-eq_of_lt l

  -- the starts of one level more
  row_more : (k : ℕ) → map (switch_at slots width b leaves many) (below (starts_at leaves many) (suc k * many))
      ≡ map (switch_at slots width b leaves many) (below (starts_at leaves many) (k * many)) ++ map (start_switch leaves k (level_rotation slots width b k).0) (below (starts_pair leaves k) many)
  row_more k =
      let sw = switch_at slots width b leaves many in
      let front = below (starts_at leaves many) (k * many) in
      let back = below (λ v. starts_at leaves many (k * many + v)) many in
      ap (λ (n : ℕ). map sw (below (starts_at leaves many) n)) (suc-mul k many)
      ∙ ap (map sw) (below_add (starts_at leaves many) (k * many) many)
      ∙ map-append sw front (map (λ v. k * many + v) back)
      ∙ ap (λ (t : List Switch). map sw front ++ t)
      (map-map sw (λ v. k * many + v) back
      ∙ ap (map (λ v. sw (k * many + v))) (below_ext (λ v. starts_at leaves many (k * many + v)) (starts_pair leaves k) many (λ v l. rw (row_level k v l, row_place k v l)))
      ∙ map_each_same (λ v. sw (k * many + v)) (start_switch leaves k (level_rotation slots width b k).0) (below (starts_pair leaves k) many) (each_then {Q = λ v. sw (k * many + v) ≡ start_switch leaves k (level_rotation slots width b k).0 v} (λ v l. rw (row_level k v l, row_place k v l)) (below (starts_pair leaves k) many) (below_low (starts_pair leaves k) many)))

  abbrev level : ℕ → Level
  level i = record { rotation = level_rotation slots width b i; pairs = pairs_at b leaves i }

  rows : (k : ℕ) → k ≤ b → level_switches leaves 0 (tabulate k level) ≡ map (switch_at slots width b leaves many) (below (starts_at leaves many) (k * many))
  unfolding below
  rows zero h = rw (zero_many)
    where
      zero_many : 0 * many ≡ 0
      zero_many = omega arith
  rows (suc k) h =
      levels_more leaves 0 k level
      ∙ ap₂ ◌++◌ (rows k (omega arith)) (ap (λ (i : ℕ). map (joined leaves i (level_rotation slots width b k).0) (pairs_at b leaves k)) (zero_plus k) ∙ level_starts leaves rises k b (omega arith) low (level_rotation slots width b k).0)
      ∙ sym (row_more k)
    where
      zero_plus : (n : ℕ) → 0 + n ≡ n
      zero_plus n = omega arith

  -- the switches of all levels are those of the starts
  pub levels_starts : level_switches leaves 0 (levels_of slots width b leaves) ≡ map (switch_at slots width b leaves (length leaves)) (starts leaves (length leaves) b)
  unfolding levels_of
  levels_starts = rows b (omega arith)
