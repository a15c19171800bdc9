-- Laws of the plan: the index has the baby of each diagonal, in order, and the pairs cut it into the giants' babies.
-- Assumes nothing.
use Prim.Native.Nat.{ℕ, zero, suc, ◌+◌, ◌*◌, ◌/◌, ◌%◌, ◌≤◌, ◌<◌}
use Rattle.std.specs.Prelude.{◌≡◌, true, false, ◌||◌, length, take, drop}
use Rattle.std.proofs.Math.Path.{refl, sym}
use Rattle.std.proofs.Common.{ap, ◌∙◌, true≢false, le_refl, suc-ne-zero, le-div_iff_mul-le, mul-le-mul_right, arith, eqb-true, eq-eqb, ne_eqb, length-append, take_at, drop_at}
use Rattle.std.proofs.Math.Bool.{Bool, or-true, or_comm, or_self_left}
use mathlib.Core.List.{List, [], ◌∷◌, ◌++◌, map, map-id, append_assoc}
use Rattle.std.proofs.Math.Nat.{mod-one, mul-mod_left, mod-lt, mod-le, div-add-mod'}
use Rattle.std.proofs.Math.Decide.{ℕ_discrete}
use Rattle.std.proofs.Math.Dec.{eqb}
use Rattle.std.proofs.Math.IntN.{ℤ}
use Rattle.std.proofs.lemmas.List.{length-map}
use Rattle.ring.specs.Lists.{join, Each, Rising, some, among}
use Rattle.ring.specs.Residues.{residue_of, named, diagonals_of}
use Rattle.ring.specs.Searches.{only, below}
use Rattle.ring.specs.Laws.Lists.{join_cong, length_join, each_then, each_all}
use Rattle.ring.specs.Laws.Below.{below_low, below_passes, below_rising, below_ext}
use Rattle.ring.specs.Refusals.{outside}
use Rattle.ring.specs.Laws.Refusals.{inside}
use Rattle.linear_transformation.specs.declared.LinearTransformationStrategy.{LinearTransformationStrategy}
use Rattle.linear_transformation.specs.declared.LinearTransformationStrategy.TheVariants.{Bsgs, BsgsPowersOfTwo, Direct}
use Rattle.linear_transformation.specs.Strategies.{width_outside}
use Rattle.linear_transformation.specs.Plans.{width_of, baby_of, giant_of, babies, giants, babies_at, plan_index, cuts, plan_pairs, words_with, Planned}
use Rattle.ring.specs.Laws.Members.{some_append, some_witness, right, among_head, among_rest, among_some, each_among, among_below, rising_same, rising_below, groups}

-- ---- the baby and the giant of a diagonal

module _ (width : ℕ) where
  pub giant_baby : (k : ℕ) → giant_of width k + baby_of width k ≡ k
  unfolding giant_of baby_of
  giant_baby k = omega (arith, mod-le k width)

  pub giant_le : (k : ℕ) → giant_of width k ≤ k
  giant_le k = omega (arith, giant_baby k)

  pub baby_le : (k : ℕ) → baby_of width k ≤ k
  baby_le k = omega (arith, giant_baby k)

  pub baby_lt : (k : ℕ) → 0 < width → baby_of width k < width
  unfolding baby_of
  baby_lt k w = mod-lt k w

  pub giant_times : (k : ℕ) → giant_of width k ≡ k / width * width
  unfolding giant_of baby_of
  giant_times k = omega (arith, div-add-mod' k width)

  pub giant_climbs : 0 < width → (j k : ℕ) → j < k → giant_of width j ≤ giant_of width k
  giant_climbs w j k l =
      rw (giant_times j, giant_times k) (mul-le-mul_right width ((le-div_iff_mul-le w).1 (omega (arith, div-add-mod' j width))))

-- ---- the index

module _ {slots width : ℕ} {ks : List ℕ} (p : Planned slots width ks) where
  giants_low : Each (λ k. giant_of width k < slots) ks
  giants_low = each_then (λ k l. omega (arith, giant_le width k)) ks p.low

  -- the index is the babies of the diagonals, in their order
  pub index_babies : plan_index slots width ks ≡ map (baby_of width) ks
  unfolding plan_index babies_at giants
  index_babies = groups (giant_of width) (giant_climbs width p.positive) (baby_of width) slots ks p.rises giants_low

  pub index_length : length (plan_index slots width ks) ≡ length ks
  index_length = rw (index_babies, length-map)

  shifted : (g : ℕ) (ks : List ℕ) → map (λ b. g + b) (join (λ k. only (eqb (giant_of width k) g) (baby_of width k)) ks) ≡ join (λ k. only (eqb (giant_of width k) g) k) ks
  shifted g [] = refl
  shifted g (k ∷ ks) = by (shifted g ks) (ℕ_discrete (giant_of width k) g)
    where
      by : map (λ b. g + b) (join (λ k. only (eqb (giant_of width k) g) (baby_of width k)) ks) ≡ join (λ k. only (eqb (giant_of width k) g) k) ks → Dec (giant_of width k ≡ g)
          → map (λ b. g + b) (join (λ k. only (eqb (giant_of width k) g) (baby_of width k)) (k ∷ ks)) ≡ join (λ k. only (eqb (giant_of width k) g) k) (k ∷ ks)
      by ih (yes e) = let q : g + baby_of width k ≡ k = omega (arith, giant_baby width k) in rw (eq-eqb _ _ e) (cc (q, ih))
      by ih (no n) = rw (ne_eqb _ _ n) ih

  -- giant after giant, the giant plus each of its babies are the diagonals, in order
  pub index_diagonals : join (λ g. map (λ b. g + b) (babies_at width ks g)) (giants slots width ks) ≡ ks
  unfolding babies_at giants
  index_diagonals =
      join_cong (λ g. map (λ b. g + b) (babies_at width ks g)) (λ g. join (λ k. only (eqb (giant_of width k) g) k) ks) (λ g. shifted g ks) (giants slots width ks)
      ∙ groups (giant_of width) (giant_climbs width p.positive) (λ k. k) slots ks p.rises giants_low
      ∙ map-id ks

  -- ---- what is in the plan

  -- the giant of a diagonal is a giant of the plan
  pub giants_have : (k : ℕ) → among k ks ≡ true → among (giant_of width k) (giants slots width ks) ≡ true
  unfolding giants
  giants_have k h =
      among_below (giant_of width k) (λ g. some (λ j. eqb (giant_of width j) g) ks) slots
      (each_among (λ j. giant_of width j < slots) ks giants_low k h)
      (among_some (λ j. eqb (giant_of width j) (giant_of width k)) ks k h (eq-eqb (giant_of width k) (giant_of width k) refl))

  -- its baby is a baby of the plan
  pub babies_have : (k : ℕ) → among k ks ≡ true → among (baby_of width k) (babies slots width ks) ≡ true
  unfolding babies
  babies_have k h =
      let l : k < slots = each_among (λ j. j < slots) ks p.low k h in
      among_below (baby_of width k) (λ b. eqb b 0 || some (λ j. eqb (baby_of width j) b) ks) slots
      (omega (arith, baby_le width k))
      (rw (among_some (λ j. eqb (baby_of width j) (baby_of width k)) ks k h (eq-eqb (baby_of width k) (baby_of width k) refl)) (or-true (eqb (baby_of width k) 0)))

  babies_at_lem : (k : ℕ) (ks : List ℕ) → among k ks ≡ true → among (baby_of width k) (join (λ j. only (eqb (giant_of width j) (giant_of width k)) (baby_of width j)) ks) ≡ true
  babies_at_lem k [] h = h
  babies_at_lem k (x ∷ xs) h = by (ℕ_discrete x k) (babies_at_lem k xs)
    where
      rest : List ℕ
      rest = join (λ j. only (eqb (giant_of width j) (giant_of width k)) (baby_of width j)) xs

      by : Dec (x ≡ k) → (among k xs ≡ true → among (baby_of width k) rest ≡ true) → among (baby_of width k) (only (eqb (giant_of width x) (giant_of width k)) (baby_of width x) ++ rest) ≡ true
      by (yes q) ih = rw (q, eq-eqb (giant_of width k) (giant_of width k) refl, eq-eqb (baby_of width k) (baby_of width k) refl)
      by (no n) ih =
          some_append (λ y. eqb y (baby_of width k)) (only (eqb (giant_of width x) (giant_of width k)) (baby_of width x)) rest
          ∙ rw (ih (among_rest x xs k n h)) (or-true (among (baby_of width k) (only (eqb (giant_of width x) (giant_of width k)) (baby_of width x))))

  -- and a baby of its giant
  pub babies_at_has : (k : ℕ) → among k ks ≡ true → among (baby_of width k) (babies_at width ks (giant_of width k)) ≡ true
  unfolding babies_at
  babies_at_has k h = babies_at_lem k ks h

-- ---- babies and giants rise, in their ranges

module _ (slots width : ℕ) (ks : List ℕ) where
  pub babies_rise : Rising (babies slots width ks)
  unfolding babies
  babies_rise = below_rising (λ b. eqb b 0 || some (λ k. eqb (baby_of width k) b) ks) slots

  pub babies_below : Each (λ b. b < slots) (babies slots width ks)
  unfolding babies
  babies_below = below_low (λ b. eqb b 0 || some (λ k. eqb (baby_of width k) b) ks) slots

  pub babies_zero : 0 < slots → among 0 (babies slots width ks) ≡ true
  unfolding babies
  babies_zero s = among_below 0 (λ b. eqb b 0 || some (λ k. eqb (baby_of width k) b) ks) slots s refl

  narrow : 0 < width → (b : ℕ) → (eqb b 0 || some (λ k. eqb (baby_of width k) b) ks) ≡ true → b < width
  narrow w zero e = w
  narrow w (suc b) e =
      let m : some (λ k. eqb (baby_of width k) (suc b)) ks ≡ true = sym (ap (λ (c : Bool). c || some (λ k. eqb (baby_of width k) (suc b)) ks) (ne_eqb (suc b) 0 (suc-ne-zero b))) ∙ e in
      let x = some_witness (λ k. eqb (baby_of width k) (suc b)) ks m in
      omega (arith, eqb-true (baby_of width x.0) (suc b) x.1, baby_lt width x.0 w)

  pub babies_narrow : 0 < width → Each (λ b. b < width) (babies slots width ks)
  unfolding babies
  babies_narrow w =
      let t : ℕ → Bool = λ b. eqb b 0 || some (λ k. eqb (baby_of width k) b) ks in
      each_then (narrow w) (below t slots) (below_passes t slots)

  pub giants_rise : Rising (giants slots width ks)
  unfolding giants
  giants_rise = below_rising (λ g. some (λ k. eqb (giant_of width k) g) ks) slots

  pub giants_below : Each (λ g. g < slots) (giants slots width ks)
  unfolding giants
  giants_below = below_low (λ g. some (λ k. eqb (giant_of width k) g) ks) slots

  multiple : (g : ℕ) → some (λ k. eqb (giant_of width k) g) ks ≡ true → g % width ≡ 0
  multiple g e =
      let x = some_witness (λ k. eqb (giant_of width k) g) ks e in
      let q : g ≡ x.0 / width * width = sym (eqb-true (giant_of width x.0) g x.1) ∙ giant_times width x.0 in
      rw q (mul-mod_left (x.0 / width) width)

  pub giants_multiple : Each (λ g. g % width ≡ 0) (giants slots width ks)
  unfolding giants
  giants_multiple =
      let t : ℕ → Bool = λ g. some (λ k. eqb (giant_of width k) g) ks in
      each_then multiple (below t slots) (below_passes t slots)

-- ---- the babies of one giant

module _ (width g : ℕ) where
  abbrev at : List ℕ → List ℕ
  at ks = join (λ k. only (eqb (giant_of width k) g) (baby_of width k)) ks

  -- what holds of the baby of each diagonal with giant g holds of each baby of g
  at_each : (P : ℕ → Type 0) (ks : List ℕ) → Each (λ k. giant_of width k ≡ g → P (baby_of width k)) ks → Each P (at ks)
  at_each P [] h = tt
  at_each P (k ∷ ks) h = by (at_each P ks h.1) (ℕ_discrete (giant_of width k) g)
    where
      by : Each P (at ks) → Dec (giant_of width k ≡ g) → Each P (at (k ∷ ks))
      by ih (yes e) = rw (eq-eqb (giant_of width k) g e) (h.0 e, ih)
      by ih (no n) = rw (ne_eqb (giant_of width k) g n) ih

  at_rises : (ks : List ℕ) → Rising ks → Rising (at ks)
  at_rises [] r = tt
  at_rises (k ∷ ks) r = by (at_rises ks r.1) (ℕ_discrete (giant_of width k) g)
    where
      by : Rising (at ks) → Dec (giant_of width k ≡ g) → Rising (at (k ∷ ks))
      by ih (yes e) =
          rw (eq-eqb (giant_of width k) g e)
          (at_each (λ b. baby_of width k < b) ks (each_then (λ j l q. omega (arith, giant_baby width k, giant_baby width j)) ks r.0), ih)
      by ih (no n) = rw (ne_eqb (giant_of width k) g n) ih

  pub babies_at_rise : (ks : List ℕ) → Rising ks → Rising (babies_at width ks g)
  unfolding babies_at
  babies_at_rise ks r = at_rises ks r

  pub babies_at_narrow : (ks : List ℕ) → 0 < width → Each (λ b. b < width) (babies_at width ks g)
  unfolding babies_at
  babies_at_narrow ks w = at_each (λ b. b < width) ks (each_all (λ k q. baby_lt width k w) ks)

  at_diagonals : (qs ks : List ℕ) → ((k : ℕ) → among k ks ≡ true → among k qs ≡ true) → Each (λ b. among (g + b) qs ≡ true) (at ks)
  at_diagonals qs [] h = tt
  at_diagonals qs (k ∷ ks) h = by (at_diagonals qs ks (λ j i. h j (right (eqb k j) i))) (ℕ_discrete (giant_of width k) g)
    where
      by : Each (λ b. among (g + b) qs ≡ true) (at ks) → Dec (giant_of width k ≡ g) → Each (λ b. among (g + b) qs ≡ true) (at (k ∷ ks))
      by ih (yes e) =
          let q : g + baby_of width k ≡ k = omega (arith, giant_baby width k) in
          let t : among (g + baby_of width k) qs ≡ true = rw q (h k (among_head k ks)) in
          rw (eq-eqb (giant_of width k) g e) (t, ih)
      by ih (no n) = rw (ne_eqb (giant_of width k) g n) ih

  -- the giant plus a baby of its own is a diagonal
  pub babies_at_diagonals : (ks : List ℕ) → Each (λ b. among (g + b) ks ≡ true) (babies_at width ks g)
  unfolding babies_at
  babies_at_diagonals ks = at_diagonals ks ks (λ k h. h)

  at_full : (ks : List ℕ) → some (λ k. eqb (giant_of width k) g) ks ≡ true → 0 < length (at ks)
  at_full [] e = absurd (true≢false (sym e))
  at_full (k ∷ ks) e = by (at_full ks) (ℕ_discrete (giant_of width k) g)
    where
      by : (some (λ k. eqb (giant_of width k) g) ks ≡ true → 0 < length (at ks)) → Dec (giant_of width k ≡ g) → 0 < length (at (k ∷ ks))
      by ih (yes q) = rw (eq-eqb (giant_of width k) g q) (omega arith)
      by ih (no n) =
          let t : some (λ k. eqb (giant_of width k) g) ks ≡ true = sym (ap (λ (b : Bool). b || some (λ k. eqb (giant_of width k) g) ks) (ne_eqb (giant_of width k) g n)) ∙ e in
          rw (ne_eqb (giant_of width k) g n) (ih t)

-- every giant has a baby
pub giants_full : (slots width : ℕ) (ks : List ℕ) → Each (λ g. 0 < length (babies_at width ks g)) (giants slots width ks)
unfolding giants babies_at
giants_full slots width ks =
    let t : ℕ → Bool = λ g. some (λ k. eqb (giant_of width k) g) ks in
    each_then (λ g e. at_full width g ks e) (below t slots) (below_passes t slots)

-- ---- the pairs cut the index

-- the list that a pair cuts out of the index
abbrev pub cut : List ℕ → ℕ × ℕ → List ℕ
cut index c = take c.1 (drop c.0 index)

cuts_cut : (f : ℕ → List ℕ) (gs front : List ℕ) (start : ℕ) → length front ≡ start → map (cut (front ++ join f gs)) (cuts f start gs) ≡ map f gs
cuts_cut f [] front start e = refl
cuts_cut f (g ∷ gs) front start e =
    let more : (front ++ f g) ++ join f gs ≡ front ++ (f g ++ join f gs) = append_assoc front (f g) (join f gs) in
    let l : length (front ++ f g) ≡ start + length (f g) = length-append front (f g) ∙ ap (λ (n : ℕ). n + length (f g)) e in
    let here : take (length (f g)) (drop start (front ++ (f g ++ join f gs))) ≡ f g = ap (take (length (f g))) (drop_at front (f g ++ join f gs) start e) ∙ take_at (f g) (join f gs) (length (f g)) refl in
    let there : map (cut (front ++ (f g ++ join f gs))) (cuts f (start + length (f g)) gs) ≡ map f gs = ap (λ (t : List ℕ). map (cut t) (cuts f (start + length (f g)) gs)) (sym more) ∙ cuts_cut f gs (front ++ f g) (start + length (f g)) l in
    cc (here, there)

-- the giants' pairs cut the index into the giants' babies
pub pairs_cut : (slots width : ℕ) (ks : List ℕ) → map (cut (plan_index slots width ks)) (plan_pairs slots width ks) ≡ map (babies_at width ks) (giants slots width ks)
unfolding plan_index plan_pairs
pairs_cut slots width ks = cuts_cut (babies_at width ks) (giants slots width ks) [] 0 refl

cuts_length : (f : ℕ → List ℕ) (start : ℕ) (gs : List ℕ) → length (cuts f start gs) ≡ length gs
cuts_length f start [] = refl
cuts_length f start (g ∷ gs) = ap suc (cuts_length f (start + length (f g)) gs)

pub pairs_length : (slots width : ℕ) (ks : List ℕ) → length (plan_pairs slots width ks) ≡ length (giants slots width ks)
unfolding plan_pairs
pairs_length slots width ks = cuts_length (babies_at width ks) 0 (giants slots width ks)

-- a word for each baby, three for each giant and one for each diagonal
pub words_length : {slots width : ℕ} {ks : List ℕ} → Planned slots width ks → (bs : List ℕ) → length (words_with bs slots width ks) ≡ length bs + 3 * length (giants slots width ks) + length ks
unfolding words_with
words_length {slots} {width} {ks} p bs =
    rw (length-append, length-append, length-append, length_join (λ c. c.0 ∷ c.1 ∷ []) 2 (λ c. refl) (plan_pairs slots width ks), pairs_length slots width ks, index_length p) (omega arith)

-- ---- the diagonals that a list names

module _ (slots : ℕ) where
  pub planned : (width : ℕ) (zs : List ℤ) → 0 < width → Planned slots width (diagonals_of slots zs)
  unfolding diagonals_of
  planned width zs w = record { rises = below_rising (named slots zs) slots; low = below_low (named slots zs) slots; positive = w }

  pub diagonals_have : (zs : List ℤ) (k : ℕ) → k < slots → named slots zs k ≡ true → among k (diagonals_of slots zs) ≡ true
  unfolding diagonals_of
  diagonals_have zs k l e = among_below k (named slots zs) slots l e

  pub diagonals_named : (zs : List ℤ) → Each (λ k. named slots zs k ≡ true) (diagonals_of slots zs)
  unfolding diagonals_of
  diagonals_named zs = below_passes (named slots zs) slots

  -- lists that name the same residues give the same diagonals
  pub diagonals_same : (xs ys : List ℤ) → ((k : ℕ) → k < slots → named slots xs k ≡ named slots ys k) → diagonals_of slots xs ≡ diagonals_of slots ys
  unfolding diagonals_of
  diagonals_same xs ys same = below_ext (named slots xs) (named slots ys) slots same

  -- so neither order nor repeats count
  pub diagonals_order : (xs ys : List ℤ) → diagonals_of slots (xs ++ ys) ≡ diagonals_of slots (ys ++ xs)
  unfolding named
  diagonals_order xs ys =
      diagonals_same (xs ++ ys) (ys ++ xs)
      (λ k l. let t : ℤ → Bool = λ z. eqb (residue_of z slots) k in some_append t xs ys ∙ or_comm (some t xs) (some t ys) ∙ sym (some_append t ys xs))

  pub diagonals_repeat : (xs ys : List ℤ) → diagonals_of slots (xs ++ (xs ++ ys)) ≡ diagonals_of slots (xs ++ ys)
  unfolding named
  diagonals_repeat xs ys =
      diagonals_same (xs ++ (xs ++ ys)) (xs ++ ys)
      (λ k l.
      let t : ℤ → Bool = λ z. eqb (residue_of z slots) k in
      some_append t xs (xs ++ ys) ∙ rw (some_append t xs ys) (or_self_left (some t xs) (some t ys)))

-- ---- the width of a strategy

-- the width is what refusal 3 is about; that of `Direct` is never outside
pub width_outside_lem : (s : LinearTransformationStrategy) → outside (width_of s) ≡ width_outside s
width_outside_lem (Bsgs giant) = refl
width_outside_lem (BsgsPowersOfTwo giant) = refl
width_outside_lem Direct = refl

pub width_positive : (s : LinearTransformationStrategy) → width_outside s ≡ false → 0 < width_of s
width_positive (Bsgs giant) e = (inside giant e).0
width_positive (BsgsPowersOfTwo giant) e = (inside giant e).0
width_positive Direct e = le_refl 1

-- ---- width 1

pub baby_direct : (k : ℕ) → baby_of 1 k ≡ 0
unfolding baby_of
baby_direct k = mod-one k

pub giant_direct : (k : ℕ) → giant_of 1 k ≡ k
giant_direct k = omega (arith, giant_baby 1 k, baby_direct k)

-- the one baby is 0
pub babies_direct : (slots : ℕ) (ks : List ℕ) → 0 < slots → babies slots 1 ks ≡ 0 ∷ []
babies_direct slots ks s =
    rising_same (babies slots 1 ks) (0 ∷ []) (babies_rise slots 1 ks) (tt, tt)
    (λ k h. let z : k < 1 = each_among (λ b. b < 1) (babies slots 1 ks) (babies_narrow slots 1 ks (le_refl 1)) k h in rw (eq-eqb 0 k (omega arith)))
    (λ k h. let z : k ≡ 0 = each_among (λ b. b ≡ 0) (0 ∷ []) (refl, tt) k h in rw z (babies_zero slots 1 ks s))

-- the giants are the diagonals
pub giants_direct : (slots : ℕ) (ks : List ℕ) → Planned slots 1 ks → giants slots 1 ks ≡ ks
unfolding giants
giants_direct slots ks p = simp giant_direct (rising_below slots ks p.rises p.low)
