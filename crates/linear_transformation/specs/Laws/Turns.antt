-- Laws of what turns: the babies and giants that are not 0.
-- Assumes nothing.
use Prim.Native.Nat.{ℕ, zero, suc, ◌-◌, ◌*◌, ◌≤◌, ◌<◌}
use Rattle.std.specs.Prelude.{◌≡◌, refl, true, false, not, ◌⊎◌, List, [], ◌∷◌, ◌++◌, map, length, get_or, take, drop}
use Rattle.std.proofs.Common.{sym, ◌∙◌, inl, inr, suc-ne-zero, zero-mul, eq-zero-or-pos, arith, length-drop, take-append-drop, take_all}
use Rattle.std.proofs.Math.Path.{ap}
use Rattle.std.proofs.Math.Bool.{Bool}
use Rattle.std.proofs.Math.Nat.{mod-eq_of_lt}
use borrow.Author.Tests.{ne_eqb}
use Rattle.std.proofs.Math.Dec.{eqb}
use Rattle.ring.specs.Lists.{Each, Rising, some}
use Rattle.ring.specs.Searches.{only, below}
use Rattle.ring.specs.Laws.Lists.{each_then, join_append}
use Rattle.linear_transformation.specs.Plans.{baby_of, giant_of, giants, Planned}
use Rattle.linear_transformation.specs.Closures.{nonzeros}
use Rattle.linear_transformation.specs.Steps.Plans.{RunEnd}
use Rattle.ring.specs.Laws.Members.{some_append}
use Rattle.linear_transformation.specs.Laws.Plans.{giant_baby, baby_lt}
use Rattle.linear_transformation.specs.Laws.Runs.{planned_take, rising_at, part_each}

-- ---- numbers that are not 0

nonzero_only : (b c : Bool) (n : ℕ) → (n ≡ 0 → c ≡ false) → (1 ≤ n → b ≡ c) → nonzeros (only b n) ≡ only c n
nonzero_only true c zero z s = rw (z refl)
nonzero_only false c zero z s = rw (z refl)
nonzero_only true c (suc n) z s = rw (← s (omega arith), ne_eqb (suc n) 0 (suc-ne-zero n))
nonzero_only false c (suc n) z s = rw (← s (omega arith))

-- those of the numbers that pass a test: where q is p without 0, the numbers that pass q
pub nonzeros_below : (p q : ℕ → Bool) (n : ℕ) → q 0 ≡ false → ((k : ℕ) → 1 ≤ k → p k ≡ q k) → nonzeros (below p n) ≡ below q n
unfolding below
nonzeros_below p q zero z s = refl
nonzeros_below p q (suc n) z s =
    join_append (λ k. only (not (eqb k 0)) k) (below p n) (only (p n) n)
    ∙ rw (nonzeros_below p q n z s, nonzero_only (p n) (q n) n (λ e. rw e z) (λ l. s n l))

-- those of multiples
pub nonzeros_times : (step : ℕ) (ks : List ℕ) → 1 ≤ step → nonzeros (map (λ k. k * step) ks) ≡ map (λ k. k * step) (nonzeros ks)
nonzeros_times step [] l = refl
nonzeros_times step (zero ∷ ks) l = rw (zero-mul step) (nonzeros_times step ks l)
nonzeros_times step (suc k ∷ ks) l =
    rw (ne_eqb (suc k * step) 0 (λ e. omega arith), ne_eqb (suc k) 0 (suc-ne-zero k)) (ap (λ (t : List ℕ). suc k * step ∷ t) (nonzeros_times step ks l))

-- ---- giants that are not 0

each_drop : (P : ℕ → Type 0) (n : ℕ) (xs : List ℕ) → Each P xs → Each P (drop n xs)
each_drop P zero xs h = h
each_drop P (suc n) [] h = tt
each_drop P (suc n) (x ∷ xs) h = each_drop P n xs h.1

rising_drop : (n : ℕ) (xs : List ℕ) → Rising xs → Rising (drop n xs)
rising_drop zero xs r = r
rising_drop (suc n) [] r = tt
rising_drop (suc n) (x ∷ xs) r = rising_drop n xs r.1

pub planned_drop : {slots width : ℕ} {ks : List ℕ} (n : ℕ) → Planned slots width ks → Planned slots width (drop n ks)
planned_drop {slots} {ks} n p = record { rises = rising_drop n ks p.rises; low = each_drop (λ k. k < slots) n ks p.low; positive = p.positive }

some_none : (p : ℕ → Bool) (xs : List ℕ) → Each (λ x. p x ≡ false) xs → some p xs ≡ false
some_none p [] h = refl
some_none p (x ∷ xs) h = rw h.0 (some_none p xs h.1)

-- the diagonals from place r on
abbrev pub rest : ℕ → List ℕ → List ℕ
rest r ds = take (length ds - r) (drop r ds)

module _ {slots width : ℕ} {ds : List ℕ} (p : Planned slots width ds) {r : ℕ} (e : RunEnd ds 0 width r) where
  low_giant : (k : ℕ) → k < width → giant_of width k ≡ 0
  unfolding giant_of baby_of
  low_giant k l = omega (arith, mod-eq_of_lt l)

  high_giant : (k : ℕ) → width ≤ k → 1 ≤ giant_of width k
  high_giant k l = omega (arith, giant_baby width k, baby_lt width k p.positive)

  front_zero : Each (λ k. giant_of width k ≡ 0) (take r ds)
  front_zero = part_each (λ k. giant_of width k ≡ 0) ds 0 0 r (omega (arith, e.inside)) (λ u a b. low_giant (get_or ds u 0) (e.before u a (omega arith)))

  rest_turns : Each (λ k. 1 ≤ giant_of width k) (rest r ds)
  rest_turns = part_each (λ k. 1 ≤ giant_of width k) ds 0 r (length ds - r) (omega (arith, e.inside)) (λ u a b. high_giant (get_or ds u 0) (high u a (omega (arith, b, e.inside))))
    where
      high : (u : ℕ) → r ≤ u → u < length ds → width ≤ get_or ds u 0
      high u a b = by (eq-zero-or-pos (u - r))
        where
          by : (u - r ≡ 0) ⊎ (0 < u - r) → width ≤ get_or ds u 0
          by (inl q) = let i : u ≡ r = omega arith in rw i (e.behind (omega arith))
          by (inr q) = omega (arith, e.behind (omega arith), rising_at ds 0 p.rises r u (omega arith) b)

  pub parted : ds ≡ take r ds ++ rest r ds
  parted = sym (take-append-drop r ds) ∙ ap (λ (t : List ℕ). take r ds ++ t) (sym (take_all (length ds - r) (drop r ds) (rw length-drop (omega arith))))

  -- they are the giants of the diagonals from the width on
  pub giants_turning : nonzeros (giants slots width ds) ≡ giants slots width (rest r ds)
  unfolding giants
  giants_turning =
      nonzeros_below (λ g. some (λ k. eqb (giant_of width k) g) ds) (λ g. some (λ k. eqb (giant_of width k) g) (rest r ds)) slots
      (some_none (λ k. eqb (giant_of width k) 0) (rest r ds) (each_then (λ k l. ne_eqb (giant_of width k) 0 (λ q. omega arith)) (rest r ds) rest_turns))
      (λ g l.
      let t : ℕ → Bool = λ k. eqb (giant_of width k) g in
      ap (some t) parted
      ∙ some_append t (take r ds) (rest r ds)
      ∙ rw (some_none t (take r ds) (each_then (λ k q. ne_eqb (giant_of width k) g (λ i. omega arith)) (take r ds) front_zero)))

  pub planned_rest : Planned slots width (rest r ds)
  planned_rest = planned_take (length ds - r) (planned_drop r p)
