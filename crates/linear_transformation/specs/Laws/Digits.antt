-- Laws of giant digits: the digit's cases, and that digit·step is the rotation modulo slots.
-- Assumes nothing.
use Rattle.std.specs.Prelude.{ℕ, zero, suc, ◌+◌, ◌*◌, ◌-◌, ◌/◌, ◌%◌, ◌≤◌, ◌<◌, ◌≡◌, ℤ, pos, negsuc, neg_ℤ, ◌+ℤ◌, ◌-ℤ◌, ◌*ℤ◌}
use Rattle.std.proofs.Common.{sym, ap, ◌∙◌, not-suc-le-zero, div-add-mod', lt_of_mul-lt-mul_right, mod-eq_of_lt, mul-div_cancel, arith}
use Rattle.std.proofs.Math.Nat.{mul-mod_left}
use Rattle.std.proofs.Math.Decide.{dec_le, ℕ_discrete}
use borrow.Author.Tests.{eq-eqb, ne_eqb, lt-ltb, le-leb, lt-leb}
use Rattle.std.proofs.Math.IntN.{+ℤ_invr}
use Rattle.ring.specs.Residues.{residue_of}
use Rattle.ring.specs.Laws.Residues.{residue_pos, residue_unique}
use Rattle.linear_transformation.specs.declared.digits.Rot.{Rot}
use Rattle.linear_transformation.specs.Digits.{digit, Giant}

-- ---- the digit by its cases

module _ (slots step : ℕ) (rot : Rot) where
  -- the step does not divide slots
  pub digit_undivided : (slots % step ≡ 0 → ⊥) → digit slots step rot ≡ record { 0 = pos (rot.0 / step) }
  unfolding digit
  digit_undivided n = rw (ne_eqb (slots % step) 0 n)

  -- below half the period
  pub digit_below : slots % step ≡ 0 → 2 * (rot.0 / step) < slots / step → digit slots step rot ≡ record { 0 = pos (rot.0 / step) }
  unfolding digit
  digit_below d l = rw (eq-eqb (slots % step) 0 d, lt-leb (slots / step) (2 * (rot.0 / step)) l)

  -- from half the period on
  pub digit_from : slots % step ≡ 0 → slots / step ≤ 2 * (rot.0 / step) → digit slots step rot ≡ record { 0 = pos (rot.0 / step) -ℤ pos (slots / step) }
  unfolding digit
  digit_from d l = rw (eq-eqb (slots % step) 0 d, le-leb (slots / step) (2 * (rot.0 / step)) l)

-- a reduced rotation is fewer steps than the period
pub below_period : (slots step rot : ℕ) → slots % step ≡ 0 → rot < slots → rot / step < slots / step
below_period slots step rot d l = lt_of_mul-lt-mul_right step (omega (arith, div-add-mod' rot step, div-add-mod' slots step))

-- a difference that is negative
pub minus : (j p : ℕ) → j < p → pos j -ℤ pos p ≡ negsuc (p - suc j)
minus j zero l = absurd (not-suc-le-zero l)
minus j (suc p) l = rw (lt-ltb j (suc p) l)

-- ---- the digit of a multiple of the step

-- the two shapes of a digit: j with j·step = rot, below half the period if the step divides slots;
-- or -(m + 1) = j - period, with j at least half the period
pub data Shape (slots step rot : ℕ) : ℤ → Type 0 where
  low : (j : ℕ) → j * step ≡ rot → (slots % step ≡ 0 → 2 * j < slots / step) → Shape slots step rot (pos j)
  high : (j m : ℕ) → j * step ≡ rot → (j + suc m) * step ≡ slots → suc m ≤ j → Shape slots step rot (negsuc m)

module _ (slots step : ℕ) (rot : Rot) (s : 0 < step) (g : Giant slots step rot) where
  whole : rot.0 / step * step ≡ rot.0
  whole = omega (arith, div-add-mod' rot.0 step, g.multiple)

  shape_high : slots % step ≡ 0 → slots / step ≤ 2 * (rot.0 / step) → Shape slots step rot.0 (digit slots step rot).0
  shape_high d h =
      let p : slots / step * step ≡ slots = omega (arith, div-add-mod' slots step) in
      let l : rot.0 / step < slots / step = below_period slots step rot.0 d g.reduced in
      let same : rot.0 / step + suc (slots / step - suc (rot.0 / step)) ≡ slots / step = omega arith in
      rw (digit_from slots step rot d h, minus (rot.0 / step) (slots / step) l)
      (high (rot.0 / step) (slots / step - suc (rot.0 / step)) whole (ap (λ (x : ℕ). x * step) same ∙ p) (omega arith))

  by : Dec (slots % step ≡ 0) → Dec (slots / step ≤ 2 * (rot.0 / step)) → Shape slots step rot.0 (digit slots step rot).0
  by (yes d) (yes h) = shape_high d h
  by (yes d) (no n) =
      let l : 2 * (rot.0 / step) < slots / step = omega arith in
      rw (digit_below slots step rot d l) (low (rot.0 / step) whole (λ x. l))
  by (no n) e = rw (digit_undivided slots step rot n) (low (rot.0 / step) whole (λ d. absurd (n d)))

  pub shape : Shape slots step rot.0 (digit slots step rot).0
  shape = by (ℕ_discrete _ _) (dec_le _ _)

-- -b is a less a + b
back : (a b : ℕ) → neg_ℤ (pos b) ≡ pos a -ℤ pos (a + b)
back a zero = let e : a + 0 ≡ a = omega arith in rw e (sym (+ℤ_invr (pos a)))
back a (suc b) = sym (minus a (a + suc b) (omega arith) ∙ ap negsuc (omega arith))

-- j - period giant steps are j of them, less one time round
round : (j m step : ℕ) → negsuc m *ℤ pos step ≡ pos (j * step) +ℤ pos ((j + suc m) * step) *ℤ negsuc 0
round j m step = let e : (j + suc m) * step * 1 ≡ j * step + suc m * step = omega arith in rw e (back (j * step) (suc m * step))

turns : (slots step rot : ℕ) {z : ℤ} → rot < slots → Shape slots step rot z → residue_of (z *ℤ pos step) slots ≡ rot
turns slots step rot l (low j e x) = rw e (residue_pos rot slots (omega arith) ∙ mod-eq_of_lt l)
turns slots step rot l (high j m e p x) = ap (λ (y : ℤ). residue_of y slots) (round j m step) ∙ rw (e, p) (residue_unique rot (negsuc 0) slots l)

-- digit · step is the rotation, modulo slots
pub digit_turns : (slots step : ℕ) (rot : Rot) → 0 < step → Giant slots step rot → residue_of ((digit slots step rot).0 *ℤ pos step) slots ≡ rot.0
digit_turns slots step rot s g = turns slots step rot.0 g.reduced (shape slots step rot s g)

-- half the period is the negative digit
pub digit_half : (slots step h : ℕ) → 0 < step → slots ≡ 2 * h * step → digit slots step (record { 0 = h * step }) ≡ record { 0 = neg_ℤ (pos h) }
digit_half slots step h s e =
    let d : slots % step ≡ 0 = rw e (mul-mod_left (2 * h) step) in
    let p : slots / step ≡ 2 * h = rw e (mul-div_cancel (2 * h) s) in
    let j : h * step / step ≡ h = mul-div_cancel h s in
    let two : 2 * h ≡ h + h = omega arith in
    digit_from slots step (record { 0 = h * step }) d (omega arith)
    ∙ ap (λ (z : ℤ). record { 0 = z }) (rw (j, p, two) (sym (back h h)))
