-- What answers say: the refusal and the numbers that they were made of. What an accepted call means: a baby is its multiple
-- times the step, and a giant its digit times the step, modulo slots.
-- Assumes nothing.
use Rattle.std.specs.Prelude.{ℕ, ◌*◌, ◌%◌, ◌^◌, ◌<◌, ◌≡◌, refl, Bool, true, false, ◌||◌, ltb, ℤ, pos, negsuc, ◌*ℤ◌, [], ◌∷◌, Option, None, Some, Ok}
use Rattle.std.proofs.Common.{ap, true≢false, div-add-mod', arith, eqb-true}
use Rattle.std.proofs.lemmas.Bool.{not-false}
use Rattle.std.specs.Int.Signed.{mag}
use Rattle.ring.specs.Residues.{residue_of}
use Rattle.ring.specs.declared.refusal.Refusal.{Refusal}
use Rattle.ring.specs.Refusals.{number, on_accept, outside}
use Rattle.ring.specs.Answers.{answered}
use Rattle.ring.specs.declared.refusal.Refusal.TheVariants as Named
use Rattle.ring.specs.Laws.Residues.{residue_lt}
use Rattle.ring.specs.Laws.Refusals.{pick_none, inside}
use Rattle.linear_transformation.specs.declared.digits.Digit.{Digit}
use Rattle.linear_transformation.specs.declared.plan.PlanSizes.{PlanSizes}
use Rattle.linear_transformation.specs.declared.rotations.PassSizes.{PassSizes}
use Rattle.linear_transformation.specs.declared.rotations.TreeSizes.{TreeSizes}
use Rattle.linear_transformation.specs.declared.stored.Needs.{Needs}
use Rattle.linear_transformation.specs.Digits.{rot_of, digit, Giant}
use Rattle.linear_transformation.specs.Listed.{no_baby, baby_multiple}
use Rattle.linear_transformation.specs.Calls.{baby_refusal, digit_refusal, digit_numbers, plan_numbers, pass_numbers, tree_numbers}
use Rattle.linear_transformation.specs.Stored.{needs_numbers}
use Rattle.linear_transformation.specs.Laws.Digits.{digit_turns}
use Rattle.linear_transformation.specs.Laws.Bits.{digit_small}

-- the refusal and the digit that an answer was made of
pub digit_numbers_answered : (e : Option Refusal) (d : Digit) → digit_numbers (answered e d) ≡ (number e, on_accept e d.0 (pos 0))
digit_numbers_answered None d = refl
digit_numbers_answered (Some e) d = refl

-- the refusal and the numbers of babies, giants and diagonals that a plan's answer was made of
pub plan_numbers_answered : (e : Option Refusal) (s : PlanSizes) → plan_numbers (answered e s) ≡ number e ∷ on_accept e s.babies 0 ∷ on_accept e s.giants 0 ∷ on_accept e s.diagonals 0 ∷ []
plan_numbers_answered None s = refl
plan_numbers_answered (Some e) s = refl

-- the refusal and the numbers of passes and moves that an answer was made of
pub pass_numbers_answered : (e : Option Refusal) (s : PassSizes) → pass_numbers (answered e s) ≡ number e ∷ on_accept e s.passes 0 ∷ on_accept e s.moves 0 ∷ []
pass_numbers_answered None s = refl
pass_numbers_answered (Some e) s = refl

-- the refusal, b and the number of pairs that a tree's answer was made of
pub tree_numbers_answered : (e : Option Refusal) (s : TreeSizes) → tree_numbers (answered e (Some s)) ≡ number e ∷ on_accept e s.bits 0 ∷ on_accept e s.pairs 0 ∷ []
tree_numbers_answered None s = refl
tree_numbers_answered (Some e) s = refl

-- per rotation there is no tree: no refusal, and zeros
pub tree_numbers_none : tree_numbers (Ok None) ≡ 0 ∷ 0 ∷ 0 ∷ []
tree_numbers_none = refl

-- the refusal, the numbers of babies, giants, pairs and switches, the step and b that an answer was made of
pub needs_numbers_answered : (e : Option Refusal) (n : Needs) → needs_numbers (answered e n) ≡ number e ∷ on_accept e n.babies 0 ∷ on_accept e n.giants 0 ∷ on_accept e n.pairs 0 ∷ on_accept e n.switches 0 ∷ on_accept e n.step 0 ∷ on_accept e n.bits 0 ∷ []
needs_numbers_answered None n = refl
needs_numbers_answered (Some e) n = refl

third : (a b c : Bool) → (a || b || c) ≡ false → c ≡ false
third true b c h = absurd (true≢false h)
third false true c h = absurd (true≢false h)
third false false c h = h

-- a baby that is accepted is its multiple times the step
multiple : (baby : ℤ) (step : ℕ) → no_baby baby step ≡ false → pos (baby_multiple baby step * step) ≡ baby
multiple (pos n) step h =
    let d : n % step ≡ 0 = eqb-true _ 0 (not-false _ (third (ltb n 0) (ltb 65535 n) _ h)) in
    ap pos (omega (arith, div-add-mod' n step))
multiple (negsuc n) step h = absurd (true≢false h)

pub baby_multiple_is : (baby : ℤ) (step : ℕ) → baby_refusal baby step ≡ None → pos (baby_multiple baby step * step) ≡ baby
baby_multiple_is baby step h = multiple baby step (pick_none (no_baby baby step) Named.Baby None (pick_none (outside step) Named.OutOfRange _ h).1).0

-- a rotation that is accepted is a giant
module _ (slots step : ℕ) (rot : ℤ) (h : digit_refusal slots step rot ≡ None) where
  pub step_positive : 0 < step
  step_positive = (inside step (pick_none (outside step) Named.OutOfRange _ (pick_none (outside slots) Named.Slots _ h).1).0).0

  pub is_giant : Giant slots step (rot_of slots rot)
  is_giant =
      let l = inside slots (pick_none (outside slots) Named.Slots _ h).0 in
      let m = pick_none _ Named.Giant None (pick_none (outside step) Named.OutOfRange _ (pick_none (outside slots) Named.Slots _ h).1).1 in
      record { reduced = residue_lt rot slots l.0; multiple = eqb-true _ 0 (not-false _ m.0) }

  pub digit_low : mag (digit slots step (rot_of slots rot)).0 < 2 ^ 15
  digit_low = digit_small slots step step_positive (inside slots (pick_none (outside slots) Named.Slots _ h).0).1 (rot_of slots rot) is_giant

  -- its digit times the step is the rotation, modulo slots
  pub giant_digit_is : residue_of ((digit slots step (rot_of slots rot)).0 *ℤ pos step) slots ≡ residue_of rot slots
  giant_digit_is = digit_turns slots step (rot_of slots rot) step_positive is_giant

-- the number that `giant_digit` answers is small, refused or not
small_answer : (e : Option Refusal) (d : Digit) → (e ≡ None → mag d.0 < 2 ^ 15) → mag (digit_numbers (answered e d)).1 < 2 ^ 15
small_answer None d h = h refl
small_answer (Some e) d h = omega arith

pub answer_small : (slots step : ℕ) (rot : ℤ) → mag (digit_numbers (answered (digit_refusal slots step rot) (digit slots step (rot_of slots rot)))).1 < 2 ^ 15
answer_small slots step rot = small_answer _ (digit slots step (rot_of slots rot)) (digit_low slots step rot)
