-- Calls whose refusal is ruled out: they give a value, and leave what an accepted call leaves.
-- Assumes nothing.
use Rattle.std.specs.Prelude.{◌≡◌, ℕ, ◌≤◌, List, length, ℤ, Option, None, Result, IsOk, refl}
use Rattle.std.proofs.Common.{◌∙◌, eq-eqb}
use Prim.Native.Nat.{◌∣◌}
use Rattle.ring.specs.declared.refusal.Refusal.{Refusal}
use Rattle.ring.specs.Vectors.{tabulate}
use Rattle.ring.specs.Rotations.{rotated}
use Rattle.ring.specs.Answers.{answered}
use Rattle.ring.specs.Calls.{product_added, multiply_refusal, MultiplyAdd}
use Rattle.ring.specs.Laws.Divisors.{divides_yes}
use Rattle.ring.specs.Laws.Refusals.{not_outside, on_accept_accepted}
use Rattle.diagonals.specs.Calls.{rotate_refusal, Rotated}

pub given : {A : Type 0} (e : Option Refusal) (v : A) {r : Result A Refusal} → r ≡ answered e v → e ≡ None → IsOk r
given e v a h = rw (a, h) refl

module _ {a b old new : List ℕ} {r : Result Unit Refusal} (m : MultiplyAdd a b old new r) (ea : length a ≡ length old) (eb : length b ≡ length old) where
  same_lengths : multiply_refusal a b old ≡ None
  same_lengths = rw (eq-eqb (length a) (length old) ea, eq-eqb (length b) (length old) eb)

  pub multiplied_is : new ≡ tabulate (length old) (product_added a b old)
  multiplied_is = m.out ∙ on_accept_accepted _ _ _ same_lengths

module _ {src old new : List ℕ} {k : ℤ} {r : Result Unit Refusal} (t : Rotated src k old new r) (some : 1 ≤ length src) (small : length src ≤ 65536) (d : length src ∣ length old) where
  whole_copies : rotate_refusal src old ≡ None
  whole_copies = rw (not_outside (length src) some small, divides_yes (length src) (length old) d)

  pub rotating : IsOk r
  rotating = given _ tt t.answer whole_copies

  pub rotating_is : new ≡ rotated src k (length old)
  rotating_is = t.out ∙ on_accept_accepted _ _ _ whole_copies
