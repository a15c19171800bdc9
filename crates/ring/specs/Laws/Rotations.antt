-- Laws of rotation, for any length and any shift in ℤ: rotations compose, and only the shift's residue modulo the length counts.
-- Assumes nothing.
use Rattle.std.specs.Prelude.{◌≡◌, ℕ, ◌+◌, ◌%◌, ◌<◌, List, length, ℤ, pos, ◌+ℤ◌, slice_index, refl}
use Rattle.std.proofs.Math.Path.{sym, ap}
use Rattle.std.proofs.Common.{◌∙◌, add-zero, mod-eq_of_lt, arith}
use Rattle.std.specs.Int.{◌∣◌}
use Rattle.std.proofs.Math.Nat.{dvd_refl}
use Rattle.std.proofs.Math.IntN.{+ℤ_assoc, +ℤ_comm}
use Rattle.ring.specs.Vectors.{tabulate}
use Rattle.ring.specs.Residues.{residue_of}
use Rattle.ring.specs.Rotations.{rotated}
use Rattle.ring.specs.Laws.Vectors.{length_tabulate, get_or_tabulate, is_tabulate, tabulate_cong}
use Rattle.ring.specs.Laws.Residues.{residue_lt, residue_pos, residue_residue, residue_add, residue_shift}

pub length_rotated : (v : List ℕ) (k : ℤ) (n : ℕ) → length (rotated v k n) ≡ n
unfolding rotated
length_rotated v k n = length_tabulate n _

pub get_or_rotated : (v : List ℕ) (k : ℤ) (n j : ℕ) → j < n → slice_index (rotated v k n) j ≡ slice_index v (residue_of (pos j +ℤ k) (length v))
unfolding rotated
get_or_rotated v k n j l = get_or_tabulate n _ j 0 l

-- a vector turned by no slot
pub rotated_none : (v : List ℕ) → rotated v (pos 0) (length v) ≡ v
unfolding rotated
rotated_none v = sym (is_tabulate (length v) _ 0 v refl (λ i l. let h : 0 < length v = omega arith in rw (add-zero, residue_pos i (length v) h, mod-eq_of_lt l)))

module _ (v : List ℕ) (h : 0 < length v) where
  -- as many words as asked for: those of v over and over
  pub rotated_copies : (n : ℕ) → rotated v (pos 0) n ≡ tabulate n (λ j. slice_index v (j % length v))
  unfolding rotated
  rotated_copies n = tabulate_cong n _ _ (λ j l. rw (add-zero, residue_pos j (length v) h))

  -- only the residue of the shift counts
  pub rotated_residue : (k : ℤ) (n : ℕ) → rotated v k n ≡ rotated v (pos (residue_of k (length v))) n
  unfolding rotated
  rotated_residue k n =
      tabulate_cong n _ _
      (λ j l. ap (λ (x : ℕ). slice_index v x) (residue_add j k (length v) h ∙ sym (residue_add j (pos (residue_of k (length v))) (length v) h ∙ ap (λ (x : ℕ). (j + x) % length v) (residue_residue k (length v) h))))

  -- a rotation of a rotation, whose length is any multiple of v's
  pub rotated_rotated : (a b : ℤ) (m n : ℕ) → 0 < m → length v ∣ m → rotated (rotated v a m) b n ≡ rotated v (a +ℤ b) n
  unfolding rotated
  rotated_rotated a b m n p d =
      tabulate_cong n _ _
      (λ j l.
      let z : ℤ = pos j +ℤ b in
      let i : ℕ = residue_of z m in
      let e : z +ℤ a ≡ pos j +ℤ (a +ℤ b) = +ℤ_assoc (pos j) b a ∙ ap (λ (x : ℤ). pos j +ℤ x) (+ℤ_comm b a) in
      ap (λ (x : ℕ). slice_index (rotated v a m) (residue_of z x)) (length_rotated v a m)
      ∙ get_or_rotated v a m i (residue_lt z m p)
      ∙ ap (λ (x : ℕ). slice_index v x) (residue_shift z a m (length v) p d ∙ ap (λ (x : ℤ). residue_of x (length v)) e))

  -- rotations compose modulo the length
  pub rotations_compose : (a b : ℤ) → rotated (rotated v a (length v)) b (length v) ≡ rotated v (pos (residue_of (a +ℤ b) (length v))) (length v)
  rotations_compose a b = rotated_rotated a b (length v) (length v) h (dvd_refl _) ∙ rotated_residue (a +ℤ b) (length v)
