-- `diagonals::rotation::rotate_slots_into` meets its contract: each return rewrites with the tests that led there. Assumes nothing.
use Rattle.std.proofs.Common.{◌≡◌, ℕ, ◌<◌, List, length, get_or, ℤ, pos, ◌+ℤ◌, sym, ◌∙◌, w64, SFits, to_z, of_z, eq-eqb}
use mir.ValLaws.{to_z-of_z}
use Rattle.ring.specs.Vectors.{tabulate}
use Rattle.ring.specs.Residues.{residue_of}
use Rattle.ring.specs.Rotations.{rotated}
use Rattle.ring.specs.Laws.Vectors.{tabulate_cong}
use Rattle.ring.specs.Laws.Residues.{residue_add}
use Rattle.diagonals.specs.Steps.Writing.{spin}
use Rattle.diagonals.proofs.rotation.rotate_slots_into.Goals as goal

-- what `fill` leaves, from the residue that it was handed
whole : (src : List ℕ) (k : ℤ) (r n : ℕ) → SFits w64 k → 0 < length src → r ≡ residue_of (to_z w64 (of_z w64 k)) (length src) → tabulate n (spin src r) ≡ rotated src k n
unfolding rotated
whole src k r n f h e =
    let e' : r ≡ residue_of k (length src) = rw (to_z-of_z w64 k f) at e in
    tabulate_cong n (spin src r) (λ j. get_or src (residue_of (pos j +ℤ k) (length src)) 0) (λ j l. rw (residue_add j k (length src) h, e'))

pub returns : goal.returns
returns c =
    let o = c.is_outside.ensures in
    record {
      answer = rw (sym o.answer ∙ c.if-is_outside.false, eq-eqb _ 0 c.if-out-n-ne0.false);
      out = rw (sym o.answer ∙ c.if-is_outside.false, eq-eqb _ 0 c.if-out-n-ne0.false) (c.fill.ensures ∙ whole c.args.src.now c.args.k _ _ c.ranges.k (o.inside c.if-is_outside.false).0 (c.residue-from.ensures));
    }
