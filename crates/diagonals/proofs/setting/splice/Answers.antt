-- `diagonals::setting::splice` meets its contract. Assumes nothing.
use Rattle.std.proofs.Common.{refl, sym, ◌∙◌}
use Rattle.std.proofs.lemmas.Slice.{put_mid-paste}
use native.Mathlib.Nat.{add-sub_cancel_left}
use Rattle.diagonals.proofs.Moving.{splice_done, splice_still}
use Rattle.diagonals.proofs.setting.splice.Goals.{then-behind-from, else-behind-from}
use Rattle.diagonals.proofs.setting.splice.Goals as goal

pub returns : goal.returns
returns g c =
    elim c.if-behind-from.branch [
      | then-behind-from w ↦ splice_done c.args.words.now c.args.new.now c.requires (w.words-is ∙ w.copy_within.ensures.after) (put_mid-paste _ _ _ _ c.args.new.now _ c.copy_into.ensures (sym (add-sub_cancel_left _ _)) refl)
      | else-behind-from w ↦ splice_still c.args.words.now c.args.new.now c.requires w.if-behind-from.false w.words-is (put_mid-paste _ _ _ _ c.args.new.now _ c.copy_into.ensures (sym (add-sub_cancel_left _ _)) refl)
    ]
