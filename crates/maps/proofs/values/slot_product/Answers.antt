-- `maps::values::slot_product` meets its contract. Assumes nothing.
use Rattle.std.proofs.Common.{◌≡◌, ℕ, ◌≤◌, Result, Ok, Err, List, length, ℤ, sym, refl, ◌∙◌, length-take-le, w64, SFits, to_z, of_z, rules}
use native.Mathlib.Nat.{mod_self}
use mir.ValLaws.{to_z-of_z}
use Rattle.ring.specs.declared.refusal.Refusal.{Refusal}
use Rattle.ring.specs.Rotations.{rotated}
use Rattle.ring.specs.Laws.Refusals.{not_outside}
use Rattle.ring.specs.Laws.Answers.{no_refused}
use Rattle.diagonals.specs.Calls.{Rotated}
use Rattle.maps.specs.Laws.Skewing.{is_period, product_no_room, product_written}
use Rattle.maps.proofs.values.slot_product.Goals as goal

-- what the rotation leaves
turned : (v : List ℕ) (k : ℤ) (old new : List ℕ) (r : Result Unit Refusal) → SFits w64 k → 1 ≤ length v → length v ≤ 65536 → length old ≡ length v → Rotated v (to_z w64 (of_z w64 k)) old new r → (r ≡ Ok tt) × (new ≡ rotated v k (length v))
turned v k old new r f lo hi e h =
    let g : Rotated v k old new r = rw (to_z-of_z w64 k f) at h in
    (g.answer ∙ rw (not_outside (length v) lo hi, e, mod_self (length v)), g.out ∙ rw (not_outside (length v) lo hi, e, mod_self (length v)))

pub returns-in_err-check_room : goal.returns-in_err-check_room
returns-in_err-check_room c =
    let p = is_period c.is_outside.ensures c.if-is_outside.false c.if-n-eq0.false c.if-slots-n-ne0.false in
    let e : c.from_residual.result ≡ Err c.in_err-check_room.field-0.0 = search rules in
    rw e (product_no_room _ _ _ _ _ p c.check_room.ensures c.in_err-check_room.was)

pub returns-in_err-rotate_slots_into : goal.returns-in_err-rotate_slots_into
returns-in_err-rotate_slots_into c =
    let p = is_period c.is_outside.ensures c.if-is_outside.false c.if-n-eq0.false c.if-slots-n-ne0.false in
    let room = c.check_room.ensures.values_fit c.in_ok-check_room.was in
    no_refused (sym c.in_err-rotate_slots_into.was ∙ (turned c.args.v.now c.args.rotation _ _ _ c.ranges.rotation p.some p.small (length-take-le _ _ room) c.rotate_slots_into.ensures).0)

pub returns : goal.returns
returns c =
    let p = is_period c.is_outside.ensures c.if-is_outside.false c.if-n-eq0.false c.if-slots-n-ne0.false in
    let room = c.check_room.ensures.values_fit c.in_ok-check_room.was in
    product_written _ _ _ _ _ p c.check_room.ensures c.in_ok-check_room.was
    c.put_pair.ensures
    (turned c.args.v.now c.args.rotation _ _ _ c.ranges.rotation p.some p.small (length-take-le _ _ room) c.rotate_slots_into.ensures).1
    refl
