-- `sibukyaran::store::get_into` meets its contract. Assumes nothing.
use Rattle.std.specs.Prelude.{None, Ok}
use Rattle.std.proofs.Common.{◌≡◌, ℕ, ◌≤◌, ltb, List, [], ◌∷◌, ◌++◌, length, drop, ℤ, sym, ◌∙◌, le-ltb, w64}
use mir.ValLaws.{to_z-of_z}
use Rattle.ring.specs.declared.refusal.Refusal.TheVariants.{Room}
use Rattle.ring.specs.Vectors.{in_front}
use Rattle.ring.specs.Residues.{residue_of}
use Rattle.ring.specs.Laws.Refusals.{first_later, on_accept_accepted}
use Rattle.diagonals.specs.Maps.{view}
use Rattle.diagonals.specs.Products.{stretch}
use Rattle.diagonals.specs.Calls.{map_refusals, map_refusal, gotten}
use Rattle.diagonals.specs.Laws.Calls.{same_accepted}
use Rattle.sibukyaran.specs.Numbers.{get_refusal, GotInto}
use Rattle.sibukyaran.proofs.store.get_into.Goals as goal

module _ (slots count : ℕ) (pairs values : List ℕ) (index : ℤ) (old : List ℕ) (none : map_refusal slots count pairs values ≡ None) where
  -- the stretch of an accepted map has room, and stands in front
  done : (part : List ℕ) → part ≡ stretch (view count pairs values) (residue_of index slots) → length part ≤ length old → GotInto slots count pairs values index old (part ++ drop (length part) old) (Ok (length part))
  unfolding in_front
  done part h l =
      let e : part ≡ gotten slots count pairs values index = h ∙ sym (on_accept_accepted _ _ _ none) in
      let accepted : get_refusal slots count pairs values index old ≡ None = first_later (map_refusals slots count pairs values) ((ltb (length old) (length (gotten slots count pairs values index)), Room) ∷ []) none ∙ rw (← e, le-ltb _ _ l) in
      record { answer = rw (accepted, ← e); out = rw (accepted, ← e) }

pub returns : goal.returns
returns c =
    let same = c.in_ok-accept.ensures in
    let map = c.in_ok-accept.field-0 in
    let e = rw (to_z-of_z w64 c.args.index c.ranges.index, same.slots_is, same.count_is, same.pairs_is, same.values_is) at c.get-stretch.ensures in
    rw c.copy_into.ensures (done _ _ _ _ c.args.index c.args.out.now (same_accepted same map.in_range map.formed) c.get-stretch.result.now e c.if-out-n.false)
