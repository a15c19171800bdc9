-- `diagonals::map::formed_total` meets its contract. Assumes nothing.
use Rattle.std.proofs.Common.{◌≡◌, ℕ, ◌≤◌, List, length, None, slice_index_or, [], false, true, ◌&&◌, nat_le, refl, sym, ◌∙◌, le_refl, arith}
use Rattle.std.specs.Bool.{then_some}
use native.Mathlib.Nat.{one-dvd}
use Rattle.ring.specs.Divisors.{divides}
use Rattle.ring.specs.Searches.{every}
use Rattle.diagonals.specs.Maps.{pair_room, start_at, formed_at, well_formed}
use Rattle.diagonals.specs.Laws.Checking.{checking_none, checking_more, divisor_more, fails_rise, fails_low, fails_len, total_is, checking_done, divisor_passes}
use Rattle.diagonals.specs.Laws.Entries.{entries_length, entry_low, entry_offset, entry_length}
use Rattle.diagonals.proofs.map.formed_total.Goals as goal
use Rattle.diagonals.proofs.map.formed_total.Goals.{then-offset-next-via-then-offset-next, then-offset-next-via-else-offset-next+then-slots-offset}
use Rattle.diagonals.proofs.map.formed_total.Goals.{else-len-last-via-then-len-last+else-not-is_period, else-len-last-via-else-len-last}

-- the pairs are inside: what the walk over them tells decides
module _ (slots count : ℕ) (pairs values : List ℕ) (h : nat_le (pair_room count) (length pairs) ≡ true) where
  unformed : false ≡ every (formed_at slots pairs values) count → None ≡ then_some (well_formed slots count pairs values) (start_at pairs count)
  unfolding well_formed
  unformed e = rw (h, ← e) refl

  formed : {total : ℕ} → total ≡ start_at pairs count → nat_le total (length values) ≡ every (formed_at slots pairs values) count → then_some (nat_le total (length values)) total ≡ then_some (well_formed slots count pairs values) (start_at pairs count)
  unfolding well_formed
  formed e f = rw (h, ← f, e) refl

pub returns-then-not-has_pairs : goal.returns-then-not-has_pairs
unfolding well_formed
returns-then-not-has_pairs c = rw (sym c.has_pairs.ensures ∙ c.if-not-has_pairs.true) refl

pub loop-offset-init : goal.loop-offset-init
loop-offset-init c = (checking_none _ _ _, record { some = le_refl 1; divides = one-dvd _ })

pub returns-then-offset-next : goal.returns-then-offset-next
returns-then-offset-next c =
    let e = c.first_pairs-offset-items.ensures in
    let l = c.loop-offset-test.true in
    unformed c.args.slots c.args.count c.args.pairs.now c.args.values.now (sym c.has_pairs.ensures ∙ c.if-not-has_pairs.false)
    (elim c.then-offset-next.branch [
      | then-offset-next-via-then-offset-next w ↦ fails_rise c.loop-offset.invariant.0 (entry_low _ _ e l) (entry_offset _ _ e l) (entry_length _ _ e l) c.args.values.now w.if-offset-next.true
      | then-offset-next-via-else-offset-next+then-slots-offset w ↦ fails_low c.loop-offset.invariant.0 (entry_low _ _ e l) (entry_offset _ _ e l) (entry_length _ _ e l) c.args.values.now w.if-slots-offset.true
    ])

pub returns-then-not-is_period : goal.returns-then-not-is_period
returns-then-not-is_period c =
    let e = c.first_pairs-offset-items.ensures in
    let l = c.loop-offset-test.true in
    unformed c.args.slots c.args.count c.args.pairs.now c.args.values.now (sym c.has_pairs.ensures ∙ c.if-not-has_pairs.false)
    (fails_len c.loop-offset.invariant.0 (entry_low _ _ e l) (entry_offset _ _ e l) (entry_length _ _ e l) c.args.values.now (sym c.is_period.ensures ∙ c.if-not-is_period.true))

pub loop-offset-preserved : goal.loop-offset-preserved
loop-offset-preserved c =
    let e = c.first_pairs-offset-items.ensures in
    let l = c.loop-offset-test.true in
    let v = c.loop-offset.invariant.0 in
    let p : (nat_le 1 (slice_index_or (slice_index_or c.first_pairs-offset-items.result.now c.loop-offset.offset-index []) 1 0) && divides (slice_index_or (slice_index_or c.first_pairs-offset-items.result.now c.loop-offset.offset-index []) 1 0) c.args.slots) ≡ true =
    elim c.else-len-last.branch [
      | else-len-last-via-then-len-last+else-not-is_period w ↦ sym w.is_period.ensures ∙ w.if-not-is_period.false
      | else-len-last-via-else-len-last w ↦ divisor_passes c.loop-offset.invariant.1 w.if-len-last.false
    ] in
    (checking_more v (entry_low _ _ e l) (entry_offset _ _ e l) (entry_length _ _ e l) c.requires c.if-offset-next.false c.if-slots-offset.false p, divisor_more v (entry_low _ _ e l) (entry_offset _ _ e l) (entry_length _ _ e l) c.requires c.if-offset-next.false c.if-slots-offset.false p)

pub returns : goal.returns
returns c =
    let done : c.args.count ≤ c.loop-offset.offset-index = omega (arith, entries_length _ _ c.first_pairs-offset-items.ensures) in
    c.then_some.ensures ∙ formed c.args.slots c.args.count c.args.pairs.now c.args.values.now (sym c.has_pairs.ensures ∙ c.if-not-has_pairs.false) (total_is c.loop-offset.invariant.0 done c.args.values.now) (checking_done c.loop-offset.invariant.0 done c.args.values.now)
