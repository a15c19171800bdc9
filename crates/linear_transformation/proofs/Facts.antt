-- What the types of sorted diagonals, lists of babies and lists of giants keep, as laws take it.
-- Assumes nothing.
use Rattle.std.proofs.Common.{arith}
use Rattle.ring.specs.Refusals.{Range}
use Rattle.linear_transformation.specs.declared.sorted.Sorted.{Sorted}
use Rattle.linear_transformation.specs.declared.babies.BabyList.{BabyList}
use Rattle.linear_transformation.specs.Plans.{width_of}
use Rattle.linear_transformation.specs.Steps.Plans.{Diagonals}
use Rattle.linear_transformation.specs.Steps.Keys.{Sizable, Accepted}
use Rattle.linear_transformation.specs.Listed.{no_baby}
use Rattle.linear_transformation.specs.Steps.Babies.{Babies}
use Rattle.linear_transformation.proofs.BabyChecks.{each_false}
use Rattle.linear_transformation.proofs.Keyings.{sized, width_range}

module _ (s : Sorted) where
  width_inside : Range (width_of s.strategy)
  width_inside = width_range s.strategy s.width_in

  pub accepted : Accepted s.slots s.strategy s.ds.now
  accepted = record { slots_in_fact = s.slots_range; width_in = s.width_in; planned = record { rises = s.rises; low = s.low; positive = omega (arith, width_inside.low) } }

  pub sizable : Sizable s.slots (width_of s.strategy) s.ds.now
  sizable = record { slots_in_fact = s.slots_range; width_in = width_inside; planned = accepted.planned }

  pub diagonals : Diagonals (width_of s.strategy) s.ds.now
  diagonals = sized sizable

pub babies : (l : BabyList) → Babies l.step l.babies.now
babies l = record { range = l.range; each = each_false (λ z. no_baby z l.step) l.babies.now l.accepted }
