-- The keys of sorted diagonals where each rotation has its own: the nonzero babies, then the nonzero giants.
-- Assumes nothing.
use Rattle.std.specs.Prelude.{◌≡◌, ℕ, ◌+◌, ◌*◌, ◌≤◌, ◌<◌, Bool, true, false, List, [], map, length, set, Ok, Err}
use Rattle.std.proofs.Common.{ap, ◌∙◌}
use Rattle.ring.specs.Searches.{below}
use Rattle.ring.specs.Marks.{marks}
use Rattle.ring.specs.declared.refusal.Refusal.TheVariants.{Room}
use Rattle.linear_transformation.specs.declared.sorted.Sorted.{Sorted}
use Rattle.linear_transformation.specs.Plans.{width_of, babies, giants}
use Rattle.linear_transformation.specs.Closures.{nonzeros}
use Rattle.linear_transformation.specs.Schedules.{plan_keys}
use Rattle.linear_transformation.specs.Calls.{ListWritten}
use Rattle.linear_transformation.specs.Steps.Strategies.{turns_each}
use Rattle.linear_transformation.specs.Steps.Plans.{BabiesMarked, MultiplesEnd}
use Rattle.linear_transformation.specs.Steps.Keys.{BabyTable}
use Rattle.linear_transformation.specs.Steps.Tables.{Writing}
use Rattle.linear_transformation.proofs.Facts.{sizable}
use Rattle.linear_transformation.proofs.Strategies.{own}
use Rattle.linear_transformation.proofs.Keyings.{own_table}
use Rattle.linear_transformation.proofs.KeyAnswers.{keys_own, own_small, own_short, own_written}

-- the babies are marked; `seen` is their table before the mark of 0 is taken away
module _ (s : Sorted) {seen : List Bool} {n : ℕ} (m : BabiesMarked (width_of s.strategy) 1 s.ds.now seen) (e : MultiplesEnd s.slots (width_of s.strategy) 1 n) where
  pub own_babies : BabyTable (babies s.slots (width_of s.strategy) s.ds.now) seen n 1
  own_babies = own_table (sizable s) m e

  -- gs: the nonzero giants
  module _ {count turns : ℕ} {gs : List ℕ} (g : gs ≡ nonzeros (giants 65536 (width_of s.strategy) s.ds.now)) (c : count ≡ length (below (marks (set seen 0 false)) n)) (d : turns ≡ length gs) where
    turns_are : turns ≡ length (nonzeros (giants 65536 (width_of s.strategy) s.ds.now))
    turns_are = d ∙ ap length g

    pub keys_small : count + turns ≤ 131072
    keys_small = own_small (sizable s) own_babies c turns_are

    module _ (old : List ℕ) where
      pub keys_short : turns_each s.strategy ≡ true → length old < count + turns → ListWritten [] (plan_keys s.slots s.strategy s.ds.now) old old (Err Room)
      keys_short k l = keys_own (own k _ _) (own_short (sizable s) own_babies c turns_are old l)

      module _ (l : count + turns ≤ length old) {mid : List ℕ} {at : ℕ} (u : Writing 0 (map (λ k. k * 1) (below (marks (set seen 0 false)) n)) old mid at) where
        pub keys_written : {new : List ℕ} {to : ℕ} → turns_each s.strategy ≡ true → Writing count gs mid new to → ListWritten [] (plan_keys s.slots s.strategy s.ds.now) old new (Ok (count + turns))
        keys_written k v = keys_own (own k _ _) (own_written (sizable s) own_babies c turns_are old l u (rw g at v))
