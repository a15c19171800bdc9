-- A strategy with powers of two, and one where each rotation has its own key.
-- Assumes nothing.
use Rattle.std.specs.Prelude.{◌≡◌, ◌≢◌, ℕ, true, false, List, length, refl}
use Rattle.std.proofs.Common.{sym, true≢false}
use Rattle.linear_transformation.specs.declared.LinearTransformationStrategy.{LinearTransformationStrategy}
use Rattle.linear_transformation.specs.declared.LinearTransformationStrategy.TheVariants.{Bsgs, BsgsPowersOfTwo, Direct}
use Rattle.linear_transformation.specs.Plans.{width_of, babies, giants}
use Rattle.linear_transformation.specs.Closures.{nonzeros}
use Rattle.linear_transformation.specs.Schedules.{plan_babies, keys_per_rotation, plan_keys, giant_switches}
use Rattle.linear_transformation.specs.Stored.{pair_count, step_of, bits_for}
use Rattle.linear_transformation.specs.Steps.Strategies.{turns_each}

powers_by : (s : LinearTransformationStrategy) → turns_each s ≡ false → s ≡ BsgsPowersOfTwo (width_of s)
unfolding turns_each
powers_by (Bsgs w) e = absurd (true≢false e)
powers_by (BsgsPowersOfTwo w) e = refl
powers_by Direct e = absurd (true≢false e)

pub powers : {s : LinearTransformationStrategy} {w : ℕ} → turns_each s ≡ false → w ≡ width_of s → s ≡ BsgsPowersOfTwo w
powers {s} e n = rw n (powers_by s e)

pub each_else : (s : LinearTransformationStrategy) → ((w : ℕ) → s ≢ BsgsPowersOfTwo w) → turns_each s ≡ true
unfolding turns_each
each_else (Bsgs w) h = refl
each_else (BsgsPowersOfTwo w) h = absurd (h w refl)
each_else Direct h = refl

-- where each rotation has its own key
pub record Own (s : LinearTransformationStrategy) (slots : ℕ) (ds : List ℕ) : Type 0 where
  pub babies_are : plan_babies slots s ds ≡ babies slots (width_of s) ds
  pub keys_are : plan_keys slots s ds ≡ keys_per_rotation (babies slots (width_of s) ds) (giants slots (width_of s) ds)
  pub switches_are : giant_switches slots s ds ≡ length (nonzeros (giants slots (width_of s) ds))
  pub no_pairs : pair_count slots s ds ≡ 0
  pub no_step : step_of slots s ds ≡ 0
  pub no_bits : bits_for slots s ds ≡ 0

own_by : (s : LinearTransformationStrategy) → turns_each s ≡ true → (slots : ℕ) (ds : List ℕ) → Own s slots ds
unfolding turns_each plan_babies plan_keys giant_switches pair_count step_of bits_for
own_by (Bsgs w) h slots ds = record { babies_are = refl; keys_are = refl; switches_are = refl; no_pairs = refl; no_step = refl; no_bits = refl }
own_by (BsgsPowersOfTwo w) h slots ds = absurd (true≢false (sym h))
own_by Direct h slots ds = record { babies_are = refl; keys_are = refl; switches_are = refl; no_pairs = refl; no_step = refl; no_bits = refl }

pub own : {s : LinearTransformationStrategy} → turns_each s ≡ true → (slots : ℕ) (ds : List ℕ) → Own s slots ds
own {s} e = own_by s e
