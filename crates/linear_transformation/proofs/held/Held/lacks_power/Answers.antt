-- `linear_transformation::held::Held::lacks_power` meets its contract. Assumes nothing.
use Rattle.std.proofs.Common.{ℕ, refl}
use lib.ListN.{length-replicate}
use Rattle.linear_transformation.proofs.Facts.{accepted}
use Rattle.linear_transformation.proofs.Missings.{keys_answer, powers_listed, powers_lacking}
use Rattle.linear_transformation.proofs.held.Held.lacks_power.Goals as goal

pub unwrap-count-requires : goal.unwrap-count-requires
unwrap-count-requires c = rw (keys_answer (accepted c.args.sorted.now) c.requires.powers (length-replicate {A = ℕ} 32 0) c.power_keys.ensures) refl

pub lacks_listed-requires : goal.lacks_listed-requires
lacks_listed-requires c = powers_listed (accepted c.args.sorted.now) c.requires.powers (length-replicate {A = ℕ} 32 0) c.power_keys.ensures c.unwrap-count.ensures

pub returns : goal.returns
returns c = powers_lacking (accepted c.args.sorted.now) c.requires.powers (length-replicate {A = ℕ} 32 0) c.power_keys.ensures c.unwrap-count.ensures c.lacks_listed.ensures
