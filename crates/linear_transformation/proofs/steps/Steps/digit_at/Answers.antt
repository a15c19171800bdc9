-- `linear_transformation::steps::Steps::digit_at` meets its contract. Assumes nothing.
use mathlib.Core.Path.{ap, ◌∙◌}
use lib.IntN.{ℤ}
use mir.Syntax.{w64}
use mir.ValLaws.{to_z-of_z}
use Rattle.ring.specs.Residues.{residue_of}
use Rattle.linear_transformation.proofs.Listings.{digit_made}
use Rattle.linear_transformation.proofs.steps.Steps.digit_at.Goals as goal

pub returns : goal.returns
returns c = digit_made c.args.self.now.stepped c.requires (c.residue.ensures ∙ ap (λ (z : ℤ). residue_of z c.args.self.now.slots) (to_z-of_z w64 c.args.giant c.ranges.giant)) c.digit.ensures
