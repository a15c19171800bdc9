-- `runs::evaluate` meets its contract. Assumes nothing.
use Rattle.std.specs.Prelude.{None, Ok}
use Rattle.std.proofs.Common.{◌≡◌, ℕ, ◌≤◌, Bool, true, false, not, eqb, ltb, List, [], ◌∷◌, ◌++◌, length, drop, sym, refl, ap, ◌∙◌, le-ltb, eq-eqb}
use Rattle.ring.specs.declared.refusal.Refusal.{Refusal}
use Rattle.ring.specs.declared.refusal.Refusal.TheVariants.{OutOfRange, Length, Room}
use Rattle.ring.specs.Slots.{modulus}
use Rattle.ring.specs.Vectors.{tabulate, in_front}
use Rattle.ring.specs.Refusals.{outside}
use Rattle.ring.specs.Laws.Refusals.{first_later}
use Rattle.ring.specs.Laws.Vectors.{length_tabulate}
use Rattle.diagonals.specs.Maps.{view, well_formed}
use Rattle.diagonals.specs.Products.{product}
use Rattle.diagonals.specs.Calls.{map_refusals, SameParts}
use Rattle.diagonals.specs.Laws.Calls.{same_accepted}
use Rattle.linear_transformation.specs.declared.LinearTransformationStrategy.{LinearTransformationStrategy}
use Rattle.linear_transformation.specs.Strategies.{width_outside}
use Rattle.runs.specs.Calls.{evaluate_refusal, Evaluated}
use Rattle.runs.proofs.evaluate.Goals as goal

-- the refusals after the map's
abbrev later : ℕ → List ℕ → LinearTransformationStrategy → List ℕ → List (Bool × Refusal)
later slots input strategy out = (width_outside strategy, OutOfRange) ∷ (not (eqb (length input) slots), Length) ∷ (ltb (length out) slots, Room) ∷ []

module _ {slots count slots₁ count₁ : ℕ} {pairs values pairs₁ values₁ : List ℕ} (e : SameParts slots count pairs values slots₁ count₁ pairs₁ values₁) (a : outside slots₁ ≡ false) (b : well_formed slots₁ count₁ pairs₁ values₁ ≡ true) (input : List ℕ) (strategy : LinearTransformationStrategy) (old : List ℕ)
    (w : width_outside strategy ≡ false) (i : length input ≡ slots) (l : slots ≤ length old) where
  done : {ys : List ℕ} → ys ≡ tabulate slots₁ (product modulus slots₁ (view count₁ pairs₁ values₁) input) → Evaluated slots count pairs values input strategy old (ys ++ drop slots old) (Ok tt)
  unfolding in_front
  done h =
      let none : evaluate_refusal slots count pairs values input strategy old ≡ None = first_later (map_refusals slots count pairs values) (later slots input strategy old) (same_accepted e a b) ∙ rw (w, eq-eqb (length input) slots i, le-ltb (length old) slots l) refl in
      record {
        answer = rw none refl;
        out = rw (none, h, e.slots_is, e.count_is, e.pairs_is, e.values_is) (ap (λ (x : ℕ). tabulate slots (product modulus slots (view count pairs values) input) ++ drop x old) (sym (length_tabulate slots _)));
      }

pub returns : goal.returns
returns c = done c.in_ok-map.ensures c.in_ok-map.map.in_range c.in_ok-map.map.formed _ _ _ (sym c.is_width_outside.ensures ∙ c.if-is_width_outside.false) c.if-input-slots.false c.if-out-slots.false c.multiply.ensures
