-- The loop around a period: what it asks of a run, and a turn.
-- Assumes nothing.
use Rattle.std.proofs.Common.{◌≡◌, ℕ, ◌+◌, ◌-◌, ◌%◌, ◌<◌, ◌≤◌, min, List, ◌++◌, length, get_or, take, drop, sym, ap, ◌∙◌, mod-lt, mod-eq_of_lt, arith, length-drop, length-take, get_or-drop, get_or-take}
use native.Mathlib.Nat.{mod-add-mod}
use Rattle.std.specs.Prelude.{Result}
use Rattle.ring.specs.declared.refusal.Refusal.{Refusal}
use Rattle.ring.specs.Vectors.{tabulate, Filling}
use Rattle.ring.specs.Calls.{product_added, MultiplyAdd}
use Rattle.ring.specs.Laws.Vectors.{tabulate_cong, filling_block, filling_rest}
use Rattle.runs.specs.Steps.Plain.{Around, around_added}
use Rattle.runs.proofs.Accepted.{multiplied_is}
use Rattle.runs.proofs.Parts.{same_word}

module _ {period vector part₀ part : List ℕ} {from s : ℕ} (a : Around period from vector part₀) (f : Filling (around_added period from vector part₀) part₀ part s) (l : s < length part₀) where
  pub at_low : (from + s) % length period < length period
  at_low = mod-lt (from + s) (omega (arith, a.low))

  module _ {run : ℕ} (h : run ≡ min (length period - (from + s) % length period) (length part₀ - s)) where
    abbrev at : ℕ
    at = (from + s) % length period

    pub period_room : at + run ≤ length period
    period_room = omega (arith, at_low)

    pub part_room : s + run ≤ length part
    part_room = omega (arith, f.len)

    pub vector_room : s + run ≤ length vector
    vector_room = omega (arith, a.same)

    -- the run lies within the period
    within : (i : ℕ) → i < run → (from + (s + i)) % length period ≡ at + i
    within i m =
        ap (λ (x : ℕ). x % length period) (let e : from + (s + i) ≡ from + s + i = omega arith in e)
        ∙ sym (mod-add-mod (from + s) (length period) i)
        ∙ mod-eq_of_lt (omega (arith, at_low))

    period_length : length (take (at + run - at) (drop at period)) ≡ s + run - s
    period_length = simp (length-take, length-drop) (omega (arith, period_room))

    vector_length : length (take (s + run - s) (drop s vector)) ≡ s + run - s
    vector_length = simp (length-take, length-drop) (omega (arith, vector_room))

    part_length : length (take (s + run - s) (drop s part)) ≡ s + run - s
    part_length = simp (length-take, length-drop) (omega (arith, part_room))

    pub around_more : {ys : List ℕ} {r : Result Unit Refusal} → MultiplyAdd (take (at + run - at) (drop at period)) (take (s + run - s) (drop s vector)) (take (s + run - s) (drop s part)) ys r
        → Filling (around_added period from vector part₀) part₀ (take s part ++ (ys ++ drop (s + run - s) (drop s part))) (s + run)
    around_more {ys} m =
        filling_block f (s + run - s) (s + run) ys (omega arith) part_room
        (multiplied_is m (period_length ∙ sym part_length) (vector_length ∙ sym part_length)
        ∙ ap (λ (x : ℕ). tabulate x (product_added (take (at + run - at) (drop at period)) (take (s + run - s) (drop s vector)) (take (s + run - s) (drop s part)))) part_length
        ∙ tabulate_cong (s + run - s) _ _
        (λ i q.
        let u : i < run = omega arith in
        let v : i < at + run - at = omega arith in
        same_word
        (get_or-take (s + run - s) (drop s part) i 0 q ∙ get_or-drop s part i 0 ∙ filling_rest f (s + i) 0 (omega arith))
        (get_or-take (at + run - at) (drop at period) i 0 v ∙ get_or-drop at period i 0 ∙ ap (λ (x : ℕ). get_or period x 0) (sym (within i u)))
        (get_or-take (s + run - s) (drop s vector) i 0 q ∙ get_or-drop s vector i 0)))
