-- `runs::surveying::Survey::parts` meets its contract. Assumes nothing.
use Rattle.std.proofs.Common.{◌≡◌, ℕ, zero, suc, ◌+◌, ◌*◌, ◌≤◌, List, [], ◌∷◌, length, take, drop, drop-drop, length-drop, refl, ap, ◌∙◌, arith}
use Rattle.std.specs.Simd.{first_chunks}
use Rattle.ring.specs.Vectors.{tabulate}
use Rattle.ring.specs.Laws.Vectors.{tabulate_cong}
use Rattle.runs.specs.Steps.Surveys.{cut_at}
use Rattle.runs.proofs.surveying.Survey.parts.Goals as goal

-- two words further on
further : (a b : ℕ) (ws : List ℕ) (i : ℕ) → cut_at ws i ≡ cut_at (a ∷ b ∷ ws) (suc i)
further a b ws i =
    let e : 2 * suc i ≡ suc (suc (2 * i)) = omega arith in
    let f : 2 * suc i + 1 ≡ suc (suc (2 * i + 1)) = omega arith in
    rw (f, e) refl

-- the library's chunks of two words
chunks_are : (n k : ℕ) (ws : List ℕ) → n ≤ k → 2 * n ≤ length ws → take n (first_chunks 2 k ws) ≡ tabulate n (cut_at ws)
chunks_are zero k ws h l = refl
chunks_are (suc n) zero ws h l = absurd (omega arith)
chunks_are (suc n) (suc k) [] h l = absurd (omega arith)
chunks_are (suc n) (suc k) (a ∷ []) h l = absurd (omega arith)
chunks_are (suc n) (suc k) (a ∷ b ∷ ws) h l = ap (λ (t : List (List ℕ)). (a ∷ b ∷ []) ∷ t) (chunks_are n k ws (omega arith) (omega arith) ∙ tabulate_cong n (cut_at ws) (λ i. cut_at (a ∷ b ∷ ws) (suc i)) (λ i l. further a b ws i))

pub returns : goal.returns
returns c =
    let b = c.args.self.now.babies in
    let g = c.args.self.now.giants in
    let ws = c.split_at-2.result.1.now in
    let behind : ws ≡ drop (b + g) c.args.plan.now = c.split_at-2.ensures.back ∙ ap (drop g) c.split_at.ensures.back ∙ drop-drop g b c.args.plan.now in
    let room : 2 * g ≤ length ws = omega (arith, c.requires, ap length behind ∙ length-drop (b + g) c.args.plan.now) in
    record {
      babies_are = c.split_at.ensures.front;
      giants_are = c.split_at-2.ensures.front ∙ ap (take g) c.split_at.ensures.back;
      cuts_are = ap (take g) c.as_chunks.ensures.front ∙ chunks_are g _ ws (omega arith) room ∙ ap (λ (x : List ℕ). tabulate g (cut_at x)) behind;
    }
