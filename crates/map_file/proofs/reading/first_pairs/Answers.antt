-- `map_file::reading::first_pairs` meets its contract. Assumes nothing.
use Rattle.std.proofs.Common.{◌≡◌, ℕ, zero, suc, ◌+◌, ◌*◌, ◌≤◌, List, ◌∷◌, take, drop, refl, ap, ◌∙◌, arith, length, length-drop, take_all, drop-drop, ◌-◌}
use Rattle.std.specs.Simd.{first_chunks}
use Rattle.ring.specs.Vectors.{tabulate}
use Rattle.ring.specs.Laws.Vectors.{tabulate_cong}
use Rattle.map_file.specs.Steps.{pair_in}
use Rattle.map_file.proofs.reading.first_pairs.Goals as goal

-- the library's chunks of m elements, by where each stands
chunks_are : (m n k : ℕ) (xs : List ℕ) → n ≤ k → take n (first_chunks m k xs) ≡ tabulate n (λ i. take m (drop (m * i) xs))
chunks_are m zero k xs h = refl
chunks_are m (suc n) zero xs h = absurd (omega arith)
chunks_are m (suc n) (suc k) xs h =
    let z : m * 0 ≡ 0 = omega arith in
    rw z (ap (λ (t : List (List ℕ)). take m xs ∷ t) (chunks_are m n k (drop m xs) (omega arith) ∙ tabulate_cong n _ _ (λ i l. ap (take m) (further i))))
  where
    further : (i : ℕ) → drop (m * i) (drop m xs) ≡ drop (m * suc i) xs
    further i =
        let e : m + m * i ≡ m * suc i = omega arith in
        rw drop-drop (ap (λ (n : ℕ). drop n xs) e)

pub returns : goal.returns
returns c =
    let b = c.args.bytes.now in
    let xs = take (length b - 8) (drop 8 b) in
    let all : xs ≡ drop 8 b = take_all _ _ (omega (arith, length-drop 8 b)) in
    rw c.as_chunks.ensures.front
    (chunks_are 8 c.args.count _ xs (omega (arith, c.as_chunks.ensures.front_len))
    ∙ tabulate_cong c.args.count (λ i. take 8 (drop (8 * i) xs)) (pair_in b) (λ i l. ap (take 8) (ap (drop (8 * i)) all ∙ rw drop-drop refl)))
