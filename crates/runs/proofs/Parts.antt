-- The two parts of a diagonal: up to the input's end and from its start on.
-- Assumes nothing.
use Rattle.std.specs.Prelude.{replicate}
use Rattle.std.proofs.Common.{◌≡◌, ℕ, zero, suc, refl, ◌∷◌, ◌+◌, ◌-◌, ◌%◌, ◌<◌, ◌≤◌, List, ◌++◌, length, get_or, take, drop, sym, ap, ◌∙◌, mod-eq_of_lt, add_comm, zero-add, arith, length-drop, length-take, length-take-le, get_or-drop, get_or-take}
use native.Mathlib.Nat.{mod-add-mod, add-mod_left}
use Rattle.ring.specs.Slots.{modulus, addm, mulm}
use Rattle.ring.specs.Vectors.{tabulate, filled, Filling}
use Rattle.ring.specs.Laws.Vectors.{tabulate_cong, length_filled, filling_block, filling_rest, filling_done}
use Rattle.diagonals.specs.Products.{cell}
use Rattle.runs.specs.Steps.Plain.{around_added, diagonal_added, Repeated}

-- a buffer that is cleared
pub cleared : (n : ℕ) {xs : List ℕ} → xs ≡ replicate {A = ℕ} n 0 → xs ≡ tabulate n (λ i. 0)
cleared n e = e ∙ zeros n
  where
    zeros : (n : ℕ) → replicate {A = ℕ} n 0 ≡ tabulate n (λ i. 0)
    zeros zero = refl
    zeros (suc n) = ap (λ (t : List ℕ). 0 ∷ t) (zeros n)

-- the first k words of a buffer, written through `&mut d[..k]`
pub filling_first : {A : Type 0} (f : ℕ → A) (d₀ : List A) (k : ℕ) (ys : List A) → k ≤ length d₀ → ys ≡ tabulate k f → Filling f d₀ (ys ++ drop k d₀) k
unfolding filled
filling_first f d₀ k ys l e = record { so_far = ap (λ (x : List _). x ++ drop k d₀) e; len = rw e (length_filled f k d₀ l); room = l }

-- equal factors and sums make equal words
pub same_word : {a a' b b' x x' : ℕ} → x ≡ x' → a ≡ a' → b ≡ b' → addm modulus x (mulm modulus a b) ≡ addm modulus x' (mulm modulus a' b')
same_word p q r = cc

module _ {period input out : List ℕ} {k : ℕ} (w : Repeated period k input out) where
  abbrev head : ℕ
  head = length out - k

  -- the input from k on
  abbrev later : List ℕ
  later = take (length input - k) (drop k input)

  abbrev word : ℕ → ℕ
  word = diagonal_added period k input out

  -- up to the input's end
  front : {ys : List ℕ} → ys ≡ tabulate (length (take head out)) (around_added period 0 later (take head out)) → ys ≡ tabulate head word
  front e =
      e
      ∙ ap (λ (x : ℕ). tabulate x (around_added period 0 later (take head out))) (length-take-le head out (omega arith))
      ∙ tabulate_cong head _ _
      (λ j l.
      let s : j + k < length input = omega (arith, w.low, w.whole) in
      let t : j < length input - k = omega arith in
      same_word
      (get_or-take head out j 0 l)
      (ap (cell period) (zero-add j))
      (get_or-take (length input - k) (drop k input) j 0 t ∙ get_or-drop k input j 0 ∙ ap (λ (x : ℕ). get_or input x 0) (add_comm k j ∙ sym (mod-eq_of_lt s))))

  module _ {d : List ℕ} (f : Filling word out d head) where
    abbrev rest : List ℕ
    rest = take (length d - head) (drop head d)

    rest_length : length rest ≡ k
    rest_length = simp (length-take, length-drop) (omega (arith, f.len, w.low))

    -- from the input's start on
    back : {zs : List ℕ} → zs ≡ tabulate (length rest) (around_added period (head % length period) (take k input) rest) → zs ≡ tabulate (length d - head) (λ i. word (head + i))
    back e =
        e
        ∙ ap (λ (x : ℕ). tabulate x (around_added period (head % length period) (take k input) rest)) (let q : length rest ≡ length d - head = omega (arith, rest_length, f.len, w.low) in q)
        ∙ tabulate_cong (length d - head) _ _
        (λ j l.
        let u : j < k = omega (arith, f.len) in
        let here : head + j + k ≡ length input + j = omega (arith, w.low, w.whole) in
        let s : j < length input = omega (arith, w.low, w.whole) in
        same_word
        (get_or-take (length d - head) (drop head d) j 0 l ∙ get_or-drop head d j 0 ∙ filling_rest f (head + j) 0 (omega arith))
        (ap (λ (x : ℕ). get_or period x 0) (mod-add-mod head (length period) j))
        (get_or-take k input j 0 u ∙ ap (λ (x : ℕ). get_or input x 0) (sym (ap (λ (x : ℕ). x % length input) here ∙ add-mod_left (length input) j ∙ mod-eq_of_lt s))))

  module _ {ys : List ℕ} (m : ys ≡ tabulate (length (take head out)) (around_added period 0 later (take head out))) where
    filling : Filling word out (ys ++ drop head out) head
    filling = filling_first word out head ys (omega arith) (front m)

    pub both : {zs : List ℕ} → zs ≡ tabulate (length (take (length (ys ++ drop head out) - head) (drop head (ys ++ drop head out)))) (around_added period (head % length period) (take k input) (take (length (ys ++ drop head out) - head) (drop head (ys ++ drop head out))))
        → take head (ys ++ drop head out) ++ (zs ++ drop (length (ys ++ drop head out) - head) (drop head (ys ++ drop head out))) ≡ tabulate (length out) word
    both {zs} e =
        let d : List ℕ = ys ++ drop head out in
        let f : Filling word out d head = filling in
        let g = filling_block f (length d - head) (length d) zs (omega (arith, f.len)) (omega arith) (back f e) in
        filling_done g (omega (arith, g.len, f.len))
