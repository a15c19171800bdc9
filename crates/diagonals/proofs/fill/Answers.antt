-- `diagonals::fill` meets its contract: `Spinning` is what the loop keeps, and `more` a turn, on plain values. Assumes nothing.
use Rattle.std.proofs.Common.{◌≡◌, ℕ, ◌+◌, ◌-◌, ◌%◌, ◌<◌, ◌≤◌, min, List, ◌++◌, length, take, drop, sym, refl, ap, ◌∙◌, mod-eq_of_lt, zero-add, arith, length-append, length-drop, length-take, get_or-drop, get_or-take, rules}
use native.Mathlib.Nat.{add-sub_cancel_left, mod-add-mod, mod_self}
use Rattle.ring.specs.Vectors.{tabulate}
use Rattle.ring.specs.Laws.Vectors.{filling_none, filling_block, filling_done, is_tabulate}
use Rattle.diagonals.specs.Steps.Writing.{spin}
use Rattle.diagonals.proofs.fill.Goals as goal
use Rattle.diagonals.proofs.fill.Invariants.{Spinning}

-- a straight run of the source is a block of what is filled
block : (src : List ℕ) (from run at m : ℕ) → run ≡ (at + from) % length src → run + m ≤ length src → take m (drop run src) ≡ tabulate m (λ i. spin src from (at + i))
block src from run at m t l =
    is_tabulate m (λ i. spin src from (at + i)) 0 (take m (drop run src)) (simp (length-take, length-drop) (omega arith))
    (λ i h.
    let e : at + i + from ≡ at + from + i = omega arith in
    let k : (at + i + from) % length src ≡ run + i = ap (λ (x : ℕ). x % length src) e ∙ sym (mod-add-mod (at + from) (length src) i) ∙ ap (λ (x : ℕ). (x + i) % length src) (sym t) ∙ mod-eq_of_lt (omega arith) in
    rw (get_or-take m (drop run src) i 0 h, get_or-drop, k))

module _ {src : List ℕ} {from : ℕ} {out₀ out : List ℕ} {run at : ℕ} (s : Spinning src from out₀ out run at) where
  more : {m e x : ℕ} (k : ℕ) (ys : List ℕ) → m ≡ min (length src - run) (length out - at) → at < length out → k ≡ m → e ≡ at + m → x ≡ m → ys ≡ take x (drop run src) → Spinning src from out₀ (take at out ++ (ys ++ drop k (drop at out))) 0 e
  more {m} {e} {x} k ys em l ek ee ex ey =
      record {
        so_far = filling_block s.so_far k e ys (omega arith) (omega arith) (ey ∙ ap (λ (y : ℕ). take y (drop run src)) (ex ∙ sym ek) ∙ block src from run at k (s.turn l) (omega (arith, s.inside)));
        turn = λ q.
            let n : length ys ≡ k = rw ey (simp (length-take, length-drop) (omega (arith, s.inside))) in
            let size : length (take at out ++ (ys ++ drop k (drop at out))) ≡ length out = simp (length-append, length-take, length-drop) (omega (arith, n)) in
            let w : run + m ≡ length src = omega (arith, size, s.inside) in
            let a : e + from ≡ at + from + m = omega arith in
            sym (ap (λ (y : ℕ). y % length src) a ∙ sym (mod-add-mod (at + from) (length src) m) ∙ ap (λ (y : ℕ). (y + m) % length src) (sym (s.turn l)) ∙ ap (λ (y : ℕ). y % length src) w ∙ mod_self (length src));
        inside = omega (arith, s.inside);
      }

pub loop-at-init : goal.loop-at-init
loop-at-init c = record { so_far = filling_none _ _; turn = λ l. rw zero-add (sym (mod-eq_of_lt (search rules))); inside = search rules }

pub loop-at-preserved : goal.loop-at-preserved
loop-at-preserved c =
    let m = c.min-m.result in
    more c.loop-at.invariant (c.loop-at.at + m - c.loop-at.at) c.copy_into.new.out c.min-m.ensures c.loop-at-test.true (add-sub_cancel_left c.loop-at.at m) refl (add-sub_cancel_left c.loop-at.run m) c.copy_into.ensures

pub returns : goal.returns
returns c = filling_done c.loop-at.invariant.so_far c.loop-at-test.false
