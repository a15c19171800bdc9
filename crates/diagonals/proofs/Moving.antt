-- What two copies within a buffer make: words moved, and new words before them.
-- Assumes nothing.
use Rattle.std.proofs.Common.{◌≡◌, ℕ, ◌+◌, ◌-◌, List, ◌++◌, length, take, drop, ap, sym, ◌∙◌, append_assoc, arith, length-append, length-drop, length-take-le, take-take, drop_at}
use Rattle.std.proofs.lemmas.List.{take-append-drop, drop-drop}
use lib.Seq.{paste, take-append-le, take-length}
use Rattle.ring.specs.Vectors.{in_front}
use Rattle.diagonals.specs.Steps.Setting.{Spliceable, spliced}

-- a move of the words behind, and then new words before them
pub splice_done : {A : Type 0} (w new : List A) {x y : List A} {at from end : ℕ} → Spliceable at from end (length new) (length w) → x ≡ paste w (at + length new) (drop from w) (end - from) → y ≡ paste x at new (length new) → y ≡ spliced at from end new w
unfolding spliced in_front
splice_done {A} w new {x} {at} {from} {end} h e f =
    let n : ℕ = length new in
    let moved : List A = take (end - from) (drop from w) in
    let k : length (take (at + n) w) ≡ at + n = length-take-le (at + n) w (omega arith) in
    let m : length moved ≡ end - from = length-take-le (end - from) (drop from w) (omega (arith, length-drop from w)) in
    let front : take at x ≡ take at w = rw (e, append_assoc) (take-append-le at (take (at + n) w) _ (omega arith) ∙ take-take at (at + n) w (omega arith)) in
    let back : drop (at + n) x ≡ moved ++ drop (at + n + (end - from)) w = rw (e, append_assoc) (drop_at (take (at + n) w) _ (at + n) k) in
    let len : length (take at w ++ (new ++ moved)) ≡ at + n + (end - from) = omega (arith, length-append (take at w) (new ++ moved), length-append new moved, length-take-le at w (omega arith)) in
    rw (f, front, back, take-length, len) (simp append_assoc)

-- words that are copied to where they stand
paste_same : {A : Type 0} (w : List A) (k n : ℕ) → paste w k (drop k w) n ≡ w
paste_same w k n = rw (append_assoc, ← (drop-drop n k w), take-append-drop n (drop k w)) (take-append-drop k w)

-- the same where the words behind stand there already: none is moved
pub splice_still : {A : Type 0} (w new : List A) {x y : List A} {at from end : ℕ} → Spliceable at from end (length new) (length w) → at + length new ≡ from → x ≡ w → y ≡ paste x at new (length new) → y ≡ spliced at from end new w
splice_still w new {x} {y} {at} {from} {end} h s e f = splice_done w new h (e ∙ sym (ap (λ k. paste w (at + length new) (drop k w) (end - from)) (sym s) ∙ paste_same w (at + length new) (end - from))) f
