-- A loop that copies a list into another of its length, word by word.
-- Assumes nothing.
use Rattle.std.proofs.Common.{◌≡◌, ℕ, ◌+◌, ◌<◌, ◌≤◌, List, ◌++◌, length, set, get_or, sym, refl, ap, ◌∙◌, zero-add, append-nil, arith}
use Rattle.std.proofs.lemmas.List.{drop_all}
use lib.Seq.{paste}
use Rattle.std.proofs.lemmas.List.Edits.{paste_none, paste_more, paste_all}

-- the first k are src's
pub record Copying {X : Type 0} (src old new : List X) (k : ℕ) : Type 0 where
  pub inside : k ≤ length src
  pub so_far : new ≡ paste old 0 src k

module _ {X : Type 0} {src old : List X} (e : length src ≡ length old) where
  pub copying_none : Copying src old old 0
  copying_none = record { inside = omega arith; so_far = paste_none old 0 src }

  pub copying_more : {new : List X} {k : ℕ} {x : X} → Copying src old new k → k < length old → x ≡ get_or src k x → Copying src old (set new k x) (k + 1)
  copying_more {new} {k} {x} s l q =
      record {
        inside = omega (arith, e);
        so_far = ap (λ (y : List X). set y k x) s.so_far ∙ ap (λ (y : X). set (paste old 0 src k) k y) q ∙ ap (λ i. set (paste old 0 src k) i (get_or src k x)) (sym (zero-add k)) ∙ paste_more old 0 src k x (omega arith) (omega (arith, e));
      }

  pub copying_done : {new : List X} {k : ℕ} → Copying src old new k → length old ≤ k → new ≡ src
  copying_done {new} {k} s h = s.so_far ∙ paste_all old 0 src k (omega (arith, e, s.inside)) ∙ ap (λ (y : List X). src ++ y) (drop_all (0 + k) old (omega arith)) ∙ append-nil src
