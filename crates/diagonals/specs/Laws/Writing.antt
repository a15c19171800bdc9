-- The words of a map that is written one diagonal after the other.
-- Assumes nothing.
use Rattle.std.specs.Prelude.{◌≡◌, ℕ, ◌+◌, ◌*◌, ◌≤◌, List, [], ◌∷◌, ◌++◌, length, take, drop, refl}
use Rattle.std.proofs.Common.{sym, ◌∙◌, append_assoc, zero-mul, suc-mul, le_refl, arith, length-append, take_at, drop-drop}
use Rattle.std.proofs.Math.Path.{ap}
use Rattle.std.proofs.Math.Seq.{drop-append-add}
use Rattle.ring.specs.Vectors.{tabulate, in_front}
use Rattle.ring.specs.Laws.Vectors.{length_in_front, in_front_in_front}
use Rattle.ring.specs.Lists.{Each}
use Rattle.diagonals.specs.Maps.{Diagonal, pair_words, value_words, pair_room, put_pair}
use Rattle.diagonals.specs.Laws.Words.{pair_words_more, value_words_more}
use Rattle.diagonals.specs.Laws.Pairs.{length_pair_words, put_more}
use Rattle.diagonals.specs.Steps.Writing.{Words, spin, Appended}

-- ---- nothing written, and one diagonal more

pub words_none : (pairs values : List ℕ) → Words [] pairs pairs values values
unfolding pair_words value_words in_front
words_none pairs values = record { pairs_is = refl; values_is = refl }

module _ {ds : List Diagonal} {pairs₀ pairs values₀ values : List ℕ} (w : Words ds pairs₀ pairs values₀ values) (d : Diagonal) where
  pub words_more : {n at : ℕ} → n ≡ length ds → at ≡ length (value_words ds) → pair_room (n + 1) ≤ length pairs₀ → at + length d.values ≤ length values₀
      → Words (ds ++ (d ∷ [])) pairs₀ (put_pair pairs n d.offset (length d.values)) values₀ (take at values ++ (d.values ++ drop (at + length d.values) values))
  unfolding in_front
  words_more {n} {at} en ea lp lv = record { pairs_is = pairs_is; values_is = values_is }
    where
      pairs_is : put_pair pairs n d.offset (length d.values) ≡ in_front (pair_words (ds ++ (d ∷ []))) pairs₀
      pairs_is =
          ap (λ (t : List ℕ). put_pair t n d.offset (length d.values)) w.pairs_is
          ∙ put_more ds d pairs₀ n en lp
          ∙ ap (λ (t : List ℕ). in_front t pairs₀) (sym (pair_words_more ds d))

      values_is : take at values ++ (d.values ++ drop (at + length d.values) values) ≡ value_words (ds ++ (d ∷ [])) ++ drop (length (value_words (ds ++ (d ∷ [])))) values₀
      values_is =
          rw (w.values_is, ea, take_at (value_words ds) _ _ refl, drop-append-add, drop-drop, value_words_more ds d, length-append, append_assoc)

-- by a step that appends one
pub words_appended : {ds : List Diagonal} {pairs₀ pairs₁ pairs₂ values₀ values₁ values₂ src : List ℕ} {from offset len n at : ℕ} (d : Diagonal) → Words ds pairs₀ pairs₁ values₀ values₁
    → n ≡ length ds → at ≡ length (value_words ds) → pair_room (n + 1) ≤ length pairs₀ → at + len ≤ length values₀ → offset ≡ d.offset → len ≡ length d.values → tabulate len (spin src from) ≡ d.values
    → Appended src from offset len n at pairs₁ pairs₂ values₁ values₂ → Words (ds ++ (d ∷ [])) pairs₀ pairs₂ values₀ values₂
words_appended {values₁} {n} {at} d w en ea lp lv eo el ev a =
    let m = words_more w d en ea lp (rw (← el) lv) in
    record {
      pairs_is = a.pair ∙ rw (eo, el) m.pairs_is;
      values_is = a.period ∙ rw (ev, el) m.values_is;
    }

-- ---- lengths

-- diagonals of one period
pub length_value_words : (p : ℕ) (ds : List Diagonal) → Each (λ d. length d.values ≡ p) ds → length (value_words ds) ≡ length ds * p
unfolding value_words
length_value_words p [] h = sym (zero-mul p)
length_value_words p (d ∷ ds) h = simp length-append (omega (arith, h.0, length_value_words p ds h.1, suc-mul (length ds) p))

-- the buffers keep their lengths
pub words_lengths : {ds : List Diagonal} {pairs₀ pairs values₀ values : List ℕ} → Words ds pairs₀ pairs values₀ values → pair_room (length ds) ≤ length pairs₀ → length (value_words ds) ≤ length values₀ → (length pairs ≡ length pairs₀) × (length values ≡ length values₀)
words_lengths {ds} {pairs₀} {values₀} w a b =
    (ap length w.pairs_is ∙ length_in_front (pair_words ds) pairs₀ (omega (arith, length_pair_words ds)), ap length w.values_is ∙ length_in_front (value_words ds) values₀ b)

-- a map written over the front of one that was written there
pub words_then : {ds es : List Diagonal} {pairs₀ pairs₁ pairs₂ values₀ values₁ values₂ : List ℕ} → Words ds pairs₀ pairs₁ values₀ values₁ → Words es pairs₁ pairs₂ values₁ values₂
    → length (pair_words ds) ≤ length (pair_words es) → length (pair_words ds) ≤ length pairs₀ → length (value_words ds) ≤ length (value_words es) → length (value_words ds) ≤ length values₀ → Words es pairs₀ pairs₂ values₀ values₂
words_then {ds} {es} {pairs₀} {values₀} v w a b c d =
    record {
      pairs_is = w.pairs_is ∙ ap (in_front (pair_words es)) v.pairs_is ∙ in_front_in_front (pair_words es) (pair_words ds) pairs₀ a b;
      values_is = w.values_is ∙ ap (in_front (value_words es)) v.values_is ∙ in_front_in_front (value_words es) (value_words ds) values₀ c d;
    }

-- what is in front already
pub words_there : {ds : List Diagonal} {pairs₀ pairs₁ values₀ values₁ : List ℕ} → Words ds pairs₀ pairs₁ values₀ values₁ → length (pair_words ds) ≤ length pairs₀ → length (value_words ds) ≤ length values₀ → Words ds pairs₁ pairs₁ values₁ values₁
words_there {ds} {pairs₀} {values₀} v a b =
    record {
      pairs_is = v.pairs_is ∙ sym (ap (in_front (pair_words ds)) v.pairs_is ∙ in_front_in_front (pair_words ds) (pair_words ds) pairs₀ (le_refl _) a);
      values_is = v.values_is ∙ sym (ap (in_front (value_words ds)) v.values_is ∙ in_front_in_front (value_words ds) (value_words ds) values₀ (le_refl _) b);
    }
