-- Laws of the plan's words in front of a buffer: its babies, its giants and its pairs, as they are read.
-- Assumes nothing.
use Rattle.std.specs.Prelude.{◌≡◌, ℕ, ◌+◌, ◌*◌, List, [], ◌∷◌, ◌++◌, length, take, drop, refl}
use Rattle.std.proofs.Common.{sym, ap, ◌∙◌, take_at, drop_at, drop-drop}
use mathlib.Core.List.{append_assoc}
use Rattle.ring.specs.Lists.{join}
use Rattle.ring.specs.Vectors.{in_front}
use Rattle.linear_transformation.specs.declared.LinearTransformationStrategy.{LinearTransformationStrategy}
use Rattle.linear_transformation.specs.Plans.{width_of, plan_pairs, plan_index, words_with}
use Rattle.linear_transformation.specs.Schedules.{plan_babies, plan_giants, plan_words}
use Rattle.linear_transformation.specs.Laws.Runs.{pairs_words_length}

module _ (slots : ℕ) (strategy : LinearTransformationStrategy) (ks plan old : List ℕ) (e : plan ≡ in_front (plan_words slots strategy ks) old) where
  abbrev bs : List ℕ
  bs = plan_babies slots strategy ks

  abbrev gs : List ℕ
  gs = plan_giants slots strategy ks

  abbrev cs : List ℕ
  cs = join (λ c. c.0 ∷ c.1 ∷ []) (plan_pairs slots (width_of strategy) ks)

  abbrev behind : List ℕ
  behind = plan_index slots (width_of strategy) ks ++ drop (length (plan_words slots strategy ks)) old

  whole : plan ≡ bs ++ (gs ++ (cs ++ behind))
  unfolding plan_words words_with in_front
  whole =
      e
      ∙ append_assoc (bs ++ gs ++ cs) (plan_index slots (width_of strategy) ks) (drop (length (plan_words slots strategy ks)) old)
      ∙ append_assoc (bs ++ gs) cs behind
      ∙ append_assoc bs gs (cs ++ behind)

  behind_babies : drop (length bs) plan ≡ gs ++ (cs ++ behind)
  behind_babies = rw whole (drop_at bs (gs ++ (cs ++ behind)) (length bs) refl)

  -- the babies, the giants behind them, and the pairs behind those
  pub babies_read : take (length (plan_babies slots strategy ks)) plan ≡ plan_babies slots strategy ks
  babies_read = rw whole (take_at bs (gs ++ (cs ++ behind)) (length bs) refl)

  pub giants_read : take (length (plan_giants slots strategy ks)) (drop (length (plan_babies slots strategy ks)) plan) ≡ plan_giants slots strategy ks
  giants_read = rw behind_babies (take_at gs (cs ++ behind) (length gs) refl)

  pub pairs_read : take (2 * length (plan_giants slots strategy ks)) (drop (length (plan_babies slots strategy ks) + length (plan_giants slots strategy ks)) plan) ≡ join (λ c. c.0 ∷ c.1 ∷ []) (plan_pairs slots (width_of strategy) ks)
  pairs_read =
      ap (take (2 * length gs))
      (sym (drop-drop (length gs) (length bs) plan)
      ∙ ap (drop (length gs)) behind_babies
      ∙ drop_at gs (cs ++ behind) (length gs) refl)
      ∙ take_at cs behind (2 * length gs) (pairs_words_length slots (width_of strategy) ks)
