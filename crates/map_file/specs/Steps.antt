-- What the private steps of this crate ask and ensure. A reader need not believe these.
-- Assumes nothing.
use Rattle.std.specs.Prelude.{ℕ, ◌+◌, ◌*◌, ◌≤◌, ◌≡◌, not, List, [], ◌∷◌, length, take, drop, Result}
use Rattle.ring.specs.declared.refusal.Refusal.{Refusal}
use Rattle.ring.specs.declared.refusal.Refusal.TheVariants.{File}
use Rattle.ring.specs.Refusals.{first_refusal, Range}
use Rattle.ring.specs.Answers.{answered}
use Rattle.diagonals.specs.Maps.{well_formed, pair_words, value_words}
use Rattle.map_file.specs.Files.{count_in, map_in}

-- the bytes of the i-th pair
abbrev pub pair_in : List ℕ → ℕ → List ℕ
pair_in bytes i = take 8 (drop (8 + 8 * i) bytes)

-- bytes with slots, count and all pairs
pub record Headed (bytes : List ℕ) (slots count : ℕ) : Type 0 where
  pub slots_in_fact : Range slots
  pub count_is : count ≡ count_in bytes
  pub inside : 8 + 8 * count ≤ length bytes

-- the words that bytes tell are well formed, and how many values they have
abbrev pub pairs_answer : List ℕ → ℕ → Result ℕ Refusal
pairs_answer bytes slots =
    let ds = map_in bytes in
    answered (first_refusal ((not (well_formed slots (length ds) (pair_words ds) (value_words ds)), File) ∷ [])) (length (value_words ds))
