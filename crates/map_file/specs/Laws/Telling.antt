-- The length of a file, and the words of the map that bytes tell.
-- Assumes nothing.
use Prim.Native.Nat.{ℕ, zero, suc, ◌+◌, ◌*◌, ◌<◌}
use Rattle.std.specs.Prelude.{◌≡◌, List, ◌++◌, length}
use Rattle.std.proofs.Math.Path.{refl, ap}
use Rattle.std.proofs.Common.{sym, ◌∙◌, arith, length-append}
use Rattle.ring.specs.Lists.{join}
use Rattle.ring.specs.Vectors.{tabulate}
use Rattle.ring.specs.Laws.Lists.{length_join}
use Rattle.ring.specs.Laws.Vectors.{length_tabulate, tabulate_add, tabulate_snoc}
use Rattle.diagonals.specs.Maps.{Diagonal, offset_at, length_at, pair_words, value_words}
use Rattle.diagonals.specs.Laws.Words.{value_words_more, offset_table, length_table}
use Rattle.map_file.specs.Files.{bytes_of, pair_bytes, file_of, count_in, offset_in, length_in, start_in, value_in, diagonal_in, map_in}
use Rattle.map_file.specs.Laws.Numbers.{length_bytes_of}

-- ---- lengths

pub length_pair_bytes : (d : Diagonal) → length (pair_bytes d) ≡ 8
unfolding pair_bytes
length_pair_bytes d = length-append (bytes_of 4 d.offset) _ ∙ omega (arith, length_bytes_of 4 d.offset, length_bytes_of 4 (length d.values))

pub length_file : (slots : ℕ) (ds : List Diagonal) → length (file_of slots ds) ≡ 8 + 8 * length ds + 8 * length (value_words ds)
unfolding file_of
length_file slots ds =
    length-append (bytes_of 4 slots) _
    ∙ omega (
      arith,
      length_bytes_of 4 slots,
      length_bytes_of 4 (length ds),
      length-append (bytes_of 4 (length ds)) (join pair_bytes ds ++ join (bytes_of 8) (value_words ds)),
      length-append (join pair_bytes ds) (join (bytes_of 8) (value_words ds)),
      length_join pair_bytes 8 length_pair_bytes ds,
      length_join (bytes_of 8) 8 (length_bytes_of 8) (value_words ds),
    )

-- ---- the words that bytes tell

module _ (bytes : List ℕ) where
  pub length_told : length (map_in bytes) ≡ count_in bytes
  unfolding map_in
  length_told = length_tabulate (count_in bytes) (diagonal_in bytes)

  pub offset_told : (i : ℕ) → i < count_in bytes → offset_at (pair_words (map_in bytes)) i ≡ offset_in bytes i
  unfolding map_in
  offset_told i l = offset_table (count_in bytes) (diagonal_in bytes) i l

  pub length_told_at : (i : ℕ) → i < count_in bytes → length_at (pair_words (map_in bytes)) i ≡ length_in bytes i
  unfolding map_in
  length_told_at i l = length_table (count_in bytes) (diagonal_in bytes) i l ∙ length_tabulate (length_in bytes i) _

  pub values_told : value_words (map_in bytes) ≡ tabulate (start_in bytes (count_in bytes)) (value_in bytes)
  unfolding map_in value_words
  values_told = by (count_in bytes)
    where
      by : (n : ℕ) → value_words (tabulate n (diagonal_in bytes)) ≡ tabulate (start_in bytes n) (value_in bytes)
      by zero = refl
      by (suc n) =
          ap value_words (tabulate_snoc n (diagonal_in bytes))
          ∙ value_words_more (tabulate n (diagonal_in bytes)) (diagonal_in bytes n)
          ∙ rw (by n) (sym (tabulate_add (start_in bytes n) (length_in bytes n) (value_in bytes)))
