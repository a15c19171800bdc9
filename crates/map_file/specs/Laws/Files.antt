-- A file and the map that it tells are inverse.
-- Assumes nothing.
use Rattle.std.specs.Prelude.{ℕ, zero, suc, ◌+◌, ◌*◌, ◌^◌, ◌≤◌, ◌<◌, ◌≡◌, get_or}
use Rattle.std.proofs.Math.Path.{refl, sym, ap}
use Rattle.std.proofs.Common.{◌∙◌, take-add, drop-drop, get_or-take, get_or-drop}
use mathlib.Core.List.{List, [], ◌++◌}
use Rattle.std.proofs.Math.Nat.{le_of_dvd}
use native.Mathlib.Omega.{arith}
use Rattle.std.proofs.Math.ListN.{length, take, drop, length-drop, take-append-drop}
use Rattle.std.proofs.Math.Seq.{take_all}
use Rattle.ring.specs.Lists.{join, Each}
use Rattle.ring.specs.Vectors.{tabulate}
use Rattle.ring.specs.Refusals.{Range}
use Rattle.ring.specs.Laws.Lists.{length_join, each_then, each_at}
use Rattle.ring.specs.Laws.Vectors.{length_tabulate, is_tabulate, tabulate_get_or, tabulate_cong}
use Rattle.diagonals.specs.Maps.{Diagonal, offset_at, length_at, start_at, diagonal_at, pair_words, value_words, view, FormedMap}
use Rattle.diagonals.specs.Laws.Maps.{end_within, inside_whole, count_low}
use Rattle.diagonals.specs.Laws.Words.{offset_table, length_table, start_alone, view_alone, formed_alone}
use Rattle.map_file.specs.Files.{bytes_of, number_at, pair_bytes, file_of, slots_in, count_in, offset_in, length_in, start_in, value_in, diagonal_in, map_in}
use Rattle.map_file.specs.Laws.Numbers.{length_bytes_of, number_front, number_behind, number_join, number_bytes, bytes_number, join_told}
use Rattle.map_file.specs.Laws.Telling.{length_pair_bytes, length_file, length_told, values_told}

-- ---- maps whose numbers have room in a file

pub record Fits (slots : ℕ) (ds : List Diagonal) : Type 0 where
  pub slots_low : slots < 2 ^ 32
  pub count_low : length ds < 2 ^ 32
  pub offsets_low : Each (λ d. d.offset < 2 ^ 32) ds
  pub lengths_low : Each (λ d. length d.values < 2 ^ 32) ds
  pub values_low : Each (λ v. v < 2 ^ 64) (value_words ds)

-- a well-formed map of 64-bit values
pub formed_fits : {slots : ℕ} {ds : List Diagonal} → Range slots → FormedMap slots ds → Each (λ v. v < 2 ^ 64) (value_words ds) → Fits slots ds
formed_fits {slots} {ds} r m h =
    record {
      slots_low = omega (arith, r.high);
      count_low = omega (arith, r.high, count_low (formed_alone ds slots m));
      offsets_low = each_then (λ d f. omega (arith, r.high, f.low)) ds m.each;
      lengths_low = each_then (λ d f. omega (arith, r.high, le_of_dvd r.low f.divides)) ds m.each;
      values_low = h;
    }

-- ---- the map that a file tells

-- a pair, by its bytes
module _ (d : Diagonal) where
  pair_offset : d.offset < 2 ^ 32 → number_at 4 (pair_bytes d) 0 ≡ d.offset
  unfolding pair_bytes
  pair_offset l = number_front 4 (bytes_of 4 d.offset) _ 0 (omega (arith, length_bytes_of 4 d.offset)) ∙ number_bytes 4 d.offset l

  pair_length : length d.values < 2 ^ 32 → number_at 4 (pair_bytes d) 4 ≡ length d.values
  unfolding pair_bytes
  pair_length l = number_behind 4 (bytes_of 4 d.offset) _ 4 0 (omega (arith, length_bytes_of 4 d.offset)) ∙ number_bytes 4 (length d.values) l

abbrev none : Diagonal
none = record { offset = 0; values = [] }

-- a pair, by its words
module _ (ds : List Diagonal) (i : ℕ) (l : i < length ds) where
  abbrev here : Diagonal
  here = get_or ds i none

  offset_here : offset_at (pair_words ds) i ≡ here.offset
  offset_here = ap (λ (t : List Diagonal). offset_at (pair_words t) i) (tabulate_get_or ds none) ∙ offset_table (length ds) (λ k. get_or ds k none) i l

  length_here : length_at (pair_words ds) i ≡ length here.values
  length_here = ap (λ (t : List Diagonal). length_at (pair_words t) i) (tabulate_get_or ds none) ∙ length_table (length ds) (λ k. get_or ds k none) i l

module _ {slots : ℕ} {ds : List Diagonal} (f : Fits slots ds) where
  abbrev file : List ℕ
  file = file_of slots ds

  abbrev pairs : List ℕ
  pairs = pair_words ds

  abbrev values : List ℕ
  values = value_words ds

  pub file_slots : slots_in file ≡ slots
  unfolding file_of slots_in
  file_slots = number_front 4 (bytes_of 4 slots) _ 0 (omega (arith, length_bytes_of 4 slots)) ∙ number_bytes 4 slots f.slots_low

  -- a number behind slots, and one behind the count
  behind_slots : (k at i : ℕ) → at ≡ 4 + i → number_at k file at ≡ number_at k (bytes_of 4 (length ds) ++ (join pair_bytes ds ++ join (bytes_of 8) values)) i
  unfolding file_of
  behind_slots k at i e = number_behind k (bytes_of 4 slots) _ at i (omega (arith, length_bytes_of 4 slots))

  behind_count : (k at i : ℕ) → at ≡ 8 + i → number_at k file at ≡ number_at k (join pair_bytes ds ++ join (bytes_of 8) values) i
  behind_count k at i e =
      behind_slots k at (4 + i) (omega arith) ∙ number_behind k (bytes_of 4 (length ds)) _ (4 + i) i (omega (arith, length_bytes_of 4 (length ds)))

  pub file_count : count_in file ≡ length ds
  unfolding count_in
  file_count =
      behind_slots 4 4 0 refl
      ∙ number_front 4 (bytes_of 4 (length ds)) _ 0 (omega (arith, length_bytes_of 4 (length ds)))
      ∙ number_bytes 4 (length ds) f.count_low

  module _ (i : ℕ) (l : i < length ds) where
    -- a number of the i-th pair
    pair_number : (n at : ℕ) → n ≡ 8 + 8 * i + at → at + 4 ≤ 8 → number_at 4 file n ≡ number_at 4 (pair_bytes (get_or ds i none)) at
    pair_number n at e h =
        behind_count 4 n (8 * i + at) (omega arith)
        ∙ number_front 4 (join pair_bytes ds) _ (8 * i + at) (omega (arith, length_join pair_bytes 8 length_pair_bytes ds))
        ∙ number_join pair_bytes 8 4 length_pair_bytes none at h ds i l

    file_offset : offset_in file i ≡ offset_at pairs i
    unfolding offset_in
    file_offset =
        pair_number (8 + 8 * i) 0 (omega arith) (omega arith)
        ∙ pair_offset (get_or ds i none) (each_at (λ d. d.offset < 2 ^ 32) ds none f.offsets_low i l)
        ∙ sym (offset_here ds i l)

    file_length : length_in file i ≡ length_at pairs i
    unfolding length_in
    file_length =
        pair_number (12 + 8 * i) 4 (omega arith) (omega arith)
        ∙ pair_length (get_or ds i none) (each_at (λ d. length d.values < 2 ^ 32) ds none f.lengths_low i l)
        ∙ sym (length_here ds i l)

  file_start : (i : ℕ) → i ≤ length ds → start_in file i ≡ start_at pairs i
  file_start zero l = refl
  file_start (suc i) l = rw (file_start i (omega arith), file_length i (omega arith))

  file_value : (j : ℕ) → j < length values → value_in file j ≡ get_or values j 0
  unfolding value_in
  file_value j l =
      behind_count 8 (8 + 8 * count_in file + 8 * j) (8 * length ds + 8 * j) (omega (arith, file_count))
      ∙ number_behind 8 (join pair_bytes ds) _ (8 * length ds + 8 * j) (8 * j + 0) (omega (arith, length_join pair_bytes 8 length_pair_bytes ds))
      ∙ number_join (bytes_of 8) 8 8 (length_bytes_of 8) 0 0 (omega arith) values j l
      ∙ number_bytes 8 (get_or values j 0) (each_at (λ v. v < 2 ^ 64) values 0 f.values_low j l)

  file_diagonal : (i : ℕ) → i < length ds → diagonal_in file i ≡ diagonal_at pairs values i
  file_diagonal i l =
      let start : ℕ = start_at pairs i in
      let len : ℕ = length_at pairs i in
      let end : start + len ≤ length values = omega (arith, end_within pairs i (length ds) l, start_alone ds) in
      let told : take len (drop start values) ≡ tabulate len (λ j. value_in file (start + j)) = is_tabulate len _ 0 (take len (drop start values)) (inside_whole pairs values i end) (λ j h. get_or-take len (drop start values) j 0 h ∙ get_or-drop start values j 0 ∙ sym (file_value (start + j) (omega arith))) in
      rw (file_offset i l, file_length i l, file_start i (omega arith), told)

  pub file_map : map_in file ≡ ds
  unfolding map_in view
  file_map = rw file_count (tabulate_cong (length ds) (diagonal_in file) (diagonal_at pairs values) file_diagonal ∙ view_alone ds)

-- ---- the file of the map that bytes tell

-- bytes as long as that file
module _ (bytes : List ℕ) (low : Each (λ b. b < 256) bytes) (size : length bytes ≡ length (file_of (slots_in bytes) (map_in bytes))) where
  abbrev count : ℕ
  count = count_in bytes

  abbrev total : ℕ
  total = start_in bytes (count_in bytes)

  size_is : length bytes ≡ 8 + 8 * count + 8 * total
  size_is = size ∙ length_file (slots_in bytes) (map_in bytes) ∙ omega (arith, length_told bytes, ap length (values_told bytes), length_tabulate total (value_in bytes))

  slots_bytes : bytes_of 4 (slots_in bytes) ≡ take 4 bytes
  unfolding slots_in
  slots_bytes = bytes_number bytes low 4 0 (omega (arith, size_is))

  count_bytes : bytes_of 4 (length (map_in bytes)) ≡ take 4 (drop 4 bytes)
  unfolding count_in
  count_bytes = ap (bytes_of 4) (length_told bytes) ∙ bytes_number bytes low 4 4 (omega (arith, size_is))

  pair_bytes_lem : (i : ℕ) → i < count → pair_bytes (diagonal_in bytes i) ≡ take 8 (drop (8 + 8 * i) bytes)
  unfolding pair_bytes offset_in length_in
  pair_bytes_lem i l =
      let e : 8 + 8 * i + 4 ≡ 12 + 8 * i = omega arith in
      rw (length_tabulate (length_in bytes i), bytes_number bytes low 4 (8 + 8 * i) (omega (arith, size_is)), bytes_number bytes low 4 (12 + 8 * i) (omega (arith, size_is)))
      (sym (take-add 4 4 (drop (8 + 8 * i) bytes) ∙ ap (λ (t : List ℕ). take 4 (drop (8 + 8 * i) bytes) ++ take 4 t) (drop-drop 4 (8 + 8 * i) bytes ∙ ap (λ (x : ℕ). drop x bytes) e)))

  pairs_bytes : join pair_bytes (map_in bytes) ≡ take (8 * count) (drop 8 bytes)
  unfolding map_in
  pairs_bytes = join_told pair_bytes 8 bytes count (diagonal_in bytes) 8 pair_bytes_lem

  values_bytes : join (bytes_of 8) (value_words (map_in bytes)) ≡ drop (8 * count) (drop 8 bytes)
  unfolding value_in
  values_bytes =
      ap (join (bytes_of 8)) (values_told bytes)
      ∙ join_told (bytes_of 8) 8 bytes total (value_in bytes) (8 + 8 * count) (λ j l. bytes_number bytes low 8 (8 + 8 * count + 8 * j) (omega (arith, size_is)))
      ∙ take_all (8 * total) (drop (8 + 8 * count) bytes) (omega (arith, size_is, length-drop (8 + 8 * count) bytes))
      ∙ sym (drop-drop (8 * count) 8 bytes)

  pub map_file_lem : file_of (slots_in bytes) (map_in bytes) ≡ bytes
  unfolding file_of
  map_file_lem =
      rw (slots_bytes, count_bytes, pairs_bytes, values_bytes, take-append-drop (8 * count) (drop 8 bytes))
      (ap (λ (t : List ℕ). take 4 bytes ++ (take 4 (drop 4 bytes) ++ t)) (sym (drop-drop 4 4 bytes))
      ∙ ap (λ (t : List ℕ). take 4 bytes ++ t) (take-append-drop 4 (drop 4 bytes))
      ∙ take-append-drop 4 bytes)
