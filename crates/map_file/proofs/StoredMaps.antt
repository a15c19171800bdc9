-- An accepted map: the numbers that its file has, and its file as the writer puts it.
-- Assumes nothing.
use Rattle.std.specs.Prelude.{None, Ok, Err}
use Prim.Native.Nat.{ℕ, zero, suc, ◌+◌, ◌*◌, ◌^◌, ◌≤◌, ◌<◌}
use mathlib.Core.Path.{◌≡◌, refl, sym, ap, ◌∙◌}
use mathlib.Core.Bool.{Bool, true, false}
use mathlib.Core.List.{List, [], ◌∷◌, ◌++◌, append_assoc}
use native.Mathlib.Nat.{le_of_dvd}
use native.Mathlib.Omega.{arith}
use borrow.Author.Tests.{lt-ltb, le-ltb}
use lib.Dec.{ltb}
use lib.ListN.{length, take, length-append}
use lib.Seq.{length-take-le}
use Rattle.ring.specs.declared.refusal.Refusal.{Refusal}
use Rattle.ring.specs.declared.refusal.Refusal.TheVariants.{Room}
use Rattle.ring.specs.Lists.{join}
use Rattle.ring.specs.Vectors.{in_front, put_at}
use Rattle.ring.specs.Refusals.{first_refusal, outside}
use Rattle.ring.specs.Laws.Lists.{length_join}
use Rattle.ring.specs.Laws.Refusals.{inside, first_later}
use Rattle.ring.specs.Laws.Places.{put_both, put_front}
use Rattle.diagonals.specs.Maps.{Diagonal, length_at, start_at, value_words, well_formed, view, WellFormed}
use Rattle.diagonals.specs.Calls.{map_refusals, map_refusal}
use Rattle.diagonals.specs.Laws.Maps.{stored_divides, count_low, values_inside, length_view}
use Rattle.diagonals.specs.Laws.Words.{values_view}
use Rattle.diagonals.specs.Laws.Calls.{stored_means}
use Rattle.map_file.specs.Files.{bytes_of, pair_bytes, file_of}
use Rattle.map_file.specs.Calls.{map_file, write_refusal, FileWritten}
use Rattle.map_file.specs.Laws.Numbers.{length_bytes_of}
use Rattle.map_file.specs.Laws.Telling.{length_pair_bytes, length_file}

-- lengths up to 65,536 add up to 65,536 for each at most
start_small : (pairs : List ℕ) (n : ℕ) → ((i : ℕ) → i < n → length_at pairs i ≤ 65536) → start_at pairs n ≤ n * 65536
start_small pairs zero h = omega arith
start_small pairs (suc n) h = omega (arith, start_small pairs n (λ i l. h i (omega arith)), h n (omega arith))

-- a map that is not refused, and the number of its values
pub record StoredMap (slots count : ℕ) (pairs values : List ℕ) (total : ℕ) : Type 0 where
  pub accepted : map_refusal slots count pairs values ≡ None
  pub total_start : total ≡ start_at pairs count

-- an accepted map is one
pub stored_of : {slots count total : ℕ} {pairs values : List ℕ} → outside slots ≡ false → well_formed slots count pairs values ≡ true → total ≡ start_at pairs count → StoredMap slots count pairs values total
stored_of o f e = record { accepted = rw (o, f) refl; total_start = e }

pub formed_small : {slots count : ℕ} {pairs values : List ℕ} → WellFormed slots count pairs values → 1 ≤ slots → slots ≤ 65536 → start_at pairs count ≤ 4294967296
formed_small {slots} {count} {pairs} w l h =
    let few : start_at pairs count ≤ count * 65536 = start_small pairs count (λ i m. omega (arith, le_of_dvd l (stored_divides w i m))) in
    omega (arith, few, count_low w)

module _ {slots count total : ℕ} {pairs values : List ℕ} (s : StoredMap slots count pairs values total) where
  pub stored_formed : WellFormed slots count pairs values
  stored_formed = (stored_means slots count pairs values s.accepted).1

  pub stored_slots : (1 ≤ slots) × (slots ≤ 65536)
  stored_slots = inside slots (stored_means slots count pairs values s.accepted).0

  pub stored_count : count ≤ 65536
  stored_count = omega (arith, stored_slots.1, count_low stored_formed)

  total_is : total ≡ length (value_words (view count pairs values))
  total_is = s.total_start ∙ sym (ap length (values_view pairs values count) ∙ length-take-le _ values (values_inside stored_formed))

  pub stored_total : (total ≤ 4294967296) × (total ≤ length values)
  stored_total = (omega (arith, s.total_start, formed_small stored_formed stored_slots.0 stored_slots.1), omega (arith, s.total_start, values_inside stored_formed))

  -- the size of a file is a number
  pub stored_small : 8 + 8 * count + 8 * total ≤ 2 ^ 36
  stored_small = omega (arith, stored_count, stored_total)

  pub stored_size : 8 + 8 * count + 8 * total ≡ length (map_file slots count pairs values)
  stored_size = sym (length_file slots (view count pairs values) ∙ rw (length_view count pairs values, total_is))

-- ---- returns of the writer

module _ (slots count : ℕ) (pairs values old : List ℕ) where
  abbrev room : List (Bool × Refusal)
  room = (ltb (length old) (length (map_file slots count pairs values)), Room) ∷ []

  module _ {total : ℕ} (s : StoredMap slots count pairs values total) where
    later : write_refusal slots count pairs values old ≡ first_refusal room
    later = first_later (map_refusals slots count pairs values) room s.accepted

    -- an out that is too short
    pub file_no_room : {size : ℕ} → size ≡ 8 + 8 * count + 8 * total → length old < size → FileWritten slots count pairs values old old (Err Room)
    file_no_room e l =
        let t : ltb (length old) (length (map_file slots count pairs values)) ≡ true = lt-ltb (length old) (length (map_file slots count pairs values)) (omega (arith, stored_size s)) in
        record { answer = rw (later, t); out = rw (later, t) }

    -- the file, put in four parts
    pub file_put : {size : ℕ} {a b c new : List ℕ} → size ≡ 8 + 8 * count + 8 * total → size ≤ length old → a ≡ put_at 0 (bytes_of 4 slots) old → b ≡ put_at 4 (bytes_of 4 count) a → c ≡ put_at 8 (join pair_bytes (view count pairs values)) b → new ≡ put_at (8 + 8 * count) (join (bytes_of 8) (take total values)) c → FileWritten slots count pairs values old new (Ok size)
    unfolding file_of
    file_put {size} {a} {b} {c} {new} e l ha hb hc hn =
        let t : ltb (length old) (length (map_file slots count pairs values)) ≡ false = le-ltb (length old) (length (map_file slots count pairs values)) (omega (arith, stored_size s)) in
        record { answer = rw (later, t, e, stored_size s); out = rw (later, t) whole }
      where
        ds : List Diagonal
        ds = view count pairs values

        head : List ℕ
        head = bytes_of 4 slots

        number : List ℕ
        number = bytes_of 4 count

        offsets : List ℕ
        offsets = join pair_bytes ds

        words : List ℕ
        words = join (bytes_of 8) (take total values)

        two : length (head ++ number) ≡ 8
        two = length-append head number ∙ omega (arith, length_bytes_of 4 slots, length_bytes_of 4 count)

        three : length ((head ++ number) ++ offsets) ≡ 8 + 8 * count
        three = length-append (head ++ number) offsets ∙ omega (arith, two, length_join pair_bytes 8 length_pair_bytes ds, length_view count pairs values)

        used : take total values ≡ value_words ds
        used = ap (λ (n : ℕ). take n values) s.total_start ∙ sym (values_view pairs values count)

        parts : ((head ++ number) ++ offsets) ++ words ≡ file_of slots ds
        parts = rw (append_assoc (head ++ number) offsets words, append_assoc head number (offsets ++ words), used, length_view count pairs values)

        whole : new ≡ in_front (map_file slots count pairs values) old
        whole =
            hn
            ∙ ap (put_at (8 + 8 * count) words) (hc ∙ ap (put_at 8 offsets) (hb ∙ ap (put_at 4 number) ha ∙ put_both 0 4 head number old (omega arith) (omega (arith, length_bytes_of 4 slots))) ∙ put_both 0 8 (head ++ number) offsets old (omega arith) (omega (arith, two)))
            ∙ put_both 0 (8 + 8 * count) ((head ++ number) ++ offsets) words old (omega arith) (omega (arith, three))
            ∙ put_front _ old
            ∙ ap (λ (t : List ℕ). in_front t old) parts
