-- The theorems of document 02's A1: what the writer produces is what the reader accepts, and each undoes the other.
-- Assumes nothing.
use Rattle.std.specs.Prelude.{ℕ, ◌^◌, ◌≤◌, ◌<◌, ◌≡◌, is_none, refl, true, false, not, List, [], ◌∷◌, eqb, ltb, length, take, Option, None, Some, Result, Ok}
use Rattle.std.proofs.Common.{sym, ap, ◌∙◌, arith}
use borrow.Author.Tests.{eqb-true, eq-eqb, not-false}
use Rattle.std.proofs.Math.Seq.{take-append_seam}
use Rattle.ring.specs.declared.refusal.Refusal.{Refusal}
use Rattle.ring.specs.declared.refusal.Refusal.TheVariants.{Room, File}
use Rattle.ring.specs.Lists.{Each}
use Rattle.ring.specs.Vectors.{in_front}
use Rattle.ring.specs.Refusals.{number, first_refusal, on_accept, turn_of, in_order, outside}
use Rattle.ring.specs.Answers.{answered}
use Rattle.ring.specs.Laws.Lists.{each_tabulate, each_take}
use Rattle.ring.specs.Laws.Searches.{both, first, second}
use Rattle.ring.specs.Laws.Refusals.{on_accept_accepted, none_of_both, pick_none, inside}
use Rattle.ring.specs.Laws.Answers.{when_ok}
use Rattle.diagonals.specs.Maps.{Diagonal, pair_room, start_at, pair_words, value_words, view, FormedMap}
use Rattle.diagonals.specs.Calls.{map_refusals, map_refusal, map_room, Holds}
use Rattle.diagonals.specs.Laws.Maps.{length_view}
use Rattle.diagonals.specs.Laws.Words.{values_view, pairs_view, view_in_front, formed_view, words_formed, view_alone, formed_alone}
use Rattle.diagonals.specs.Laws.Calls.{stored_means, means_stored, room_fits, fits_room}
use Rattle.map_file.specs.declared.reading.FileMap.{FileMap}
use Rattle.map_file.specs.declared.reading.FileRoom.{FileRoom}
use Rattle.map_file.specs.Files.{file_of, slots_in, count_in, start_in, value_in, map_in, is_file}
use Rattle.map_file.specs.Calls.{map_file, write_refusals, write_refusal, FileWritten, room_numbers, map_numbers, read_refusals, read_refusal, FileRead}
use Rattle.map_file.specs.Laws.Numbers.{number_low}
use Rattle.map_file.specs.Laws.Telling.{values_told}
use Rattle.map_file.specs.Laws.Files.{Fits, formed_fits, file_slots, file_map, map_file_lem}

-- ---- the files that the writer produces are those that the reader accepts

pub none_is : {e : Option Refusal} → e ≡ None → is_none e ≡ true
none_is h = rw h

is_none_at : (e : Option Refusal) → is_none e ≡ true → e ≡ None
is_none_at None h = refl
is_none_at (Some e) h = cc

module _ (slots count : ℕ) (pairs values : List ℕ) (stored : map_refusal slots count pairs values ≡ None) (low : Each (λ v. v < 2 ^ 64) values) where
  abbrev ds : List Diagonal
  ds = view count pairs values

  stored_map : FormedMap slots ds
  stored_map = formed_view slots count pairs values (stored_means slots count pairs values stored).1

  stored_fits : Fits slots ds
  stored_fits =
      let r = inside slots (stored_means slots count pairs values stored).0 in
      formed_fits (record { low = r.0; high = r.1 }) stored_map (rw (values_view pairs values count) (each_take (λ v. v < 2 ^ 64) (start_at pairs count) values low))

  -- the file of a stored map tells its slots
  pub file_accepted_slots : slots_in (map_file slots count pairs values) ≡ slots
  file_accepted_slots = file_slots stored_fits

  -- it tells the map
  pub file_accepted_map : map_in (map_file slots count pairs values) ≡ view count pairs values
  file_accepted_map = file_map stored_fits

  -- and it is a file: the reader, given room, accepts it
  pub file_accepted : is_file (map_file slots count pairs values) ≡ true
  unfolding is_file
  file_accepted =
      rw (file_accepted_map, file_accepted_slots)
      (both (none_is (means_stored slots (length ds) (pair_words ds) (value_words ds) (stored_means slots count pairs values stored).0 (formed_alone ds slots stored_map))) (eq-eqb (length (file_of slots ds)) _ refl))

-- what a file is
module _ (bytes : List ℕ) (file : is_file bytes ≡ true) where
  abbrev told : List Diagonal
  told = map_in bytes

  abbrev refusal : Option Refusal
  refusal = map_refusal (slots_in bytes) (length told) (pair_words told) (value_words told)

  pub file_stored : refusal ≡ None
  unfolding is_file
  file_stored = is_none_at refusal (first (is_none refusal) (eqb (length bytes) (length (file_of (slots_in bytes) told))) file)

  pub file_size : length bytes ≡ length (file_of (slots_in bytes) told)
  unfolding is_file
  file_size = eqb-true _ _ (second (is_none refusal) (eqb (length bytes) (length (file_of (slots_in bytes) told))) file)

  pub file_range : outside (slots_in bytes) ≡ false
  file_range = (stored_means (slots_in bytes) (length told) (pair_words told) (value_words told) file_stored).0

  file_formed : FormedMap (slots_in bytes) told
  file_formed = rw (view_alone told) at (formed_view (slots_in bytes) (length told) (pair_words told) (value_words told) (stored_means (slots_in bytes) (length told) (pair_words told) (value_words told) file_stored).1)

-- bytes that the writer produces: those of a stored map
pub record Produced (bytes : List ℕ) : Type 0 where
  pub slots : ℕ
  pub count : ℕ
  pub pairs : List ℕ
  pub values : List ℕ
  pub stored : map_refusal slots count pairs values ≡ None
  pub values_fit : Each (λ v. v < 2 ^ 64) values
  pub is : map_file slots count pairs values ≡ bytes

module _ (bytes : List ℕ) (low : Each (λ b. b < 256) bytes) where
  told_low : Each (λ v. v < 2 ^ 64) (value_words (map_in bytes))
  unfolding value_in
  told_low = rw (values_told bytes) (each_tabulate (λ v. v < 2 ^ 64) (start_in bytes (count_in bytes)) (value_in bytes) (λ j l. number_low bytes low 8 _))

  -- every file that the reader accepts is one that the writer can produce
  pub accepted_file : is_file bytes ≡ true → Produced bytes
  accepted_file h =
      record {
        slots = slots_in bytes;
        count = length (map_in bytes);
        pairs = pair_words (map_in bytes);
        values = value_words (map_in bytes);
        stored = file_stored bytes h;
        values_fit = told_low;
        is = ap (file_of (slots_in bytes)) (view_alone (map_in bytes)) ∙ map_file_lem bytes low (file_size bytes h);
      }

-- ---- when the reader accepts

module _ (bytes pairs values : List ℕ) where
  -- what is no file is refused with 13
  pub read_refused_13 : is_file bytes ≡ false → read_refusal bytes pairs values ≡ Some File
  read_refused_13 h = rw h

  -- a file is accepted where there is room for its map
  pub read_accepts : is_file bytes ≡ true → pair_room (length (map_in bytes)) ≤ length pairs → length (value_words (map_in bytes)) ≤ length values → read_refusal bytes pairs values ≡ None
  read_accepts h l m = rw h (fits_room (map_in bytes) pairs values l m)

  -- and nothing else is
  pub read_accepted : read_refusal bytes pairs values ≡ None → (is_file bytes ≡ true) × ((pair_room (length (map_in bytes)) ≤ length pairs) × (length (value_words (map_in bytes)) ≤ length values))
  read_accepted h =
      let q = pick_none (not (is_file bytes)) File (first_refusal (map_room (map_in bytes) pairs values)) h in
      (not-false _ q.0, room_fits (map_in bytes) pairs values q.1)

-- given room, the reader accepts exactly the files that the writer can produce
module _ (bytes pairs values : List ℕ) where
  pub produced_accepted : Produced bytes → pair_room (length (map_in bytes)) ≤ length pairs → length (value_words (map_in bytes)) ≤ length values → read_refusal bytes pairs values ≡ None
  produced_accepted p = read_accepts bytes pairs values (rw p.is at (file_accepted p.slots p.count p.pairs p.values p.stored p.values_fit))

  pub accepted_produced : Each (λ b. b < 256) bytes → read_refusal bytes pairs values ≡ None → Produced bytes
  accepted_produced low z = accepted_file bytes low (read_accepted bytes pairs values z).0

module _ {bytes pairs₀ pairs₁ values₀ values₁ : List ℕ} {a : Result FileMap Refusal} (r : FileRead bytes pairs₀ pairs₁ values₀ values₁ a) where
  -- an accepted read leaves the map for the next call
  read_holds : read_refusal bytes pairs₀ values₀ ≡ None → Holds (slots_in bytes) (map_in bytes) (length (map_in bytes)) pairs₁ values₁
  read_holds z =
      let q = read_accepted bytes pairs₀ values₀ z in
      rw (r.pairs ∙ on_accept_accepted _ _ _ z, r.values ∙ on_accept_accepted _ _ _ z)
      (record {
        view_is = view_in_front (map_in bytes) pairs₀ values₀;
        accepted = means_stored _ _ _ _ (file_range bytes q.0) (words_formed (slots_in bytes) (map_in bytes) pairs₀ values₀ (file_formed bytes q.0) q.1.0 q.1.1);
      })

-- ---- reading undoes writing

-- an accepted write leaves the file in front and answers how long it is
pub written_file : {slots count : ℕ} {pairs values old new : List ℕ} {r : Result ℕ Refusal} → write_refusal slots count pairs values old ≡ None → FileWritten slots count pairs values old new r → (take (length (map_file slots count pairs values)) new ≡ map_file slots count pairs values) × (r ≡ Ok (length (map_file slots count pairs values)))
unfolding in_front
written_file {slots} {count} {pairs} {values} {old} z w =
    (rw (w.out, z) (take-append_seam (map_file slots count pairs values) _), w.answer ∙ rw z)

-- what is read of a map's file: its slots and count, and the buffers hold the map for the next call
pub record ReadBack (slots count : ℕ) (pairs values pairs₁ values₁ : List ℕ) (a : Result FileMap Refusal) : Type 0 where
  pub answer : a ≡ Ok (record { slots = slots; count = count })
  pub holds : Holds slots (view count pairs values) count pairs₁ values₁

module _ {slots count : ℕ} {pairs values pairs₀ pairs₁ values₀ values₁ : List ℕ} {a : Result FileMap Refusal} (low : Each (λ v. v < 2 ^ 64) values) (pairs_fit : pair_room count ≤ length pairs₀) (values_fit : length (value_words (view count pairs values)) ≤ length values₀) where
  -- the file of a stored map, read where there is room, is that map
  pub file_read : map_refusal slots count pairs values ≡ None → FileRead (map_file slots count pairs values) pairs₀ pairs₁ values₀ values₁ a → ReadBack slots count pairs values pairs₁ values₁ a
  file_read stored r =
      let file : List ℕ = map_file slots count pairs values in
      let s = file_accepted_slots slots count pairs values stored low in
      let m = file_accepted_map slots count pairs values stored low in
      let n : length (map_in file) ≡ count = ap length m ∙ length_view count pairs values in
      let z = read_accepts file pairs₀ values₀ (file_accepted slots count pairs values stored low) (rw n pairs_fit) (rw m values_fit) in
      record {
        answer = r.answer ∙ rw (z, s, n);
        holds = rw (s, n, m) at (read_holds r z);
      }

  -- and so is what an accepted write left
  pub read_written : {old new : List ℕ} {n : ℕ} → FileWritten slots count pairs values old new (Ok n) → FileRead (take n new) pairs₀ pairs₁ values₀ values₁ a → ReadBack slots count pairs values pairs₁ values₁ a
  read_written {old} {new} {n} w r =
      let size : ℕ = length (map_file slots count pairs values) in
      let q = when_ok (write_refusal slots count pairs values old) size n w.answer in
      let stored = (none_of_both (map_refusals slots count pairs values) ((ltb (length old) size, Room) ∷ []) q.0).0 in
      let file : take n new ≡ map_file slots count pairs values = ap (λ (x : ℕ). take x new) q.1 ∙ (written_file q.0 w).0 in
      file_read stored (rw file at r)

-- ---- writing undoes reading

-- the numbers of an accepted answer
read_told : {e : Option Refusal} {s c slots count : ℕ} → ◌≡◌ {A = Result FileMap Refusal} (Ok (record { slots = slots; count = count })) (answered e (record { slots = s; count = c })) → (e ≡ None) × ((slots ≡ s) × (count ≡ c))
read_told {e} h =
    let q = when_ok e _ _ h in
    (q.0, (ap (λ (m : FileMap). m.slots) q.1, ap (λ (m : FileMap). m.count) q.1))

-- what is written of a map that was read is its file
pub write_read : {bytes pairs₀ pairs₁ values₀ values₁ : List ℕ} {slots count : ℕ} → Each (λ b. b < 256) bytes → FileRead bytes pairs₀ pairs₁ values₀ values₁ (Ok (record { slots = slots; count = count })) → (map_refusal slots count pairs₁ values₁ ≡ None) × (map_file slots count pairs₁ values₁ ≡ bytes)
write_read {bytes} {pairs₀} {pairs₁} {values₀} {values₁} {slots} {count} low r =
    let q = read_told r.answer in
    let h : Holds slots (map_in bytes) count pairs₁ values₁ = rw (q.1.0, q.1.1) (read_holds r q.0) in
    let size = file_size bytes (read_accepted bytes pairs₀ values₀ q.0).0 in
    (h.accepted, ap (file_of slots) h.view_is ∙ ap (λ (x : ℕ). file_of x (map_in bytes)) q.1.0 ∙ map_file_lem bytes low size)

-- ---- equal files

pub record SameMap (slots slots' count count' : ℕ) (pairs pairs' values values' : List ℕ) : Type 0 where
  pub slots_same : slots ≡ slots'
  pub count_same : count ≡ count'
  pub pairs_same : take (pair_room count) pairs ≡ take (pair_room count') pairs'
  pub values_same : take (start_at pairs count) values ≡ take (start_at pairs' count') values'

-- maps with one file are one map
pub equal_files : {slots slots' count count' : ℕ} {pairs pairs' values values' : List ℕ} → map_refusal slots count pairs values ≡ None → Each (λ v. v < 2 ^ 64) values → map_refusal slots' count' pairs' values' ≡ None → Each (λ v. v < 2 ^ 64) values'
    → map_file slots count pairs values ≡ map_file slots' count' pairs' values' → SameMap slots slots' count count' pairs pairs' values values'
equal_files {slots} {slots'} {count} {count'} {pairs} {pairs'} {values} {values'} stored low stored' low' e =
    let w = (stored_means slots count pairs values stored).1 in
    let w' = (stored_means slots' count' pairs' values' stored').1 in
    let same : view count pairs values ≡ view count' pairs' values' = sym (file_accepted_map slots count pairs values stored low) ∙ ap map_in e ∙ file_accepted_map slots' count' pairs' values' stored' low' in
    record {
      slots_same = sym (file_accepted_slots slots count pairs values stored low) ∙ ap slots_in e ∙ file_accepted_slots slots' count' pairs' values' stored' low';
      count_same = sym (length_view count pairs values) ∙ ap length same ∙ length_view count' pairs' values';
      pairs_same = sym (pairs_view pairs values count w.pairs_inside w.whole) ∙ ap pair_words same ∙ pairs_view pairs' values' count' w'.pairs_inside w'.whole;
      values_same = sym (values_view pairs values count) ∙ ap value_words same ∙ values_view pairs' values' count';
    }

-- ---- 01's numbers of the answers

pub room_numbers_lem : (e : Option Refusal) (room : FileRoom) → room_numbers (answered e room) ≡ number e ∷ on_accept e room.pairs 0 ∷ on_accept e room.values 0 ∷ []
room_numbers_lem None room = refl
room_numbers_lem (Some e) room = refl

pub map_numbers_lem : (e : Option Refusal) (file : FileMap) → map_numbers (answered e file) ≡ number e ∷ on_accept e file.slots 0 ∷ on_accept e file.count 0 ∷ []
map_numbers_lem None file = refl
map_numbers_lem (Some e) file = refl

-- ---- the checking order

-- the refusals of both calls stand in checking order
pub write_order : (slots count : ℕ) (pairs values out : List ℕ) → in_order (write_refusals slots count pairs values out) ≡ true
write_order slots count pairs values out = refl

pub read_order : (bytes pairs values : List ℕ) → in_order (read_refusals bytes pairs values) ≡ true
read_order bytes pairs values = refl

-- 13 is checked after 1 and before 3
pub thirteen_later : turn_of 1 < turn_of 13
thirteen_later = omega arith

pub thirteen_earlier : turn_of 13 < turn_of 3
thirteen_earlier = omega arith
