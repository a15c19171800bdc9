-- Laws of the vectors of a buffer: one put at a place is read there, and the others are kept.
-- Assumes nothing.
use Rattle.std.specs.Prelude.{◌≡◌, ℕ, suc, ◌+◌, ◌-◌, ◌*◌, ◌/◌, ◌%◌, ◌<◌, ◌≤◌, ◌≢◌, List, length, drop, slice_index}
use Rattle.std.proofs.Math.Path.{sym, ap}
use Rattle.std.proofs.Common.{◌∙◌, mod-eq_of_lt, add_comm, zero-add, ext_get_or}
use Rattle.std.proofs.Math.Nat.{mul-le-mul_right, suc-mul, div-eq_of_lt, add-mul-div_right, add-mul-mod_self_right}
use Rattle.std.proofs.Math.Decide.{dec_lt}
use native.Mathlib.Omega.{arith}
use Rattle.std.proofs.Math.ListN.{length-drop}
use Rattle.std.proofs.Math.Seq.{length-take-le, get_or-take, get_or-drop}
use Rattle.ring.specs.Lists.{join}
use Rattle.ring.specs.Vectors.{tabulate, in_front, put_at}
use Rattle.ring.specs.Laws.Vectors.{length_in_front, in_front_new, length_tabulate, get_or_tabulate, join_tables}
use Rattle.ring.specs.Laws.Places.{length_put_at, put_at_before, put_at_new, put_at_behind}
use Rattle.runs.specs.Machines.{vector_at, put_vector}

-- ---- vectors

module _ (slots : ℕ) where
  -- the place is within the buffer
  pub record Inside (buffer : List ℕ) (place : ℕ) : Type 0 where
    pub room : place * slots + slots ≤ length buffer

  -- the first n places are
  pub inside_first : (buffer : List ℕ) (n place : ℕ) → n * slots ≤ length buffer → place < n → Inside buffer place
  inside_first buffer n place h l =
      let e : suc place * slots ≤ n * slots = mul-le-mul_right slots l in
      record { room = omega (arith, suc-mul place slots, e) }

  pub length_vector_at : {buffer : List ℕ} {place : ℕ} → Inside buffer place → length (vector_at slots buffer place) ≡ slots
  unfolding vector_at
  length_vector_at {buffer} {place} h = length-take-le slots (drop (place * slots) buffer) (rw length-drop (omega (arith, h.room)))

  pub get_or_vector_at : (buffer : List ℕ) (place s : ℕ) → s < slots → slice_index (vector_at slots buffer place) s ≡ slice_index buffer (place * slots + s)
  unfolding vector_at
  get_or_vector_at buffer place s l = get_or-take slots (drop (place * slots) buffer) s 0 l ∙ get_or-drop (place * slots) buffer s 0

  -- equal words at each slot
  pub vector_ext : {buffer : List ℕ} {place : ℕ} → Inside buffer place → (v : List ℕ) → length v ≡ slots → ((s : ℕ) → s < slots → slice_index buffer (place * slots + s) ≡ slice_index v s) → vector_at slots buffer place ≡ v
  vector_ext {buffer} {place} h v e same =
      ext_get_or 0 (vector_at slots buffer place) v (length_vector_at h ∙ sym e)
      (λ s l. let q : s < slots = omega (arith, length_vector_at h) in get_or_vector_at buffer place s q ∙ same s q)

  module _ {buffer : List ℕ} {place : ℕ} (v : List ℕ) (len : length v ≡ slots) (h : Inside buffer place) where
    fits : place * slots + length v ≤ length buffer
    fits = omega (arith, h.room)

    pub length_put_vector : length (put_vector slots buffer place v) ≡ length buffer
    unfolding put_vector
    length_put_vector = length_put_at (place * slots) v buffer fits

    pub inside_put : {p : ℕ} → Inside buffer p → Inside (put_vector slots buffer place v) p
    inside_put i = record { room = omega (arith, i.room, length_put_vector) }

    -- it is read there
    pub vector_same : vector_at slots (put_vector slots buffer place v) place ≡ v
    unfolding put_vector
    vector_same =
        vector_ext (inside_put h) v len
        (λ s l. put_at_new (place * slots) v buffer fits s 0 (omega arith))

    -- any other vector is kept
    pub vector_other : (p : ℕ) → p ≢ place → Inside buffer p → vector_at slots (put_vector slots buffer place v) p ≡ vector_at slots buffer p
    unfolding put_vector
    vector_other p n i =
        vector_ext (inside_put i) (vector_at slots buffer p) (length_vector_at i)
        (λ s l. word s l (dec_lt p place) ∙ sym (get_or_vector_at buffer p s l))
      where
        word : (s : ℕ) → s < slots → Dec (p < place) → slice_index (put_vector slots buffer place v) (p * slots + s) ≡ slice_index buffer (p * slots + s)
        word s l (yes b) =
            let e : suc p * slots ≤ place * slots = mul-le-mul_right slots b in
            put_at_before (place * slots) v buffer fits (p * slots + s) 0 (omega (arith, suc-mul p slots, e))
        word s l (no b) =
            let q : place < p = omega arith in
            let e : suc place * slots ≤ p * slots = mul-le-mul_right slots q in
            let k : ℕ = p * slots + s - place * slots in
            let f : place * slots + k ≡ p * slots + s = omega (arith, suc-mul place slots, e) in
            ap (λ (x : ℕ). slice_index (put_at (place * slots) v buffer) x) (sym f)
            ∙ put_at_behind (place * slots) v buffer fits k 0 (omega (arith, suc-mul place slots, e))
            ∙ ap (λ (x : ℕ). slice_index buffer x) f

-- ---- vectors one after the other in front of a buffer

module _ (slots : ℕ) (p : 0 < slots) (f : ℕ → ℕ → ℕ) (gs old : List ℕ) where
  pub length_vectors : length (join (λ g. tabulate slots (f g)) gs) ≡ length gs * slots
  length_vectors = ap length (join_tables slots p f 0 gs) ∙ length_tabulate (length gs * slots) _

  -- the i-th is that of the i-th number
  pub vector_front : (i : ℕ) → i < length gs → length gs * slots ≤ length old → vector_at slots (in_front (join (λ g. tabulate slots (f g)) gs) old) i ≡ tabulate slots (f (slice_index gs i))
  vector_front i l h =
      let words = join (λ g. tabulate slots (f g)) gs in
      let len : length (in_front words old) ≡ length old = length_in_front words old (omega (arith, length_vectors)) in
      vector_ext slots (inside_first slots (in_front words old) (length gs) i (omega (arith, len)) l) (tabulate slots (f (slice_index gs i))) (length_tabulate slots _)
      (λ s k.
      let e : suc i * slots ≤ length gs * slots = mul-le-mul_right slots l in
      let q : i * slots + s < length gs * slots = omega (arith, suc-mul i slots, e) in
      in_front_new words old (i * slots + s) 0 (omega (arith, length_vectors))
      ∙ ap (λ (x : List ℕ). slice_index x (i * slots + s)) (join_tables slots p f 0 gs)
      ∙ get_or_tabulate (length gs * slots) _ (i * slots + s) 0 q
      ∙ rw (quotient s k, remainder s k) (sym (get_or_tabulate slots (f (slice_index gs i)) s 0 k)))
    where
      quotient : (s : ℕ) → s < slots → (i * slots + s) / slots ≡ i
      quotient s k = rw (add_comm (i * slots) s, add-mul-div_right s i p, div-eq_of_lt k) (zero-add i)

      remainder : (s : ℕ) → s < slots → (i * slots + s) % slots ≡ s
      remainder s k = rw (add_comm (i * slots) s, add-mul-mod_self_right s i slots) (mod-eq_of_lt k)
