-- A vector of a buffer rotated: two straight runs copied, or added, make it.
-- Assumes nothing.
use Rattle.std.proofs.Common.{◌≡◌, ℕ, suc, ◌+◌, ◌-◌, ◌*◌, ◌%◌, ◌<◌, ◌≤◌, List, ◌++◌, length, get_or, take, drop, pos, sym, ap, ◌∙◌, mul-le-mul_right, mod-lt, mod-eq_of_lt, suc-mul, arith, length-append, length-drop, length-take-le, get_or-drop, get_or-take, get_or-append-add}
use Rattle.std.proofs.Common.{refl}
use Rattle.std.proofs.lemmas.List.{append_assoc, take-append-drop, drop-drop, drop-take, take-take}
use lib.ListN.{get_or-append}
use native.Mathlib.Decide.{dec_lt}
use Rattle.ring.specs.Residues.{residue_of}
use native.Mathlib.Nat.{add-mod_right}
use Rattle.ring.specs.Slots.{modulus, addm}
use Rattle.ring.specs.Vectors.{tabulate, in_front, put_at}
use Rattle.ring.specs.Laws.Vectors.{length_tabulate, tabulate_add, tabulate_cong, is_tabulate}
use Rattle.ring.specs.Rotations.{rotated}
use Rattle.ring.specs.Laws.Rotations.{get_or_rotated, length_rotated}
use Rattle.ring.specs.Laws.Residues.{residue_pos}
use Rattle.runs.specs.Machines.{vector_at, put_vector, turned, summed}
use Rattle.ring.specs.Laws.Places.{length_put_at, put_at_behind, put_both}
use Rattle.runs.specs.Laws.Places.{Inside, length_vector_at, get_or_vector_at}
use Rattle.runs.specs.Steps.Keyed.{vector_added, TurnAsked, AddTurn}

-- a place before another is a vector before it
pub apart : (slots a b : ℕ) → a < b → a * slots + slots ≤ b * slots
apart slots a b l = let e : suc a * slots ≤ b * slots = mul-le-mul_right slots l in omega (arith, suc-mul a slots, e)

two : (n k : ℕ) (f g h : ℕ → ℕ) → k < n → ((j : ℕ) → j < n - k → f j ≡ h j) → ((j : ℕ) → j < k → g j ≡ h (n - k + j)) → tabulate (n - k) f ++ tabulate k g ≡ tabulate n h
two n k f g h l p q =
    let e : n - k + k ≡ n = omega arith in
    rw (tabulate_cong (n - k) f h p, tabulate_cong k g (λ i. h (n - k + i)) q) (sym (tabulate_add (n - k) k h) ∙ ap (λ (x : ℕ). tabulate x h) e)

-- where a word of the rotated vector comes from
head_word : (k n j : ℕ) → j < n - k → (j + k) % n ≡ k + j
head_word k n j l = let e : j + k ≡ k + j = omega arith in rw e (mod-eq_of_lt (omega arith))

back_word : (k n j : ℕ) → k < n → j < k → (n - k + j + k) % n ≡ j
back_word k n j h l = let e : n - k + j + k ≡ j + n = omega arith in rw e (add-mod_right j n ∙ mod-eq_of_lt (omega arith))

-- put into the front part of a buffer, and so into the buffer
put_front : (at o : ℕ) (new buffer : List ℕ) → at + length new ≤ o → o ≤ length buffer → put_at at new (take o buffer) ++ drop o buffer ≡ put_at at new buffer
unfolding put_at in_front
put_front at o new buffer l h =
    let r : ℕ = o - (at + length new) in
    let e : at + length new + r ≡ o = omega arith in
    let front : take at (take o buffer) ≡ take at buffer = take-take at o buffer (omega arith) in
    let rest : drop (length new) (drop at (take o buffer)) ≡ take r (drop (length new) (drop at buffer)) =
    drop-drop (length new) at (take o buffer) ∙ ap (λ (x : ℕ). drop (at + length new) (take x buffer)) (sym e) ∙ drop-take (at + length new) r buffer ∙ ap (take r) (sym (drop-drop (length new) at buffer)) in
    let last : drop o buffer ≡ drop r (drop (length new) (drop at buffer)) =
    ap (λ (x : ℕ). drop x buffer) (sym e) ∙ sym (drop-drop r (at + length new) buffer) ∙ ap (drop r) (sym (drop-drop (length new) at buffer)) in
    let tail : List ℕ = drop (length new) (drop at buffer) in
    append_assoc (take at (take o buffer)) (new ++ drop (length new) (drop at (take o buffer))) (drop o buffer)
    ∙ cc (front, append_assoc new (drop (length new) (drop at (take o buffer))) (drop o buffer), rest, last, take-append-drop r tail)

-- a vector whose first k words have gone behind the others
rotated_left : (v : List ℕ) (k n : ℕ) → length v ≡ n → k < n → drop k v ++ take k v ≡ rotated v (pos k) n
unfolding rotated
rotated_left v k n e l = is_tabulate n (λ j. get_or v (residue_of (pos (j + k)) (length v)) 0) 0 (drop k v ++ take k v) (length-append (drop k v) (take k v) ∙ rw (length-drop, length-take-le k v (omega arith)) (omega arith)) (λ j h. word j h (dec_lt j (n - k)))
  where
    word : (j : ℕ) → j < n → Dec (j < n - k) → get_or (drop k v ++ take k v) j 0 ≡ get_or v (residue_of (pos (j + k)) (length v)) 0
    word j h (yes m) =
        get_or-append (drop k v) (take k v) 0 j (rw length-drop (omega arith))
        ∙ get_or-drop k v j 0
        ∙ ap (λ (x : ℕ). get_or v x 0) (sym (head_word k n j m) ∙ sym (residue_pos (j + k) n (omega arith)) ∙ ap (residue_of (pos (j + k))) (sym e))
    word j h (no m) =
        let i : ℕ = j - (n - k) in
        let f : length (drop k v) + i ≡ j = rw length-drop (omega arith) in
        let g : n - k + i + k ≡ j + k = omega arith in
        ap (λ (x : ℕ). get_or (drop k v ++ take k v) x 0) (sym f)
        ∙ get_or-append-add (drop k v) (take k v) i 0
        ∙ get_or-take k v i 0 (omega arith)
        ∙ ap (λ (x : ℕ). get_or v x 0) (sym (back_word k n i l (omega arith)) ∙ ap (λ (x : ℕ). x % n) g ∙ sym (residue_pos (j + k) n (omega arith)) ∙ ap (residue_of (pos (j + k))) (sym e))

module _ (slots : ℕ) (buffer : List ℕ) (place k : ℕ) (h : Inside slots buffer place) (p : 0 < slots) where
  -- a word of a vector rotated
  pub turned_word : (j : ℕ) → j < slots → get_or (turned slots (vector_at slots buffer place) k) j 0 ≡ get_or buffer (place * slots + (j + k) % slots) 0
  turned_word j l =
      get_or_rotated (vector_at slots buffer place) (pos k) slots j l
      ∙ rw (length_vector_at slots h) (ap (λ (x : ℕ). get_or (vector_at slots buffer place) x 0) (residue_pos (j + k) slots p))
      ∙ get_or_vector_at slots buffer place ((j + k) % slots) (mod-lt (j + k) p)

-- ---- added

module _ {slots : ℕ} {buffer : List ℕ} {even odd k : ℕ} (c : AddTurn slots buffer even odd k) where
  added_before : even * slots + slots ≤ odd * slots
  added_before = apart slots even odd c.order

  odd_inside : Inside slots buffer odd
  odd_inside = record { room = c.room }

  -- the two parts that the buffer falls into before the odd vector
  module _ {before rest : List ℕ} (b : before ≡ take (odd * slots) buffer) (r : rest ≡ drop (odd * slots) buffer) where
    abbrev start : ℕ
    start = even * slots

    abbrev middle : ℕ
    middle = start + slots - k

    abbrev sum : ℕ → ℕ
    sum j = addm modulus (get_or (vector_at slots buffer even) j 0) (get_or (turned slots (vector_at slots buffer odd) k) j 0)

    before_length : length before ≡ odd * slots
    before_length = rw b (length-take-le (odd * slots) buffer (omega (arith, c.room)))

    before_word : (i : ℕ) → i < odd * slots → get_or before i 0 ≡ get_or buffer i 0
    before_word i l = rw b (get_or-take (odd * slots) buffer i 0 l)

    rest_word : (i : ℕ) → get_or rest i 0 ≡ get_or buffer (odd * slots + i) 0
    rest_word i = rw r (get_or-drop (odd * slots) buffer i 0)

    same_sum : {x y u v : ℕ} → x ≡ u → y ≡ v → addm modulus x y ≡ addm modulus u v
    same_sum p q = cc

    -- up to the odd vector's end
    module _ {ys : List ℕ} (y : ys ≡ tabulate (length (take (middle - start) (drop start before))) (vector_added (take (slots - k) (drop k rest)) (take (middle - start) (drop start before)))) where
      head_length : length (take (middle - start) (drop start before)) ≡ slots - k
      head_length = length-take-le (middle - start) (drop start before) (rw length-drop (omega (arith, before_length, added_before, c.low))) ∙ omega (arith, c.low)

      head_is : ys ≡ tabulate (slots - k) sum
      head_is =
          y
          ∙ ap (λ (n : ℕ). tabulate n (vector_added (take (slots - k) (drop k rest)) (take (middle - start) (drop start before)))) head_length
          ∙ tabulate_cong (slots - k) _ _
          (λ j l.
          let q : j < slots = omega arith in
          let m : j < middle - start = omega (arith, c.low) in
          same_sum
          (get_or-take (middle - start) (drop start before) j 0 m ∙ get_or-drop start before j 0 ∙ before_word (start + j) (omega (arith, added_before)) ∙ sym (get_or_vector_at slots buffer even j q))
          (get_or-take (slots - k) (drop k rest) j 0 l
          ∙ get_or-drop k rest j 0
          ∙ rest_word (k + j)
          ∙ ap (λ (x : ℕ). get_or buffer (odd * slots + x) 0) (sym (head_word k slots j l))
          ∙ sym (turned_word slots buffer odd k odd_inside (omega (arith, c.low)) j q)))

      abbrev after : List ℕ
      after = put_at start ys before

      ys_length : length ys ≡ slots - k
      ys_length = ap length head_is ∙ length_tabulate (slots - k) sum

      after_length : length after ≡ odd * slots
      after_length = length_put_at start ys before (omega (arith, ys_length, before_length, added_before)) ∙ before_length

      after_word : (j : ℕ) → get_or after (middle + j) 0 ≡ get_or before (middle + j) 0
      after_word j =
          let e : start + (slots - k + j) ≡ middle + j = omega (arith, c.low) in
          ap (λ (x : ℕ). get_or after x 0) (sym e)
          ∙ put_at_behind start ys before (omega (arith, ys_length, before_length, added_before)) (slots - k + j) 0 (omega (arith, ys_length))
          ∙ ap (λ (x : ℕ). get_or before x 0) e

      -- from its start on
      module _ {zs : List ℕ} (z : zs ≡ tabulate (length (take (start + slots - middle) (drop middle after))) (vector_added (take k rest) (take (start + slots - middle) (drop middle after)))) where
        back_length : length (take (start + slots - middle) (drop middle after)) ≡ k
        back_length = length-take-le (start + slots - middle) (drop middle after) (rw length-drop (omega (arith, after_length, added_before, c.low))) ∙ omega (arith, c.low)

        back_is : zs ≡ tabulate k (λ j. sum (slots - k + j))
        back_is =
            z
            ∙ ap (λ (n : ℕ). tabulate n (vector_added (take k rest) (take (start + slots - middle) (drop middle after)))) back_length
            ∙ tabulate_cong k _ _
            (λ j l.
            let q : slots - k + j < slots = omega (arith, c.low) in
            let m : j < start + slots - middle = omega (arith, c.low) in
            let e : middle + j ≡ start + (slots - k + j) = omega (arith, c.low) in
            same_sum
            (get_or-take (start + slots - middle) (drop middle after) j 0 m
            ∙ get_or-drop middle after j 0
            ∙ after_word j
            ∙ before_word (middle + j) (omega (arith, added_before, c.low))
            ∙ ap (λ (x : ℕ). get_or buffer x 0) e
            ∙ sym (get_or_vector_at slots buffer even (slots - k + j) q))
            (get_or-take k rest j 0 l
            ∙ rest_word j
            ∙ ap (λ (x : ℕ). get_or buffer (odd * slots + x) 0) (sym (back_word k slots j c.low l))
            ∙ sym (turned_word slots buffer odd k odd_inside (omega (arith, c.low)) (slots - k + j) q)))

        zs_length : length zs ≡ k
        zs_length = ap length back_is ∙ length_tabulate k _

        both : ys ++ zs ≡ summed modulus slots (vector_at slots buffer even) (turned slots (vector_at slots buffer odd) k)
        unfolding summed
        both = rw (head_is, back_is) (two slots k sum (λ j. sum (slots - k + j)) sum c.low (λ j l. refl) (λ j l. refl))

        all_put : put_at middle zs after ++ rest ≡ put_vector slots buffer even (summed modulus slots (vector_at slots buffer even) (turned slots (vector_at slots buffer odd) k))
        unfolding put_vector
        all_put =
            let fits : start + length (ys ++ zs) ≤ odd * slots = rw (length-append ys zs) (omega (arith, ys_length, zs_length, added_before, c.low)) in
            ap (λ (t : List ℕ). t ++ rest) (put_both start middle ys zs before (omega (arith, before_length, added_before)) (omega (arith, ys_length, c.low)))
            ∙ ap (λ (t : List ℕ). put_at start (ys ++ zs) t ++ rest) b
            ∙ ap (λ (t : List ℕ). put_at start (ys ++ zs) (take (odd * slots) buffer) ++ t) r
            ∙ put_front start (odd * slots) (ys ++ zs) buffer fits (omega (arith, c.room))
            ∙ ap (λ (t : List ℕ). put_at start t buffer) both

      -- as the slices leave it
      module _ {n : ℕ} (p : n ≡ middle - start) where
        abbrev mid : List ℕ
        mid = take start before ++ (ys ++ drop n (drop start before))

        mid_is : mid ≡ after
        unfolding put_at in_front
        mid_is = let e : n ≡ length ys = p ∙ omega (arith, ys_length, c.low) in rw e

        pub add_done : {zs : List ℕ} {m : ℕ} → zs ≡ tabulate (length (take (start + slots - middle) (drop middle mid))) (vector_added (take k rest) (take (start + slots - middle) (drop middle mid))) → m ≡ start + slots - middle
            → take middle mid ++ (zs ++ drop m (drop middle mid)) ++ rest ≡ put_vector slots buffer even (summed modulus slots (vector_at slots buffer even) (turned slots (vector_at slots buffer odd) k))
        unfolding put_at in_front
        add_done {zs} {m} z q =
            let w : zs ≡ tabulate (length (take (start + slots - middle) (drop middle after))) (vector_added (take k rest) (take (start + slots - middle) (drop middle after))) = z ∙ rw mid_is in
            let e : m ≡ length zs = q ∙ omega (arith, zs_length w, c.low) in
            rw (mid_is, e) (all_put w)

-- a part rotated in place is the vector put back
pub turn_done : {slots : ℕ} {buffer : List ℕ} {place k : ℕ} → TurnAsked slots buffer place k → (n : ℕ) → n ≡ slots → {ys : List ℕ} → ys ≡ drop k (take n (drop (place * slots) buffer)) ++ take k (take n (drop (place * slots) buffer))
    → take (place * slots) buffer ++ (ys ++ drop n (drop (place * slots) buffer)) ≡ put_vector slots buffer place (turned slots (vector_at slots buffer place) k)
unfolding put_vector put_at in_front vector_at
turn_done {slots} {buffer} {place} {k} a n e {ys} q =
    let len : length (take slots (drop (place * slots) buffer)) ≡ slots = length-take-le slots (drop (place * slots) buffer) (rw length-drop (omega (arith, a.room))) in
    let is : ys ≡ rotated (take slots (drop (place * slots) buffer)) (pos k) slots = q ∙ rw e (rotated_left (take slots (drop (place * slots) buffer)) k slots len a.low) in
    rw (is, e, length_rotated)
