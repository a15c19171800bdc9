-- The baby switches: the search for a place, the doubling of a step, a switch from either source, and the loop over them.
-- Assumes nothing.
use Rattle.std.proofs.Common.{◌≡◌, ℕ, zero, suc, ◌+◌, ◌-◌, ◌*◌, ◌/◌, ◌^◌, ◌<◌, ◌≤◌, true, List, ◌∷◌, ◌++◌, length, get_or, take, drop, set, ℤ, pos, sym, refl, ap, ◌∙◌, mul_comm, pow-suc, le-div_iff_mul-le, arith, length-drop, length-set, w64, to_z, ne_eqb}
use native.Mathlib.Nat.{dvd_refl}
use native.Mathlib.Decide.{dec_lt, ℕ_discrete}
use mir.ValLaws.{to_z_pos}
use Rattle.ring.specs.Lists.{among}
use Rattle.ring.specs.Vectors.{tabulate, in_front, put_at}
use Rattle.ring.specs.Laws.Vectors.{length_tabulate, tabulate_more, in_front_more}
use Rattle.ring.specs.Rotations.{rotated}
use Rattle.ring.specs.Laws.Lists.{each_at}
use Rattle.ring.specs.Laws.Rotations.{length_rotated}
use Rattle.std.specs.Prelude.{Option, Some, Result, IsOk, ◌%◌}
use Rattle.std.proofs.Common.{mod-eq_of_lt, mul-le-mul, pow_pos, append-nil, drop_of_length-le}
use Rattle.std.proofs.lemmas.Bool.{ltb-true}
use Rattle.std.proofs.lemmas.List.{drop-take, take-take}
use Rattle.std.specs.List.Sorted.{IsNonDecreasingBy}
use Prim.Native.Nat.{◌∣◌}
use Rattle.ring.specs.Lists.{Rising}
use Rattle.std.proofs.Common.{ltb, ltb-false, false, suc-mul, mul-le-mul_right, length-take-le}
use Rattle.std.specs.List.Sorted.{IsPartitionPoint}
use Rattle.runs.specs.declared.surveying.Powers.{Powers}
use Rattle.ring.specs.declared.refusal.Refusal.{Refusal}
use Rattle.diagonals.specs.Calls.{Rotated}
use Rattle.linear_transformation.specs.Closures.{nonzeros}
use Rattle.linear_transformation.specs.Laws.Closures.{top_unique}
use Rattle.runs.specs.Switches.{place_of, source_of, rotation_of}
use Rattle.runs.specs.Machines.{vector_at, put_vector, source_vector}
use Rattle.runs.specs.Laws.Places.{inside_first, length_vector_at, length_put_vector}
use Rattle.runs.specs.Laws.Folds.{cache_more}
use Rattle.runs.specs.Laws.Schedules.{place_found}
use Rattle.linear_transformation.specs.Laws.Runs.{rising_at}
use Rattle.runs.specs.Laws.PassSchedules.{top_turn, making, nonzeros_positive, nonzeros_each}
use Rattle.runs.proofs.Accepted.{rotating, rotating_is}
use Rattle.runs.specs.Steps.Keyed.{turn_by, StepUpTo, Listed, Babies, Reading, Turnable, TurnIs, Caching, BabyMade, BabiesMade}

-- ---- the place of a listed number

-- where the numbers below it end in a rising list
pub place_is_point : {bs : List ℕ} {k r : ℕ} → Listed bs k → IsPartitionPoint (λ y. ltb y k ≡ true) (λ y. ltb y k ≡ false) bs r → r ≡ place_of k bs
place_is_point {bs} {k} {r} l p = by (dec_lt r (place_of k bs)) (ℕ_discrete r (place_of k bs))
  where
    by : Dec (r < place_of k bs) → Dec (r ≡ place_of k bs) → r ≡ place_of k bs
    by (yes q) d = let f = place_found k bs l.has in absurd (omega (arith, rising_at bs 0 l.rises r (place_of k bs) q f.within, f.there, ltb-false (get_or bs r 0) k (p.1 r 0 (omega arith) (omega (arith, f.within)))))
    by (no q) (yes e) = e
    by (no q) (no e) = let f = place_found k bs l.has in absurd (omega (arith, f.there, ltb-true (get_or bs (place_of k bs) 0) k (p.0 (place_of k bs) 0 (omega arith) (omega arith))))

-- its numbers do not fall
pub rising_order : (bs : List ℕ) → Rising bs → IsNonDecreasingBy suc bs
rising_order bs r i j d l m = by (ℕ_discrete i j)
  where
    by : Dec (i ≡ j) → suc (get_or bs i d) ≤ suc (get_or bs j d)
    by (yes e) = rw e (omega arith)
    by (no n) = omega (arith, rising_at bs d r i j (omega arith) m)

-- ---- the turn of a baby

module _ (v step top : ℕ) (s : 1 ≤ step) (l : 2 ^ top ≤ v / step) (h : v / step < 2 * 2 ^ top) where
  turn_top : step * 2 ^ top ≡ top_turn step v
  turn_top = mul_comm step (2 ^ top) ∙ ap (λ (i : ℕ). 2 ^ i * step) (sym (top_unique (v / step) top l (omega (arith, h, pow-suc 2 top))))

  turn_within : step * 2 ^ top ≤ v
  turn_within = rw (mul_comm step (2 ^ top)) ((le-div_iff_mul-le s).0 l)

  turn_positive : 1 ≤ step * 2 ^ top
  turn_positive = mul-le-mul s (pow_pos top)

-- with powers of two
pub turn_some : (v top : ℕ) (powers : Option Powers) (p : Powers) → powers ≡ Some p → Turnable v powers → 2 ^ top ≤ v / p.step → v / p.step < 2 * 2 ^ top → TurnIs v powers (p.step * 2 ^ top % 4294967296)
turn_some v top powers p e t l h =
    let low : StepUpTo v (Some p) = rw e at t.low in
    let within = turn_within v p.step top low.0 l h in
    let whole : p.step * 2 ^ top % 4294967296 ≡ p.step * 2 ^ top = mod-eq_of_lt (omega (arith, within, t.small)) in
    rw (whole, e) (record { is = turn_top v p.step top low.0 l h; some = turn_positive v p.step top low.0 l h; within = within })

-- ---- the vector of a baby

-- behind the 0 in front, a number's place is one more than among the others
pub place_behind : (bs : List ℕ) (k : ℕ) → bs ≡ 0 ∷ nonzeros bs → 1 ≤ k → place_of k bs ≡ suc (place_of k (nonzeros bs))
place_behind bs k e h = ap (place_of k) e ∙ rw (ne_eqb 0 k (λ q. omega arith))

-- a baby that is not 0 is among the others
pub place_within : (bs : List ℕ) (k : ℕ) → bs ≡ 0 ∷ nonzeros bs → 1 ≤ k → among k bs ≡ true → place_of k (nonzeros bs) < length (nonzeros bs)
place_within bs k e h a = omega (arith, (place_found k bs a).within, place_behind bs k e h, ap length e)

-- a full cache holds it
pub baby_read : {bs input cache : List ℕ} (k : ℕ) → Babies bs input cache → among k bs ≡ true → place_of k bs * length input ≤ length cache
baby_read {bs} {input} k b a =
    let l : place_of k bs ≤ length (nonzeros bs) = omega (arith, (place_found k bs a).within, ap length b.front) in
    omega (arith, b.room, mul-le-mul_right (length input) l)

module _ {bs input cache : List ℕ} {k : ℕ} (b : Reading bs k input cache) (h : 1 ≤ k) {r : ℕ} (e : r ≡ place_of k bs) where
  place_is : r - 1 ≡ place_of k (nonzeros bs)
  place_is = omega (arith, place_behind bs k b.front h)

  pub vector_is : take ((r - 1) * length input + length input - (r - 1) * length input) (drop ((r - 1) * length input) cache) ≡ source_vector (length input) input cache (source_of bs k)
  unfolding vector_at
  vector_is = let q : (r - 1) * length input + length input - (r - 1) * length input ≡ length input = omega arith in rw (q, place_is) (by k h)
    where
      by : (k : ℕ) → 1 ≤ k → take (length input) (drop (place_of k (nonzeros bs) * length input) cache) ≡ source_vector (length input) input cache (source_of bs k)
      by zero h = absurd (omega arith)
      by (suc k) h = refl

-- ---- a switch

module _ {bs input cache : List ℕ} {powers : Option Powers} (c : Caching bs powers input cache) (p : ℕ) (h : p < length (nonzeros bs)) where
  abbrev slots : ℕ
  slots = length input

  abbrev v : ℕ
  v = get_or (nonzeros bs) p 0

  baby_word : get_or bs (p + 1) 0 ≡ v
  baby_word = ap (λ (t : List ℕ). get_or t (p + 1) 0) c.babies.front ∙ ap (λ (i : ℕ). get_or (0 ∷ nonzeros bs) i 0) (let e : p + 1 ≡ suc p = omega arith in e)

  baby_low : v < slots
  baby_low = each_at (λ b. b < slots) (nonzeros bs) 0 (nonzeros_each (λ b. b < slots) bs c.low) p h

  baby_some : 1 ≤ v
  baby_some = each_at (λ b. 1 ≤ b) (nonzeros bs) 0 (nonzeros_positive bs) p h

  pub turn_asked : Turnable (get_or bs (p + 1) 0) powers
  turn_asked = rw baby_word (record { some = baby_some; low = each_at (λ b. StepUpTo b powers) (nonzeros bs) 0 c.steps p h; small = omega (arith, baby_low, c.small) })

  pub baby_room : p * slots + slots ≤ length cache
  baby_room = (inside_first slots cache (length (nonzeros bs)) p c.babies.room h).room

  module _ {turn : ℕ} (t : TurnIs (get_or bs (p + 1) 0) powers turn) where
    turn_is : turn ≡ turn_by powers v
    turn_is = t.is ∙ ap (turn_by powers) baby_word

    turn_low : turn < slots
    turn_low = omega (arith, t.within, baby_word, baby_low)

    abbrev source : ℕ
    source = get_or bs (p + 1) 0 - turn

    source_listed : among source bs ≡ true
    source_listed = rw (baby_word, turn_is) (each_at (λ b. among (b - turn_by powers b) bs ≡ true) (nonzeros bs) 0 c.closed p h)

    -- it stands before the baby
    source_place : place_of source bs ≤ p
    source_place = by (dec_lt p (place_of source bs))
      where
        by : Dec (p < place_of source bs) → place_of source bs ≤ p
        by (yes l) =
            let there = (place_found source bs source_listed).there in
            let within = (place_found source bs source_listed).within in
            absurd (later (ℕ_discrete (p + 1) (place_of source bs)) l there within)
          where
            later : Dec (p + 1 ≡ place_of source bs) → p < place_of source bs → get_or bs (place_of source bs) 0 ≡ source → place_of source bs < length bs → ⊥
            later (yes e) l there within = omega (arith, rw (← e) at there, t.some, baby_word, baby_some)
            later (no n) l there within = omega (arith, rising_at bs 0 c.babies.rises (p + 1) (place_of source bs) (omega arith) within, there, t.some)
        by (no l) = omega arith

    -- the vectors that are made hold it
    pub source_asked : {made : List ℕ} → length made ≡ p * slots → Reading bs source input made
    source_asked e = record { rises = c.babies.rises; front = c.babies.front; has = source_listed; room = rw e (mul-le-mul_right slots source_place) }

    -- a vector
    source_length : length (source_vector slots input cache (source_of bs source)) ≡ slots
    source_length = by source source_place
      where
        by : (k : ℕ) → place_of k bs ≤ p → length (source_vector slots input cache (source_of bs k)) ≡ slots
        by zero l = refl
        by (suc k) l =
            let e = place_behind bs (suc k) c.babies.front (omega arith) in
            length_vector_at slots (inside_first slots cache (length (nonzeros bs)) (place_of (suc k) (nonzeros bs)) c.babies.room (omega (arith, e, h)))

    pub source_kept : source_vector slots input (take (p * slots) cache) (source_of bs source) ≡ source_vector slots input cache (source_of bs source)
    unfolding vector_at
    source_kept = by source source_place refl
      where
        by : (k : ℕ) → place_of k bs ≤ p → k ≡ source → source_vector slots input (take (p * slots) cache) (source_of bs k) ≡ source_vector slots input cache (source_of bs k)
        by zero l e = refl
        by (suc k) l e =
            let place : ℕ = place_of (suc k) (nonzeros bs) in
            let fits : place * slots + slots ≤ p * slots = omega (arith, suc-mul place slots, mul-le-mul_right slots (let x : suc place ≤ p = omega (arith, place_behind bs (suc k) c.babies.front (omega arith)) in x)) in
            let n : ℕ = p * slots - place * slots in
            let e : place * slots + n ≡ p * slots = omega arith in
            rw (← e) (ap (take slots) (drop-take (place * slots) n cache) ∙ take-take slots n (drop (place * slots) cache) (omega arith))

    pub part_length : {rest : List ℕ} → rest ≡ drop (p * slots) cache → length (take slots rest) ≡ slots
    part_length {rest} e = rw e (length-take-le slots (drop (p * slots) cache) (rw length-drop (omega (arith, baby_room))))

    pub made_lem : {made rest src ys : List ℕ} {shift : ℤ} {r : Result Unit Refusal} → made ≡ take (p * slots) cache → rest ≡ drop (p * slots) cache → src ≡ source_vector slots input made (source_of bs source) → shift ≡ pos turn → Rotated src shift (take slots rest) ys r
        → IsOk r × BabyMade bs powers p input cache (made ++ (ys ++ drop slots rest)) turn
    unfolding put_vector put_at in_front
    made_lem {made} {rest} {src} {ys} {shift} m e s i q =
        let src_is : src ≡ source_vector slots input cache (source_of bs source) = s ∙ rw m source_kept in
        let src_length : length src ≡ slots = rw src_is source_length in
        let copies : length src ∣ length (take slots rest) = rw (src_length, part_length e) (dvd_refl slots) in
        let some : 1 ≤ length src = rw src_length c.some in
        let small : length src ≤ 65536 = rw src_length c.small in
        let is : ys ≡ rotated src (pos turn) slots = rotating_is q some small copies ∙ rw (part_length e, i) refl in
        (rotating q some small copies, record { cache = rw (m, e, is, src_is, length_rotated, baby_word, turn_is) refl; turn = turn_is })

    -- as a signed word
    pub turn_signed : to_z w64 turn ≡ pos turn
    turn_signed = to_z_pos w64 turn (omega (arith, turn_low, c.small))

-- ---- the switches, one after the other

-- the room is that of the length alone
pub caching_kept : {bs input old new : List ℕ} {powers : Option Powers} → Caching bs powers input old → length new ≡ length old → Caching bs powers input new
caching_kept c e =
    record {
      babies = record { rises = c.babies.rises; front = c.babies.front; room = omega (arith, c.babies.room) };
      some = c.some;
      small = c.small;
      low = c.low;
      steps = c.steps;
      closed = c.closed;
    }

pub record Making (bs : List ℕ) (powers : Option Powers) (input : List ℕ) (n : ℕ) (old new log log' : List ℕ) (p : ℕ) : Type 0 where
  pub made : BabiesMade bs powers p input old new log log'
  pub len : length new ≡ length old
  pub log_len : length log' ≡ length log
  pub room : p ≤ n

pub making_none : (bs : List ℕ) (powers : Option Powers) (input : List ℕ) (n : ℕ) (old log : List ℕ) → Making bs powers input n old old log log 0
unfolding in_front
making_none bs powers input n old log = record { made = record { cache = refl; logged = refl }; len = refl; log_len = refl; room = omega arith }

pub making_more : {bs input : List ℕ} {powers : Option Powers} {n p r : ℕ} {old mid new log mid-log : List ℕ} → Making bs powers input n old mid log mid-log p → Caching bs powers input old → p < length (nonzeros bs) → p < n → n ≤ length log → BabyMade bs powers p input mid new r → Making bs powers input n old new log (set mid-log p r) (p + 1)
making_more {bs} {input} {powers} {n} {p} {r} {old} {mid} {new} {log} {mid-log} k c h l room b =
    let f = making bs (turn_by powers) in
    let words = tabulate p (λ q. rotation_of (f q)) in
    record {
      made = record {
        cache = b.cache ∙ rw k.made.cache (sym (cache_more (length input) input old p f));
        logged = rw (k.made.logged, b.turn) (in_front_more words log p (rotation_of (f p)) (length_tabulate p _) (omega arith) ∙ ap (λ (t : List ℕ). in_front t log) (sym (tabulate_more p (λ q. rotation_of (f q)))));
      };
      len = ap length b.cache ∙ length_put_vector (length input) _ (length_rotated _ _ (length input)) (record { room = baby_room (caching_kept {new = mid} c k.len) p h }) ∙ k.len;
      log_len = length-set mid-log p r ∙ k.log_len;
      room = omega arith;
    }

pub making_many : {bs input : List ℕ} {powers : Option Powers} {n p : ℕ} {old new turns : List ℕ} (log : List ℕ) → n ≤ length log → Making bs powers input n old new (take n log) turns p → length turns ≡ n
making_many {n = n} log room m = m.log_len ∙ length-take-le n log room

-- the n turns, in a log of their own, go in front of the whole log
pub making_done : {bs input : List ℕ} {powers : Option Powers} {n p : ℕ} {old new log turns : List ℕ} → n ≤ length log → Making bs powers input n old new (take n log) turns p → n ≤ p → BabiesMade bs powers n input old new log (turns ++ drop n log)
unfolding in_front
making_done {bs} {input} {powers} {n} {p} {old} {new} {log} {turns} room m h =
    let e : p ≡ n = omega (arith, m.room) in
    let words = tabulate n (λ q. rotation_of (making bs (turn_by powers) q)) in
    let many : length words ≡ n = length_tabulate n _ in
    let b : BabiesMade bs powers n input old new (take n log) turns = rw e at m.made in
    let whole : turns ≡ words = b.logged ∙ ap (λ (t : List ℕ). words ++ t) (drop_of_length-le (take n log) {i = length words} (rw (many, length-take-le n log room) (omega arith))) ∙ append-nil words in
    record { cache = b.cache; logged = rw (whole, many) refl }
