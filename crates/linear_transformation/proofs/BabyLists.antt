-- Lists that are written in front of a buffer: what the loops keep, and the answers of the calls.
-- Assumes nothing.
use Prim.Native.Nat.{ℕ, suc, ◌+◌, ◌*◌, ◌^◌, ◌≤◌, ◌<◌}
use mathlib.Core.Path.{◌≡◌, refl, sym, ap, ap₂, ◌∙◌}
use mathlib.Core.Bool.{Bool, true, false, not, cond}
use Rattle.std.specs.List.{count_by}
use Rattle.std.proofs.lemmas.List.Sums.{sum_by-cons}
use borrow.Author.Rules.{sfits_of}
use lib.Signed.{mag}
use mir.Syntax.{w64}
use mir.Val.{of_z, to_z}
use mir.ValLaws.{to_z-of_z}
use mathlib.Core.List.{List, [], ◌∷◌, ◌++◌, map, map-id, append-nil, append_assoc}
use native.Mathlib.Nat.{zero-mul, mul-one, le-mul_of_pos_right, div-one}
use native.Mathlib.Decide.{ℕ_discrete}
use native.Mathlib.Omega.{arith}
use borrow.Author.Tests.{eq-eqb, ne_eqb, lt-ltb, le-ltb}
use lib.Dec.{eqb, ltb}
use lib.IntN.{ℤ, pos, negsuc, nat_abs}
use lib.ListN.{length, get_or, set, take, drop, length-set, length-append, length-map, get_or-map, take-append-drop}
use lib.Seq.{split_at, length-take-le}
use Rattle.ring.specs.Lists.{join, Each, among}
use Rattle.ring.specs.Vectors.{in_front}
use Rattle.ring.specs.Searches.{below, only}
use Rattle.ring.specs.Marks.{marks}
use Rattle.ring.specs.Refusals.{first_refusal}
use Rattle.std.specs.Prelude.{◌≢◌, None, Some, Result, Ok, Err}
use Rattle.ring.specs.declared.refusal.Refusal.{Refusal}
use Rattle.ring.specs.declared.refusal.Refusal.TheVariants.{Room}
use Rattle.ring.specs.Laws.Lists.{join_more, join_append}
use Rattle.ring.specs.Laws.Vectors.{in_front_more}
use Rattle.ring.specs.Laws.Below.{below_ext}
use Rattle.ring.specs.Laws.Refusals.{first_later, still_refused}
use Rattle.linear_transformation.specs.declared.rotations.BsgsRotations.{BsgsRotations}
use Rattle.linear_transformation.specs.declared.rotations.BsgsRotations.TheVariants.{PerRotation, PowersOfTwo}
use Rattle.linear_transformation.specs.Closures.{closure, pass_rotations, nonzeros}
use Rattle.linear_transformation.specs.Listed.{no_baby, baby_multiple, multiples_of, baby_refusals, closure_of, baby_step_of, baby_keys_of}
use Rattle.linear_transformation.specs.Calls.{ListWritten}
use Rattle.linear_transformation.specs.Steps.Babies.{Babies, BabiesAccepted, Marked, Enclosed, Reached}
use Rattle.linear_transformation.specs.Laws.Passes.{rotations_are}
use Rattle.linear_transformation.specs.Laws.Tables.{bounded_below}
use Rattle.linear_transformation.proofs.BabyTables.{times, read, word_at}
use Rattle.linear_transformation.specs.Steps.Tables.{tops_of}

-- ---- words of the elements of a list, one after the other

module _ (g : ℕ → List ℕ) where
  pub join_split : (ks : List ℕ) (t : ℕ) → t < length ks → length (join g (take t ks)) + length (g (get_or ks t 0)) ≤ length (join g ks)
  join_split ks t l =
      let e : length (join g ks) ≡ length (join g (take t ks)) + (length (g (get_or ks t 0)) + length (join g (drop (suc t) ks))) = ap (λ (x : List ℕ). length (join g x)) (split_at ks t 0 l) ∙ rw (join_append g, length-append, length-append) in
      omega arith

-- their words stand behind `front`, which the buffer began with
pub record Sieving (g : ℕ → List ℕ) (front ks out₀ out : List ℕ) (at t : ℕ) : Type 0 where
  pub inside : t ≤ length ks
  pub so_far : out ≡ in_front (front ++ join g (take t ks)) out₀
  pub len : length out ≡ length out₀
  pub at_is : at ≡ length (front ++ join g (take t ks))

pub sieving_none : (g : ℕ → List ℕ) (ks out : List ℕ) (at : ℕ) → at ≤ length out → Sieving g (take at out) ks out out at 0
unfolding in_front
sieving_none g ks out at l =
    record {
      inside = omega arith;
      so_far = rw (append-nil, length-take-le at out l) (sym (take-append-drop at out));
      len = refl;
      at_is = rw append-nil (sym (length-take-le at out l));
    }

module _ {g : ℕ → List ℕ} {front ks out₀ out : List ℕ} {at t : ℕ} (s : Sieving g front ks out₀ out at t) (l : t < length ks) where
  pub sieving_room : length (front ++ join g ks) ≤ length out₀ → at + length (g (get_or ks t 0)) ≤ length out
  sieving_room h = omega (arith, s.at_is, s.len, join_split g ks t l, length-append front (join g (take t ks)), length-append front (join g ks))

  more : front ++ join g (take (t + 1) ks) ≡ (front ++ join g (take t ks)) ++ g (get_or ks t 0)
  more = ap (λ (x : List ℕ). front ++ x) (join_more g ks t 0 l) ∙ sym (append_assoc front (join g (take t ks)) (g (get_or ks t 0)))

  pub sieving_skip : g (get_or ks t 0) ≡ [] → Sieving g front ks out₀ out at (t + 1)
  sieving_skip e = record { inside = omega arith; so_far = rw (more, e, append-nil) s.so_far; len = s.len; at_is = rw (more, e, append-nil) s.at_is }

  pub sieving_one : {v : ℕ} → g (get_or ks t 0) ≡ v ∷ [] → at < length out → Sieving g front ks out₀ (set out at v) (at + 1) (t + 1)
  sieving_one {v} e h =
      record {
        inside = omega arith;
        so_far = rw (more, e, s.so_far) (in_front_more (front ++ join g (take t ks)) out₀ at v (sym s.at_is) (omega (arith, s.len)));
        len = simp length-set s.len;
        at_is = rw (more, e) (sym (length-append (front ++ join g (take t ks)) (v ∷ []) ∙ rw s.at_is));
      }

  pub sieving_two : {v w : ℕ} → g (get_or ks t 0) ≡ v ∷ w ∷ [] → at + 1 < length out → Sieving g front ks out₀ (set (set out at v) (at + 1) w) (at + 2) (t + 1)
  sieving_two {v} {w} e h =
      let xs : List ℕ = front ++ join g (take t ks) in
      record {
        inside = omega arith;
        so_far = rw (more, e, s.so_far, in_front_more xs out₀ at v (sym s.at_is) (omega (arith, s.len)), in_front_more (xs ++ (v ∷ [])) out₀ (at + 1) w (rw length-append (omega (arith, s.at_is))) (omega (arith, s.len))) (ap (λ (x : List ℕ). in_front x out₀) (append_assoc xs (v ∷ []) (w ∷ [])));
        len = simp length-set s.len;
        at_is = rw (more, e) (sym (length-append xs (v ∷ w ∷ []) ∙ rw s.at_is));
      }

-- ---- numbers that are not 0

abbrev pub nonzero : ℕ → List ℕ
nonzero k = only (not (eqb k 0)) k

pub nonzero_yes : (k : ℕ) → (k ≡ 0 → ⊥) → nonzero k ≡ k ∷ []
nonzero_yes k h = rw (ne_eqb k 0 h)

pub nonzero_no : (k : ℕ) → k ≡ 0 → nonzero k ≡ []
nonzero_no k h = rw (eq-eqb k 0 h)

-- ---- answers

-- what comes before is accepted
pub list_later_by : (cs : List (Bool × Refusal)) → first_refusal cs ≡ None → {result old new : List ℕ} {r : Result ℕ Refusal} → ListWritten [] result old new r → ListWritten cs result old new r
list_later_by cs z {result} {old} w =
    let q = first_later cs ((ltb (length old) (length result), Room) ∷ []) z in
    record { answer = rw q w.answer; words = rw q w.words }

pub list_refused_by : (cs : List (Bool × Refusal)) (result old : List ℕ) {x : Refusal} → first_refusal cs ≡ Some x → ListWritten cs result old old (Err x)
list_refused_by cs result old e =
    let q = still_refused cs ((ltb (length old) (length result), Room) ∷ []) e in
    record { answer = rw q; words = rw q }

pub list_short : (result old : List ℕ) {count : ℕ} → count ≡ length result → length old < count → ListWritten [] result old old (Err Room)
list_short result old e l =
    let q : ltb (length old) (length result) ≡ true = lt-ltb (length old) (length result) (omega arith) in
    record { answer = rw q; words = rw q }

pub list_written : (result old : List ℕ) {new : List ℕ} {count : ℕ} → count ≡ length result → count ≤ length old → new ≡ in_front result old → ListWritten [] result old new (Ok count)
list_written result old e l h =
    let q : ltb (length old) (length result) ≡ false = le-ltb (length old) (length result) (omega arith) in
    record { answer = rw (q, e); words = rw q h }

-- ---- what `baby_closure` marks

pub reached_one : {step : ℕ} {bs : List ℤ} {seen : List Bool} {n : ℕ} → step ≡ 1 → Marked step bs seen n → Reached PerRotation bs seen n
reached_one {step} {bs} {seen} {n} e m =
    let own : Marked 1 bs seen n = rw e at m in
    record {
      bounded = own.bounded;
      is = simp (mul-one, map-id) (bounded_below own.bounded ∙ below_ext (marks seen) (λ k. among k (multiples_of 1 bs)) 65536 (λ k l. own.marked k));
    }

pub reached_each : {step : ℕ} {bs : List ℤ} {seen : List Bool} {n : ℕ} (rotations : BsgsRotations) → ((b g m : ℕ) → rotations ≢ PowersOfTwo b g m) → step ≡ baby_step_of rotations → Marked step bs seen n → Reached rotations bs seen n
reached_each PerRotation h e m = reached_one e m
reached_each (PowersOfTwo b g m) h e k = absurd (h b g m refl)

-- ---- the loops over babies

-- whether a number is not 0
abbrev pub counts : ℤ → Bool
counts z = not (eqb (nat_abs z) 0)

-- as many as there are numbers that are not 0
pub nonzeros_counted : (zs : List ℤ) → count_by counts zs ≡ length (nonzeros (map nat_abs zs))
nonzeros_counted [] = refl
nonzeros_counted (z ∷ zs) =
    sum_by-cons (λ z. cond (counts z) 1 0) z zs
    ∙ ap₂ ◌+◌ (one (counts z)) (nonzeros_counted zs)
    ∙ sym (length-append (nonzero (nat_abs z)) (nonzeros (map nat_abs zs)))
  where
    one : (b : Bool) → cond b 1 0 ≡ length (only b (nat_abs z))
    one true = refl
    one false = refl

abs_zero : (z : ℤ) → nat_abs z ≡ 0 → of_z w64 z ≡ 0
abs_zero (pos n) e = ap (λ k. of_z w64 (pos k)) e
abs_zero (negsuc n) e = absurd (omega (arith, e))

pub counts_yes : (z : ℤ) → (of_z w64 z ≡ 0 → ⊥) → counts z ≡ true
counts_yes z n = ap not (ne_eqb (nat_abs z) 0 (λ e. n (abs_zero z e)))

pub counts_no : (z : ℤ) → mag z < 2 ^ 63 → of_z w64 z ≡ 0 → counts z ≡ false
counts_no z g e = ap not (eq-eqb (nat_abs z) 0 (ap nat_abs (sym (to_z-of_z w64 z (sfits_of g)) ∙ ap (to_z w64) e)))

-- the nonzero babies before t stand in front
module _ {step : ℕ} {bs : List ℤ} {out₀ out : List ℕ} {at t : ℕ} (b : Babies step bs) (s : Sieving nonzero [] (map nat_abs bs) out₀ out at t) (l : t < length bs) where
  own : get_or (map nat_abs bs) t 0 ≡ read bs t
  own = get_or-map nat_abs bs t (pos 0) ∙ sym (word_at b t l)

  within : t < length (map nat_abs bs)
  within = rw length-map l

  pub keys_room : length (nonzeros (map nat_abs bs)) ≤ length out₀ → (read bs t ≡ 0 → ⊥) → at < length out
  keys_room h n = omega (arith, sieving_room s within h, ap (λ (x : ℕ). length (nonzero x)) own, ap length (nonzero_yes (read bs t) n))

  pub keys_yes : length (nonzeros (map nat_abs bs)) ≤ length out₀ → (read bs t ≡ 0 → ⊥) → Sieving nonzero [] (map nat_abs bs) out₀ (set out at (read bs t)) (at + 1) (t + 1)
  keys_yes h n = sieving_one s within (rw own (nonzero_yes (read bs t) n)) (keys_room h n)

  pub keys_no : read bs t ≡ 0 → Sieving nonzero [] (map nat_abs bs) out₀ out at (t + 1)
  keys_no z = sieving_skip s within (rw own (nonzero_no (read bs t) z))

-- as many babies as multiples are not 0
pub nonzeros_same : {step : ℕ} {bs : List ℤ} → Babies step bs → length (nonzeros (map nat_abs bs)) ≡ length (nonzeros (multiples_of step bs))
nonzeros_same {step} {bs} b = by bs b.each
  where
    zero_times : (k : ℕ) → k ≡ 0 → k * step ≡ 0
    zero_times k e = rw e (zero-mul step)

    times_zero : (k : ℕ) → (k ≡ 0 → ⊥) → k * step ≡ 0 → ⊥
    times_zero k n e = omega (arith, b.range.low, le-mul_of_pos_right k b.range.low)

    one : (z : ℤ) → no_baby z step ≡ false → Dec (baby_multiple z step ≡ 0) → length (nonzero (nat_abs z)) ≡ length (nonzero (baby_multiple z step))
    one z h (yes e) = rw (nonzero_no _ e, nonzero_no (nat_abs z) (sym (times z step h) ∙ zero_times _ e))
    one z h (no n) = rw (nonzero_yes _ n, nonzero_yes (nat_abs z) (λ e. times_zero _ n (times z step h ∙ e)))

    by : (zs : List ℤ) → Each (λ z. no_baby z step ≡ false) zs → length (nonzeros (map nat_abs zs)) ≡ length (nonzeros (multiples_of step zs))
    by [] h = refl
    by (z ∷ zs) h =
        length-append (nonzero (nat_abs z)) (nonzeros (map nat_abs zs))
        ∙ rw (one z h.0 (ℕ_discrete _ _), by zs h.1) (sym (length-append (nonzero (baby_multiple z step)) (nonzeros (multiples_of step zs))))

-- ---- the answer of `baby_closure`

module _ {rotations : BsgsRotations} {bs bs₁ : List ℤ} {step : ℕ} (j : BabiesAccepted rotations bs step bs₁) {step₁ : ℕ} {seen : List Bool} {n : ℕ} (r : (step₁ ≡ step) × Reached rotations bs₁ seen n) {count : ℕ} (k : count ≡ length (below (marks seen) n)) (old : List ℕ) where
  listed : map (λ k. k * step₁) (below (marks seen) n) ≡ closure_of rotations bs
  listed = ap (λ s. map (λ k. k * s) (below (marks seen) n)) (r.0 ∙ j.step_is) ∙ r.1.is ∙ ap (closure_of rotations) j.babies_are

  counted : count ≡ length (closure_of rotations bs)
  counted = k ∙ sym (sym (ap length listed) ∙ length-map (below (marks seen) n) (λ k. k * step₁))

  pub closure_written : {new : List ℕ} → count ≤ length old → new ≡ in_front (map (λ k. k * step₁) (below (marks seen) n)) old → ListWritten (baby_refusals rotations bs) (closure_of rotations bs) old new (Ok count)
  closure_written h w = list_later_by (baby_refusals rotations bs) j.none (list_written (closure_of rotations bs) old counted h (w ∙ ap (λ (x : List ℕ). in_front x old) listed))

-- ---- the keys of a closure

module _ {step step₁ : ℕ} {bs : List ℤ} {seen : List Bool} {n : ℕ} (r : (step₁ ≡ step) × Enclosed step bs seen n) {count : ℕ} (k : count ≡ length (tops_of (below (marks seen) n) 16)) (old : List ℕ) where
  abbrev rotated : List ℕ
  rotated = pass_rotations 16 step (closure 16 (multiples_of step bs))

  turned : pass_rotations 16 step₁ (below (marks seen) n) ≡ rotated
  turned = ap₂ (pass_rotations 16) r.0 r.1.is

  tops_counted : count ≡ length rotated
  tops_counted = k ∙ sym (sym (ap length turned) ∙ ap length (rotations_are step₁ (below (marks seen) n) 16) ∙ length-map (tops_of (below (marks seen) n) 16) (λ i. 2 ^ i * step₁))

  pub tops_short : length old < count → ListWritten [] rotated old old (Err Room)
  tops_short h = list_short rotated old tops_counted h

  pub tops_written : {new : List ℕ} → count ≤ length old → new ≡ in_front (pass_rotations 16 step₁ (below (marks seen) n)) old → ListWritten [] rotated old new (Ok count)
  tops_written h w = list_written rotated old tops_counted h (w ∙ ap (λ (x : List ℕ). in_front x old) turned)

-- ---- the answer of `baby_key_rotations`

ones : (bs : List ℤ) → map nat_abs bs ≡ multiples_of 1 bs
ones [] = refl
ones (z ∷ zs) = ap₂ ◌∷◌ (sym (div-one (nat_abs z))) (ones zs)

module _ {rotations : BsgsRotations} {bs bs₁ : List ℤ} {step : ℕ} {old new : List ℕ} {r : Result ℕ Refusal} (j : BabiesAccepted rotations bs step bs₁) where
  later : ListWritten [] (baby_keys_of rotations bs) old new r → ListWritten (baby_refusals rotations bs) (baby_keys_of rotations bs) old new r
  later w = list_later_by (baby_refusals rotations bs) j.none w
