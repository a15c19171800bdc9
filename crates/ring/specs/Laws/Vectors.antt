-- Laws of vectors by their elements, and of what lent buffers hold.
-- Assumes nothing.
use Rattle.std.specs.Prelude.{◌≡◌, ℕ, zero, suc, ◌+◌, ◌-◌, ◌*◌, ◌/◌, ◌%◌, ◌<◌, ◌≤◌, List, [], ◌∷◌, ◌++◌, map, reverse, length, get_or, take, drop, ◌≢◌, slice_index_or, slice_set}
use Rattle.std.proofs.Math.Path.{refl, sym, ap}
use Rattle.std.proofs.Common.{◌∙◌, not-suc-le-zero, le_of_suc-le-suc, zero-add, add-zero, suc-add, add_comm, zero-mul, suc-mul, mod-eq_of_lt, add-one, length-append, length-drop, length-set, drop_of_length-le, take-append-drop, ext_get_or, drop-cons, get_or-drop, length-take-le}
use mathlib.Core.List.{reverse-cons, append-nil, append_assoc}
use Rattle.std.proofs.Math.Nat.{div-eq_of_lt, add-div_left, add-mod_left}
use native.Mathlib.Omega.{arith}
use Rattle.std.proofs.Math.ListN.{get_or-append}
use Rattle.std.proofs.lemmas.List.{set_at}
use Rattle.std.proofs.Math.Seq.{append_snoc, take_at, drop_at, drop-drop, drop-append-add, get_or-append-add, get_or-take, set-append_left, get_or-set_same, get_or-set_other}
use Rattle.std.proofs.Math.Decide.{ℕ_discrete}
use Rattle.ring.specs.Lists.{join}
use Rattle.ring.specs.Vectors.{tabulate, in_front, filled, Filling}

-- ---- tables

module _ {A : Type 0} where
  pub length_tabulate : (n : ℕ) (f : ℕ → A) → length (tabulate n f) ≡ n
  length_tabulate zero f = refl
  length_tabulate (suc n) f = ap suc (length_tabulate n (λ k. f (suc k)))

  pub get_or_tabulate : (n : ℕ) (f : ℕ → A) (i : ℕ) (d : A) → i < n → slice_index_or (tabulate n f) i d ≡ f i
  get_or_tabulate zero f i d l = absurd (not-suc-le-zero l)
  get_or_tabulate (suc n) f zero d l = refl
  get_or_tabulate (suc n) f (suc i) d l = get_or_tabulate n (λ k. f (suc k)) i d (le_of_suc-le-suc l)

  -- a list with these elements is the table of them
  pub is_tabulate : (n : ℕ) (f : ℕ → A) (d : A) (xs : List A) → length xs ≡ n → ((i : ℕ) → i < n → slice_index_or xs i d ≡ f i) → xs ≡ tabulate n f
  is_tabulate n f d xs len at =
      ext_get_or d xs (tabulate n f) (len ∙ sym (length_tabulate n f))
      (λ i l. let h : i < n = omega arith in at i h ∙ sym (get_or_tabulate n f i d h))

  -- every list is the table of its elements
  pub tabulate_get_or : (xs : List A) (d : A) → xs ≡ tabulate (length xs) (λ i. get_or xs i d)
  tabulate_get_or xs d = is_tabulate (length xs) (λ i. get_or xs i d) d xs refl (λ i l. refl)

  pub tabulate_cong : (n : ℕ) (f g : ℕ → A) → ((i : ℕ) → i < n → f i ≡ g i) → tabulate n f ≡ tabulate n g
  tabulate_cong zero f g same = refl
  tabulate_cong (suc n) f g same = cc (same 0 (omega arith), tabulate_cong n (λ k. f (suc k)) (λ k. g (suc k)) (λ i l. same (suc i) (omega arith)))

  pub tabulate_add : (a n : ℕ) (f : ℕ → A) → tabulate (a + n) f ≡ tabulate a f ++ tabulate n (λ i. f (a + i))
  tabulate_add zero n f = simp zero-add
  tabulate_add (suc a) n f = simp suc-add (ap (λ (t : List A). f 0 ∷ t) (tabulate_add a n (λ k. f (suc k))))

-- one element more, as a loop adds it
pub tabulate_more : {A : Type 0} (n : ℕ) (f : ℕ → A) → tabulate (n + 1) f ≡ tabulate n f ++ (f n ∷ [])
tabulate_more n f = rw (tabulate_add, add-zero)

pub tabulate_snoc : {A : Type 0} (n : ℕ) (f : ℕ → A) → tabulate (suc n) f ≡ tabulate n f ++ (f n ∷ [])
tabulate_snoc n f = ap (λ (m : ℕ). tabulate m f) (sym (add-one n)) ∙ tabulate_more n f

pub reverse_tabulate : {A : Type 0} (n : ℕ) (f : ℕ → A) → reverse (tabulate n f) ≡ tabulate n (λ i. f (n - 1 - i))
reverse_tabulate zero f = refl
reverse_tabulate {A} (suc n) f =
    let e : 0 ≡ suc n - 1 - n = omega arith in
    reverse-cons (f 0) (tabulate n (λ k. f (suc k)))
    ∙ ap (λ (t : List A). t ++ (f 0 ∷ [])) (reverse_tabulate n (λ k. f (suc k)) ∙ tabulate_cong n (λ i. f (suc (n - 1 - i))) (λ i. f (suc n - 1 - i)) (λ i l. ap f (omega arith)))
    ∙ ap (λ (k : ℕ). tabulate n (λ i. f (suc n - 1 - i)) ++ (f k ∷ [])) e
    ∙ sym (tabulate_snoc n (λ i. f (suc n - 1 - i)))

pub map_tabulate : {A B : Type 0} (g : A → B) (n : ℕ) (f : ℕ → A) → map g (tabulate n f) ≡ tabulate n (λ i. g (f i))
map_tabulate g zero f = refl
map_tabulate {B} g (suc n) f = ap (λ (t : List B). g (f 0) ∷ t) (map_tabulate g n (λ k. f (suc k)))

-- ---- a result in front, the further words kept

module _ {A : Type 0} (new old : List A) where
  pub length_in_front : length new ≤ length old → length (in_front new old) ≡ length old
  unfolding in_front
  length_in_front l = simp (length-append, length-drop) (omega arith)

  pub in_front_new : (i : ℕ) (d : A) → i < length new → slice_index_or (in_front new old) i d ≡ slice_index_or new i d
  unfolding in_front
  in_front_new i d l = get_or-append new (drop (length new) old) d i l

  pub in_front_old : (i : ℕ) (d : A) → length new ≤ i → slice_index_or (in_front new old) i d ≡ slice_index_or old i d
  unfolding in_front
  in_front_old i d l =
      let e : length new + (i - length new) ≡ i = omega arith in
      rw (← e, get_or-append-add, get_or-drop)

  -- a result as long as the buffer is all of it
  pub in_front_whole : length old ≤ length new → in_front new old ≡ new
  unfolding in_front
  in_front_whole l = rw (drop_of_length-le old l, append-nil)

-- one word more in front
pub in_front_more : {A : Type 0} (xs d : List A) (n : ℕ) (a : A) → length xs ≡ n → n < length d → slice_set (in_front xs d) n a ≡ in_front (xs ++ (a ∷ [])) d
unfolding in_front
in_front_more xs d n a e h =
    rw (e, length-append, e, add-one, drop-cons d n a h) (set_at xs (slice_index_or d n a) (drop (suc n) d) a n e ∙ sym (append_snoc xs a (drop (suc n) d)))

-- a result in front of another that is no longer
pub in_front_in_front : {A : Type 0} (new mid old : List A) → length mid ≤ length new → length mid ≤ length old → in_front new (in_front mid old) ≡ in_front new old
unfolding in_front
in_front_in_front {A} new mid old l m = ap (λ (t : List A). new ++ t) (by (length new) l)
  where
    by : (n : ℕ) → length mid ≤ n → drop n (mid ++ drop (length mid) old) ≡ drop n old
    by n h =
        let e : length mid + (n - length mid) ≡ n = omega arith in
        rw (← e) (drop-append-add mid (drop (length mid) old) (n - length mid) ∙ drop-drop (n - length mid) (length mid) old)

-- ---- a loop that writes a buffer from its front

module _ {A : Type 0} (f : ℕ → A) where
  pub filled_none : (d : List A) → d ≡ filled f 0 d
  unfolding filled
  filled_none d = refl

  pub length_filled : (j : ℕ) (d : List A) → j ≤ length d → length (filled f j d) ≡ length d
  unfolding filled
  length_filled j d l = simp (length-append, length_tabulate, length-drop) (omega arith)

  -- every place stored
  pub filled_all : (j : ℕ) (d : List A) → length d ≤ j → filled f j d ≡ tabulate j f
  unfolding filled
  filled_all j d l = rw (drop_of_length-le d l, append-nil)

  -- the stores are the table in front of d
  pub filled_front : (j : ℕ) (d : List A) → filled f j d ≡ in_front (tabulate j f) d
  unfolding filled in_front
  filled_front j d = rw length_tabulate

  -- what is not stored yet
  pub filled_rest : (j : ℕ) (d : List A) (i : ℕ) (z : A) → j ≤ i → slice_index_or (filled f j d) i z ≡ slice_index_or d i z
  filled_rest j d i z l = rw filled_front (in_front_old (tabulate j f) d i z (rw length_tabulate l))

module _ {A : Type 0} (f : ℕ → A) (n : ℕ) (d : List A) (z : A) where
  -- what is stored
  pub filled_at : (i : ℕ) → i < n → slice_index_or (filled f n d) i z ≡ f i
  filled_at i l = rw filled_front (in_front_new (tabulate n f) d i z (rw length_tabulate l) ∙ get_or_tabulate n f i z l)

  -- a buffer that holds the words already
  pub filled_same : n ≤ length d → ((i : ℕ) → i < n → slice_index_or d i z ≡ f i) → d ≡ filled f n d
  unfolding filled
  filled_same l same =
      sym (take-append-drop n d)
      ∙ ap (λ (t : List A). t ++ drop n d) (is_tabulate n f z (take n d) (length-take-le n d l) (λ i h. get_or-take n d i z h ∙ same i h))

module _ {A : Type 0} (f g : ℕ → A) (n : ℕ) (d : List A) where
  -- stored again
  pub filled_filled : filled g n (filled f n d) ≡ filled g n d
  unfolding filled
  filled_filled = rw (drop_at (tabulate n f) (drop n d) n (length_tabulate n f))

  -- one of the words stored again
  pub filled_set : (i : ℕ) (v : A) → i < n → v ≡ g i → ((x : ℕ) → x < n → (x ≢ i) → f x ≡ g x) → slice_set (filled f n d) i v ≡ filled g n d
  unfolding filled
  filled_set i v l e same =
      set-append_left (tabulate n f) (drop n d) i v (rw length_tabulate l)
      ∙ ap (λ (t : List A). t ++ drop n d) (is_tabulate n g v (slice_set (tabulate n f) i v) (simp (length-set, length_tabulate)) (λ x h. by_index x h (ℕ_discrete x i)))
    where
      by_index : (x : ℕ) → x < n → Dec (x ≡ i) → slice_index_or (slice_set (tabulate n f) i v) x v ≡ g x
      by_index x h (yes q) = rw (q, get_or-set_same (tabulate n f) i v v (rw length_tabulate l)) e
      by_index x h (no q) = get_or-set_other (tabulate n f) i x v v q ∙ get_or_tabulate n f x v h ∙ same x h q

-- tables of one size, one after the other: the x-th word is word x % p of the (x / p)-th
pub join_tables : {A B : Type 0} (p : ℕ) → 0 < p → (g : B → ℕ → A) (d : B) (ks : List B) → join (λ k. tabulate p (g k)) ks ≡ tabulate (length ks * p) (λ x. g (slice_index_or ks (x / p) d) (x % p))
join_tables p h g d [] = rw zero-mul
join_tables {A} p h g d (k ∷ ks) =
    rw (suc-mul (length ks) p, add_comm (length ks * p) p, tabulate_add p (length ks * p))
    (cc (
      join_tables p h g d ks,
      tabulate_cong p (g k) (λ x. g (slice_index_or (k ∷ ks) (x / p) d) (x % p)) (λ x l. rw (div-eq_of_lt l, mod-eq_of_lt l)),
      tabulate_cong (length ks * p) (λ x. g (slice_index_or ks (x / p) d) (x % p)) (λ x. g (slice_index_or (k ∷ ks) ((p + x) / p) d) ((p + x) % p)) (λ x l. rw (add-div_left x h, add-mod_left p x, add-one (x / p))),
    ))

-- one store more
pub filled_more : {A : Type 0} (f : ℕ → A) (j : ℕ) (d : List A) → j < length d → slice_set (filled f j d) j (f j) ≡ filled f (j + 1) d
unfolding filled
filled_more f j d l = rw add-one (by_suc f j d l)
  where
    by_suc : {A : Type 0} (f : ℕ → A) (j : ℕ) (d : List A) → j < length d → slice_set (tabulate j f ++ drop j d) j (f j) ≡ tabulate (suc j) f ++ drop (suc j) d
    by_suc f j [] l = absurd (not-suc-le-zero l)
    by_suc f zero (x ∷ d) l = refl
    by_suc {A} f (suc j) (x ∷ d) l = ap (λ (t : List A). f 0 ∷ t) (by_suc (λ k. f (suc k)) j d (le_of_suc-le-suc l))

pub filling_none : {A : Type 0} (f : ℕ → A) (d₀ : List A) → Filling f d₀ d₀ 0
filling_none f d₀ = record { so_far = filled_none f d₀; len = refl; room = omega arith }

module _ {A : Type 0} {f : ℕ → A} {d₀ d : List A} {j : ℕ} (s : Filling f d₀ d j) where
  pub filling_more : {v : A} → j < length d → v ≡ f j → Filling f d₀ (slice_set d j v) (j + 1)
  filling_more l e = record { so_far = rw (e, s.so_far) (filled_more f j d₀ (omega arith)); len = simp length-set s.len; room = omega arith }

  pub filling_done : length d ≤ j → d ≡ tabulate (length d₀) f
  filling_done l = let e : j ≡ length d₀ = omega arith in rw (s.so_far, e) (filled_all f (length d₀) d₀ (omega arith))

  -- what is not stored yet is as it was
  pub filling_rest : (i : ℕ) (z : A) → j ≤ i → slice_index_or d i z ≡ slice_index_or d₀ i z
  filling_rest i z l = rw s.so_far (filled_rest f j d₀ i z l)

  -- a block of k elements more, written through `&mut d[j..e]`: what the borrow checker then says of the slice is `take j d ++ (ys ++ drop k (drop j d))`
  pub filling_block : (k e : ℕ) (ys : List A) → e ≡ j + k → e ≤ length d → ys ≡ tabulate k (λ i. f (j + i)) → Filling f d₀ (take j d ++ (ys ++ drop k (drop j d))) e
  unfolding filled
  filling_block k e ys ee le ey = record { so_far = whole; len = ap length whole ∙ length_filled f e d₀ (omega arith); room = omega arith }
    where
      whole : take j d ++ (ys ++ drop k (drop j d)) ≡ filled f e d₀
      whole = rw (s.so_far, ee, ey, take_at (tabulate j f) (drop j d₀) j (length_tabulate j f), drop_at (tabulate j f) (drop j d₀) j (length_tabulate j f), drop-drop, tabulate_add, append_assoc)
