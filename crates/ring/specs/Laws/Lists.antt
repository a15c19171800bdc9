-- Laws of sums over lists, for any modulus and any elements, of lists one after the other, of lists turned round, of
-- rising numbers, and of statements about each element.
-- Assumes nothing.
use Rattle.std.specs.Prelude.{◌≡◌, ℕ, zero, suc, ◌+◌, ◌*◌, ◌%◌, ◌<◌, List, [], ◌∷◌, ◌++◌, map, reverse, length, take, drop, slice_index_or, refl}
use Rattle.std.proofs.Common.{sym, ap, subst, ◌∙◌, not-suc-le-zero, le_of_suc-le-suc, add-zero, add_comm, zero-mul, suc-mul, add-one, arith, length-append, take-append-drop, take-suc}
use mathlib.Core.List.{reverse_aux, reverse-cons, append_assoc, append-nil}
use Rattle.std.proofs.Math.Nat.{zero-mod, add-mod-mod}
use Rattle.ring.specs.Vectors.{tabulate}
use Rattle.std.proofs.Math.Seq.{drop-append_seam}
use Rattle.ring.specs.Slots.{addm, mulm}
use Rattle.ring.specs.Lists.{sum_by, join, Each, Rising}
use Rattle.ring.specs.Laws.Slots.{addm_assoc, addm_mod, addm_lt, addm_swap, addm_left, zero_addm, mulm_addm, mulm_comm, zero_mulm}

-- ---- each element

module _ {A : Type 0} where
  pub each_all : {P : A → Type 0} → ((x : A) → P x) → (xs : List A) → Each P xs
  each_all f [] = tt
  each_all f (x ∷ xs) = (f x, each_all f xs)

  pub each_then : {P Q : A → Type 0} → ((x : A) → P x → Q x) → (xs : List A) → Each P xs → Each Q xs
  each_then f [] h = tt
  each_then f (x ∷ xs) h = (f x h.0, each_then f xs h.1)

  pub each_at : (P : A → Type 0) (xs : List A) (d : A) → Each P xs → (i : ℕ) → i < length xs → P (slice_index_or xs i d)
  each_at P [] d h i l = absurd (not-suc-le-zero l)
  each_at P (x ∷ xs) d h zero l = h.0
  each_at P (x ∷ xs) d h (suc i) l = each_at P xs d h.1 i (le_of_suc-le-suc l)

  pub each_tabulate : (P : A → Type 0) (n : ℕ) (f : ℕ → A) → ((i : ℕ) → i < n → P (f i)) → Each P (tabulate n f)
  each_tabulate P zero f h = tt
  each_tabulate P (suc n) f h = (h 0 (omega arith), each_tabulate P n (λ i. f (suc i)) (λ i l. h (suc i) (omega arith)))

  pub tabulate_each : (P : A → Type 0) (n : ℕ) (f : ℕ → A) → Each P (tabulate n f) → (i : ℕ) → i < n → P (f i)
  tabulate_each P zero f h i l = absurd (not-suc-le-zero l)
  tabulate_each P (suc n) f h zero l = h.0
  tabulate_each P (suc n) f h (suc i) l = tabulate_each P n (λ i. f (suc i)) h.1 i (le_of_suc-le-suc l)

  pub each_map : {B : Type 0} (P : A → Type 0) (g : B → A) (xs : List B) → Each (λ x. P (g x)) xs → Each P (map g xs)
  each_map P g [] h = tt
  each_map P g (x ∷ xs) h = (h.0, each_map P g xs h.1)

  pub map_each : {B : Type 0} (P : A → Type 0) (g : B → A) (xs : List B) → Each P (map g xs) → Each (λ x. P (g x)) xs
  map_each P g [] h = tt
  map_each P g (x ∷ xs) h = (h.0, map_each P g xs h.1)

  -- what two statements about each element tell
  pub each_both : {P Q R : A → Type 0} → ((x : A) → P x → Q x → R x) → (xs : List A) → Each P xs → Each Q xs → Each R xs
  each_both f [] h k = tt
  each_both f (x ∷ xs) h k = (f x h.0 k.0, each_both f xs h.1 k.1)

  pub each_append : (P : A → Type 0) (xs ys : List A) → Each P xs → Each P ys → Each P (xs ++ ys)
  each_append P [] ys h k = k
  each_append P (x ∷ xs) ys h k = (h.0, each_append P xs ys h.1 k)

  pub each_front : (P : A → Type 0) (xs ys : List A) → Each P (xs ++ ys) → Each P xs
  each_front P [] ys h = tt
  each_front P (x ∷ xs) ys h = (h.0, each_front P xs ys h.1)

  pub each_back : (P : A → Type 0) (xs ys : List A) → Each P (xs ++ ys) → Each P ys
  each_back P [] ys h = h
  each_back P (x ∷ xs) ys h = each_back P xs ys h.1

  pub each_take : (P : A → Type 0) (n : ℕ) (xs : List A) → Each P xs → Each P (take n xs)
  each_take P n xs h = each_front P (take n xs) (drop n xs) (rw (take-append-drop n xs) h)

  each_onto : (P : A → Type 0) (xs ys : List A) → Each P xs → Each P ys → Each P (reverse_aux xs ys)
  each_onto P [] ys h k = k
  each_onto P (x ∷ xs) ys h k = each_onto P xs (x ∷ ys) h.1 (h.0, k)

  pub each_reverse : (P : A → Type 0) (xs : List A) → Each P xs → Each P (reverse xs)
  each_reverse P xs h = each_onto P xs [] h tt

-- ---- lists turned round

map_onto : {A B : Type 0} (f : A → B) (xs ys : List A) → map f (reverse_aux xs ys) ≡ reverse_aux (map f xs) (map f ys)
map_onto f [] ys = refl
map_onto f (x ∷ xs) ys = map_onto f xs (x ∷ ys)

pub map_reverse : {A B : Type 0} (f : A → B) (xs : List A) → map f (reverse xs) ≡ reverse (map f xs)
map_reverse f xs = map_onto f xs []

-- ---- rising numbers

pub rising_tabulate : (n : ℕ) (f : ℕ → ℕ) → ((i j : ℕ) → i < j → j < n → f i < f j) → Rising (tabulate n f)
rising_tabulate zero f h = tt
rising_tabulate (suc n) f h = (
  each_tabulate (λ y. f 0 < y) n (λ i. f (suc i)) (λ i l. h 0 (suc i) (omega arith) (omega arith)),
  rising_tabulate n (λ i. f (suc i)) (λ i j l m. h (suc i) (suc j) (omega arith) (omega arith)),
)

pub tabulate_rising : (n : ℕ) (f : ℕ → ℕ) → Rising (tabulate n f) → (i j : ℕ) → i < j → j < n → f i < f j
tabulate_rising zero f h i j l m = absurd (not-suc-le-zero m)
tabulate_rising (suc n) f h i zero l m = absurd (not-suc-le-zero l)
tabulate_rising (suc n) f h zero (suc j) l m = tabulate_each (λ y. f 0 < y) n (λ i. f (suc i)) h.0 j (le_of_suc-le-suc m)
tabulate_rising (suc n) f h (suc i) (suc j) l m = tabulate_rising n (λ i. f (suc i)) h.1 i j (le_of_suc-le-suc l) (le_of_suc-le-suc m)

-- numbers below n, and n behind them
pub rising_snoc : (xs : List ℕ) (n : ℕ) → Rising xs → Each (λ k. k < n) xs → Rising (xs ++ (n ∷ []))
rising_snoc [] n r l = (tt, tt)
rising_snoc (x ∷ xs) n r l = (each_append (λ y. x < y) xs (n ∷ []) r.0 (l.0, tt), rising_snoc xs n r.1 l.1)

-- rising numbers, each replaced by f that rises
pub rising_map : (f : ℕ → ℕ) → ((x y : ℕ) → x < y → f x < f y) → (xs : List ℕ) → Rising xs → Rising (map f xs)
rising_map f m [] r = tt
rising_map f m (x ∷ xs) r = (each_map (λ z. f x < z) f xs (each_then (λ y l. m x y l) xs r.0), rising_map f m xs r.1)

-- rising numbers, each replaced by f that falls, rise again from the last to the first
pub rising_reverse : (f : ℕ → ℕ) (P : ℕ → Type 0) → ((x y : ℕ) → P x → P y → x < y → f y < f x) → (xs : List ℕ) → Each P xs → Rising xs → Rising (reverse (map f xs))
rising_reverse f P falls [] h r = tt
rising_reverse f P falls (x ∷ xs) h r =
    subst Rising (sym (reverse-cons (f x) (map f xs)))
    (rising_snoc (reverse (map f xs)) (f x) (rising_reverse f P falls xs h.1 r.1)
    (each_reverse (λ k. k < f x) (map f xs)
    (each_map (λ k. k < f x) f xs (each_both (λ y p l. falls x y h.0 p l) xs h.1 r.0))))

-- ---- lists one after the other

-- a common front is left out
pub append_cancel : {A : Type 0} (xs ys zs : List A) → xs ++ ys ≡ xs ++ zs → ys ≡ zs
append_cancel xs ys zs e = sym (drop-append_seam xs ys) ∙ ap (drop (length xs)) e ∙ drop-append_seam xs zs

pub join_map : {A B C : Type 0} (g : A → B) (f : B → List C) (xs : List A) → join f (map g xs) ≡ join (λ x. f (g x)) xs
join_map g f [] = refl
join_map {C} g f (x ∷ xs) = ap (λ (t : List C). f (g x) ++ t) (join_map g f xs)

module _ {A B : Type 0} where
  pub join_cong : (f g : A → List B) → ((x : A) → f x ≡ g x) → (xs : List A) → join f xs ≡ join g xs
  join_cong f g same [] = refl
  join_cong f g same (x ∷ xs) = cc (same x, join_cong f g same xs)

  pub join_append : (f : A → List B) (xs ys : List A) → join f (xs ++ ys) ≡ join f xs ++ join f ys
  join_append f [] ys = refl
  join_append f (x ∷ xs) ys = rw (join_append f xs ys) (sym (append_assoc (f x) (join f xs) (join f ys)))

  -- one element more, as a loop takes it
  pub join_more : (f : A → List B) (xs : List A) (j : ℕ) (d : A) → j < length xs → join f (take (j + 1) xs) ≡ join f (take j xs) ++ f (slice_index_or xs j d)
  join_more f xs j d l = rw (add-one, take-suc xs j d l, join_append f) (ap (λ (t : List B). join f (take j xs) ++ t) (append-nil (f (slice_index_or xs j d))))

  -- lists of one length
  pub length_join : (f : A → List B) (c : ℕ) → ((x : A) → length (f x) ≡ c) → (xs : List A) → length (join f xs) ≡ length xs * c
  length_join f c h [] = sym (zero-mul c)
  length_join f c h (x ∷ xs) = rw (length-append, h x, length_join f c h xs, suc-mul (length xs) c) (add_comm c (length xs * c))

-- ---- sums

module _ (m : ℕ) {A : Type 0} where
  -- a sum is reduced
  pub sum_by_mod : (f : A → ℕ) (xs : List A) → sum_by m f xs % m ≡ sum_by m f xs
  sum_by_mod f [] = zero-mod m
  sum_by_mod f (x ∷ xs) = addm_mod m (f x) (sum_by m f xs)

  pub sum_by_lt : (f : A → ℕ) (xs : List A) → 0 < m → sum_by m f xs < m
  sum_by_lt f [] h = h
  sum_by_lt f (x ∷ xs) h = addm_lt m (f x) (sum_by m f xs) h

  pub sum_by_append : (f : A → ℕ) (xs ys : List A) → sum_by m f (xs ++ ys) ≡ addm m (sum_by m f xs) (sum_by m f ys)
  sum_by_append f [] ys = sym (zero_addm m (sum_by m f ys) ∙ sum_by_mod f ys)
  sum_by_append f (x ∷ xs) ys =
      ap (addm m (f x)) (sum_by_append f xs ys) ∙ sym (addm_assoc m (f x) (sum_by m f xs) (sum_by m f ys))

  -- equal on each element of the list
  pub sum_by_each : (f g : A → ℕ) (xs : List A) → Each (λ x. f x ≡ g x) xs → sum_by m f xs ≡ sum_by m g xs
  sum_by_each f g [] h = refl
  sum_by_each f g (x ∷ xs) h = cc (h.0, sum_by_each f g xs h.1)

  -- equal everywhere
  pub sum_by_cong : (f g : A → ℕ) → ((x : A) → f x ≡ g x) → (xs : List A) → sum_by m f xs ≡ sum_by m g xs
  sum_by_cong f g same xs = sum_by_each f g xs (each_all same xs)

  -- only the residues of the terms count
  pub sum_by_residues : (f : A → ℕ) (xs : List A) → sum_by m (λ x. f x % m) xs ≡ sum_by m f xs
  sum_by_residues f [] = refl
  sum_by_residues f (x ∷ xs) = ap (addm m (f x % m)) (sum_by_residues f xs) ∙ addm_left m (f x) (sum_by m f xs)

  pub sum_by_zero : (xs : List A) → sum_by m (λ x. 0) xs ≡ 0
  sum_by_zero [] = refl
  sum_by_zero (x ∷ xs) = ap (addm m 0) (sum_by_zero xs) ∙ zero_addm m 0 ∙ zero-mod m

  -- the sum of sums
  pub sum_by_sum : (f g : A → ℕ) (xs : List A) → sum_by m (λ x. addm m (f x) (g x)) xs ≡ addm m (sum_by m f xs) (sum_by m g xs)
  sum_by_sum f g [] = sym (zero_addm m 0 ∙ zero-mod m)
  sum_by_sum f g (x ∷ xs) =
      ap (addm m (addm m (f x) (g x))) (sum_by_sum f g xs) ∙ addm_swap m (f x) (g x) (sum_by m f xs) (sum_by m g xs)

  -- a common factor
  pub sum_by_scale : (c : ℕ) (f : A → ℕ) (xs : List A) → sum_by m (λ x. mulm m c (f x)) xs ≡ mulm m c (sum_by m f xs)
  sum_by_scale c f [] = sym (mulm_comm m c 0 ∙ zero_mulm m c)
  sum_by_scale c f (x ∷ xs) = ap (addm m (mulm m c (f x))) (sum_by_scale c f xs) ∙ sym (mulm_addm m c (f x) (sum_by m f xs))

  -- over the images of a list, and over lists one after the other
  pub sum_by_map : {B : Type 0} (g : B → A) (f : A → ℕ) (xs : List B) → sum_by m f (map g xs) ≡ sum_by m (λ x. f (g x)) xs
  sum_by_map g f [] = refl
  sum_by_map g f (x ∷ xs) = ap (addm m (f (g x))) (sum_by_map g f xs)

  pub sum_by_join : {B : Type 0} (g : B → List A) (f : A → ℕ) (xs : List B) → sum_by m f (join g xs) ≡ sum_by m (λ x. sum_by m f (g x)) xs
  sum_by_join g f [] = refl
  sum_by_join g f (x ∷ xs) = sum_by_append f (g x) (join g xs) ∙ ap (addm m (sum_by m f (g x))) (sum_by_join g f xs)

  -- one element more
  pub sum_by_snoc : (f : A → ℕ) (xs : List A) (x : A) → sum_by m f (xs ++ (x ∷ [])) ≡ addm m (sum_by m f xs) (f x)
  unfolding addm
  sum_by_snoc f xs x = rw sum_by_append (simp (add-zero, add-mod-mod))

-- two sums exchanged
pub sum_by_exchange : (m : ℕ) {A B : Type 0} (f : A → B → ℕ) (xs : List A) (ys : List B) → sum_by m (λ x. sum_by m (f x) ys) xs ≡ sum_by m (λ y. sum_by m (λ x. f x y) xs) ys
sum_by_exchange m f [] ys = sym (sum_by_zero m ys)
sum_by_exchange m f (x ∷ xs) ys =
    ap (addm m (sum_by m (f x) ys)) (sum_by_exchange m f xs ys) ∙ sym (sum_by_sum m (f x) (λ y. sum_by m (λ z. f z y) xs) ys)
