-- Laws of numbers as bytes, for any number of bytes.
-- Assumes nothing.
use Prim.Native.Nat.{ℕ, zero, suc, ◌+◌, ◌*◌, ◌/◌, ◌%◌, ◌^◌, ◌≤◌, ◌<◌}
use Rattle.std.specs.Prelude.{◌≡◌, List, [], ◌∷◌, ◌++◌, length, take, drop}
use Rattle.std.proofs.Math.Path.{refl}
use Rattle.std.proofs.Common.{sym, ap, ◌∙◌, mul-zero, mul-suc, zero-add, add-zero, suc-add, pow-suc, mul_comm, mul_assoc, one-mul, drop-drop, take-add, get_or-append-add, get_or-take, get_or-drop}
use Rattle.std.proofs.Math.Nat.{div-div-eq-div-mul, pow-zero, add-mul-mod_self_left, add-mul-div_left}
use native.Mathlib.Omega.{arith}
use Rattle.std.proofs.Math.ListN.{get_or, get_or-append}
use Rattle.std.proofs.Math.Seq.{drop-cons}
use Rattle.std.specs.Int.{Width, byte_len, byte_at, bytes_low_first, to_le_bytes}
use Rattle.ring.specs.Lists.{Each, join}
use Rattle.ring.specs.Vectors.{tabulate}
use Rattle.map_file.specs.Files.{bytes_of, number_at}

pub length_bytes_of : (k n : ℕ) → length (bytes_of k n) ≡ k
unfolding bytes_of
length_bytes_of zero n = refl
length_bytes_of (suc k) n = ap suc (length_bytes_of k (n / 256))

-- as the library's bytes
byte_is : (i n : ℕ) → byte_at i n ≡ n / 256 ^ i % 256
byte_is zero n = rw (pow-zero 256) (omega arith)
byte_is (suc i) n = refl

low_first : (i k n : ℕ) → bytes_low_first i k n ≡ bytes_of k (n / 256 ^ i)
unfolding bytes_of
low_first i zero n = refl
low_first i (suc k) n =
    let more : n / 256 ^ suc i ≡ n / 256 ^ i / 256 = rw (pow-suc 256 i) (sym (div-div-eq-div-mul n (256 ^ i) 256)) in
    rw (byte_is i n, low_first (suc i) k n, more)

pub le_bytes : (w : Width) (n : ℕ) → to_le_bytes w n ≡ bytes_of (byte_len w) n
le_bytes w n = low_first 0 (byte_len w) n ∙ ap (bytes_of (byte_len w)) (rw (pow-zero 256) (omega arith))

-- 256 ^ (j + 1) is 256 * 256 ^ j
pow_more : (j : ℕ) → 256 ^ suc j ≡ 256 * 256 ^ j
pow_more j = pow-suc 256 j ∙ mul_comm (256 ^ j) 256

-- ---- a number in two parts

-- the lower j bytes, then the others
pub bytes_add : (j k low high : ℕ) → low < 256 ^ j → bytes_of (j + k) (low + 256 ^ j * high) ≡ bytes_of j low ++ bytes_of k high
unfolding bytes_of
bytes_add zero k low high l =
    let e : low ≡ 0 = omega (arith, pow-zero 256) in
    rw (zero-add k, e, pow-zero 256, one-mul high, zero-add high)
bytes_add (suc j) k low high l =
    let e : low + 256 ^ suc j * high ≡ low + 256 * (256 ^ j * high) = ap (λ (x : ℕ). low + x) (ap (λ (x : ℕ). x * high) (pow_more j) ∙ mul_assoc 256 (256 ^ j) high) in
    let m : low / 256 < 256 ^ j = omega (arith, pow_more j) in
    rw (suc-add j k, e, add-mul-mod_self_left low 256 (256 ^ j * high), add-mul-div_left low (256 ^ j * high) {y = 256} (omega arith))
    (ap (λ (t : List ℕ). low % 256 ∷ t) (bytes_add j k (low / 256) high m))

pub number_add : (j k : ℕ) (bytes : List ℕ) (at : ℕ) → number_at (j + k) bytes at ≡ number_at j bytes at + 256 ^ j * number_at k bytes (at + j)
unfolding number_at
number_add zero k bytes at = rw (zero-add k, add-zero at) (omega arith)
number_add (suc j) k bytes at =
    let e : at + suc j ≡ suc at + j = omega arith in
    let rest : ℕ = number_at k bytes (suc at + j) in
    let p : 256 ^ suc j * rest ≡ 256 * (256 ^ j * rest) = ap (λ (x : ℕ). x * rest) (pow_more j) ∙ mul_assoc 256 (256 ^ j) rest in
    rw (suc-add j k, e) (omega (arith, number_add j k bytes (suc at), p))

-- a number by its four bytes
pub number_four : (bytes : List ℕ) (at : ℕ) {i j k : ℕ} → i ≡ at + 1 → j ≡ at + 2 → k ≡ at + 3
    → number_at 4 bytes at ≡ get_or bytes at 0 + 256 * get_or bytes i 0 + 65536 * get_or bytes j 0 + 16777216 * get_or bytes k 0
unfolding number_at
number_four bytes at {i} {j} {k} e f g =
    let one : get_or bytes (suc at) 0 ≡ get_or bytes i 0 = ap (λ (n : ℕ). get_or bytes n 0) (omega arith) in
    let two : get_or bytes (suc (suc at)) 0 ≡ get_or bytes j 0 = ap (λ (n : ℕ). get_or bytes n 0) (omega arith) in
    let three : get_or bytes (suc (suc (suc at))) 0 ≡ get_or bytes k 0 = ap (λ (n : ℕ). get_or bytes n 0) (omega arith) in
    omega (arith, one, two, three)

-- ---- a number in a part of a list

pub number_part : (bytes : List ℕ) (n s k at : ℕ) → at + k ≤ n → number_at k (take n (drop s bytes)) at ≡ number_at k bytes (s + at)
unfolding number_at
number_part bytes n s zero at h = refl
number_part bytes n s (suc k) at h =
    let e : suc (s + at) ≡ s + suc at = omega arith in
    rw (get_or-take n (drop s bytes) at 0 (omega arith), get_or-drop, number_part bytes n s k (suc at) (omega arith), e) refl

-- of all of its bytes
pub number_whole : (k : ℕ) (bytes part : List ℕ) (at : ℕ) → part ≡ take k (drop at bytes) → number_at k part 0 ≡ number_at k bytes at
number_whole k bytes part at e =
    let z : at + 0 ≡ at = omega arith in
    rw z at (ap (λ (p : List ℕ). number_at k p 0) e ∙ number_part bytes k at k 0 (omega arith))

-- ---- numbers in lists one after the other

-- in the front list, and in the list behind it
pub number_front : (k : ℕ) (xs ys : List ℕ) (at : ℕ) → at + k ≤ length xs → number_at k (xs ++ ys) at ≡ number_at k xs at
unfolding number_at
number_front zero xs ys at h = refl
number_front (suc k) xs ys at h = rw (get_or-append xs ys 0 at (omega arith), number_front k xs ys (suc at) (omega arith))

pub number_behind : (k : ℕ) (xs ys : List ℕ) (at i : ℕ) → at ≡ length xs + i → number_at k (xs ++ ys) at ≡ number_at k ys i
unfolding number_at
number_behind zero xs ys at i e = refl
number_behind (suc k) xs ys at i e = rw (number_behind k xs ys (suc at) (suc i) (omega arith), e, get_or-append-add)

-- in lists of one length, at place `at` of the i-th
pub number_join : {A : Type 0} (f : A → List ℕ) (n k : ℕ) → ((x : A) → length (f x) ≡ n) → (d : A) (at : ℕ) → at + k ≤ n → (xs : List A) (i : ℕ) → i < length xs → number_at k (join f xs) (n * i + at) ≡ number_at k (f (get_or xs i d)) at
number_join f n k h d at l [] i m = omega arith
number_join f n k h d at l (x ∷ xs) zero m = rw (mul-zero n, zero-add at) (number_front k (f x) (join f xs) at (omega (arith, h x)))
number_join f n k h d at l (x ∷ xs) (suc i) m =
    number_behind k (f x) (join f xs) (n * suc i + at) (n * i + at) (omega (arith, h x, mul-suc n i)) ∙ number_join f n k h d at l xs i (omega arith)

-- ---- a number and its bytes

pub number_bytes : (k n : ℕ) → n < 256 ^ k → number_at k (bytes_of k n) 0 ≡ n
unfolding number_at bytes_of
number_bytes zero n l = omega (arith, pow-zero 256)
number_bytes (suc k) n l =
    let m : n / 256 < 256 ^ k = omega (arith, pow_more k) in
    omega (arith, number_behind k (n % 256 ∷ []) (bytes_of k (n / 256)) 1 0 refl, number_bytes k (n / 256) m)

-- a byte that is not there is 0
byte_low : (bytes : List ℕ) → Each (λ b. b < 256) bytes → (i : ℕ) → get_or bytes i 0 < 256
byte_low [] h i = omega arith
byte_low (b ∷ bytes) h zero = h.0
byte_low (b ∷ bytes) h (suc i) = byte_low bytes h.1 i

module _ (bytes : List ℕ) (low : Each (λ b. b < 256) bytes) where
  pub number_low : (k at : ℕ) → number_at k bytes at < 256 ^ k
  unfolding number_at
  number_low zero at = omega (arith, pow-zero 256)
  number_low (suc k) at = omega (arith, pow_more k, byte_low bytes low at, number_low k (suc at))

  pub bytes_number : (k at : ℕ) → at + k ≤ length bytes → bytes_of k (number_at k bytes at) ≡ take k (drop at bytes)
  unfolding number_at bytes_of
  bytes_number zero at h = refl
  bytes_number (suc k) at h =
      let b : get_or bytes at 0 < 256 = byte_low bytes low at in
      let n : ℕ = number_at k bytes (suc at) in
      let first : (get_or bytes at 0 + 256 * n) % 256 ≡ get_or bytes at 0 = omega arith in
      let rest : (get_or bytes at 0 + 256 * n) / 256 ≡ n = omega arith in
      rw (first, rest, drop-cons bytes at 0 (omega arith), bytes_number k (suc at) (omega arith))

-- lists of k bytes, one after the other
pub join_told : {A : Type 0} (f : A → List ℕ) (k : ℕ) (bytes : List ℕ) (n : ℕ) (g : ℕ → A) (from : ℕ) → ((i : ℕ) → i < n → f (g i) ≡ take k (drop (from + k * i) bytes)) → join f (tabulate n g) ≡ take (k * n) (drop from bytes)
join_told f k bytes zero g from h = rw (mul-zero k)
join_told f k bytes (suc n) g from h =
    let e : k * suc n ≡ k + k * n = omega (arith, mul-suc k n) in
    let z : from + k * 0 ≡ from = omega (arith, mul-zero k) in
    let m : (i : ℕ) → from + k * suc i ≡ from + k + k * i = λ i. omega (arith, mul-suc k i) in
    let rest = join_told f k bytes n (λ i. g (suc i)) (from + k) (λ i l. h (suc i) (omega arith) ∙ ap (λ (x : ℕ). take k (drop x bytes)) (m i)) in
    rw (e, take-add k (k * n) (drop from bytes), drop-drop k from bytes, rest, h 0 (omega arith), z)
