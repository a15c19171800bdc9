-- Laws of the least non-negative residue on ℤ: its range, that it differs from the number by a multiple of m and is the
-- only one in that range that does, and the residues of sums, opposites and products.
-- Assumes nothing.
use Rattle.std.specs.Prelude.{◌≡◌, ℕ, zero, suc, ◌+◌, ◌-◌, ◌*◌, ◌/◌, ◌%◌, ◌<◌, ◌≤◌, Bool, true, false, cond, ℤ, pos, negsuc, ◌+ℤ◌, ◌-ℤ◌, ◌*ℤ◌, neg_ℤ, nat_lt, refl}
use Rattle.std.proofs.Common.{sym, ap, ◌∙◌, add_comm, zero-add, zero-mul, mul_comm, add-zero, mod-lt, zero-lt-suc, not-suc-le-zero, mod-eq_of_lt, arith, ltb-true, ltb-false, lt-ltb, le-ltb}
use Rattle.std.specs.Int.{◌∣◌}
use Rattle.std.proofs.Math.Nat.{zero-mod, mod_self, mod-eq-zero_of_dvd, pos_of_dvd_of_pos, add-mod-mod, mod-add-mod, mod-add-div, mod-mod, add-mul-mod_self_left, mul-mod_right, dvd-mul_right}
use Rattle.std.proofs.Math.IntN.{+ℤ_assoc, +ℤ_comm, +ℤ_idr, +ℤ_invr, +ℤ-neg_ℤ_cancel}
use Rattle.ring.specs.Residues.{residue_of}
use Rattle.ring.specs.Laws.Slots.{mod_mul_mod, mul_mod_mod}

-- ---- differences

-- equal differences, from equal sums
pub equal_gaps : (a b c d : ℕ) → a + d ≡ c + b → pos a -ℤ pos b ≡ pos c -ℤ pos d
equal_gaps a b c d e =
    ap (λ (z : ℤ). z -ℤ pos b) (sym (+ℤ-neg_ℤ_cancel (pos a) (pos d)))
    ∙ ap (λ (n : ℕ). pos n -ℤ pos d -ℤ pos b) e
    ∙ swap (pos (c + b)) (neg_ℤ (pos d)) (neg_ℤ (pos b))
    ∙ ap (λ (z : ℤ). z -ℤ pos d) (+ℤ-neg_ℤ_cancel (pos c) (pos b))
  where
    swap : (x y z : ℤ) → x +ℤ y +ℤ z ≡ x +ℤ z +ℤ y
    swap x y z = +ℤ_assoc x y z ∙ ap (λ (w : ℤ). x +ℤ w) (+ℤ_comm y z) ∙ sym (+ℤ_assoc x z y)

-- a difference that is not negative
pub gap_pos : (a b n : ℕ) → a ≡ n + b → pos a -ℤ pos b ≡ pos n
gap_pos a b n e = equal_gaps a b n 0 (omega arith) ∙ +ℤ_idr (pos n)

-- and one that is n more
pub gap_more : (a b c d n : ℕ) → a + d ≡ n + c + b → pos a -ℤ pos b ≡ pos n +ℤ (pos c -ℤ pos d)
gap_more a b c d n e = equal_gaps a b (n + c) d e ∙ +ℤ_assoc (pos n) (pos c) (neg_ℤ (pos d))

-- ---- residues

-- it is below m
pub residue_lt : (z : ℤ) (m : ℕ) → 0 < m → residue_of z m < m
residue_lt z zero h = absurd (not-suc-le-zero h)
residue_lt (pos n) (suc m) h = mod-lt n h
residue_lt (negsuc n) (suc m) h = omega arith

-- modulo 0 too
pub residue_le : (z : ℤ) (m : ℕ) → residue_of z m ≤ m
residue_le z zero = omega arith
residue_le z (suc m) = omega (arith, residue_lt z (suc m) (zero-lt-suc m))

-- of a number that is not negative it is the remainder
pub residue_pos : (n m : ℕ) → 0 < m → residue_of (pos n) m ≡ n % m
residue_pos n zero h = absurd (not-suc-le-zero h)
residue_pos n (suc m) h = refl

-- a residue is its own
pub residue_residue : (z : ℤ) (m : ℕ) → 0 < m → residue_of (pos (residue_of z m)) m ≡ residue_of z m
residue_residue z m h = residue_pos (residue_of z m) m h ∙ mod-eq_of_lt (residue_lt z m h)

-- ---- sums

-- a negative number and its residue differ by a multiple of m
residue_negsuc : (n m : ℕ) → 0 < m → (residue_of (negsuc n) m + suc n) % m ≡ 0
residue_negsuc n zero h = absurd (not-suc-le-zero h)
residue_negsuc n (suc m) h =
    let e : m - n % suc m + suc n ≡ suc m * suc (n / suc m) = omega (arith, mod-add-div n (suc m), mod-lt n h) in
    ap (λ (x : ℕ). x % suc m) e ∙ mul-mod_right (suc m) (suc (n / suc m))

add_negsuc : (j n m : ℕ) (b : Bool) → nat_lt j (suc n) ≡ b → residue_of (cond b (negsuc (suc n - suc j)) (pos (j - suc n))) (suc m) ≡ (j + (m - n % suc m)) % suc m
add_negsuc j n m true h =
    let l : j < suc n = ltb-true j (suc n) h in
    let t : ℕ = suc n - suc j in
    let u : ℕ = t % suc m in
    let s : n % suc m ≡ (u + j) % suc m = ap (λ (x : ℕ). x % suc m) (omega arith) ∙ sym (mod-add-mod t (suc m) j) in
    let e : j + (m - n % suc m) ≡ m - u + suc m * ((u + j) / suc m) = omega (arith, s, mod-add-div (u + j) (suc m), mod-lt (u + j) (zero-lt-suc m), mod-lt t (zero-lt-suc m)) in
    sym (ap (λ (x : ℕ). x % suc m) e ∙ add-mul-mod_self_left (m - u) (suc m) ((u + j) / suc m) ∙ mod-eq_of_lt (omega arith))
add_negsuc j n m false h =
    let l : suc n ≤ j = ltb-false j (suc n) h in
    let e : j + (m - n % suc m) ≡ j - suc n + suc m * suc (n / suc m) = omega (arith, mod-add-div n (suc m), mod-lt n (zero-lt-suc m)) in
    sym (ap (λ (x : ℕ). x % suc m) e ∙ add-mul-mod_self_left (j - suc n) (suc m) (suc (n / suc m)))

-- the residue of a sum from the residue of one side
pub residue_add : (j : ℕ) (z : ℤ) (m : ℕ) → 0 < m → residue_of (pos j +ℤ z) m ≡ (j + residue_of z m) % m
residue_add j z zero h = absurd (not-suc-le-zero h)
residue_add j (pos n) (suc m) h = sym (add-mod-mod j n (suc m))
residue_add j (negsuc n) (suc m) h = add_negsuc j n m (nat_lt j (suc n)) refl

-- a difference forwards is a number
pub residue_forth : (j i m : ℕ) → i ≤ j → residue_of (pos j -ℤ pos i) m ≡ residue_of (pos (j - i)) m
residue_forth j i m h = ap (λ (z : ℤ). residue_of z m) (gap_pos j i (j - i) (omega arith))

-- and backwards what the number lacks to a multiple of m
pub residue_back : (j i m : ℕ) → j ≤ i → 0 < m → (residue_of (pos (i - j)) m + residue_of (pos j -ℤ pos i) m) % m ≡ 0
residue_back j i m h p =
    let none : pos (i - j) +ℤ (pos j -ℤ pos i) ≡ pos 0 = sym (gap_more 0 0 j i (i - j) (omega arith)) ∙ gap_pos 0 0 0 refl in
    rw (residue_pos (i - j) m p, mod-add-mod)
    (sym (residue_add (i - j) (pos j -ℤ pos i) m p) ∙ ap (λ (y : ℤ). residue_of y m) none ∙ residue_pos 0 m p ∙ zero-mod m)

-- r + n + 1 less n + 1
back : (r n : ℕ) → pos (r + suc n) +ℤ negsuc n ≡ pos r
back r n = rw (le-ltb (r + suc n) (suc n) (omega arith)) (ap pos (omega arith))

-- and from the residues of both
pub residue_sum : (a b : ℤ) (m : ℕ) → 0 < m → residue_of (a +ℤ b) m ≡ (residue_of a m + residue_of b m) % m
residue_sum (pos j) b m h = residue_add j b m h ∙ sym (ap (λ (x : ℕ). (x + residue_of b m) % m) (residue_pos j m h) ∙ mod-add-mod j m (residue_of b m))
residue_sum (negsuc n) b m h =
    let r = residue_of (negsuc n) m in
    let s = residue_of (negsuc n +ℤ b) m in
    let up : residue_of (pos (r + suc n) +ℤ (negsuc n +ℤ b)) m ≡ s =
    residue_add (r + suc n) (negsuc n +ℤ b) m h
    ∙ sym (mod-add-mod (r + suc n) m s)
    ∙ ap (λ (x : ℕ). (x + s) % m) (residue_negsuc n m h)
    ∙ ap (λ (x : ℕ). x % m) (zero-add s)
    ∙ mod-eq_of_lt (residue_lt (negsuc n +ℤ b) m h) in
    sym up ∙ ap (λ (z : ℤ). residue_of z m) (sym (+ℤ_assoc (pos (r + suc n)) (negsuc n) b) ∙ ap (λ (z : ℤ). z +ℤ b) (back r n)) ∙ residue_add r b m h

-- ---- opposites, products, and what the residue means

-- two numbers below m with the same sum with x, modulo m, are equal
cancel : (x a b m : ℕ) → 0 < m → a < m → b < m → (x + a) % m ≡ (x + b) % m → a ≡ b
cancel x a b m h la lb e =
    let s : ℕ = m - x % m in
    let up : (y : ℕ) → y < m → (s + (x + y) % m) % m ≡ y =
    λ y l. add-mod-mod s (x + y) m
    ∙ ap (λ (t : ℕ). t % m) (let q : s + (x + y) ≡ y + m * (1 + x / m) = omega (arith, mod-add-div x m, mod-lt x h) in q)
    ∙ add-mul-mod_self_left y m (1 + x / m)
    ∙ mod-eq_of_lt l in
    sym (up a la) ∙ ap (λ (t : ℕ). (s + t) % m) e ∙ up b lb

-- a number and its opposite
pub residue_neg : (z : ℤ) (m : ℕ) → 0 < m → (residue_of z m + residue_of (neg_ℤ z) m) % m ≡ 0
residue_neg z m h = sym (residue_sum z (neg_ℤ z) m h) ∙ ap (λ (x : ℤ). residue_of x m) (+ℤ_invr z) ∙ residue_pos 0 m h ∙ zero-mod m

-- the product of what a factor lacks to a multiple of m
lacking : (x y c m : ℕ) → (x + y) % m ≡ 0 → (x * c + y * c) % m ≡ 0
lacking x y c m e =
    let d : x * c + y * c ≡ (x + y) * c = omega arith in
    rw (d, ← (mod_mul_mod (x + y) m c), e, zero-mul) (zero-mod m)

-- the residue of a product from those of its factors
pub residue_mul : (a b : ℤ) (m : ℕ) → 0 < m → residue_of (a *ℤ b) m ≡ residue_of a m * residue_of b m % m
residue_mul a b m h = by a b
  where
    by_neg : (x n : ℕ) → residue_of (neg_ℤ (pos (x * suc n))) m ≡ residue_of (pos x) m * residue_of (negsuc n) m % m
    by_neg x n =
        let r = residue_of (negsuc n) m in
        cancel (residue_of (pos (x * suc n)) m) (residue_of (neg_ℤ (pos (x * suc n))) m) (residue_of (pos x) m * r % m) m h
        (residue_lt (neg_ℤ (pos (x * suc n))) m h)
        (mod-lt (residue_of (pos x) m * r) h)
        (residue_neg (pos (x * suc n)) m h
        ∙ sym (rw (residue_pos (x * suc n) m h, residue_pos x m h, mod_mul_mod, mod-add-mod, add-mod-mod, mul_comm x (suc n), mul_comm x r) (ap (λ (t : ℕ). t % m) (add_comm (suc n * x) (r * x)) ∙ lacking r (suc n) x m (residue_negsuc n m h))))

    by : (a b : ℤ) → residue_of (a *ℤ b) m ≡ residue_of a m * residue_of b m % m
    by (pos x) (pos y) = rw (residue_pos (x * y) m h, residue_pos x m h, residue_pos y m h, mod_mul_mod, mul_mod_mod)
    by (pos x) (negsuc n) = by_neg x n
    by (negsuc n) (pos x) = rw (mul_comm (suc n) x, mul_comm (residue_of (negsuc n) m)) (by_neg x n)
    by (negsuc n) (negsuc k) =
        let r = residue_of (negsuc n) m in
        let s = residue_of (negsuc k) m in
        let e : r * suc k + r * s ≡ s * r + suc k * r = omega (arith, mul_comm r (suc k), mul_comm r s) in
        residue_pos (suc n * suc k) m h
        ∙ cancel (r * suc k) (suc n * suc k % m) (r * s % m) m h (mod-lt (suc n * suc k) h) (mod-lt (r * s) h)
        (rw (add-mod-mod (r * suc k) (suc n * suc k) m, lacking r (suc n) (suc k) m (residue_negsuc n m h)) (sym (rw (add-mod-mod, e) (lacking s (suc k) r m (residue_negsuc k m h)))))

-- z is its residue and a multiple of m
pub residue_is : (z : ℤ) (m : ℕ) → 0 < m → (q : ℤ) × (z ≡ pos (residue_of z m) +ℤ pos m *ℤ q)
residue_is z zero h = absurd (not-suc-le-zero h)
residue_is (pos n) (suc m) h = (pos (n / suc m), ap pos (sym (mod-add-div n (suc m))))
residue_is (negsuc n) (suc m) h =
    let r = m - n % suc m in
    let e : suc m * suc (n / suc m) ≡ suc (n + r) = omega (arith, mod-add-div n (suc m), mod-lt n h) in
    (negsuc (n / suc m), rw (e, lt-ltb r (suc (n + r)) (omega arith)) (ap negsuc (omega arith)))

-- and no other number below m is that
pub residue_unique : (r : ℕ) (q : ℤ) (m : ℕ) → r < m → residue_of (pos r +ℤ pos m *ℤ q) m ≡ r
residue_unique r q m l =
    let h : 0 < m = omega arith in
    residue_sum (pos r) (pos m *ℤ q) m h ∙ rw (residue_mul (pos m) q m h, residue_pos r m h, residue_pos m m h, mod_self, zero-mul, zero-mod, add-zero, mod-mod) (mod-eq_of_lt l)

-- the residue modulo a divisor
pub residue_dvd : (z : ℤ) (m l : ℕ) → 0 < m → l ∣ m → residue_of z m % l ≡ residue_of z l
residue_dvd z m l h d =
    let p = pos_of_dvd_of_pos d h in
    let q = residue_is z m h in
    let r = residue_of z m in
    sym (ap (λ (x : ℤ). residue_of x l) q.1 ∙ residue_sum (pos r) (pos m *ℤ q.0) l p ∙ rw (residue_mul (pos m) q.0 l p, residue_pos r l p, residue_pos m l p, mod-eq-zero_of_dvd l d, zero-mul, zero-mod, add-zero, mod-mod))

-- a shift of a residue modulo m, modulo a divisor of m
pub residue_shift : (z a : ℤ) (m l : ℕ) → 0 < m → l ∣ m → residue_of (pos (residue_of z m) +ℤ a) l ≡ residue_of (z +ℤ a) l
residue_shift z a m l h d =
    let p = pos_of_dvd_of_pos d h in
    residue_add (residue_of z m) a l p
    ∙ sym (mod-add-mod (residue_of z m) l (residue_of a l))
    ∙ ap (λ (x : ℕ). (x + residue_of a l) % l) (residue_dvd z m l h d)
    ∙ sym (residue_sum z a l p)

-- a number and one that is n more: their residues are equal where m divides n, and there alone
module _ (z : ℤ) (n m : ℕ) (h : 0 < m) where
  pub residue_turns : m ∣ n → residue_of (pos n +ℤ z) m ≡ residue_of z m
  residue_turns d =
      residue_add n z m h
      ∙ sym (mod-add-mod n m (residue_of z m))
      ∙ rw (mod-eq-zero_of_dvd m d, zero-add) (mod-eq_of_lt (residue_lt z m h))

  pub residue_apart : residue_of (pos n +ℤ z) m ≡ residue_of z m → m ∣ n
  residue_apart e =
      let r : ℕ = residue_of z m in
      let q : m * ((n + r) / m) ≡ n = omega (arith, mod-add-div (n + r) m, sym (residue_add n z m h) ∙ e) in
      rw q at (dvd-mul_right m ((n + r) / m))
