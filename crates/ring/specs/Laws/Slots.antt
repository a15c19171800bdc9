-- Sums and products modulo any m are associative, commutative and distributive, with 0 and 1. With m = 0 the remainder is
-- the number itself.
-- Assumes nothing.
use Rattle.std.specs.Prelude.{◌≡◌, ℕ, ◌+◌, ◌*◌, ◌/◌, ◌%◌, ◌<◌}
use Rattle.std.proofs.Common.{sym, ap, ◌∙◌, add_assoc, add_comm, mul_assoc, mul_comm, mul-add, zero-mul}
use Rattle.std.proofs.Math.Nat.{zero-add, one-mul, zero-mod, mod-lt, mod-mod, mod-add-mod, add-mod-mod, mod-add-div, add-mul-mod_self_left}
use native.Mathlib.Omega.{arith}
use Rattle.ring.specs.Slots.{addm, mulm}

-- a remainder within a product
pub mod_mul_mod : (a m b : ℕ) → a % m * b % m ≡ a * b % m
mod_mul_mod a m b =
    let e : a * b ≡ a % m * b + m * (a / m * b) = omega (arith, ap (λ (x : ℕ). x * b) (mod-add-div a m)) in
    sym (ap (λ (x : ℕ). x % m) e ∙ add-mul-mod_self_left (a % m * b) m (a / m * b))

pub mul_mod_mod : (a b m : ℕ) → a * (b % m) % m ≡ a * b % m
mul_mod_mod a b m = rw (mul_comm a (b % m), mod_mul_mod, mul_comm b a)

module _ (m a b : ℕ) where
  pub addm_comm : addm m a b ≡ addm m b a
  unfolding addm
  addm_comm = rw (add_comm a b)

  pub mulm_comm : mulm m a b ≡ mulm m b a
  unfolding mulm
  mulm_comm = rw (mul_comm a b)

  pub addm_assoc : (c : ℕ) → addm m (addm m a b) c ≡ addm m a (addm m b c)
  unfolding addm
  addm_assoc c = simp (mod-add-mod, add-mod-mod, add_assoc)

  pub mulm_assoc : (c : ℕ) → mulm m (mulm m a b) c ≡ mulm m a (mulm m b c)
  unfolding mulm
  mulm_assoc c = simp (mod_mul_mod, mul_mod_mod, mul_assoc)

  pub mulm_addm : (c : ℕ) → mulm m a (addm m b c) ≡ addm m (mulm m a b) (mulm m a c)
  unfolding mulm addm
  mulm_addm c = simp (mul_mod_mod, mod-add-mod, add-mod-mod, mul-add)

  -- the inner two of four change places
  pub addm_swap : (c d : ℕ) → addm m (addm m a b) (addm m c d) ≡ addm m (addm m a c) (addm m b d)
  unfolding addm
  addm_swap c d =
      let e : a + b + (c + d) ≡ a + c + (b + d) = omega arith in
      simp (mod-add-mod, add-mod-mod) (ap (λ (x : ℕ). x % m) e)

  -- a sum and a product are reduced
  pub addm_mod : addm m a b % m ≡ addm m a b
  unfolding addm
  addm_mod = mod-mod (a + b) m

  pub mulm_mod : mulm m a b % m ≡ mulm m a b
  unfolding mulm
  mulm_mod = mod-mod (a * b) m

  pub addm_lt : 0 < m → addm m a b < m
  unfolding addm
  addm_lt h = mod-lt (a + b) h

  pub mulm_lt : 0 < m → mulm m a b < m
  unfolding mulm
  mulm_lt h = mod-lt (a * b) h

  -- only the residues of the operands count
  pub addm_left : addm m (a % m) b ≡ addm m a b
  unfolding addm
  addm_left = mod-add-mod a m b

  pub addm_right : addm m a (b % m) ≡ addm m a b
  unfolding addm
  addm_right = add-mod-mod a b m

  pub mulm_left : mulm m (a % m) b ≡ mulm m a b
  unfolding mulm
  mulm_left = mod_mul_mod a m b

  pub mulm_right : mulm m a (b % m) ≡ mulm m a b
  unfolding mulm
  mulm_right = mul_mod_mod a b m

module _ (m a : ℕ) where
  -- zero adds nothing to a reduced number, and every sum is one
  pub zero_addm : addm m 0 a ≡ a % m
  unfolding addm
  zero_addm = simp zero-add

  pub zero_mulm : mulm m 0 a ≡ 0
  unfolding mulm
  zero_mulm = simp (zero-mul, zero-mod)

  pub one_mulm : mulm m 1 a ≡ a % m
  unfolding mulm
  one_mulm = simp one-mul
