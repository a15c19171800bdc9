-- A loop that puts the bytes of one element after the other: what it keeps, and a turn.
-- Assumes nothing.
use Prim.Native.Nat.{ℕ, ◌+◌, ◌*◌, ◌≤◌, ◌<◌}
use mathlib.Core.Path.{◌≡◌, refl, sym, ap, ◌∙◌}
use mathlib.Core.List.{List, ◌++◌}
use native.Mathlib.Nat.{mul_comm}
use native.Mathlib.Omega.{arith}
use lib.ListN.{length, get_or, take, length-append}
use lib.Seq.{length-take-le, take_all}
use Rattle.std.specs.Int.{Width, byte_len, to_le_bytes}
use Rattle.ring.specs.Lists.{join}
use Rattle.ring.specs.Vectors.{put_at}
use Rattle.ring.specs.Laws.Lists.{join_more, length_join}
use Rattle.ring.specs.Laws.Places.{length_put_at, put_none, put_both}
use Rattle.map_file.specs.Files.{bytes_of}
use Rattle.map_file.specs.Laws.Numbers.{le_bytes}

-- the bytes of the first j elements stand from place `from` on
pub record Filing {A : Type 0} (f : A → List ℕ) (from : ℕ) (xs : List A) (old new : List ℕ) (j : ℕ) : Type 0 where
  pub so_far : new ≡ put_at from (join f (take j xs)) old
  pub len : length new ≡ length old
  pub room : j ≤ length xs

module _ {A : Type 0} (f : A → List ℕ) (from : ℕ) (xs : List A) (old : List ℕ) where
  pub filing_none : Filing f from xs old old 0
  filing_none = record { so_far = sym (put_none from old); len = refl; room = omega arith }

module _ {A : Type 0} {f : A → List ℕ} {from : ℕ} {xs : List A} {old new : List ℕ} {j : ℕ} (s : Filing f from xs old new j) where
  -- n bytes an element
  pub filing_more : (n : ℕ) → ((x : A) → length (f x) ≡ n) → {to : ℕ} {new' : List ℕ} (d : A) → to ≡ from + n * j → j < length xs → to + n ≤ length old → new' ≡ put_at to (f (get_or xs j d)) new → Filing f from xs old new' (j + 1)
  filing_more n size {to} {new'} d e l fit put = record { so_far = more; len = ap length more ∙ length_put_at from (join f (take (j + 1) xs)) old (omega (arith, whole)); room = omega arith }
    where
      front : length (join f (take j xs)) ≡ n * j
      front = length_join f n size (take j xs) ∙ ap (λ (k : ℕ). k * n) (length-take-le j xs s.room) ∙ mul_comm j n

      next : join f (take (j + 1) xs) ≡ join f (take j xs) ++ f (get_or xs j d)
      next = join_more f xs j d l

      whole : from + length (join f (take (j + 1) xs)) ≡ to + n
      whole = ap (λ (t : List ℕ). from + length t) next ∙ omega (arith, length-append (join f (take j xs)) (f (get_or xs j d)), front, size (get_or xs j d))

      more : new' ≡ put_at from (join f (take (j + 1) xs)) old
      more =
          put
          ∙ ap (put_at to (f (get_or xs j d))) s.so_far
          ∙ put_both from to (join f (take j xs)) (f (get_or xs j d)) old (omega arith) (omega (arith, front))
          ∙ ap (λ (t : List ℕ). put_at from t old) (sym next)

  pub filing_done : length xs ≤ j → new ≡ put_at from (join f xs) old
  filing_done l = s.so_far ∙ ap (λ (t : List A). put_at from (join f t) old) (take_all j xs l)

-- a number's bytes as the library gives them
pub put_le : (w : Width) (at x : ℕ) (bytes old new : List ℕ) → bytes ≡ to_le_bytes w x → new ≡ put_at at bytes old → new ≡ put_at at (bytes_of (byte_len w) x) old
put_le w at x bytes old new e h = h ∙ ap (λ (t : List ℕ). put_at at t old) (e ∙ le_bytes w x)
