-- Laws of tables of marks: `close` makes the marks of the closure, and what a bounded table lists.
-- Assumes nothing.
use Rattle.std.specs.Prelude.{ℕ, zero, suc, ◌+◌, ◌-◌, ◌≤◌, ◌<◌, ◌≡◌, refl, Bool, true, false, List}
use Rattle.std.proofs.Common.{sym, ap, ◌∙◌, true≢false, append-nil, zero-add, le-add_left, arith}
use Rattle.ring.specs.Lists.{Each, among}
use Rattle.ring.specs.Searches.{below}
use Rattle.ring.specs.Marks.{marks}
use Rattle.ring.specs.Laws.Searches.{by_false}
use Rattle.ring.specs.Laws.Below.{below_ext}
use Rattle.linear_transformation.specs.Closures.{closure}
use Rattle.linear_transformation.specs.Steps.Babies.{Closes}
use Rattle.ring.specs.Laws.Members.{each_among, among_each, rising_below}
use Rattle.linear_transformation.specs.Laws.Closures.{closure_listed, closure_closed, closure_least, closure_low, closure_rising}
use Rattle.linear_transformation.specs.Steps.Tables.{Bounded}

-- two tests that say yes of the same
pub agree : {a b : Bool} → (a ≡ true → b ≡ true) → (b ≡ true → a ≡ true) → a ≡ b
agree {a = true} f g = sym (f refl)
agree {a = false} f g = sym (by_false (λ h. true≢false (sym (g h))))

-- the closed table of a list's marks is that of its closure
pub closes_closure : {n : ℕ} {old new : List Bool} → Closes n old new → (ks : List ℕ) → Each (λ k. k < 65536) ks → ((k : ℕ) → marks old k ≡ among k ks) → (k : ℕ) → marks new k ≡ among k (closure 16 ks)
closes_closure {n} {old} {new} c ks low same k =
    agree
    (c.least (λ m. among m (closure 16 ks)) (closure_closed 16 ks) (λ m h. listed m (sym (same m) ∙ h)) k)
    (λ h. each_among (λ m. marks new m ≡ true) (closure 16 ks) all k h)
  where
    listed : (m : ℕ) → among m ks ≡ true → among m (closure 16 ks) ≡ true
    listed m a = each_among (λ m. among m (closure 16 ks) ≡ true) ks (closure_listed 16 ks low) m a

    all : Each (λ m. marks new m ≡ true) (closure 16 ks)
    all = closure_least 16 ks (λ m. marks new m ≡ true) c.clears (among_each (λ m. marks new m ≡ true) ks (λ m a. c.grows m (same m ∙ a)))

-- where no number from n on passes the test, none is listed
pub below_beyond : (p : ℕ → Bool) (n d : ℕ) → ((k : ℕ) → n ≤ k → p k ≡ false) → below p (d + n) ≡ below p n
unfolding below
below_beyond p n zero h = ap (below p) (zero-add n)
below_beyond p n (suc d) h =
    let e : suc d + n ≡ suc (d + n) = omega arith in
    rw (e, h (d + n) (le-add_left n d), append-nil) (below_beyond p n d h)

pub bounded_below : {seen : List Bool} {n : ℕ} → Bounded seen n → below (marks seen) n ≡ below (marks seen) 65536
bounded_below {seen} {n} b =
    let e : 65536 - n + n ≡ 65536 = omega (arith, b.room) in
    sym (ap (below (marks seen)) (sym e) ∙ below_beyond (marks seen) n (65536 - n) b.above)

-- so it lists the closure
pub closes_below : {n : ℕ} {old new : List Bool} → Closes n old new → (ks : List ℕ) → Each (λ k. k < 65536) ks → ((k : ℕ) → marks old k ≡ among k ks) → below (marks new) n ≡ closure 16 ks
closes_below {new} c ks low same =
    bounded_below c.bounded
    ∙ below_ext (marks new) (λ k. among k (closure 16 ks)) 65536 (λ k l. closes_closure c ks low same k)
    ∙ rising_below 65536 (closure 16 ks) (closure_rising 16 ks) (closure_low 16 ks)
