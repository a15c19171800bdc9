-- Laws of the passes: what each makes and reads, their rotations, how many switches they are, and how many words.
-- Assumes nothing.
use Prim.Native.Nat.{ℕ, zero, suc, ◌+◌, ◌*◌, ◌-◌, ◌^◌, ◌≤◌, ◌<◌}
use Rattle.std.specs.Prelude.{◌≡◌, Bool, true, false, not, ◌&&◌, ◌⊎◌, eqb, ltb}
use Rattle.std.proofs.Math.Path.{refl, sym, ap}
use Rattle.std.proofs.Common.{◌∙◌, true≢false, inl, inr, mul_comm, mul-lt-mul_of_pos_right, arith}
use mathlib.Core.List.{List, [], ◌∷◌, ◌++◌, map, append-nil, map-append}
use Rattle.std.proofs.Math.Decide.{ℕ_discrete}
use borrow.Author.Tests.{eqb-true, eq-eqb, ne_eqb, lt-ltb, le-ltb}
use Rattle.std.proofs.Math.ListN.{length, length-append}
use Rattle.std.proofs.lemmas.List.{length-map}
use Rattle.std.proofs.Math.Pow.{pow-lt}
use Rattle.ring.specs.Lists.{join, Each, Rising, among}
use Rattle.ring.specs.Searches.{below, only}
use Rattle.ring.specs.Vectors.{tabulate}
use Rattle.ring.specs.Laws.Searches.{both, first, second, lt_or_ge}
use Rattle.ring.specs.Laws.Lists.{each_append, each_map, rising_map, join_append, length_join}
use Rattle.ring.specs.Laws.Below.{below_rising}
use Rattle.ring.specs.Laws.Vectors.{tabulate_snoc}
use Rattle.linear_transformation.specs.Closures.{top_bit, cleared, closure, has_top, targets, Pass, move, pass, pass_of, passes, pass_rotations, nonzeros, non_empty}
use Rattle.linear_transformation.specs.Listed.{pass_record, pass_size, pass_words, move_words}
use Rattle.ring.specs.Laws.Members.{among_join, among_joined, only_yes, only_among, each_among, among_each}
use Rattle.linear_transformation.specs.Laws.Closures.{top_low, top_within, top_falls, Closed, closure_only, closure_low, closure_rising, closure_closed}

-- ---- what a pass makes and reads

-- k is cached, not 0, and its top bit is 2^i
pub record Target (cached : List ℕ) (i k : ℕ) : Type 0 where
  pub among_cached : among k cached ≡ true
  pub nonzero : 1 ≤ k
  pub topped : top_bit k ≡ i

pub not_zero : (k : ℕ) → not (eqb k 0) ≡ true → 1 ≤ k
not_zero zero h = absurd (true≢false (sym h))
not_zero (suc k) h = omega arith

zero_not : (k : ℕ) → 1 ≤ k → not (eqb k 0) ≡ true
zero_not k h = rw (ne_eqb k 0 (λ e. omega arith))

clears : (k i : ℕ) → top_bit k ≡ i → cleared k ≡ k - 2 ^ i
unfolding cleared
clears k i e = rw e

module _ (cs : List ℕ) where
  pub target_is : (i k : ℕ) → among k (targets cs i) ≡ true → Target cs i k
  unfolding targets
  target_is i k h =
      let r = among_joined k (λ x. only (has_top i x) x) cs h in
      let o = only_yes k (has_top i r.0) r.0 r.1.1 in
      let e : k ≡ r.0 = o.1 in
      rw e
      (record {
        among_cached = r.1.0;
        nonzero = not_zero r.0 (first (not (eqb r.0 0)) (eqb (top_bit r.0) i) o.0);
        topped = eqb-true (top_bit r.0) i (second (not (eqb r.0 0)) (eqb (top_bit r.0) i) o.0);
      })

  pub is_target : (i k : ℕ) → Target cs i k → among k (targets cs i) ≡ true
  unfolding targets
  is_target i k t =
      among_join k (λ x. only (has_top i x) x) k cs t.among_cached
      (only_among k (has_top i k) (both (zero_not k t.nonzero) (eq-eqb (top_bit k) i t.topped)))

  -- every nonzero cached k is in the pass of its top bit
  pub in_pass_lem : (k : ℕ) → among k cs ≡ true → 1 ≤ k → among k (targets cs (top_bit k)) ≡ true
  in_pass_lem k h p = is_target (top_bit k) k (record { among_cached = h; nonzero = p; topped = refl })

  -- and in no other
  pub one_pass : (i k : ℕ) → among k (targets cs i) ≡ true → i ≡ top_bit k
  one_pass i k h = sym (target_is i k h).topped

  -- a pass reads the input (0), or what an earlier pass has made
  pub reads_earlier : Closed cs → (i k : ℕ) → among k (targets cs i) ≡ true → (k - 2 ^ i ≡ 0) ⊎ ((j : ℕ) × ((j < i) × (among (k - 2 ^ i) (targets cs j) ≡ true)))
  reads_earlier c i k h = rw (← source) (by (ℕ_discrete (cleared k) 0))
    where
      t : Target cs i k
      t = target_is i k h

      source : cleared k ≡ k - 2 ^ i
      source = clears k i t.topped

      by : Dec (cleared k ≡ 0) → (cleared k ≡ 0) ⊎ ((j : ℕ) × ((j < i) × (among (cleared k) (targets cs j) ≡ true)))
      by (yes e) = inl e
      by (no n) =
          let q : 1 ≤ cleared k = omega arith in
          inr (top_bit (cleared k), (rw (← t.topped) (top_falls k t.nonzero q), in_pass_lem (cleared k) (c k t.among_cached q) q))

  pub targets_each : (P : ℕ → Type 0) → Each P cs → (i : ℕ) → Each P (targets cs i)
  targets_each P h i = among_each P (targets cs i) (λ k a. each_among P cs h k (target_is i k a).among_cached)

only_before : (t : Bool) (k : ℕ) (xs : List ℕ) → Each (λ y. k < y) xs → Rising xs → Rising (only t k ++ xs)
only_before true k xs l r = (l, r)
only_before false k xs l r = r

-- the targets rise as the cached do
pub targets_rising : (cs : List ℕ) → Rising cs → (i : ℕ) → Rising (targets cs i)
unfolding targets
targets_rising [] r i = tt
targets_rising (k ∷ cs) r i = only_before (has_top i k) k (targets cs i) (targets_each cs (λ y. k < y) r.0 i) (targets_rising cs r.1 i)

-- ---- the passes

module _ (step : ℕ) (cs : List ℕ) where
  pub passes_more : (b : ℕ) → passes (suc b) step cs ≡ passes b step cs ++ pass_of step b (targets cs b)
  unfolding passes
  passes_more b =
      ap (join (λ i. pass_of step i (targets cs i))) (tabulate_snoc b (λ i. i))
      ∙ join_append (λ i. pass_of step i (targets cs i)) (tabulate b (λ i. i)) (b ∷ [])
      ∙ ap (λ (t : List Pass). passes b step cs ++ t) (append-nil (pass_of step b (targets cs b)))

  each_pass_of : (P : Pass → Type 0) (i : ℕ) (ks : List ℕ) → P (pass step i ks) → Each P (pass_of step i ks)
  each_pass_of P i [] h = tt
  each_pass_of P i (k ∷ ks) h = (h, tt)

  -- what holds of pass i for each i below b holds of the passes
  pub passes_each : (P : Pass → Type 0) (b : ℕ) → ((i : ℕ) → i < b → P (pass step i (targets cs i))) → Each P (passes b step cs)
  unfolding passes
  passes_each P zero h = tt
  passes_each P (suc b) h =
      rw (passes_more b)
      (each_append P (passes b step cs) (pass_of step b (targets cs b)) (passes_each P b (λ i l. h i (omega arith))) (each_pass_of P b (targets cs b) (h b (omega arith))))

  back : (i k : ℕ) → 2 ^ i ≤ k → (k - 2 ^ i) * step + 2 ^ i * step ≡ k * step
  back i k l =
      let e : k - 2 ^ i + 2 ^ i ≡ k = omega arith in
      let d : (k - 2 ^ i) * step + 2 ^ i * step ≡ (k - 2 ^ i + 2 ^ i) * step = omega arith in
      d ∙ ap (λ (x : ℕ). x * step) e

  -- each target is its source, rotated by the pass rotation
  pub passes_rotate : (b : ℕ) → Each (λ p. Each (λ m. m.0 + p.rotation ≡ m.1) p.moves) (passes b step cs)
  passes_rotate b =
      passes_each (λ p. Each (λ m. m.0 + p.rotation ≡ m.1) p.moves) b
      (λ i l. each_map (λ m. m.0 + 2 ^ i * step ≡ m.1) (move step i) (targets cs i)
      (among_each (λ k. (k - 2 ^ i) * step + 2 ^ i * step ≡ k * step) (targets cs i) (λ k a. let t = target_is cs i k a in back i k (rw (← t.topped) (top_low k t.nonzero)))))

-- ---- the pass rotations

module _ (step : ℕ) (cs : List ℕ) where
  one_rotation : (i : ℕ) (ks : List ℕ) → map (λ p. p.rotation) (pass_of step i ks) ≡ map (λ j. 2 ^ j * step) (only (non_empty ks) i)
  one_rotation i [] = refl
  one_rotation i (k ∷ ks) = refl

  -- an i with targets is a pass and asks for the key of 2^i·step; an i without is none and asks for none
  pub rotations_are : (b : ℕ) → pass_rotations b step cs ≡ map (λ i. 2 ^ i * step) (below (λ i. non_empty (targets cs i)) b)
  unfolding passes below
  rotations_are zero = refl
  rotations_are (suc b) =
      ap (map (λ p. p.rotation)) (passes_more step cs b)
      ∙ map-append (λ p. p.rotation) (passes b step cs) (pass_of step b (targets cs b))
      ∙ rw (rotations_are b, one_rotation b (targets cs b))
      (sym (map-append (λ i. 2 ^ i * step) (below (λ i. non_empty (targets cs i)) b) (only (non_empty (targets cs b)) b)))

-- they rise, so no key is asked for twice
pub rotations_rising : (b step : ℕ) (cs : List ℕ) → 1 ≤ step → Rising (pass_rotations b step cs)
rotations_rising b step cs p =
    rw (rotations_are step cs b)
    (rising_map (λ i. 2 ^ i * step) (λ x y l. mul-lt-mul_of_pos_right (pow-lt l) p) (below (λ i. non_empty (targets cs i)) b) (below_rising (λ i. non_empty (targets cs i)) b))

-- ---- the number of switches

-- the top bits below b + 1: those below b, and b
more : (c : Bool) (t b k : ℕ) → length (only (c && ltb t (suc b)) k) ≡ length (only (c && ltb t b) k) + length (only (c && eqb t b) k)
more false t b k = refl
more true t b k = by (lt_or_ge t b) (ℕ_discrete t b)
  where
    by : (t < b) ⊎ (b ≤ t) → Dec (t ≡ b) → length (only (ltb t (suc b)) k) ≡ length (only (ltb t b) k) + length (only (eqb t b) k)
    by (inl l) d = rw (lt-ltb t (suc b) (omega arith), lt-ltb t b l, ne_eqb t b (λ e. omega arith))
    by (inr l) (yes e) = rw (lt-ltb t (suc b) (omega arith), le-ltb t b l, eq-eqb t b e)
    by (inr l) (no n) = rw (le-ltb t (suc b) (omega arith), le-ltb t b l, ne_eqb t b n)

-- the numbers that are not 0 and whose top bit is below b
abbrev low : ℕ → List ℕ → List ℕ
low b cs = join (λ k. only (not (eqb k 0) && ltb (top_bit k) b) k) cs

low_more : (b : ℕ) (cs : List ℕ) → length (low (suc b) cs) ≡ length (low b cs) + length (targets cs b)
unfolding targets
low_more b [] = refl
low_more b (k ∷ cs) =
    omega (
      arith,
      more (not (eqb k 0)) (top_bit k) b k,
      low_more b cs,
      length-append (only (not (eqb k 0) && ltb (top_bit k) (suc b)) k) (low (suc b) cs),
      length-append (only (not (eqb k 0) && ltb (top_bit k) b) k) (low b cs),
      length-append (only (has_top b k) k) (targets cs b),
    )

low_none : (cs : List ℕ) → length (low 0 cs) ≡ 0
low_none [] = refl
low_none (k ∷ cs) = rw (le-ltb (top_bit k) 0 (omega arith)) (none (not (eqb k 0)) ∙ low_none cs)
  where
    none : (c : Bool) → length (only (c && false) k ++ low 0 cs) ≡ length (low 0 cs)
    none true = refl
    none false = refl

low_all : (b : ℕ) (cs : List ℕ) → Each (λ k. k < 2 ^ b) cs → low b cs ≡ nonzeros cs
low_all b [] l = refl
low_all b (k ∷ cs) l = rw (low_all b cs l.1, within (ℕ_discrete k 0))
  where
    within : Dec (k ≡ 0) → (not (eqb k 0) && ltb (top_bit k) b) ≡ not (eqb k 0)
    within (yes e) = rw (eq-eqb k 0 e)
    within (no n) = rw (ne_eqb k 0 n, lt-ltb (top_bit k) b (top_within k (omega arith) b l.0))

module _ (step : ℕ) (cs : List ℕ) where
  moves_of : (i : ℕ) (ks : List ℕ) → length (join (λ p. p.moves) (pass_of step i ks)) ≡ length ks
  moves_of i [] = refl
  moves_of i (k ∷ ks) = ap length (append-nil (map (move step i) (k ∷ ks))) ∙ length-map (k ∷ ks) (move step i)

  moves_low : (b : ℕ) → length (join (λ p. p.moves) (passes b step cs)) ≡ length (low b cs)
  unfolding passes
  moves_low zero = sym (low_none cs)
  moves_low (suc b) =
      ap (λ (ps : List Pass). length (join (λ p. p.moves) ps)) (passes_more step cs b)
      ∙ ap length (join_append (λ p. p.moves) (passes b step cs) (pass_of step b (targets cs b)))
      ∙ length-append (join (λ p. p.moves) (passes b step cs)) (join (λ p. p.moves) (pass_of step b (targets cs b)))
      ∙ rw (moves_low b, moves_of b (targets cs b)) (sym (low_more b cs))

  -- as many moves as cached babies that are not 0
  pub switches_are : (b : ℕ) → Each (λ k. k < 2 ^ b) cs → length (join (λ p. p.moves) (passes b step cs)) ≡ length (nonzeros cs)
  switches_are b l = moves_low b ∙ ap length (low_all b cs l)

-- ---- the number of words

-- `pass_size` for each pass
pub pass_words_lem : (ps : List Pass) → length (pass_words ps) ≡ pass_size * length ps
pass_words_lem ps = length_join (λ p. pass_record p.rotation (length p.moves)) pass_size (λ p. refl) ps ∙ mul_comm (length ps) pass_size

-- two for each move
pub move_words_lem : (ps : List Pass) → length (move_words ps) ≡ 2 * length (join (λ p. p.moves) ps)
move_words_lem [] = refl
move_words_lem (p ∷ ps) =
    omega (
      arith,
      length-append (join (λ m. m.0 ∷ m.1 ∷ []) p.moves) (move_words ps),
      length-append p.moves (join (λ p. p.moves) ps),
      length_join (λ m. m.0 ∷ m.1 ∷ []) 2 (λ m. refl) p.moves,
      move_words_lem ps,
    )

-- ---- the passes over a closure

module _ (b : ℕ) (ks : List ℕ) where
  -- every member but 0 is made in one of the b passes, that of its top bit; in no other, by `one_pass`
  pub member_passed : (k : ℕ) → among k (closure b ks) ≡ true → 1 ≤ k → (top_bit k < b) × (among k (targets (closure b ks) (top_bit k)) ≡ true)
  member_passed k h p = (top_within k p b (closure_only b ks k h).0, in_pass_lem (closure b ks) k h p)

  -- and read from the input, or from what an earlier pass has made
  pub member_read : (i k : ℕ) → among k (targets (closure b ks) i) ≡ true → (k - 2 ^ i ≡ 0) ⊎ ((j : ℕ) × ((j < i) × (among (k - 2 ^ i) (targets (closure b ks) j) ≡ true)))
  member_read = reads_earlier (closure b ks) (closure_closed b ks)

  -- in rising order
  pub member_order : (i : ℕ) → Rising (targets (closure b ks) i)
  member_order = targets_rising (closure b ks) (closure_rising b ks)

  -- each by one switch
  pub member_switches : (step : ℕ) → length (join (λ p. p.moves) (passes b step (closure b ks))) ≡ length (nonzeros (closure b ks))
  member_switches step = switches_are step (closure b ks) b (closure_low b ks)
