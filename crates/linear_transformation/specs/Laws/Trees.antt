-- Laws of the tree's nodes: each level has the halves of the one before it, and each odd node of a level makes a pair.
-- Assumes nothing.
use Rattle.std.specs.Prelude.{ℕ, suc, ◌+◌, ◌*◌, ◌-◌, ◌/◌, ◌%◌, ◌^◌, ◌≤◌, ◌<◌, ◌≡◌, refl, Bool, true, false, ◌||◌, List, [], ◌∷◌, ◌++◌, map, eqb, pos}
use Rattle.std.proofs.Common.{sym, ap, ap₂, ◌∙◌, true≢false, ⊎_elim, append-nil, pow-suc, div-one, mod-eq_of_lt, add-one, arith, eq-eqb, ne_eqb, eqb-true}
use Rattle.std.proofs.Math.Bool.{or-true}
use Rattle.std.proofs.Math.Nat.{pow-succ', div-div-eq-div-mul}
use Rattle.std.proofs.Math.Decide.{ℕ_discrete}
use Rattle.ring.specs.Lists.{join, Each, some, among}
use Rattle.ring.specs.Searches.{below, only}
use Rattle.ring.specs.Laws.Lists.{join_append}
use Rattle.ring.specs.Laws.Below.{below_ext}
use Rattle.ring.specs.Laws.Searches.{by_false, lt_or_ge}
use Rattle.ring.specs.Laws.Refusals.{either}
use Rattle.ring.specs.Laws.Residues.{residue_pos}
use Rattle.linear_transformation.specs.Digits.{rot_of}
use Rattle.ring.specs.Laws.Members.{one_of, right, among_head, among_some, among_below, below_among}
use Rattle.linear_transformation.specs.declared.records.PairRecord.{PairRecord}
use Rattle.linear_transformation.specs.Trees.{there, nodes, pairs_at}

-- ---- a node is there if one of its children is

some_among : (p : ℕ → Bool) (xs : List ℕ) → some p xs ≡ true → (x : ℕ) × ((among x xs ≡ true) × (p x ≡ true))
some_among p [] e = absurd (true≢false (sym e))
some_among p (x ∷ xs) e = ⊎_elim (λ a. (x, (among_head x xs, a))) (λ a. let r = some_among p xs a in (r.0, (right (eqb x r.0) r.1.0, r.1.1))) (one_of (p x) (some p xs) e)

pub there_zero : (ls : List ℕ) (n : ℕ) → there ls 0 n ≡ among n ls
unfolding there
there_zero [] n = refl
there_zero (l ∷ ls) n = rw (div-one l) (ap (λ (b : Bool). eqb l n || b) (there_zero ls n))

pub half_node : (l i : ℕ) → l / 2 ^ suc i ≡ l / 2 ^ i / 2
half_node l i = rw pow-suc (sym (div-div-eq-div-mul l (2 ^ i) 2))

children : (q w : ℕ) → Dec (q / 2 ≡ w) → Dec (q % 2 ≡ 1) → eqb (q / 2) w ≡ (eqb q (2 * w) || eqb q (2 * w + 1))
children q w (yes e) (yes o) = rw (eq-eqb (q / 2) w e, eq-eqb q (2 * w + 1) (omega arith), or-true)
children q w (yes e) (no o) = rw (eq-eqb (q / 2) w e, eq-eqb q (2 * w) (omega arith))
children q w (no e) o = rw (ne_eqb (q / 2) w e, ne_eqb q (2 * w) (λ z. e (omega arith)), ne_eqb q (2 * w + 1) (λ z. e (omega arith)))

four : (a b c d : Bool) → ((a || b) || (c || d)) ≡ ((a || c) || (b || d))
four true b c d = refl
four false true true d = refl
four false true false d = refl
four false false true d = refl
four false false false d = refl

-- the nodes of level i + 1 are the halves of those of level i
pub there_half : (ls : List ℕ) (i w : ℕ) → there ls (suc i) w ≡ (there ls i (2 * w) || there ls i (2 * w + 1))
unfolding there
there_half [] i w = refl
there_half (l ∷ ls) i w =
    rw (half_node l i, children (l / 2 ^ i) w (ℕ_discrete _ _) (ℕ_discrete _ _), there_half ls i w)
    (four (eqb (l / 2 ^ i) (2 * w)) (eqb (l / 2 ^ i) (2 * w + 1)) (there ls i (2 * w)) (there ls i (2 * w + 1)))

-- the places of a level are twice those of the next
pub level_places : (b i : ℕ) → i < b → 2 ^ (b - i) ≡ 2 * 2 ^ (b - suc i)
level_places b i h = let e : b - i ≡ suc (b - suc i) = omega arith in ap (λ (n : ℕ). 2 ^ n) e ∙ pow-succ' 2 (b - suc i)

-- ---- the odd ones of a rising list

-- the odd numbers of a list
abbrev pub odds : List ℕ → List ℕ
odds ns = join (λ n. only (eqb (n % 2) 1) n) ns

double : (n : ℕ) → 2 * suc n ≡ suc (suc (2 * n))
double n = omega arith

odds_yes : (t : Bool) (v : ℕ) → v % 2 ≡ 1 → odds (only t v) ≡ only t v
odds_yes true v e = rw (eq-eqb (v % 2) 1 e)
odds_yes false v e = refl

odds_no : (t : Bool) (v : ℕ) → v % 2 ≡ 0 → odds (only t v) ≡ []
odds_no true v e = rw (ne_eqb (v % 2) 1 (λ q. omega arith))
odds_no false v e = refl

-- two numbers more, the second odd
pub odds_more : (p : ℕ → Bool) (n : ℕ) → odds (below p (2 * suc n)) ≡ odds (below p (2 * n)) ++ only (p (2 * n + 1)) (2 * n + 1)
unfolding below
odds_more p n =
    rw (
      double n,
      add-one (2 * n),
      join_append (λ n. only (eqb (n % 2) 1) n) (below p (2 * n) ++ only (p (2 * n)) (2 * n)) (only (p (suc (2 * n))) (suc (2 * n))),
      join_append (λ n. only (eqb (n % 2) 1) n) (below p (2 * n)) (only (p (2 * n)) (2 * n)),
      odds_no (p (2 * n)) (2 * n) (omega arith),
      odds_yes (p (suc (2 * n))) (suc (2 * n)) (omega arith),
      append-nil,
    )

-- the pair of an odd u: whether u - 1 passes the test
abbrev pub with_even : (ℕ → Bool) → ℕ → PairRecord
with_even p u = record { odd = u; even_there = p (u - 1) }

-- the pairs of a level, over its odd places
pub pairs_odds : (b : ℕ) (ls : List ℕ) (i : ℕ) → i < b → pairs_at b ls i ≡ map (with_even (there ls i)) (odds (below (there ls i) (2 * 2 ^ (b - suc i))))
unfolding pairs_at nodes
pairs_odds b ls i h = ap (λ (n : ℕ). map (with_even (there ls i)) (odds (below (there ls i) n))) (level_places b i h)

-- the nodes of the next level: the distinct halves of those of this one, rising
pub nodes_half : (b : ℕ) (ls : List ℕ) (i : ℕ) → i < b → nodes b ls (suc i) ≡ below (λ w. some (λ n. eqb (n / 2) w) (nodes b ls i)) (2 ^ (b - suc i))
unfolding nodes
nodes_half b ls i h = below_ext (there ls (suc i)) (λ w. some (λ n. eqb (n / 2) w) (below (there ls i) (2 ^ (b - i)))) (2 ^ (b - suc i)) (λ w l. same w l (there ls (suc i) w) refl)
  where
    same : (w : ℕ) → w < 2 ^ (b - suc i) → (t : Bool) → there ls (suc i) w ≡ t → there ls (suc i) w ≡ some (λ n. eqb (n / 2) w) (below (there ls i) (2 ^ (b - i)))
    same w l true e =
        let p : 2 ^ (b - i) ≡ 2 * 2 ^ (b - suc i) = level_places b i h in
        e ∙ sym (⊎_elim
        (λ a. let q : 2 * w / 2 ≡ w = omega arith in among_some (λ n. eqb (n / 2) w) (below (there ls i) (2 ^ (b - i))) (2 * w) (among_below (2 * w) (there ls i) (2 ^ (b - i)) (omega arith) a) (eq-eqb (2 * w / 2) w q))
        (λ a. let q : (2 * w + 1) / 2 ≡ w = omega arith in among_some (λ n. eqb (n / 2) w) (below (there ls i) (2 ^ (b - i))) (2 * w + 1) (among_below (2 * w + 1) (there ls i) (2 ^ (b - i)) (omega arith) a) (eq-eqb ((2 * w + 1) / 2) w q))
        (one_of (there ls i (2 * w)) (there ls i (2 * w + 1)) (sym (there_half ls i w) ∙ e)))
    same w l false e = e ∙ sym (by_false (λ s. none w e s))
      where
        none : (w : ℕ) → there ls (suc i) w ≡ false → some (λ n. eqb (n / 2) w) (below (there ls i) (2 ^ (b - i))) ≡ true → ⊥
        none w e s =
            let f = either (there ls i (2 * w)) (there ls i (2 * w + 1)) (sym (there_half ls i w) ∙ e) in
            let x = some_among (λ n. eqb (n / 2) w) (below (there ls i) (2 ^ (b - i))) s in
            let n = x.0 in
            let t : there ls i n ≡ true = (below_among n (there ls i) (2 ^ (b - i)) x.1.0).1 in
            let d : n / 2 ≡ w = eqb-true (n / 2) w x.1.1 in
            ⊎_elim
            (λ (k : n < 2 * w + 1). let q : n ≡ 2 * w = omega arith in true≢false (sym t ∙ ap (there ls i) q ∙ f.0))
            (λ (k : 2 * w + 1 ≤ n). let q : n ≡ 2 * w + 1 = omega arith in true≢false (sym t ∙ ap (there ls i) q ∙ f.1))
            (lt_or_ge n (2 * w + 1))

-- a plan's giants are residues already
pub rots_list : (slots : ℕ) (gs : List ℕ) → Each (λ g. g < slots) gs → map (rot_of slots) (map pos gs) ≡ map (λ g. record { 0 = g }) gs
rots_list slots [] h = refl
rots_list slots (g ∷ gs) h = ap₂ ◌∷◌ (ap (λ (x : ℕ). record { 0 = x }) (residue_pos g slots (omega (arith, h.0)) ∙ mod-eq_of_lt h.0)) (rots_list slots gs h.1)
