-- The loop over the stored diagonals: what it keeps, and a turn.
-- Assumes nothing.
use Rattle.std.proofs.Common.{◌≡◌, ℕ, ◌+◌, ◌<◌, ◌≤◌, List, [], slice_index_or, length, take, get_or, drop, sym, refl, ap, ◌∙◌, arith}
use Rattle.ring.specs.Slots.{modulus, addm}
use Rattle.ring.specs.Vectors.{tabulate}
use Rattle.ring.specs.Laws.Vectors.{length_tabulate, get_or_tabulate, tabulate_cong}
use Rattle.diagonals.specs.Maps.{pair_at, start_at, diagonal_at, view, WellFormed}
use Rattle.diagonals.specs.Products.{term, product}
use Rattle.std.specs.Prelude.{replicate}
use Rattle.runs.proofs.Parts.{cleared}
use Rattle.runs.specs.Steps.Plain.{diagonal_added, Repeated}
use Rattle.diagonals.specs.Laws.Products.{product_none, product_more}
use Rattle.diagonals.specs.Laws.Entries.{walk_part, walk_rest, walk_fits}
use Rattle.runs.proofs.Entries.{Entry, entry_at}

-- the first i diagonals are added, and the values of the next are first in the rest
pub record Adding (slots count : ℕ) (pairs values input out table rest : List ℕ) (i : ℕ) : Type 0 where
  pub room : i ≤ count
  pub rest_is : rest ≡ drop (start_at pairs i) values
  pub so_far : out ≡ tabulate slots (product modulus slots (view i pairs values) input)
  pub len : length out ≡ slots
  pub table_len : length table ≡ 512

pub adding_none : (count : ℕ) (pairs values input : List ℕ) {slots : ℕ} {out table : List ℕ} (n : ℕ) → out ≡ replicate {A = ℕ} n 0 → n ≡ slots → length table ≡ 512 → Adding slots count pairs values input out table values 0
adding_none count pairs values input {slots} n e s t =
    record {
      room = omega arith;
      rest_is = refl;
      so_far = cleared n e ∙ rw s (tabulate_cong slots _ _ (λ i l. sym (product_none modulus slots pairs values input i)));
      len = ap length (cleared n e) ∙ length_tabulate n (λ i. 0) ∙ s;
      table_len = t;
    }

module _ {slots count i : ℕ} {pairs values input out table rest : List ℕ} (w : WellFormed slots count pairs values) (n : length input ≡ slots) (a : Adding slots count pairs values input out table rest i) {items : List (List ℕ)} (e : items ≡ tabulate count (pair_at pairs)) (h : i < length items) where
  -- the pair that is read
  abbrev k : ℕ
  k = slice_index_or (slice_index_or items i []) 0 0

  abbrev len : ℕ
  len = slice_index_or (slice_index_or items i []) 1 0

  t : Entry pairs count i i (slice_index_or items i [])
  t = entry_at pairs count e h

  pub adding_fits : len ≤ length rest
  adding_fits = walk_fits pairs values i a.rest_is t.length_is w t.low

  module _ {period : List ℕ} (f : period ≡ take len rest) where
    period_is : period ≡ (diagonal_at pairs values i).values
    period_is = f ∙ walk_part pairs values i a.rest_is t.length_is

    pub adding_repeated : Repeated period k input out
    adding_repeated =
        let g = w.each i t.low in
        record { some = rw period_is g.some; low = omega (arith, t.offset_is, g.low, a.len); whole = n ∙ sym a.len }

    word : (s : ℕ) → s < slots → diagonal_added period k input out s ≡ product modulus slots (view (i + 1) pairs values) input s
    word s l =
        ap (λ (x : ℕ). addm modulus x (term modulus (length input) input s (record { offset = k; values = period }))) (ap (λ (x : List ℕ). get_or x s 0) a.so_far ∙ get_or_tabulate slots _ s 0 l)
        ∙ rw (t.offset_is, period_is, n) (sym (product_more modulus slots pairs values input i s))

    pub adding_more : {new table' behind : List ℕ} → behind ≡ drop len rest → new ≡ tabulate (length out) (diagonal_added period k input out) → length table' ≡ length table → Adding slots count pairs values input new table' behind (i + 1)
    adding_more b e t' =
        let q = e ∙ ap (λ (x : ℕ). tabulate x (diagonal_added period k input out)) a.len ∙ tabulate_cong slots _ _ word in
        record {
          room = omega (arith, t.low);
          rest_is = b ∙ walk_rest pairs values i a.rest_is t.length_is;
          so_far = q;
          len = ap length q ∙ length_tabulate slots _;
          table_len = t' ∙ a.table_len;
        }

pub adding_done : {slots count i : ℕ} {pairs values input out table rest : List ℕ} → Adding slots count pairs values input out table rest i → count ≤ i → out ≡ tabulate slots (product modulus slots (view count pairs values) input)
adding_done {slots} {count} {i} {pairs} {values} {input} a l =
    let e : i ≡ count = omega (arith, a.room) in
    a.so_far ∙ ap (λ (n : ℕ). tabulate slots (product modulus slots (view n pairs values) input)) e
