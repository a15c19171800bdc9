-- The walks of the maps that read one entry or none: the entry that an output reads, marks and sums of what is read.
-- Assumes nothing.
use Rattle.std.proofs.Common.{◌≡◌, ℕ, ◌+◌, ◌-◌, ◌*◌, ◌/◌, ◌%◌, ◌^◌, ◌<◌, ◌≤◌, Bool, true, false, ltb, leb, List, [], ◌∷◌, map, Option, None, Some, Ok, Err, sym, refl, ap, ◌∙◌, subst, append-nil, mod-lt, mod-eq_of_lt, div-lt_iff_lt-mul, arith, ltb-true, le-ltb, leb-true}
use Rattle.std.specs.Bool.{then_some}
use native.Mathlib.Nat.{mod-eq-sub-mod}
use Rattle.ring.specs.declared.refusal.Refusal.{Refusal}
use Rattle.ring.specs.declared.refusal.Refusal.TheVariants.{Shift}
use Rattle.ring.specs.Refusals.{pick, first_refusal}
use Rattle.ring.specs.Laws.Refusals.{first_later, still_refused}
use Rattle.ring.specs.Laws.Answers.{no_refused, same_value}
use Rattle.diagonals.specs.SlotMaps.{Term}
use Rattle.maps.specs.declared.rules.Rule.{Rule}
use Rattle.maps.specs.declared.rules.Rule.TheVariants.{Sigma, Tau, Transpose, RotateRows, RotateCols, RowsUpper, RowsLower, ColsLeft, ColsRight, RowsLeft, RowsRight}
use Rattle.maps.specs.declared.reads.Reads.{Reads}
use Rattle.maps.specs.declared.side.Side.{Side}
use Rattle.maps.specs.Entries.{Entry, place}
use Rattle.maps.specs.Readings.{reading, reads, read_terms, rule_terms, shift_of, shift_limit, made_shift}
use Rattle.maps.specs.Calls.{tile_refusals, no_shift}
use Rattle.maps.specs.Steps.Tiles.{Tiled}
use Rattle.maps.specs.Steps.Building.{term_of, row_upto, rows_upto}
use Rattle.maps.specs.Steps.Readings.{Within, place_of, added, read_summand, rule_refusals, RuleTaken, RuleJudged}
use Rattle.maps.specs.Laws.Tiling.{side_pos, same_refusal}
use Rattle.maps.specs.Laws.Readings.{made_low}
use Rattle.maps.proofs.Walks.{rows_same}

-- ---- below 2d

pub fold_low : (x d : ℕ) → x < d → x ≡ x % d
fold_low x d l = sym (mod-eq_of_lt l)

pub fold_high : (x d : ℕ) → d ≤ x → x < 2 * d → x - d ≡ x % d
fold_high x d h l = let q : x - d < d = omega arith in sym (mod-eq-sub-mod h ∙ mod-eq_of_lt q)

-- ---- entries

pub entry_there : (b : Bool) (d r c : ℕ) → then_some b (r * d + c) ≡ place_of d (reading b r c)
unfolding place_of
entry_there true d r c = refl
entry_there false d r c = refl

read_as : (d : ℕ) {es fs : List Entry} {res : Option ℕ} → fs ≡ es → res ≡ place_of d es → res ≡ place_of d fs
read_as d e a = a ∙ ap (place_of d) (sym e)

-- only what is read counts
reading_same : (b : Bool) (r c r₁ c₁ : ℕ) → (b ≡ true → r ≡ r₁) → (b ≡ true → c ≡ c₁) → reading b r c ≡ reading b r₁ c₁
reading_same true r c r₁ c₁ f g = rw (f refl, g refl)
reading_same false r c r₁ c₁ f g = refl

-- the side, the entry and the shift that reading is given
pub record Turned (rule : Rule) (d r c k : ℕ) : Type 0 where
  pub within : Within d r c
  pub is : k ≡ made_shift rule d
  pub low : k ≤ d

pub turned : {rule : Rule} {d side r c k : ℕ} → d ≡ side → Within side r c → k ≡ made_shift rule side → k ≤ side → Turned rule d r c k
turned e w is low = rw e (record { within = w; is = is; low = low })

-- a row or a column and the shift
shift_fits : {rule rule₁ : Rule} {d r c k v : ℕ} → Turned rule d r c k → rule ≡ rule₁ → v < d → v + made_shift rule₁ d < 2 * d
shift_fits {rule} {rule₁} {d} u h m = let g : made_shift rule₁ d ≤ d = subst (λ z. made_shift z d ≤ d) h (rw u.is at u.low) in omega (arith, g, m)

-- the entry of each rule, by remainders
pub transpose_reads : {rule : Rule} {d r c k : ℕ} {res : Option ℕ} → Turned rule d r c k → rule ≡ Transpose → res ≡ place_of d (reading true c r) → res ≡ place_of d (reads rule d r c)
unfolding reads
transpose_reads {d = d} u h a = read_as d (rw h) a

module _ {rule : Rule} {d r c x k : ℕ} {res : Option ℕ} (u : Turned rule d r c k) where
  pub sigma_reads : rule ≡ Sigma → x ≡ (r + c) % d → res ≡ place_of d (reading true r x) → res ≡ place_of d (reads rule d r c)
  unfolding reads
  sigma_reads h f a = read_as d (rw (h, f)) a

  pub tau_reads : rule ≡ Tau → x ≡ (r + c) % d → res ≡ place_of d (reading true x c) → res ≡ place_of d (reads rule d r c)
  unfolding reads
  tau_reads h f a = read_as d (rw (h, f)) a

  module _ {n : ℕ} where
    pub rows_reads : rule ≡ RotateRows n → x ≡ (r + k) % d → res ≡ place_of d (reading true x c) → res ≡ place_of d (reads rule d r c)
    unfolding reads
    rows_reads h f a = read_as d (rw (f, u.is, h)) a

    pub cols_reads : rule ≡ RotateCols n → x ≡ (c + k) % d → res ≡ place_of d (reading true r x) → res ≡ place_of d (reads rule d r c)
    unfolding reads
    cols_reads h f a = read_as d (rw (f, u.is, h)) a

    pub left_reads : rule ≡ RowsLeft n → x ≡ (r + k) % d → res ≡ place_of d (reading (ltb (c + k) d) x c) → res ≡ place_of d (reads rule d r c)
    unfolding reads
    left_reads h f a = read_as d (rw (f, u.is, h)) a

    pub right_reads : rule ≡ RowsRight n → x ≡ (r + k) % d → res ≡ place_of d (reading (leb d (c + k)) x c) → res ≡ place_of d (reads rule d r c)
    unfolding reads
    right_reads h f a = read_as d (rw (f, u.is, h)) a

    pub upper_reads : rule ≡ RowsUpper n → x ≡ (r + k) % d → res ≡ place_of d (reading (ltb (r + k) d) x c) → res ≡ place_of d (reads rule d r c)
    unfolding reads
    upper_reads h f a = read_as d (rw (f, u.is, h) (reading_same (ltb (r + n) d) _ _ _ _ (λ q. fold_low _ _ (ltb-true _ _ q)) (λ q. refl))) a

    pub cols_left_reads : rule ≡ ColsLeft n → x ≡ (c + k) % d → res ≡ place_of d (reading (ltb (c + k) d) r x) → res ≡ place_of d (reads rule d r c)
    unfolding reads
    cols_left_reads h f a = read_as d (rw (f, u.is, h) (reading_same (ltb (c + n) d) _ _ _ _ (λ q. refl) (λ q. fold_low _ _ (ltb-true _ _ q)))) a

    pub lower_reads : rule ≡ RowsLower n → x ≡ (r + k) % d → res ≡ place_of d (reading (leb d (r + k)) x c) → res ≡ place_of d (reads rule d r c)
    unfolding reads
    lower_reads h f a = read_as d (rw (f, u.is, h) (reading_same (leb d (r + n)) _ _ _ _ (λ q. fold_high _ _ (leb-true _ _ q) (shift_fits {rule₁ = RowsLower n} u h u.within.row_low)) (λ q. refl))) a

    pub cols_right_reads : rule ≡ ColsRight n → x ≡ (c + k) % d → res ≡ place_of d (reading (leb d (c + k)) r x) → res ≡ place_of d (reads rule d r c)
    unfolding reads
    cols_right_reads h f a = read_as d (rw (f, u.is, h) (reading_same (leb d (c + n)) _ _ _ _ (λ q. refl) (λ q. fold_high _ _ (leb-true _ _ q) (shift_fits {rule₁ = ColsRight n} u h u.within.col_low)))) a

-- ---- terms

abbrev one : ℕ → ℕ → Term
one t j = record { i = t; j = j; w = 1 }

module _ (t d : ℕ) where
  term_reading : (b : Bool) (r c : ℕ) → map (λ e. one t (place d e)) (reading b r c) ≡ term_of t (added (place_of d (reading b r c)))
  unfolding place_of
  term_reading true r c = refl
  term_reading false r c = refl

  -- what is read is one term or none
  term_reads : (rule : Rule) (r c : ℕ) → map (λ e. one t (place d e)) (reads rule d r c) ≡ term_of t (added (place_of d (reads rule d r c)))
  unfolding reads
  term_reads Sigma r c = term_reading true _ _
  term_reads Tau r c = term_reading true _ _
  term_reads Transpose r c = term_reading true _ _
  term_reads (RotateRows k) r c = term_reading true _ _
  term_reads (RotateCols k) r c = term_reading true _ _
  term_reads (RowsUpper k) r c = term_reading _ _ _
  term_reads (RowsLower k) r c = term_reading _ _ _
  term_reads (ColsLeft k) r c = term_reading _ _ _
  term_reads (ColsRight k) r c = term_reading _ _ _
  term_reads (RowsLeft k) r c = term_reading _ _ _
  term_reads (RowsRight k) r c = term_reading _ _ _

-- so the terms of the outputs are those of the rule
pub rows_read : (rule : Rule) (d : ℕ) → 1 ≤ d → rows_upto (λ t l. read_summand rule d t) 1 (d * d) ≡ rule_terms rule d
rows_read rule d h = rows_same _ (read_terms rule d) (d * d) row
  where
    row : (t : ℕ) → t < d * d → row_upto (λ l. read_summand rule d t) t 1 ≡ read_terms rule d t
    row t l =
        append-nil (term_of t (read_summand rule d t))
        ∙ sym (term_reads t d rule (t / d) (t % d))
        ∙ ap (λ (x : ℕ). map (λ (e : Entry). one t (place d e)) (reads rule d x (t % d))) (sym (mod-eq_of_lt ((div-lt_iff_lt-mul h).1 l)))

-- the output that a term is of
pub output_within : {d t : ℕ} → 1 ≤ d → d ≤ 256 → t < d * d → Within d (t / d) (t % d)
output_within {d} {t} s h l = record { side_low = h; row_low = (div-lt_iff_lt-mul s).1 l; col_low = mod-lt t s }

-- ---- the refusal

module _ (slots l : ℕ) (rule : Rule) where
  pub tiles_refuse : {x : Refusal} → first_refusal (tile_refusals slots l 1) ≡ Some x → RuleJudged slots l rule (Err x)
  tiles_refuse e = rule_refuses (still_refused (tile_refusals slots l 1) ((no_shift l rule, Shift) ∷ []) e)
    where
      rule_refuses : {x : Refusal} → first_refusal (rule_refusals slots l rule) ≡ Some x → RuleJudged slots l rule (Err x)
      rule_refuses e = record { refused = λ y h. e ∙ ap Some (same_refusal h); accepted = λ m h. no_refused h }

module _ {slots l : ℕ} (rule : Rule) {side : Side} (t : Tiled slots l 1 side) where
  past_tiles : first_refusal (rule_refusals slots l rule) ≡ pick (no_shift l rule) Shift None
  past_tiles = first_later (tile_refusals slots l 1) ((no_shift l rule, Shift) ∷ []) t.none

  pub shift_low : shift_of rule ≤ shift_limit rule (2 ^ side.log_d) → made_shift rule (2 ^ side.log_d) ≤ 2 ^ side.log_d
  shift_low h = made_low rule (2 ^ side.log_d) (side_pos side.log_d) h

  pub rule_accepted : (m : Reads) → m.rule ≡ rule → m.side.log_d ≡ side.log_d → shift_of rule ≤ shift_limit rule (2 ^ side.log_d) → RuleJudged slots l rule (Ok m)
  rule_accepted m e f h =
      let z : first_refusal (rule_refusals slots l rule) ≡ None = past_tiles ∙ rw (← t.log_is, le-ltb _ _ h) in
      record {
        refused = λ x q. no_refused (sym q);
        accepted = λ n q. subst (RuleTaken slots l rule) (same_value q) (record { none = z; rule_is = e; log_is = f ∙ t.log_is });
      }
