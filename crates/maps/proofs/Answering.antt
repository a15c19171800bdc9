-- The answers of the builders: what is refused before the room is known, and the map of a call that is not.
-- Assumes nothing.
use Rattle.std.proofs.Common.{◌≡◌, ℕ, ◌*◌, ◌^◌, ◌≤◌, List, [], ◌∷◌, length, None, Some, Result, Ok, Err, sym, ap, ◌∙◌, subst, arith, eq-eqb, ne_eqb}
use Prim.Native.Nat.{◌∣◌}
use native.Mathlib.Nat.{dvd_trans}
use Rattle.ring.specs.declared.refusal.Refusal.{Refusal}
use Rattle.ring.specs.declared.refusal.Refusal.TheVariants.{Shift, Length}
use Rattle.ring.specs.Slots.{modulus}
use Rattle.ring.specs.Refusals.{pick, first_refusal}
use Rattle.ring.specs.Laws.Refusals.{first_later, none_of_both, not_outside, still_refused}
use Rattle.ring.specs.Laws.Divisors.{divides_yes}
use Rattle.ring.specs.Laws.Answers.{no_refused, same_value}
use Rattle.diagonals.specs.SlotMaps.{slot_map}
use Rattle.diagonals.specs.Calls.{map_room, MapWritten, period_refusals}
use Rattle.diagonals.specs.Laws.Calls.{written_refused}
use Rattle.maps.specs.declared.rules.Rule.{Rule}
use Rattle.maps.specs.declared.rules.Product.{Product}
use Rattle.maps.specs.declared.reads.Reads.{Reads}
use Rattle.maps.specs.declared.publics.Sums.{Sums}
use Rattle.maps.specs.declared.side.Side.{Side}
use Rattle.maps.specs.Readings.{whole_map}
use Rattle.maps.specs.Sums.{period_of, product_map}
use Rattle.maps.specs.Calls.{tile_refusals, no_shift, no_matrices, rule_refusal, RuleWritten, ProductWritten}
use Rattle.maps.specs.Steps.Tiles.{Tiles, Tiled}
use Rattle.maps.specs.Steps.Building.{rows_upto, Built}
use Rattle.maps.specs.Steps.Readings.{read_summand, rule_refusals, RuleTaken}
use Rattle.maps.specs.Steps.Sums.{plain_summand, product_refusals, ProductTaken, ProductJudged}
use Rattle.maps.specs.Steps.Shrinking.{Even, Shrank}
use Rattle.maps.specs.Laws.Tiling.{side_pos, some_squared, tiling, tiles_of, same_refusal}
use Rattle.maps.specs.Laws.SharedTerms.{period_divides, rule_even, rule_shrunk, rule_not_built}
use Rattle.maps.specs.Laws.Narrow.{shrunk_refused}
use Rattle.maps.proofs.Entering.{rows_read}
use Rattle.maps.proofs.Summing.{period_is, rows_sum}

-- a period of the slots
period_accepted : (slots p : ℕ) → 1 ≤ slots → slots ≤ 65536 → 1 ≤ p → p ∣ slots → first_refusal (period_refusals slots p) ≡ None
period_accepted slots p s l h d = rw (not_outside slots s l, ne_eqb p 0 (λ e. nonzero e), divides_yes p slots d)
  where
    nonzero : p ≡ 0 → ⊥
    nonzero e = omega (arith, e)

-- ---- rules

module _ (slots l : ℕ) (rule : Rule) (pairs values : List ℕ) where
  pub rule_refused : {x : Refusal} → first_refusal (rule_refusals slots l rule) ≡ Some x → RuleWritten slots l rule pairs pairs values values (Err x)
  rule_refused e = shrunk_refused (still_refused (rule_refusals slots l rule) (map_room (whole_map modulus slots (2 ^ l) rule) pairs values) e)

module _ {slots l : ℕ} {rule : Rule} {m : Reads} (t : RuleTaken slots l rule m) where
  abbrev d : ℕ
  d = 2 ^ m.side.log_d

  tiles : Tiles slots l 1
  tiles = tiles_of (none_of_both (tile_refusals slots l 1) ((no_shift l rule, Shift) ∷ []) t.none).0

  pub rule_period : first_refusal (period_refusals slots (d * d)) ≡ None
  rule_period = rw t.log_is (period_accepted slots (2 ^ l * 2 ^ l) tiles.low tiles.high (some_squared (side_pos l)) (period_divides tiles))

  its_map : slot_map modulus slots (d * d) (rows_upto (λ t l. read_summand m.rule d t) 1 (d * d)) ≡ whole_map modulus slots (2 ^ l) rule
  unfolding whole_map
  its_map = rw (t.rule_is, t.log_is) (ap (slot_map modulus slots (2 ^ l * 2 ^ l)) (rows_read rule (2 ^ l) (side_pos l)))

  module _ {p p₁ v v₁ : List ℕ} {a : Result ℕ Refusal} (b : Built modulus slots (d * d) (λ t l. read_summand m.rule d t) 1 p p₁ v v₁ a) where
    rule_built : MapWritten (rule_refusal slots l rule p v) (whole_map modulus slots (2 ^ l) rule) p p₁ v v₁ a
    rule_built = rw (first_later (rule_refusals slots l rule) (map_room (whole_map modulus slots (2 ^ l) rule) p v) t.none, ← its_map) b

    pub rule_no_room : {x : Refusal} → a ≡ Err x → RuleWritten slots l rule p p₁ v v₁ (Err x)
    rule_no_room q = rule_not_built slots l rule rule_built q

    module _ {n : ℕ} (q : a ≡ Ok n) where
      pub rule_asked : Even slots (d * d) n p₁ v₁
      rule_asked = rw t.log_is (rule_even slots l rule rule_built q)

      pub rule_written : {p₂ v₂ : List ℕ} → Shrank (d * d) n p₁ p₂ v₁ v₂ → RuleWritten slots l rule p p₂ v v₂ (Ok n)
      rule_written s = rule_shrunk slots l rule rule_built q (rw t.log_is at s)

-- ---- products

module _ (p : Product) (slots l count : ℕ) (b : List ℕ) where
  pub product_tiles_refuse : {x : Refusal} → first_refusal (tile_refusals slots l count) ≡ Some x → ProductJudged p slots l count b (Err x)
  product_tiles_refuse e =
      let q : first_refusal (product_refusals slots l count b) ≡ Some _ = still_refused (tile_refusals slots l count) ((no_matrices l count b, Length) ∷ []) e in
      record { refused = λ y h. q ∙ ap Some (same_refusal h); accepted = λ m h. no_refused h }

  module _ {side : Side} (t : Tiled slots l count side) where
    past_tiles : first_refusal (product_refusals slots l count b) ≡ pick (no_matrices l count b) Length None
    past_tiles = first_later (tile_refusals slots l count) ((no_matrices l count b, Length) ∷ []) t.none

    pub product_accepted : (m : Sums) → m.product ≡ p → m.side.log_d ≡ side.log_d → m.count ≡ count → m.b.now ≡ b → length b ≡ count * (2 ^ side.log_d * 2 ^ side.log_d) → ProductJudged p slots l count b (Ok m)
    product_accepted m ep el ec eb e =
        let z : first_refusal (product_refusals slots l count b) ≡ None = past_tiles ∙ rw (← t.log_is, eq-eqb _ _ e) in
        record {
          refused = λ x q. no_refused (sym q);
          accepted = λ n q. subst (ProductTaken p slots l count b) (same_value q) (record { none = z; product_is = ep; log_is = el ∙ t.log_is; count_is = ec; words_are = eb });
        }

module _ (p : Product) (slots l count : ℕ) (b pairs values : List ℕ) where
  pub product_refused : {x : Refusal} → first_refusal (product_refusals slots l count b) ≡ Some x → ProductWritten slots l count p b pairs pairs values values (Err x)
  product_refused e = written_refused (still_refused (product_refusals slots l count b) (map_room (product_map modulus slots (2 ^ l) count p b) pairs values) e)

module _ {p : Product} {slots l count : ℕ} {b : List ℕ} {m : Sums} (t : ProductTaken p slots l count b m) where
  abbrev side : ℕ
  side = 2 ^ m.side.log_d

  product_tiles : Tiles slots l count
  product_tiles = tiles_of (none_of_both (tile_refusals slots l count) ((no_matrices l count b, Length) ∷ []) t.none).0

  pub product_period : first_refusal (period_refusals slots (period_of m.product side m.count)) ≡ None
  product_period =
      let q = period_is (tiling product_tiles) p in
      rw (t.product_is, t.log_is, t.count_is) (period_accepted slots (period_of p (2 ^ l) count) product_tiles.low product_tiles.high q.some (dvd_trans _ q.divide product_tiles.divides))

  its_product : slot_map modulus slots (period_of m.product side m.count) (rows_upto (λ t l. Some (plain_summand m.product side m.b.now t l)) side (period_of m.product side m.count)) ≡ product_map modulus slots (2 ^ l) count p b
  unfolding product_map
  its_product = rw (t.product_is, t.log_is, t.count_is, t.words_are) (ap (slot_map modulus slots (period_of p (2 ^ l) count)) (rows_sum p (2 ^ l) count b (side_pos l)))

  pub product_written : {pairs₀ pairs₁ values₀ values₁ : List ℕ} {a : Result ℕ Refusal} → Built modulus slots (period_of m.product side m.count) (λ t l. Some (plain_summand m.product side m.b.now t l)) side pairs₀ pairs₁ values₀ values₁ a
      → ProductWritten slots l count p b pairs₀ pairs₁ values₀ values₁ a
  product_written {pairs₀} {values₀} w = rw (first_later (product_refusals slots l count b) (map_room (product_map modulus slots (2 ^ l) count p b) pairs₀ values₀) t.none, ← its_product) w
