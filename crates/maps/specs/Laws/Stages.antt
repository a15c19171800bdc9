-- Laws of the JKLS products as second stages: after `sigma` the map `right_jkls` is the right product, after `tau` the map
-- `left_jkls` is the left product.
-- Assumes nothing.
use Rattle.std.specs.Prelude.{◌≡◌, ℕ, ◌+◌, ◌*◌, ◌/◌, ◌%◌, ◌<◌, ◌≤◌, List}
use Rattle.std.specs.Int.{◌∣◌}
use Rattle.std.proofs.Common.{sym, ◌∙◌, mod-lt, add-zero, add_assoc}
use Rattle.std.proofs.Math.Path.{ap}
use Rattle.std.proofs.Math.Nat.{add-mod-mod, mod-add-mod}
use native.Mathlib.Omega.{arith}
use Rattle.ring.specs.Slots.{addm, mulm}
use Rattle.ring.specs.Lists.{sum_by}
use Rattle.ring.specs.Laws.Slots.{mulm_right}
use Rattle.ring.specs.Laws.Vectors.{get_or_tabulate}
use Rattle.diagonals.specs.Products.{product}
use Rattle.maps.specs.declared.rules.Rule.{Rule}
use Rattle.maps.specs.declared.rules.Rule.TheVariants.{Sigma, Tau}
use Rattle.maps.specs.declared.rules.Product.TheVariants.{RightMul, LeftMul, RightJkls, LeftJkls}
use Rattle.maps.specs.Entries.{Entry, InMatrix, place, entry_of, slot_of, entry_at, public_at}
use Rattle.maps.specs.Readings.{reads, rule_map, after, made_shift}
use Rattle.maps.specs.Sums.{factors, product_map, summand, formula}
use Rattle.maps.specs.Laws.Entries.{slot_low, entry_inside, slot_inside}
use Rattle.maps.specs.Laws.Terms.{sum_same, sum_turned}
use Rattle.maps.specs.Laws.Readings.{rule_map_product}
use Rattle.maps.specs.Laws.Sums.{product_map_at}

-- a sum of one number
pub one_sum : (m x : ℕ) → addm m x 0 ≡ x % m
unfolding addm
one_sum m x = ap (λ (y : ℕ). y % m) (add-zero x)

module _ (m slots d : ℕ) (v : d * d ∣ slots) (a : List ℕ) (s : ℕ) (k : s < slots / (d * d)) where
  -- its entries
  pub after_is : (rule : Rule) → made_shift rule d ≤ d → (e : Entry) → InMatrix d e → entry_at d (after m slots d rule a) s e ≡ sum_by m (entry_at d a s) (reads rule d e.row e.col)
  after_is rule l e h =
      get_or_tabulate slots (product m slots (rule_map m slots d rule) a) (s * (d * d) + place d e) 0 (slot_low d e h s slots v k)
      ∙ rule_map_product m slots d rule l v a s e h k

  module _ (r c : ℕ) (h : r < d) (n : c < d) where
    pub after_sigma : entry_at d (after m slots d Sigma a) s (record { row = r; col = c }) ≡ entry_at d a s (record { row = r; col = (r + c) % d }) % m
    unfolding reads
    after_sigma = after_is Sigma (omega arith) (record { row = r; col = c }) (record { row_low = h; col_low = n }) ∙ one_sum m (entry_at d a s (record { row = r; col = (r + c) % d }))

    pub after_tau : entry_at d (after m slots d Tau a) s (record { row = r; col = c }) ≡ entry_at d a s (record { row = (r + c) % d; col = c }) % m
    unfolding reads
    after_tau = after_is Tau (omega arith) (record { row = r; col = c }) (record { row_low = h; col_low = n }) ∙ one_sum m (entry_at d a s (record { row = (r + c) % d; col = c }))

module _ (m slots d count : ℕ) (b a : List ℕ) (v : d * d ∣ slots) (s : ℕ) (k : s < slots / (d * d)) (e : Entry) (h : InMatrix d e) where
  some : 1 ≤ d
  some = omega (arith, h.row_low)

  right_formula : formula m RightJkls d count b (after m slots d Sigma a) s e ≡ formula m RightMul d count b a s e
  unfolding factors
  right_formula =
      sum_same m d (summand m RightJkls d count b (after m slots d Sigma a) s e) (λ l. summand m RightMul d count b a s e ((e.row + e.col + l) % d))
      (λ l low.
      let p : ℕ = public_at d count b s (record { row = (e.row + e.col + l) % d; col = e.col }) in
      ap (mulm m p) (after_sigma m slots d v a s k e.row ((e.col + l) % d) h.row_low (mod-lt (e.col + l) (omega (arith, some))))
      ∙ mulm_right m p (entry_at d a s (record { row = e.row; col = (e.row + (e.col + l) % d) % d }))
      ∙ ap (λ (x : ℕ). mulm m p (entry_at d a s (record { row = e.row; col = x })))
      (add-mod-mod e.row (e.col + l) d ∙ ap (λ (x : ℕ). x % d) (sym (add_assoc e.row e.col l))))
      ∙ sum_turned m d (e.row + e.col) (summand m RightMul d count b a s e) some

  left_formula : formula m LeftJkls d count b (after m slots d Tau a) s e ≡ formula m LeftMul d count b a s e
  unfolding factors
  left_formula =
      sum_same m d (summand m LeftJkls d count b (after m slots d Tau a) s e) (λ l. summand m LeftMul d count b a s e ((e.row + e.col + l) % d))
      (λ l low.
      let p : ℕ = public_at d count b s (record { row = e.row; col = (e.row + e.col + l) % d }) in
      ap (mulm m p) (after_tau m slots d v a s k ((e.row + l) % d) e.col (mod-lt (e.row + l) (omega (arith, some))) h.col_low)
      ∙ mulm_right m p (entry_at d a s (record { row = ((e.row + l) % d + e.col) % d; col = e.col }))
      ∙ ap (λ (x : ℕ). mulm m p (entry_at d a s (record { row = x; col = e.col })))
      (mod-add-mod (e.row + l) d e.col ∙ ap (λ (x : ℕ). x % d) (let q : e.row + l + e.col ≡ e.row + e.col + l = omega arith in q)))
      ∙ sum_turned m d (e.row + e.col) (summand m LeftMul d count b a s e) some

module _ (m slots d count : ℕ) (b a : List ℕ) (v : d * d ∣ slots) (n : 1 ≤ count) (h : 1 ≤ d) (t : ℕ) (l : t < slots) where
  -- `right_jkls` after `sigma` is the right product
  pub right_stages : product m slots (product_map m slots d count RightJkls b) (after m slots d Sigma a) t ≡ product m slots (product_map m slots d count RightMul b) a t
  right_stages =
      product_map_at m slots d count b (after m slots d Sigma a) v n h t l RightJkls
      ∙ right_formula m slots d count b a v (slot_of d t) (slot_inside d t h slots v l) (entry_of d t) (entry_inside d t h)
      ∙ sym (product_map_at m slots d count b a v n h t l RightMul)

  -- `left_jkls` after `tau` is the left product
  pub left_stages : product m slots (product_map m slots d count LeftJkls b) (after m slots d Tau a) t ≡ product m slots (product_map m slots d count LeftMul b) a t
  left_stages =
      product_map_at m slots d count b (after m slots d Tau a) v n h t l LeftJkls
      ∙ left_formula m slots d count b a v (slot_of d t) (slot_inside d t h slots v l) (entry_of d t) (entry_inside d t h)
      ∙ sym (product_map_at m slots d count b a v n h t l LeftMul)
