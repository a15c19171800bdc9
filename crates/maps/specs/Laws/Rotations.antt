-- Laws of the two rotations (document 02, A2): for every shift they read JKLS psi^k and phi^k, so that k mod d is the same map
-- and one after the other is the rotation by the sum.
-- Assumes nothing.
use Rattle.std.specs.Prelude.{◌≡◌, ℕ, ◌+◌, ◌*◌, ◌/◌, ◌%◌, ◌<◌, ◌≤◌, Bool, true, false, List, [], ◌∷◌}
use Rattle.std.specs.Int.{◌∣◌}
use Rattle.std.proofs.Common.{sym, ◌∙◌, mod-lt, add_assoc, arith}
use Rattle.std.proofs.Math.Path.{ap, fun_ext}
use Rattle.std.proofs.Math.Nat.{mod-mod, add-mod-mod, mod-add-mod}
use Rattle.ring.specs.Lists.{sum_by}
use Rattle.ring.specs.Laws.Vectors.{tabulate_cong}
use Rattle.diagonals.specs.Products.{product}
use Rattle.diagonals.specs.SlotMaps.{slot_map}
use Rattle.maps.specs.Entries.{Entry, InMatrix, entry_of, slot_of, entry_at}
use Rattle.maps.specs.Readings.{reads, terms_by, whole_map, rule_map, after, made_shift}
use Rattle.maps.specs.Shifts.{rotation, further_on, map_before}
use Rattle.maps.specs.Laws.Entries.{entry_inside, slot_inside}
use Rattle.maps.specs.Laws.Readings.{rule_map_at}
use Rattle.maps.specs.Laws.Stages.{one_sum, after_is}

-- ---- the entry that is read

on_modulo : (rows : Bool) (k d : ℕ) (e : Entry) → further_on rows (k % d) d e ≡ further_on rows k d e
on_modulo true k d e = ap (λ (x : ℕ). record { row = x; col = e.col }) (add-mod-mod e.row k d)
on_modulo false k d e = ap (λ (x : ℕ). record { row = e.row; col = x }) (add-mod-mod e.col k d)

on_both : (rows : Bool) (j k d : ℕ) (e : Entry) → further_on rows k d (further_on rows j d e) ≡ further_on rows (j + k) d e
on_both true j k d e = ap (λ (x : ℕ). record { row = x; col = e.col }) (mod-add-mod (e.row + j) d k ∙ ap (λ (x : ℕ). x % d) (add_assoc e.row j k))
on_both false j k d e = ap (λ (x : ℕ). record { row = e.row; col = x }) (mod-add-mod (e.col + j) d k ∙ ap (λ (x : ℕ). x % d) (add_assoc e.col j k))

pub on_inside : (rows : Bool) (k d : ℕ) (e : Entry) → InMatrix d e → InMatrix d (further_on rows k d e)
on_inside true k d e h = record { row_low = mod-lt (e.row + k) (omega (arith, h.row_low)); col_low = h.col_low }
on_inside false k d e h = record { row_low = h.row_low; col_low = mod-lt (e.col + k) (omega (arith, h.col_low)) }

pub reads_on : (rows : Bool) (k d : ℕ) (e : Entry) → reads (rotation rows k) d e.row e.col ≡ further_on rows k d e ∷ []
unfolding reads
reads_on true k d e = ap (λ (x : Entry). x ∷ []) (on_modulo true k d e)
reads_on false k d e = ap (λ (x : Entry). x ∷ []) (on_modulo false k d e)

-- its sum
pub sum_on : (m : ℕ) (rows : Bool) (k d : ℕ) (a : List ℕ) (s : ℕ) (e : Entry) → sum_by m (entry_at d a s) (reads (rotation rows k) d e.row e.col) ≡ entry_at d a s (further_on rows k d e) % m
sum_on m rows k d a s e = ap (sum_by m (entry_at d a s)) (reads_on rows k d e) ∙ one_sum m (entry_at d a s (further_on rows k d e))

-- ---- the map

module _ (m slots d : ℕ) (rows : Bool) (k : ℕ) where
  -- what it was, whatever the shift
  pub map_kept : whole_map m slots d (rotation rows k) ≡ map_before m slots d rows k
  unfolding whole_map
  map_kept = ap (λ read. slot_map m slots (d * d) (terms_by read d)) (fun_ext (λ r. fun_ext (λ c. reads_on rows k d (record { row = r; col = c }))))

  modulo_before : map_before m slots d rows (k % d) ≡ map_before m slots d rows k
  modulo_before = ap (λ on. slot_map m slots (d * d) (terms_by (λ r c. on (record { row = r; col = c }) ∷ []) d)) (fun_ext (on_modulo rows k d))

-- that of k mod d
pub map_modulo : (m slots d : ℕ) (rows : Bool) (k : ℕ) → whole_map m slots d (rotation rows k) ≡ whole_map m slots d (rotation rows (k % d))
map_modulo m slots d rows k = map_kept m slots d rows k ∙ sym (modulo_before m slots d rows k) ∙ sym (map_kept m slots d rows (k % d))

-- ---- the product

made_within : (rows : Bool) (k d : ℕ) → 1 ≤ d → made_shift (rotation rows k) d ≤ d
made_within true k d h = omega (arith, mod-lt k h)
made_within false k d h = omega (arith, mod-lt k h)

module _ (m slots d : ℕ) (h : 1 ≤ d) (v : d * d ∣ slots) (rows : Bool) where
  pub product_on : (k : ℕ) (a : List ℕ) (t : ℕ) → t < slots → product m slots (rule_map m slots d (rotation rows k)) a t ≡ entry_at d a (slot_of d t) (further_on rows k d (entry_of d t)) % m
  product_on k a t l = rule_map_at m slots d (rotation rows k) (made_within rows k d h) v a h t l ∙ sum_on m rows k d a (slot_of d t) (entry_of d t)

  entry_on : (k : ℕ) (a : List ℕ) (s : ℕ) (e : Entry) → s < slots / (d * d) → InMatrix d e → entry_at d (after m slots d (rotation rows k) a) s e ≡ entry_at d a s (further_on rows k d e) % m
  entry_on k a s e l i = after_is m slots d v a s l (rotation rows k) (made_within rows k d h) e i ∙ sum_on m rows k d a s e

  -- one after the other
  pub shifts_add : (j k : ℕ) (a : List ℕ) → after m slots d (rotation rows j) (after m slots d (rotation rows k) a) ≡ after m slots d (rotation rows (j + k)) a
  shifts_add j k a =
      tabulate_cong slots _ _
      (λ t l.
      let s : ℕ = slot_of d t in
      let e : Entry = further_on rows j d (entry_of d t) in
      product_on j (after m slots d (rotation rows k) a) t l
      ∙ ap (λ (x : ℕ). x % m) (entry_on k a s e (slot_inside d t h slots v l) (on_inside rows j d (entry_of d t) (entry_inside d t h)))
      ∙ mod-mod (entry_at d a s (further_on rows k d e)) m
      ∙ ap (λ (x : Entry). entry_at d a s x % m) (on_both rows j k d (entry_of d t))
      ∙ sym (product_on (j + k) a t l))
