-- `diagonals::map::Map::write_transposed` meets its contract. Assumes nothing.
use Rattle.std.proofs.Common.{sym, ◌∙◌, length-take-le}
use Rattle.diagonals.specs.Laws.Maps.{formed_means}
use Rattle.diagonals.proofs.Folding.{range_of}
use Rattle.diagonals.proofs.Leading.{leads_none, leads_other, leads_zero, rest_none, rest_one, rest_done, first_turning, first_inside}
use Rattle.diagonals.proofs.map.Map.write_transposed.Goals as goal
use Rattle.diagonals.proofs.map.Map.write_transposed.Goals.{then-self-eq0-via-then-self-eq0, then-self-eq0-via-else-self-eq0+then-offset_at-ne0}

pub write_rest-requires : goal.write_rest-requires
write_rest-requires c =
    let m = c.args.self.now in
    let w = formed_means m.slots m.count m.pairs.now m.values.now m.formed in
    elim c.then-self-eq0.branch [
      | then-self-eq0-via-then-self-eq0 v ↦ rest_none (range_of m.slots m.in_range) w c.requires (leads_none m.count m.pairs.now v.if-self-eq0.true)
      | then-self-eq0-via-else-self-eq0+then-offset_at-ne0 v ↦ rest_none (range_of m.slots m.in_range) w c.requires (leads_other m.count m.pairs.now (λ e. v.if-offset_at-ne0.true (v.offset_at.ensures ∙ e)))
    ]

pub slice_bounds-append_turned-end : goal.slice_bounds-append_turned-end
slice_bounds-append_turned-end c =
    let m = c.args.self.now in
    let w = formed_means m.slots m.count m.pairs.now m.values.now m.formed in
    let z = leads_zero m.count m.pairs.now c.if-self-eq0.false (sym c.offset_at.ensures ∙ c.if-offset_at-ne0.false) in
    sym (length-take-le _ _ (first_inside (range_of m.slots m.in_range) w c.requires z c.length_at-front.ensures))

pub append_turned-requires : goal.append_turned-requires
append_turned-requires c =
    let m = c.args.self.now in
    let w = formed_means m.slots m.count m.pairs.now m.values.now m.formed in
    let o = sym c.offset_at.ensures ∙ c.if-offset_at-ne0.false in
    let z = leads_zero m.count m.pairs.now c.if-self-eq0.false o in
    rw o at (first_turning (range_of m.slots m.in_range) w c.requires z c.length_at-front.ensures)

pub write_rest-requires-2 : goal.write_rest-requires-2
write_rest-requires-2 c =
    let m = c.args.self.now in
    let w = formed_means m.slots m.count m.pairs.now m.values.now m.formed in
    let o = sym c.offset_at.ensures ∙ c.if-offset_at-ne0.false in
    let z = leads_zero m.count m.pairs.now c.if-self-eq0.false o in
    rest_one (range_of m.slots m.in_range) w c.requires z c.length_at-front.ensures (rw o c.append_turned.ensures)

pub returns : goal.returns
returns c =
    let m = c.args.self.now in
    let w = formed_means m.slots m.count m.pairs.now m.values.now m.formed in
    let o = sym c.offset_at.ensures ∙ c.if-offset_at-ne0.false in
    let z = leads_zero m.count m.pairs.now c.if-self-eq0.false o in
    rest_done (range_of m.slots m.in_range) w c.requires z c.length_at-front.ensures (rw o c.append_turned.ensures) c.write_rest-2.ensures
