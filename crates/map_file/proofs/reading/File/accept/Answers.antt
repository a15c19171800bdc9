-- `map_file::reading::File::accept` meets its contract. Assumes nothing.
use mathlib.Core.Path.{◌≡◌, sym, ap, ◌∙◌}
use Rattle.std.proofs.Common.{Err, rules}
use native.Mathlib.Omega.{arith}
use Rattle.ring.specs.Refusals.{outside}
use Rattle.map_file.proofs.Judging.{slots_read, count_read, no_file, too_short, too_many, wrong_slots, unformed, formed, wrong_size, few_words, a_file}
use Rattle.map_file.specs.Laws.Telling.{length_told}
use Rattle.map_file.proofs.reading.File.accept.Goals as goal
use Rattle.map_file.proofs.reading.File.accept.Goals.{then-is_outside-via-then-is_outside, then-is_outside-via-else-is_outside+then-bytes-count}

pub returns-then-bytes-lt8 : goal.returns-then-bytes-lt8
returns-then-bytes-lt8 c = no_file _ (too_short _ c.if-bytes-lt8.true)

pub returns-then-is_outside : goal.returns-then-is_outside
returns-then-is_outside c =
    let b = c.args.bytes.now in
    no_file b
    (elim c.then-is_outside.branch [
      | then-is_outside-via-then-is_outside w ↦ wrong_slots b (ap outside (sym (slots_read b c.u32_at-slots.ensures)) ∙ sym c.is_outside.ensures.answer ∙ w.if-is_outside.true)
      | then-is_outside-via-else-is_outside+then-bytes-count w ↦ too_many b (count_read b c.u32_at-count.ensures) w.if-bytes-count.true
    ])

pub total_in-requires : goal.total_in-requires
total_in-requires c =
    let r = c.is_outside.ensures.inside c.if-is_outside.false in
    record { slots_in_fact = record { low = r.0; high = r.1 }; count_is = count_read _ c.u32_at-count.ensures; inside = omega arith }

pub returns-in_err-total : goal.returns-in_err-total
returns-in_err-total c =
    let e : c.from_residual.result ≡ Err c.in_err-total.field-0.0 = search rules in
    rw e (unformed _ (slots_read _ c.u32_at-slots.ensures) c.total_in.ensures c.in_err-total.was)

pub overflow_mul-total : goal.overflow_mul-total
overflow_mul-total c =
    omega (arith, few_words _ (slots_read _ c.u32_at-slots.ensures) c.total_in.ensures (c.is_outside.ensures.inside c.if-is_outside.false) c.in_ok-total.was)

pub overflow_add-count-2 : goal.overflow_add-count-2
overflow_add-count-2 c =
    omega (arith, few_words _ (slots_read _ c.u32_at-slots.ensures) c.total_in.ensures (c.is_outside.ensures.inside c.if-is_outside.false) c.in_ok-total.was)

pub returns-then-bytes-count-2 : goal.returns-then-bytes-count-2
returns-then-bytes-count-2 c =
    no_file _ (wrong_size _ (count_read _ c.u32_at-count.ensures) (formed _ (slots_read _ c.u32_at-slots.ensures) c.total_in.ensures c.in_ok-total.was).1 (λ e. omega arith))

pub invariant_of-result : goal.invariant_of-result
invariant_of-result c =
    let slots = slots_read _ c.u32_at-slots.ensures in
    let count = count_read _ c.u32_at-count.ensures in
    record {
      accepted = a_file _ slots count (sym c.is_outside.ensures.answer ∙ c.if-is_outside.false) c.total_in.ensures c.in_ok-total.was (omega arith);
      slots_is = slots;
      count_is = count ∙ sym (length_told _);
      total_is = (formed _ slots c.total_in.ensures c.in_ok-total.was).1;
    }
