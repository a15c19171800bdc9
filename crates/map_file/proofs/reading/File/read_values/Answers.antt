-- `map_file::reading::File::read_values` meets its contract. Assumes nothing.
use borrow.Author.Rules.{rules}
use Rattle.ring.specs.Laws.Vectors.{filling_none, filling_more, filling_done}
use native.Mathlib.Omega.{arith}
use Rattle.map_file.proofs.Judging.{few_pairs, whole_size, words_read}
use Rattle.map_file.proofs.reading.File.read_values.Goals as goal

pub overflow_mul-from : goal.overflow_mul-from
overflow_mul-from c =
    let f = c.args.self.now in
    record { fits = omega (arith, few_pairs _ f.accepted f.count_is f.total_is) }

pub overflow_add-from : goal.overflow_add-from
overflow_add-from c =
    let f = c.args.self.now in
    record { fits = omega (arith, few_pairs _ f.accepted f.count_is f.total_is) }

pub overflow_add-from-in-loop-j : goal.overflow_add-from-in-loop-j
overflow_add-from-in-loop-j c =
    let f = c.args.self.now in
    record { fits = omega (arith, whole_size _ f.accepted f.count_is f.total_is, c.requires, c.loop-j.invariant.len, c.loop-j-test.true, c.well_formed) }

pub u64_at-requires : goal.u64_at-requires
u64_at-requires c =
    let f = c.args.self.now in
    omega (arith, whole_size _ f.accepted f.count_is f.total_is, c.requires, c.loop-j.invariant.len, c.loop-j-test.true)

pub loop-j-init : goal.loop-j-init
loop-j-init c = filling_none _ _

pub loop-j-preserved : goal.loop-j-preserved
loop-j-preserved c = filling_more c.loop-j.invariant (search rules) c.u64_at.ensures

pub returns : goal.returns
returns c =
    let f = c.args.self.now in
    words_read _ f.accepted f.count_is f.total_is _ c.requires (filling_done c.loop-j.invariant (search rules))
