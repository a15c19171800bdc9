-- `map_file::writing::write_values` meets its contract. Assumes nothing.
use mathlib.Core.Path.{refl}
use native.Mathlib.Omega.{arith}
use Rattle.std.specs.Int.{w64}
use Rattle.map_file.specs.Laws.Numbers.{length_bytes_of}
use Rattle.map_file.proofs.Filing.{filing_none, filing_more, put_le}
use Rattle.map_file.proofs.writing.write_values.Goals as goal

pub loop-j-init : goal.loop-j-init
loop-j-init c = (filing_none _ _ _ _, refl)

pub loop-j-preserved : goal.loop-j-preserved
loop-j-preserved c =
    let v = c.loop-j.invariant in
    let a = c.args in
    (filing_more v.0 8 (length_bytes_of 8) 0 refl (omega (arith, v.1)) (omega (arith, v.1)) (put_le w64 _ _ _ _ _ c.to_le_bytes.ensures c.put.ensures), v.1)
