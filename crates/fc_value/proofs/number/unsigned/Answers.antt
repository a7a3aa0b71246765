use Rattle.std.proofs.Common.{arith}
use Rattle.fc_value.proofs.Digits.{unsigned_more, next_bound, fits_wide}
use Rattle.fc_value.proofs.number.unsigned.Goals as goal

pub overflow_mul-number : goal.overflow_mul-number
overflow_mul-number c =
    let wide = fits_wide c.loop-byte.byte-index c.loop-byte.number c.loop-byte.invariant.bound (omega (arith, c.loop-byte-test.true, c.requires)) in
    omega (arith, wide)

pub loop-byte-preserved : goal.loop-byte-preserved
loop-byte-preserved c =
    let byte = c.type_inv.bytes c.loop-byte.byte-index in
    record {
      value = unsigned_more c.args.bytes.now c.loop-byte.byte-index 0 c.loop-byte.number c.from.result c.loop-byte-test.true c.loop-byte.invariant.value c.from.ensures;
      bound = next_bound c.loop-byte.byte-index c.loop-byte.number c.from.result c.loop-byte.invariant.bound (omega (arith, byte, c.from.ensures));
    }
