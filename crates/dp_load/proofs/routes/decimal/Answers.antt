-- `decimal`: one more digit, and a byte that is none.
use Rattle.std.proofs.Common.{◌<◌, arith}
use Rattle.dp_load.proofs.Digits.{digit_at, stays_small}
use Rattle.dp_load.proofs.routes.decimal.Goals as goal

pub overflow_mul-value : goal.overflow_mul-value
overflow_mul-value c =
    let small : c.loop-digit.value < 10000000 = stays_small c.loop-digit.value c.loop-digit.digit-index c.loop-digit.invariant.small (omega arith) in
    omega arith

pub overflow_add-value : goal.overflow_add-value
overflow_add-value c =
    let small : c.loop-digit.value < 10000000 = stays_small c.loop-digit.value c.loop-digit.digit-index c.loop-digit.invariant.small (omega arith) in
    let range = digit_at c.args.digits.now c.loop-digit.digit-index c.loop-digit-test.true c.requires.digits in
    omega (arith, c.from.ensures, range.0, range.1)
