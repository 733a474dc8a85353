-- `numeral`: one digit more, and a number that is too large.
use Rattle.std.proofs.Common.{rules, ◌<◌, ◌+◌, ◌*◌, get_or, arith}
use Rattle.std.proofs.lemmas.Grind.{common_steps}
use Rattle.std.specs.Char.{digit_value}
use Rattle.dp_lang.specs.Kinds as spec
use Rattle.dp_lang.proofs.Numerals.{overflows}
use Rattle.dp_lang.proofs.operand.numeral.Goals as goal

pub returns-in_err-checked_mul : goal.returns-in_err-checked_mul
returns-in_err-checked_mul c =
    let small : digit_value (get_or c.args.digits.now c.loop-digit.digit-index 0) < c.args.radix = search rules in
    let over : 18446744073709551615 < c.loop-digit.value * c.args.radix + digit_value (get_or c.args.digits.now c.loop-digit.digit-index 0) = search rules in
    rw c.from_residual-in_err-checked_mul.ensures (λ n e. overflows c.args.radix c.loop-digit.value 18446744073709551615 c.args.digits.now
    c.loop-digit.digit-index (spec.numeral c.args.radix c.args.digits.now) (omega arith) (omega arith) small over c.loop-digit.invariant n e)

pub returns-in_err-value : goal.returns-in_err-value
returns-in_err-value c =
    let small : digit_value (get_or c.args.digits.now c.loop-digit.digit-index 0) < c.args.radix = search rules in
    let over : 18446744073709551615 < c.loop-digit.value * c.args.radix + digit_value (get_or c.args.digits.now c.loop-digit.digit-index 0) = search rules in
    rw c.from_residual-in_err-value.ensures (λ n e. overflows c.args.radix c.loop-digit.value 18446744073709551615 c.args.digits.now c.loop-digit.digit-index
    (spec.numeral c.args.radix c.args.digits.now) (omega arith) (omega arith) small over c.loop-digit.invariant n e)

pub returns-in_err-digit : goal.returns-in_err-digit
returns-in_err-digit c = grind (arith, common_steps)

pub loop-digit-preserved : goal.loop-digit-preserved
loop-digit-preserved c = grind (arith, common_steps)

pub returns : goal.returns
returns c = grind (arith, common_steps)
