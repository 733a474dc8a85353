use Rattle.std.proofs.Common.{◌∙◌, sym}
use Rattle.dp_request.proofs.Numbers.{parsed}
use Rattle.dp_request.proofs.operands.number_in.Goals as goal

pub returns-then-are_digits : goal.returns-then-are_digits
returns-then-are_digits c = c.ok.ensures.value ∙ parsed c.args.word.now c.parse.result (sym c.are_digits.ensures ∙ c.if-are_digits.true) c.parse.ensures.value.0
