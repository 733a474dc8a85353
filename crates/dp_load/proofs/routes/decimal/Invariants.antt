-- `decimal`: the number so far, and the rest of the digits.
use Rattle.std.proofs.Common.{◌≡◌, ◌<◌, ◌^◌, drop}
use Rattle.dp_load.specs.Routes.{decimal_after}
use Rattle.dp_load.proofs.routes.decimal.Given as goal

abbrev pub invariant-loop-digit : goal.invariant-loop-digit
invariant-loop-digit l = record {
  answers : decimal_after l.value (drop l.digit-index l.digits) ≡ decimal_after 0 l.digits;
  small : l.value < 10 ^ l.digit-index;
}
