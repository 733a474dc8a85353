-- All are digits if those that are left are.
use Rattle.std.proofs.Common.{◌≡◌, drop}
use Rattle.std.specs.{Char.is_ascii_digit, List.list_all}
use Rattle.dp_request.proofs.operands.are_digits.Given as goal

abbrev pub invariant-loop-byte : goal.invariant-loop-byte
invariant-loop-byte l = list_all is_ascii_digit (drop l.byte-index l.word) ≡ list_all is_ascii_digit l.word
