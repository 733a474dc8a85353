-- `print`: the instructions so far are printed, and the rest is to come.
use Rattle.std.proofs.Common.{◌≡◌, ◌++◌, drop, string_bytes}
use Rattle.dp_lang.specs.Printing.{printed_from, printed}
use Rattle.dp_lang.proofs.printer.print.Given as goal

abbrev pub invariant-loop-i : goal.invariant-loop-i
invariant-loop-i l = string_bytes l.out ++ printed_from l.program l.i (drop l.i l.instrs) ≡ printed l.program
