-- `assemble`: the instructions of all statements are a program.
use Rattle.std.proofs.Common.{◌≤◌, length, rules}
use Rattle.dp_lang.proofs.Assembled.{is_program}
use Rattle.dp_lang.proofs.assembler.assemble.Goals as goal

pub of-requires : goal.of-requires
of-requires c =
    let some : 1 ≤ length c.in_ok-instrs.instrs.items = search rules in
    is_program c.in_ok-source.source c.in_ok-instrs.instrs.items c.in_ok-instrs.ensures some
