-- `print`: one instruction more, and the end.
use Rattle.std.proofs.Common.{◌≡◌, ◌∙◌, ap, string_bytes}
use Rattle.std.proofs.lemmas.Option.{get_or_from_slice_get}
use Rattle.dp_lang.specs.Printing.{printed, is_named}
use Rattle.dp_lang.proofs.Labelled.{printed_step}
use Rattle.dp_lang.proofs.printer.print.Goals as goal

pub loop-i-preserved : goal.loop-i-preserved
loop-i-preserved c =
    let i = c.loop-i.i in
    let named : c.index.result.now ≡ is_named c.args.program.now i =
    c.index.ensures
    ∙ get_or_from_slice_get c.in_ok-named.named.items i (is_named c.instrs-instrs.result.now i) c.index.result.now
    (c.in_ok-named.ensures.named i c.loop-i-test.true)
    ∙ ap (λ is. is_named is i) c.instrs-instrs.ensures.same in
    printed_step c.args.program.now c.instrs-instrs.result.now i c.index-instrs-i.result (string_bytes c.loop-i.out) (string_bytes c.push_label.new.out)
    (string_bytes c.push_instr.new.out) (printed c.args.program.now) c.index.result.now
    c.loop-i-test.true c.index-instrs-i.is named c.in_ok-push_label.ensures c.in_ok-push_instr.ensures c.loop-i.invariant
