-- What is said of the instruction and its row is said of the label.
use Rattle.std.proofs.Common.{◌∙◌, sym, ap, Some, false, [], arith}
use Rattle.dp_check.specs.Faults.{question}
use Rattle.dp_check.proofs.GapLemmas.{explained, at_index}
use Rattle.dp_check.proofs.rules.reason_at.Goals as goal

pub returns-clause-explains : goal.returns-clause-explains
returns-clause-explains c = λ version entry.
    explained (question c.args.program.now (record { version = version; rows = c.args.rows.now }) c.args.env.now entry) c.args.label _ _ c.reason_in.result
    (at_index c.args.program.now c.args.label _ c.index-program-index.result c.from-index.ensures c.requires.in_range
    ∙ ap Some (sym c.index-program-index.is))
    (at_index c.args.rows.now c.args.label _ (record { live = false; facts = []; bounds = [] }) c.from-index.ensures
    (omega (arith, c.requires.in_range, c.requires.same_length)))
    (c.reason_in.ensures.says version entry)
