-- There are as many rows as instructions, before and after.
use Rattle.std.proofs.Common.{length, ap, sym, ◌∙◌, arith}
use Rattle.std.proofs.lemmas.Grind.{common_steps}
use Rattle.std.proofs.lemmas.List.{with_items_is}
use Rattle.dp_cert.specs.Spelling.{Certificate}
use Rattle.dp_infer.proofs.Infers.{found_long}
use Rattle.dp_infer.proofs.inferring.widened_rows.Goals as goal

pub widen-requires-clause-same_length : goal.widen-requires-clause-same_length
widen-requires-clause-same_length c =
    ap length c.deref_mut.ensures.value
    ∙ (found_long c.instrs.result.now c.args.env.now c.args.entry _ c.in_ok-rows.ensures.found
    ∙ (ap length c.instrs.ensures.same ∙ sym (ap length c.instrs-2.ensures.same)))

pub returns-clause-long : goal.returns-clause-long
returns-clause-long c =
    ap (λ (cert : Certificate). length cert.rows) c.new.ensures
    ∙ (ap length (with_items_is c.in_ok-rows.rows c.widen.new.rows (c.widen.ensures.long ∙ c.deref_mut.ensures.len))
    ∙ (c.widen.ensures.long
    ∙ (ap length c.deref_mut.ensures.value
    ∙ (found_long c.instrs.result.now c.args.env.now c.args.entry _ c.in_ok-rows.ensures.found
    ∙ ap length c.instrs.ensures.same))))

pub new-requires : goal.new-requires
new-requires c = grind (arith, common_steps)

pub returns-clause-well_formed : goal.returns-clause-well_formed
returns-clause-well_formed c = grind (arith, common_steps)

pub returns-clause-widened_to_end : goal.returns-clause-widened_to_end
returns-clause-widened_to_end c = grind (arith, common_steps)
