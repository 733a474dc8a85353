-- The captures are open and apart; or the fault is the first.
use Rattle.std.proofs.Common.{inl, inr, ap, arith, length}
use Rattle.std.proofs.lemmas.Result.{IfErr-weaker}
use Rattle.dp_captures.specs.{Files.IsOpenedInput, Files.IsOpenedOutput, Names.input_capture, Names.output_capture}
use Rattle.dp_captures.proofs.Opened.{all_opened, guarded, none_opened, on_ok}
use Rattle.dp_captures.proofs.opening.open_captures.Goals as goal

pub files_of_run-requires-2 : goal.files_of_run-requires-2
files_of_run-requires-2 g c = omega (arith, ap length c.as_slice-2.ensures.value, c.in_default.ensures.all)

pub refuse_open-requires : goal.refuse_open-requires
refuse_open-requires g c = omega (arith, ap length c.as_slice-3.ensures.value, c.in_default-open_outputs.ensures.all)

pub returns-in-Err-clause-first : goal.returns-in-Err-clause-first
returns-in-Err-clause-first g c = inl (c.open_inputs.ensures.opened, c.in-Err.ensures.first, c.requires.none.1)

pub returns-in_default-files_of_run-clause-first : goal.returns-in_default-files_of_run-clause-first
returns-in_default-files_of_run-clause-first g c = inr (
  all_opened IsOpenedInput input_capture c.args.names.now c.open_inputs.new.inputs.items _ c.in_default.ensures.all c.open_inputs.ensures.opened,
  none_opened IsOpenedOutput output_capture c.args.names.now c.args.outputs.now.items c.requires.none.1,
  tt,
)

pub returns-in-Err-open_outputs-clause-first : goal.returns-in-Err-open_outputs-clause-first
returns-in-Err-open_outputs-clause-first g c = inr (
  all_opened IsOpenedInput input_capture c.args.names.now c.open_inputs.new.inputs.items _ c.in_default.ensures.all c.open_inputs.ensures.opened,
  c.open_outputs.ensures.opened,
  c.in-Err-open_outputs.ensures.first,
)

pub returns-in_default-files_of_run-2-clause-first : goal.returns-in_default-files_of_run-2-clause-first
returns-in_default-files_of_run-2-clause-first g c = inr (
  all_opened IsOpenedInput input_capture c.args.names.now c.open_inputs.new.inputs.items _ c.in_default.ensures.all c.open_inputs.ensures.opened,
  c.open_outputs.ensures.opened,
  tt,
)

pub returns-in-Err-refuse_named-clause-first : goal.returns-in-Err-refuse_named-clause-first
returns-in-Err-refuse_named-clause-first g c = inr (
  all_opened IsOpenedInput input_capture c.args.names.now c.open_inputs.new.inputs.items _ c.in_default.ensures.all c.open_inputs.ensures.opened,
  none_opened IsOpenedOutput output_capture c.args.names.now c.args.outputs.now.items c.requires.none.1,
  c.in-Err-refuse_named.ensures,
)

pub returns-clause-inputs : goal.returns-clause-inputs
returns-clause-inputs g c = on_ok c.refuse_open.result _
    (all_opened IsOpenedInput input_capture c.args.names.now c.open_inputs.new.inputs.items _ c.in_default.ensures.all c.open_inputs.ensures.opened)

pub returns-clause-many : goal.returns-clause-many
returns-clause-many g c = on_ok c.refuse_open.result _ (c.in_default.ensures.all, c.in_default-open_outputs.ensures.all)

pub returns-clause-guarded : goal.returns-clause-guarded
returns-clause-guarded g c = guarded c.args.reads.now c.open_inputs.new.inputs.items _ c.open_outputs.new.outputs.items _ c.in-Ok-files_of_run.kept.items
    c.refuse_open.result c.in-Ok-files_of_run.ensures c.as_slice-2.ensures.value c.as_slice-3.ensures.value c.refuse_open.ensures.apart

pub returns-clause-first : goal.returns-clause-first
returns-clause-first g c = IfErr-weaker c.refuse_open.result _ _ (λ fault of_output. inr (
  all_opened IsOpenedInput input_capture c.args.names.now c.open_inputs.new.inputs.items _ c.in_default.ensures.all c.open_inputs.ensures.opened,
  c.open_outputs.ensures.opened,
  of_output,
)) c.refuse_open.ensures.named

pub returns-clause-outputs : goal.returns-clause-outputs
returns-clause-outputs g c = on_ok c.refuse_open.result _
    (all_opened IsOpenedOutput output_capture c.args.names.now c.open_outputs.new.outputs.items _ c.in_default-open_outputs.ensures.all
    c.open_outputs.ensures.opened)
