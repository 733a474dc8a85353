-- `run_ready`: there are as many captures as ports, and the run is over them; or they are not opened.
use Rattle.std.proofs.Common.{◌∙◌, sym, ap, inr, length, map}
use Rattle.dp_captures.specs.Names.{input_capture, output_capture}
use Rattle.dp_cli.proofs.running.run_ready.Goals as goal

-- as many captures as ports are open
pub run_opened-requires-clause-inputs : goal.run_opened-requires-clause-inputs
run_opened-requires-clause-inputs g c =
    ap (λ xs. length xs) c.as_mut_slice.ensures.value ∙ c.in_default-opened.ensures.many.0 ∙ ap (λ xs. length xs) c.as_slice-2.ensures.value
    ∙ c.in-Ok.ensures.many

pub run_opened-requires-clause-outputs : goal.run_opened-requires-clause-outputs
run_opened-requires-clause-outputs g c =
    ap (λ xs. length xs) c.as_mut_slice-2.ensures.value ∙ c.in_default-opened.ensures.many.1 ∙ ap (λ xs. length xs) c.as_slice-2.ensures.value
    ∙ c.in-Ok.ensures.many

-- the run is over the captures that were opened
pub returns : goal.returns
returns g c = record {
  names = c.as_slice-2.result.now;
  named = record {
    read = ap (λ names. map input_capture names) c.as_slice-2.ensures.value ∙ c.in-Ok.ensures.inputs;
    written = ap (λ names. map output_capture names) c.as_slice-2.ensures.value ∙ c.in-Ok.ensures.outputs;
  };
  ins = c.as_mut_slice.result.now;
  ins' = c.run_opened.new.inputs;
  outs = c.as_mut_slice-2.result.now;
  outs' = c.run_opened.new.outputs;
  opened = rw (sym c.as_mut_slice.ensures.value) at c.in_default-opened.ensures.inputs;
  made = rw (sym c.as_mut_slice-2.ensures.value) at c.in_default-opened.ensures.outputs;
  reads = c.as_slice.result.now;
  guarded = rw (sym c.as_mut_slice.ensures.value, sym c.as_mut_slice-2.ensures.value) at c.in_default-opened.ensures.guarded;
  says = rw (c.take_stdout-2.ensures) at c.run_opened.ensures;
}

-- no run is over captures that were not opened
pub returns-in-Err : goal.returns-in-Err
returns-in-Err g c = inr (record {
  names = c.as_slice-2.result.now;
  named = record {
    read = ap (λ names. map input_capture names) c.as_slice-2.ensures.value ∙ c.in-Ok.ensures.inputs;
    written = ap (λ names. map output_capture names) c.as_slice-2.ensures.value ∙ c.in-Ok.ensures.outputs;
  };
  ins = c.open_captures-opened.new.inputs.items;
  outs = c.open_captures-opened.new.outputs.items;
  fault = c.in-Err.fault;
  first = c.in-Err.ensures.first;
  status_is = c.aside.ensures.status_is ∙ c.unopened.ensures;
})
