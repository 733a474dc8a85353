use Rattle.std.proofs.Common.{◌∙◌, ap, sym, arith, zero-add, add-one}
use Rattle.std.proofs.lemmas.Option.{slice_get-get_or}
use Rattle.dp_model.specs.Machine.{live}
use Rattle.dp_model.specs.Packets.{available}
use Rattle.dp_model.specs.Runs.{between}
use Rattle.dp_engine.proofs.Reporting.{pools_more}
use Rattle.dp_engine.proofs.engine.reporting.pool_reports.Goals as goal

pub loop-k-preserved : goal.loop-k-preserved
loop-k-preserved c =
    let free = available c.args.specs.now (live (between c.args.machine.now.state.world)) in
    let there = slice_get-get_or c.args.specs.now c.loop-k.k (record { count = 0; cache = 0; room = 0 }) c.loop-k-test.true in
    let is = c.from.ensures ∙ (c.free_buffers.ensures ∙ ap (λ p. available p (live (between c.args.machine.now.state.world)) c.loop-k.k) c.requires.pools) in
    record {
      answers = c.push.ensures.items ∙ rw (c.loop-k.invariant.answers, is, c.from-in-loop-k.ensures, add-one) (sym
          (pools_more free 0 c.args.specs.now c.loop-k.k c.loop-k.k _ there (sym (zero-add c.loop-k.k))));
      count = omega (arith, c.push.ensures.len, c.loop-k.invariant.count);
    }
