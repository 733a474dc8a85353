-- `drain_all`: one more port, and the first that is not written. The writer of the port is derived once.
use Rattle.std.proofs.Common.{ℕ, suc, ◌≡◌, ◌+◌, false, Err, map, refl, sym, ap, ◌∙◌, subst, arith}
use Rattle.std.specs.Prelude.{slice_get, slice_set, slice_index_or, Some, IsTrue, ⊤}
use Rattle.std.proofs.lemmas.Bool.{ne_eqb}
use Rattle.std.proofs.lemmas.List.{length-map, length-set}
use Rattle.std.proofs.lemmas.Option.{same_Some, slice_get-get_or}
use Rattle.dp_model.specs.Laws.Lists.{get_set_same, each_at}
use Rattle.dp_engine.specs.Engines.{drained}
use Rattle.dp_engine.specs.Outcomes.{sent_of}
use Rattle.dp_pipe.specs.Devices.{Device, seen, failed_drain}
use Rattle.dp_pipe.specs.Forwarding.{DrainedFirst}
use Rattle.dp_pipe.proofs.Forwarded.{drained_next, drain_on, stopped, ok_some, err_some}
use Rattle.dp_pipe.proofs.Giving.{drained_part, drained_whole}
use Rattle.dp_pipe.proofs.Faring.{fared_sound, failed_here, one_then, still_sound}
use Rattle.dp_pipe.proofs.forwarding.drain_all.Goals as goal
use Rattle.dp_pipe.proofs.forwarding.drain_all.Goals.{After-drain}

writer : (g : _) (c : After-drain g) → slice_get c.loop-port.outs c.loop-port.port
    ≡ Some (slice_index_or c.loop-port.outs c.loop-port.port c.index-outs-port.result)
writer g c = slice_get-get_or c.loop-port.outs c.loop-port.port c.index-outs-port.result (omega (arith, c.loop-port.invariant.many, c.loop-port-test.true))

-- how it is seen before its drain and after it
abbrev before : (g : _) → After-drain g → Device
before g c = seen g.W.Sink.contents g.W.Sink.calls (slice_index_or c.loop-port.outs c.loop-port.port c.index-outs-port.result)

abbrev after : (g : _) → After-drain g → Device
after g c = seen g.W.Sink.contents g.W.Sink.calls c.drain.new.w

pub returns-then-is_err-clause-broken : goal.returns-then-is_err-clause-broken
returns-then-is_err-clause-broken g c w at =
    let here = writer g (goal.at.returns-then-is_err-clause-broken g c).After-drain in
    let is = same_Some _ _ (sym (get_set_same c.loop-port.outs c.loop-port.port c.drain.new.w _ here) ∙ at) in
    subst (λ x. IsTrue (g.W.Sink.is_broken x)) is (c.drain.ensures.broken (sym c.if-is_err.ensures.value))

pub loop-port-preserved : goal.loop-port-preserved
loop-port-preserved g c =
    let inv = c.loop-port.invariant in
    let here = writer g (goal.at.loop-port-preserved g c).After-drain in
    let (sent, ok, (records, at, (count, wrote))) = ok_some c.drain.result _ c.if-is_err.ensures.value c.drain.ensures.ok in
    record {
      first = subst (λ n. DrainedFirst n c.args.unit c.args.time c.args.engine.now c.drain.new.self (map
          (seen g.W.Sink.contents g.W.Sink.calls) c.args.outs.now)
          (map (seen g.W.Sink.contents g.W.Sink.calls) (slice_set c.loop-port.outs c.loop-port.port c.drain.new.w))) (one_more c.loop-port.port)
          (drained_next c.loop-port.port c.args.unit c.args.time c.args.engine.now c.loop-port.engine c.drain.new.self _ _ _
          (omega (arith, c.loop-port-test.true, c.requires.few, c.requires.counted))
          (length-map c.loop-port.outs (seen g.W.Sink.contents g.W.Sink.calls) ∙ inv.many ∙ sym (length-map c.args.outs.now
          (seen g.W.Sink.contents g.W.Sink.calls))) inv.first
          (drain_on (seen g.W.Sink.contents g.W.Sink.calls) c.loop-port.port c.args.unit c.args.time c.loop-port.engine c.drain.new.self c.loop-port.outs _
          c.drain.new.w sent records
          here at count (drained_whole c.args.unit c.args.time c.loop-port.port c.loop-port.engine.world (before g
          (goal.at.loop-port-preserved g c).After-drain)
          (after g (goal.at.loop-port-preserved g c).After-drain) sent records at count wrote
          (rw ok at c.drain.ensures.counted)) (c.drain.ensures.empty ∙ ap (λ n. drained c.loop-port.port n c.loop-port.engine) (ap sent_of ok))));
      many = length-set c.loop-port.outs c.loop-port.port c.drain.new.w ∙ inv.many;
      fared = λ sound.
          let was = each_at (λ x. g.W.Sink.is_broken x ≡ false) c.loop-port.outs c.loop-port.port _
          (still_sound g.W.Sink.is_broken g.W.Sink.failures c.args.outs.now c.loop-port.outs inv.many (inv.fared sound) sound) here in
          one_then g.W.Sink.is_broken g.W.Sink.failures (λ q. false) c.loop-port.port c.args.outs.now c.loop-port.outs _ c.drain.new.w inv.many
          (inv.fared sound) here
          (fared_sound g.W.Sink.is_broken g.W.Sink.failures _ c.drain.new.w was (c.drain.ensures.sound (rw ok refl) was) (rw ok at c.drain.ensures.failures))
          (λ q other. refl);
    }
  where
    one_more : (n : ℕ) → suc n ≡ n + 1
    one_more n = omega arith

pub returns-then-is_err-clause-err : goal.returns-then-is_err-clause-err
returns-then-is_err-clause-err g c =
    let here = writer g (goal.at.returns-then-is_err-clause-err g c).After-drain in
    let (fault, err, (records, at, wrote)) = err_some c.drain.result _ c.if-is_err.ensures.value c.drain.ensures.err in
    stopped (seen g.W.Sink.contents g.W.Sink.calls) c.loop-port.port c.args.unit c.args.time c.args.engine.now c.loop-port.engine c.drain.new.self
    c.args.outs.now c.loop-port.outs
    _ c.drain.new.w fault.sent records (omega (arith, c.loop-port-test.true, c.requires.many)) c.loop-port.invariant.first here at
    (drained_part c.args.unit c.args.time c.loop-port.port c.loop-port.engine.world (before g (goal.at.returns-then-is_err-clause-err g c).After-drain)
    (after g (goal.at.returns-then-is_err-clause-err g c).After-drain) fault.sent records at wrote (rw err at c.drain.ensures.counted))
    (c.drain.ensures.empty ∙ ap (λ n. drained c.loop-port.port n c.loop-port.engine) (ap sent_of err))

pub returns-then-is_err-clause-fared : goal.returns-then-is_err-clause-fared
returns-then-is_err-clause-fared g c sound =
    let inv = c.loop-port.invariant in
    let here = writer g (goal.at.returns-then-is_err-clause-fared g c).After-drain in
    let (fault, err, wrote) = err_some c.drain.result _ c.if-is_err.ensures.value c.drain.ensures.err in
    one_then g.W.Sink.is_broken g.W.Sink.failures (failed_drain {A = ⊤} (Err c.loop-port.port)) c.loop-port.port c.args.outs.now c.loop-port.outs _
    c.drain.new.w inv.many (inv.fared sound) here
    (failed_here g.W.Sink.is_broken g.W.Sink.failures c.loop-port.port _ c.drain.new.w (c.drain.ensures.broken (sym c.if-is_err.ensures.value))
    (rw err at c.drain.ensures.failures)) (λ q other. ne_eqb q c.loop-port.port other)

pub returns-clause-fared : goal.returns-clause-fared
returns-clause-fared g c sound = c.loop-port.invariant.fared sound

pub returns-clause-ok : goal.returns-clause-ok
returns-clause-ok g c =
    subst (λ n. DrainedFirst n c.args.unit c.args.time c.args.engine.now c.loop-port.engine (map (seen g.W.Sink.contents g.W.Sink.calls) c.args.outs.now)
    (map (seen g.W.Sink.contents g.W.Sink.calls) c.loop-port.outs))
    (omega (arith, c.loop-port-test.false, c.loop-port.auto.port-end, c.requires.many, c.requires.few)) c.loop-port.invariant.first
