-- `trace_rounds`: one more round, the end, and a fault.
use Rattle.std.proofs.Common.{rules, ◌≡◌, Result, Ok, length, map, refl, sym, ap, ◌∙◌, arith}
use Rattle.std.specs.Prelude.{Err, ⊤}
use Rattle.dp_pipe.specs.declared.forwarding.RunCause.{RunCause}
use Rattle.dp_pipe.specs.Devices.{seen, AllFared, failed_reader}
use Rattle.dp_pipe.proofs.Faring.{readers_then}
use Rattle.dp_pipe.specs.Tracing.{TracesRound, TracesUntil}
use Rattle.dp_pipe.proofs.TracedReads.{all_traced, none_wanted}
use Rattle.dp_pipe.proofs.tracing.trace_rounds.Goals as goal
use Rattle.dp_pipe.proofs.tracing.trace_rounds.Goals.{After-trace_round}

-- the result where tracing stops
gone : (g : _) (c : goal.After-from_residual g) → c.from_residual.result ≡ Err c.in_err-trace_round.field-0.0
gone g c = search rules

pub trace_round-requires : goal.trace_round-requires
trace_round-requires g c =
    let inv = c.loop-k.invariant in
    let (v0, e0, most, had, until) = c.requires.until in
    let ports = ap (λ (s : _). length s.env.ports) inv.setting in (
      omega arith,
      (
        record {
          inputs = inv.inputs ∙ c.requires.can.inputs ∙ sym ports;
          ins = inv.ins ∙ c.requires.can.ins ∙ sym ports;
          few = omega (arith, inv.ins, c.requires.can.few);
          buf = rw inv.buf c.requires.can.buf;
          limit = omega (arith, inv.turns, c.requires.can.limit);
        },
        (v0, e0, most, had, c.loop-k.k, rw inv.only (inv.goes v0 e0 most had until)),
      ),
    )

-- the round that was made
went : (g : _) (c : After-trace_round g) (v0 : _) (e0 : _) (most : _) (had : _)
    → TracesUntil g.T.Watch.sees g.T.Tracer.noted v0 c.args.tracer.now c.args.which.port most e0 c.args.engine.now had
    (map (seen g.R.Feed.remaining g.R.Feed.calls) c.args.ins.now) c.args.inputs.now 0 0 c.args.which.records
    → TracesRound g.T.Watch.sees g.T.Tracer.noted v0 c.trace_round.new.tracer c.args.which.port most e0 c.trace_round.new.engine had
    (map (seen g.R.Feed.remaining g.R.Feed.calls) c.trace_round.new.ins) c.trace_round.new.inputs c.loop-k.k c.trace_round.new.which.records
    c.trace_round.result
went g c v0 e0 most had until =
    rw (← c.loop-k.invariant.only) (c.trace_round.ensures.goes v0 e0 most had c.loop-k.k
    (rw c.loop-k.invariant.only (c.loop-k.invariant.goes v0 e0 most had until)))

-- how the readers are after each result
fared : (g : _) (c : After-trace_round g) (given : Result ⊤ RunCause) → c.trace_round.result ≡ given
    → AllFared g.R.Feed.is_broken g.R.Feed.failures (failed_reader given) c.args.ins.now c.trace_round.new.ins
fared g c given is =
    let inv = c.loop-k.invariant in
    readers_then g.R.Feed.is_broken g.R.Feed.failures c.trace_round.result given c.args.ins.now c.loop-k.ins c.trace_round.new.ins inv.ins inv.readers
    c.trace_round.ensures.fared is

pub loop-k-preserved : goal.loop-k-preserved
loop-k-preserved g c =
    let inv = c.loop-k.invariant in
    let t = c.trace_round in
    let (inputs, ins, buf) = t.ensures.many in
    record {
      inputs = inputs ∙ inv.inputs;
      ins = ins ∙ inv.ins;
      buf = buf ∙ inv.buf;
      only = t.ensures.port ∙ inv.only;
      turns = t.ensures.turns ∙ inv.turns;
      setting = t.ensures.setting ∙ inv.setting;
      goes = λ v0 e0 most had until.
          rw c.in_ok-trace_round.was at (went g (goal.at.loop-k-preserved g c).After-trace_round v0 e0 most had until);
      readers = fared g (goal.at.loop-k-preserved g c).After-trace_round (Ok tt) c.in_ok-trace_round.was;
    }

pub returns-then-not-is_any_left-clause-goes : goal.returns-then-not-is_any_left-clause-goes
returns-then-not-is_any_left-clause-goes g c v0 e0 most had until =
    all_traced (c.loop-k.invariant.goes v0 e0 most had until)
    (rw (← c.loop-k.invariant.only) (c.if-not-is_any_left.ensures.none refl))

pub returns-in_err-trace_round-clause-goes : goal.returns-in_err-trace_round-clause-goes
returns-in_err-trace_round-clause-goes g c v0 e0 most had until =
    rw (gone g c) (rw c.in_err-trace_round.was at (went g (goal.at.returns-in_err-trace_round-clause-goes g c).After-trace_round v0 e0 most had until))

pub returns-clause-goes : goal.returns-clause-goes
returns-clause-goes g c v0 e0 most had until =
    let here = c.loop-k.invariant.goes v0 e0 most had until in
    all_traced here (none_wanted here refl (omega (arith, c.loop-k-test.false)))

pub returns-then-not-is_any_left-clause-fared : goal.returns-then-not-is_any_left-clause-fared
returns-then-not-is_any_left-clause-fared g c = c.loop-k.invariant.readers

pub returns-in_err-trace_round-clause-fared : goal.returns-in_err-trace_round-clause-fared
returns-in_err-trace_round-clause-fared g c =
    fared g (goal.at.returns-in_err-trace_round-clause-fared g c).After-trace_round c.from_residual.result (c.in_err-trace_round.was ∙ sym (gone g c))

pub returns-clause-fared : goal.returns-clause-fared
returns-clause-fared g c = c.loop-k.invariant.readers
