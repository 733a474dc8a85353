use Rattle.std.proofs.Common.{◌≡◌, ◌+◌, ◌-◌, ◌<◌, arith, subst}
use Rattle.dp_engine.proofs.Served.{Rounds, no_round, one_round, rounds_none, none_of, rounds_all}
use Rattle.dp_engine.proofs.Shown.{Seen, nothing_seen, one_seen, seen_none, seen_all, unseen}
use Rattle.dp_engine.proofs.serving.serve.Goals as goal

pub loop-left-init : goal.loop-left-init
loop-left-init g c = (
  omega arith,
  no_round c.args.context.now c.args.m.now c.requires.rests,
  nothing_seen g.W.Watch.sees c.args.watch.now c.args.context.now c.args.m.now,
)

pub returns-in_default-clause-serves : goal.returns-in_default-clause-serves
returns-in_default-clause-serves g c =
    let l = c.loop-left in
    rounds_none c.args.context.now c.args.m.now l.m (32 - l.left) l.served.runs l.served.steps l.served.cuts c.serve_one.new.m.state.world l.invariant.1
    (none_of c.args.context.now c.loop-left.m.state.world c.serve_one.new.m.state.world c.serve_one.result c.in_default.not-Some c.serve_one.ensures.serves)

pub returns-in_default-clause-watched : goal.returns-in_default-clause-watched
returns-in_default-clause-watched g c =
    let l = c.loop-left in
    let p = c.args.context.now in
    let w2 = c.serve_one.new.m.state.world in
    let (none, is) = none_of p l.m.state.world w2 c.serve_one.result c.in_default.not-Some c.serve_one.ensures.serves in
    seen_none g.W.Watch.sees c.args.watch.now l.watch c.serve_one.new.watch p c.args.m.now l.m (32 - l.left) l.served.runs w2 l.invariant.2 none is
    (unseen g.W.Watch.sees l.watch c.serve_one.new.watch p l.m.state.world c.serve_one.result w2 c.in_default.not-Some c.serve_one.ensures.watched)

pub loop-left-preserved : goal.loop-left-preserved
loop-left-preserved g c =
    let l = c.loop-left in
    let p = c.args.context.now in
    let o = c.in-Some.ensures in
    let run = c.in-Some.field-0 in
    let less : 32 - l.left < 32 = omega (arith, c.loop-left-test.true, l.invariant.0) in
    let next : 32 - l.left + 1 ≡ 32 - (l.left - 1) = omega (arith, c.loop-left-test.true, l.invariant.0) in (
      omega (arith, l.invariant.0),
      subst (λ n. Rounds p c.args.m.now c.serve_one.new.m n (l.served.runs + 1) (l.served.steps + run.steps) (l.served.cuts + run.cuts)) next
          (one_round p c.args.m.now l.m c.serve_one.new.m (32 - l.left) l.served.runs l.served.steps l.served.cuts run less l.invariant.1 o.serves
          o.few_steps.0 o.few_steps.1
          (record { calls = o.calls; packets = o.packets; rests = o.rests; frames = o.frames })),
      subst (λ n. Seen g.W.Watch.sees c.args.watch.now c.serve_one.new.watch p c.args.m.now c.serve_one.new.m n (l.served.runs + 1)) next
          (one_seen g.W.Watch.sees c.args.watch.now l.watch c.serve_one.new.watch p c.args.m.now l.m c.serve_one.new.m (32 - l.left) l.served.runs less
          l.invariant.2 o.watched),
    )

pub returns-clause-serves : goal.returns-clause-serves
returns-clause-serves g c =
    rounds_all c.args.context.now c.args.m.now c.loop-left.m (32 - c.loop-left.left) c.loop-left.served.runs c.loop-left.served.steps c.loop-left.served.cuts
    (omega (arith, c.loop-left-test.false)) c.loop-left.invariant.1

pub returns-clause-watched : goal.returns-clause-watched
returns-clause-watched g c =
    seen_all g.W.Watch.sees c.args.watch.now c.loop-left.watch c.args.context.now c.args.m.now c.loop-left.m (32 - c.loop-left.left) c.loop-left.served.runs
    (omega (arith, c.loop-left-test.false)) c.loop-left.invariant.2
