use Rattle.std.proofs.Common.{ap}
use Rattle.dp_engine.specs.Builders.{BuilderView}
use Rattle.dp_engine.proofs.Building.{builder_more}
use Rattle.dp_engine.proofs.builder.MemoryBuilder.take.Goals as goal

pub invariant_of-self : goal.invariant_of-self
invariant_of-self c =
    (builder_more c.self.inside.heap c.reserve.new.heap c.self.inside.zones c.reserve.new.zones c.self.inside.spare c.args.len c.reserve.result.offset
    c.args.self.now.left c.args.name.now
    c.self.invariant (ap (λ (v : BuilderView). v.left) c.self.view_is) c.requires.room c.reserve.ensures.taken c.reserve.ensures.home c.reserve.ensures.counted
    c.reserve.ensures.names).0

pub returns-clause-left : goal.returns-clause-left
returns-clause-left c =
    (builder_more c.self.inside.heap c.reserve.new.heap c.self.inside.zones c.reserve.new.zones c.self.inside.spare c.args.len c.reserve.result.offset
    c.args.self.now.left c.args.name.now
    c.self.invariant (ap (λ (v : BuilderView). v.left) c.self.view_is) c.requires.room c.reserve.ensures.taken c.reserve.ensures.home c.reserve.ensures.counted
    c.reserve.ensures.names).1
