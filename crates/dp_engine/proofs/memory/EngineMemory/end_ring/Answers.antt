use Rattle.std.proofs.Common.{sym, subst, Option}
use Rattle.std.specs.Prelude.{is_some, if◌then◌else◌}
use Rattle.dp_ring.specs.Rings.{RingView}
use Rattle.dp_engine.specs.Memories.{Returns}
use Rattle.dp_engine.proofs.Returned.{seen, one_back}
use Rattle.dp_engine.proofs.memory.EngineMemory.end_ring.Goals as goal

pub returns-in-Some : goal.returns-in-Some
returns-in-Some c =
    subst (λ (o : Option RingView). Returns (if is_some o then 1 else 0) c.args.self.now (seen c.give_back.new.heap)) (sym c.in-Some.is)
    (one_back c.self.inside.heap c.give_back.new.heap c.args.self.now c.into_zone.result.offset c.self.view_is c.give_back.ensures.heap
    c.give_back.ensures.counted)
