use Rattle.std.proofs.Common.{◌*◌, sym, subst, Option}
use Rattle.std.specs.Prelude.{is_some, if◌then◌else◌}
use Rattle.dp_pool.specs.Pools.{PoolView}
use Rattle.dp_engine.specs.Memories.{Returns}
use Rattle.dp_engine.proofs.Returned.{seen, two_back}
use Rattle.dp_engine.proofs.memory.EngineMemory.end_pool.Goals as goal

pub returns-in-Some : goal.returns-in-Some
returns-in-Some c =
    subst (λ (o : Option PoolView). Returns (2 * (if is_some o then 1 else 0)) c.args.self.now (seen c.unmake.new.heap)) (sym c.in-Some.is)
    (two_back c.self.inside.heap c.unmake.new.heap c.args.self.now c.in-Some.pool.zones.object_offset c.in-Some.pool.zones.queue_offset c.self.view_is
    c.unmake.ensures.heap c.unmake.ensures.counted)
