-- The pools, rings and transmit lists are those that lie in the engine's memory.
use Rattle.dp_engine.proofs.Parts.{parts_back}
use Rattle.dp_engine.proofs.engine.Engine.close.Goals as goal

pub close-requires : goal.close-requires
close-requires g c =
    let (home, all) = parts_back c.self.inside.memory c.self.inside.machine.frames c.into_parts-mbufs.result.0.zones c.into_parts-mbufs.result.1
    (record { pools = c.into_pools-pools.result; rings = c.into_rings-rings.result.0; lists = c.into_rings-rings.result.1 }) c.self.invariant.stand
    c.into_parts-mbufs.ensures.frames
    c.into_pools-pools.ensures.first c.into_pools-pools.ensures.zones c.into_rings-rings.ensures.rings c.into_rings-rings.ensures.outboxes in
    record { home = home; all = all }
