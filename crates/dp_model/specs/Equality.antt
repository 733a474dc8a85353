-- The test for equal environments.
use Rattle.std.specs.Prelude.{Bool, true, false, ◌&&◌, ◌==◌}
use Rattle.std.specs.Cmp.Lexicographic.{pointwise}
use Rattle.dp_model.specs.declared.row.Fact.{Fact}
use Rattle.dp_model.specs.declared.row.Fact.TheVariants.{Empty, Held}
use Rattle.dp_model.specs.declared.env.PoolSpec.{PoolSpec}
use Rattle.dp_model.specs.declared.env.RingSpec.{RingSpec}
use Rattle.dp_model.specs.declared.env.PortSpec.{PortSpec}
use Rattle.dp_model.specs.Environments.{Environment}

abbrev pub same_pool : PoolSpec → PoolSpec → Bool
same_pool a b = (a.count == b.count) && (a.cache == b.cache) && (a.room == b.room)

abbrev pub same_fact : Fact → Fact → Bool
same_fact Empty Empty = true
same_fact (Held share head tail first last segs) (Held s h t f l n) =
    (share == s) && (head == h) && (tail == t) && (first == f) && (last == l) && (segs == n)
same_fact Empty (Held s h t f l n) = false
same_fact (Held share head tail first last segs) Empty = false

abbrev pub same_ring : RingSpec → RingSpec → Bool
same_ring a b = (a.count == b.count) && same_fact a.fact b.fact

abbrev pub same_port : PortSpec → PortSpec → Bool
same_port a b = (a.pool == b.pool) && (a.segs == b.segs) && (a.queue == b.queue)

-- equal numbers of tables, and equal pools, rings and ports
abbrev pub same_environment : Environment → Environment → Bool
same_environment a b =
    (a.tables == b.tables) && pointwise same_pool a.pools b.pools && pointwise same_ring a.rings b.rings && pointwise same_port a.ports b.ports
