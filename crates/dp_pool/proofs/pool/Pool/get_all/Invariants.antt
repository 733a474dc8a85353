-- The first k slots have an object.
use Rattle.std.proofs.Common.{◌≡◌, ◌+◌, length, take}
use Rattle.dp_pool.specs.Queues.{in_count}
use Rattle.dp_pool.specs.Pools.{AreGot}
use Rattle.dp_pool.proofs.pool.Pool.get_all.Given as goal

abbrev pub invariant-loop-slot : goal.invariant-loop-slot
invariant-loop-slot l = record {
  got : AreGot l.initial.self (take l.slot-index l.indexes) l.self;
  counted : in_count l.self.out + l.slot-index ≡ in_count l.initial.self.out;
  long : length l.indexes ≡ length l.initial.indexes;
}
