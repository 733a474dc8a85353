-- The indexes after this one are put back as they would be after those before it.
use Rattle.std.proofs.Common.{◌≡◌, drop}
use Rattle.dp_pool.specs.Queues.{AreOut, all_returned}
use Rattle.dp_pool.proofs.indexes.Indexes.put_each.Given as goal

abbrev pub invariant-loop-index : goal.invariant-loop-index
invariant-loop-index l =
    (all_returned l.self (drop l.index-index l.fn.indexes) ≡ all_returned l.fn.self l.fn.indexes) × AreOut l.self.out (drop l.index-index l.fn.indexes)
