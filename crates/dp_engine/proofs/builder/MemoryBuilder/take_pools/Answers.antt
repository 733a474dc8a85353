use Rattle.std.proofs.Common.{◌∙◌, arith}
use Rattle.std.proofs.lemmas.List.{length-set}
use Rattle.dp_engine.specs.Needs.{pool_bytes}
use Rattle.dp_engine.specs.Memories.{IsNewPool}
use Rattle.dp_engine.proofs.Filled.{next_empty, less_left, next_filled}
use Rattle.dp_engine.proofs.builder.MemoryBuilder.take_pools.Goals as goal

pub put_pool-requires : goal.put_pool-requires
put_pool-requires c =
    let i = c.loop-k.invariant in let slots = i.slots in let few = c.requires.number in let inside = c.loop-k-test.true in
    next_empty (IsNewPool c.args.self.now.home) c.args.specs.now c.loop-k.pools c.loop-k.k _ inside (omega (arith, slots, few, inside)) i.filled

pub loop-k-preserved : goal.loop-k-preserved
loop-k-preserved c =
    let i = c.loop-k.invariant in let r = c.take_pool-pool.ensures in let slots = i.slots in let few = c.requires.number in
    let inside = c.loop-k-test.true in let many = i.many in let more = r.names.1 in
    record {
      left = less_left pool_bytes c.args.specs.now c.loop-k.k _ _ _ _ inside r.left i.left;
      same = (r.same.0 ∙ i.same.0, r.same.1 ∙ i.same.1, r.same.2 ∙ i.same.2);
      names = r.names.0;
      many = omega (arith, many, more);
      slots = length-set c.loop-k.pools c.loop-k.k _ ∙ slots;
      filled = next_filled IsNewPool c.args.self.now.home c.loop-k.self.home c.args.specs.now c.loop-k.pools c.loop-k.k _ c.take_pool-pool.result
          c.put_pool.new.slot inside (omega (arith, slots, few, inside)) i.same.0 i.filled r.pool c.put_pool.ensures;
    }
