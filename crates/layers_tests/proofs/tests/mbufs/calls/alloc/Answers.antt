-- `alloc`: the pools and their zones stay.
use Rattle.std.proofs.Common.{rules}
use Rattle.layers_tests.proofs.RowLemmas.{over_kept, alloc_kept}
use Rattle.layers_tests.proofs.tests.mbufs.calls.alloc.Goals as goal

pub returns : goal.returns
returns c = record {
  over = over_kept c.args.m.now.store c.alloc.new.self.store
      (alloc_kept c.args.m.now.store c.alloc.new.self.store c.args.pool _ c.alloc.ensures.packets) c.requires.over;
  zones = search rules;
}
