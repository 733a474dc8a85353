-- `free`: the pools and their zones stay.
use Rattle.std.proofs.Common.{rules}
use Rattle.layers_tests.proofs.RowLemmas.{over_kept, free_kept}
use Rattle.layers_tests.proofs.tests.mbufs.calls.free.Goals as goal

pub returns : goal.returns
returns g c = record {
  over = over_kept c.args.m.now.store c.free.new.self.store
      (free_kept c.args.m.now.store c.free.new.self.store c.args.p c.free.ensures.packets) c.requires;
  zones = search rules;
}
