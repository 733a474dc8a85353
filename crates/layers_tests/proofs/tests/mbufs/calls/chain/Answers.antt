-- `chain`: the pools and their zones stay.
use Rattle.std.proofs.Common.{rules}
use Rattle.layers_tests.proofs.RowLemmas.{over_kept, chain_kept}
use Rattle.layers_tests.proofs.tests.mbufs.calls.chain.Goals as goal

pub returns : goal.returns
returns g c = record {
  over = over_kept c.args.m.now.store c.chain.new.self.store
      (chain_kept c.args.m.now.store c.chain.new.self.store c.args.head.now c.args.tail c.alive.ensures c.alive-2.ensures c.chain.ensures.packets) c.requires;
  zones = search rules;
}
