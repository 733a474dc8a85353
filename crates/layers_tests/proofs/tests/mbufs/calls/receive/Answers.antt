-- `receive`: the pools and their zones stay.
use Rattle.std.proofs.Common.{rules}
use Rattle.layers_tests.proofs.RowLemmas.{over_kept, receive_kept}
use Rattle.layers_tests.proofs.tests.mbufs.calls.receive.Goals as goal

pub returns : goal.returns
returns g c = record {
  over = over_kept c.args.m.now.store c.receive.new.self.store
      (receive_kept c.args.m.now.store c.receive.new.self.store c.args.pool c.args.bytes.now _ c.receive.ensures.packets) c.requires.over;
  zones = search rules;
}
