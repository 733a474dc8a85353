-- `copy`: the pools and their zones stay.
use Rattle.std.proofs.Common.{rules}
use Rattle.layers_tests.proofs.RowLemmas.{over_kept, clone_kept}
use Rattle.layers_tests.proofs.tests.mbufs.calls.copy.Goals as goal

pub returns : goal.returns
returns g c = record {
  over = over_kept c.args.m.now.store c.clone_of.new.self.store
      (clone_kept c.args.m.now.store c.clone_of.new.self.store c.args.p.now c.args.pool _ c.alive.ensures c.clone_of.ensures.packets) c.requires.over;
  zones = search rules;
}
