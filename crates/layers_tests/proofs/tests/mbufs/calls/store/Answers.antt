-- `store`: the pools and their zones stay.
use Rattle.std.proofs.Common.{ap}
use Rattle.layers_tests.proofs.RowLemmas.{stays_over}
use Rattle.layers_tests.proofs.tests.mbufs.calls.store.Goals as goal

pub returns : goal.returns
returns g c = stays_over _ _ (ap (λ s. s.pools) (c.store.ensures.packets c.sole_head.ensures.0 c.sole_head.ensures.1)) c.store.ensures.zones c.requires
