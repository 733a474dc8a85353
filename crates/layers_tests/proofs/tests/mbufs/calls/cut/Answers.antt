-- `cut`: the pools and their zones stay.
use Rattle.std.proofs.Common.{ap}
use Rattle.layers_tests.proofs.RowLemmas.{stays_over}
use Rattle.layers_tests.proofs.tests.mbufs.calls.cut.Goals as goal

pub returns-in-Front : goal.returns-in-Front
returns-in-Front g c =
    stays_over _ _ (ap (λ s. s.pools) (c.adj.ensures.packets c.alive.ensures.0 c.alive.ensures.1)) c.adj.ensures.zones c.requires

pub returns-in-Back : goal.returns-in-Back
returns-in-Back g c =
    stays_over _ _ (ap (λ s. s.pools) (c.trim.ensures.packets c.alive.ensures.0 c.alive.ensures.1)) c.trim.ensures.zones c.requires
