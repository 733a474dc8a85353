-- `extend`: the pools and their zones stay.
use Rattle.std.proofs.Common.{ap}
use Rattle.layers_tests.proofs.RowLemmas.{stays_over}
use Rattle.layers_tests.proofs.tests.mbufs.calls.extend.Goals as goal

pub returns-in-Front : goal.returns-in-Front
returns-in-Front g c =
    stays_over _ _ (ap (λ s. s.pools) (c.prepend.ensures.packets c.sole_head.ensures.0 c.sole_head.ensures.1)) c.prepend.ensures.zones c.requires

pub returns-in-Back : goal.returns-in-Back
returns-in-Back g c =
    stays_over _ _ (ap (λ s. s.pools) (c.append.ensures.packets c.sole_tail.ensures.0 c.sole_tail.ensures.1)) c.append.ensures.zones c.requires
