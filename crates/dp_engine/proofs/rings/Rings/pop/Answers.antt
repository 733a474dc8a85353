-- The first entry of a list taken.
use Rattle.std.proofs.Common.{◌∙◌, ap}
use Rattle.std.specs.Prelude.{slice_get}
use Rattle.dp_ring.specs.Rings.{without_first}
use Rattle.dp_engine.proofs.Slots.{listed as ring_listed, has_ring, ring_is, changed, renewed}
use Rattle.dp_engine.proofs.rings.Rings.pop.Goals as goal

pub listed : goal.listed
listed c = (ring_listed _ _ c.self.view_is c.self.invariant.0 _ _ c.from.ensures c.requires).0

pub bounds-self-inside-from : goal.bounds-self-inside-from
bounds-self-inside-from c = (ring_listed _ _ c.self.view_is c.self.invariant.0 _ _ c.from.ensures c.requires).1

pub pop_in-requires : goal.pop_in-requires
pop_in-requires c = has_ring _ _ c.self.view_is c.self.invariant.0 _ _ _ c.from.ensures c.requires

pub invariant_of-self : goal.invariant_of-self
invariant_of-self c =
    renewed _ _ c.self.view_is c.self.invariant.0 _ _ _ _ (λ r. without_first r 1) c.self.inside.count
    c.from.ensures c.requires c.pop_in.ensures.rest c.self.invariant.1

pub returns-clause-first : goal.returns-clause-first
returns-clause-first c =
    c.pop_in.ensures.first ∙ ap (λ r. slice_get r.entries 0) (ring_is _ _ c.self.view_is c.self.invariant.0 _ _ _ c.from.ensures c.requires)

pub returns-clause-rest : goal.returns-clause-rest
returns-clause-rest c =
    (changed _ _ c.self.view_is c.self.invariant.0 _ _ _ _ (λ r. without_first r 1) c.from.ensures c.requires c.pop_in.ensures.rest).1
