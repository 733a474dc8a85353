-- Internal: packets that a store gives are live.
use Rattle.std.proofs.Common.{ℕ, List, Some, None, ◌∙◌, ap}
use Rattle.std.specs.Prelude.{slice_get}
use Rattle.dp_model.specs.Buffers.{Number, Buffers, ChangesOnly}
use Rattle.dp_model.specs.Packets.{Packet, allocated}
use Rattle.dp_model.specs.Stores.{Store, IsLive, Gives, Allocates}
use Rattle.dp_model.specs.Laws.Lists.{get_set_same}

-- whatever is given is live
pub given_live : (s s' : Store) (pool need h : ℕ) (packet : List Number → Packet) (Changes : List Number → Buffers → Buffers → Type 0)
    → Gives s pool need packet Changes s' (Some h) → IsLive s' h
given_live s s' pool need h packet Changes g =
    (packet g.2, ap (λ (x : Store). slice_get x.slots h) g.6 ∙ get_set_same s.slots h (Some (packet g.2)) None g.1, tt)

-- so is what is allocated
pub alloc_live : (s s' : Store) (pool h : ℕ) → Allocates s pool s' (Some h) → IsLive s' h
alloc_live s s' pool h g = given_live s s' pool 1 h (allocated s.pools) ChangesOnly g
