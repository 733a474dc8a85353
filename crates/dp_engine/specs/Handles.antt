-- The packets that handles name. Each handle occurs once.
use Rattle.std.specs.Prelude.{ℕ, ◌+◌, ◌==◌, Bool, true, false, List, [], ◌∷◌, ◌++◌, map, Option, Some, None, slice_get}
use Rattle.dp_model.specs.declared.env.PoolSpec.{PoolSpec}
use Rattle.dp_model.specs.Packets.{Packet}
use Rattle.dp_model.specs.Machine.{State}
use Rattle.dp_ring.specs.Rings.{RingView}
use Rattle.dp_pool.specs.Pools.{PoolZones}

abbrev pub held_of : Option (Option Packet) → Packet
held_of (Some (Some k)) = k
held_of (Some None) = []
held_of None = []

-- the packet of a handle
abbrev pub packet_at : List (Option Packet) → ℕ → Packet
packet_at slots h = held_of (slice_get slots h)

abbrev pub register_at : List (Option Packet) → Option ℕ → Option Packet
register_at slots None = None
register_at slots (Some h) = Some (packet_at slots h)

-- the handles in registers
abbrev pub handles_held : List (Option ℕ) → List ℕ
handles_held [] = []
handles_held (None ∷ registers) = handles_held registers
handles_held (Some h ∷ registers) = h ∷ handles_held registers

abbrev pub once : Bool → ℕ
once true = 1
once false = 0

-- the number of times that a handle occurs in a list
abbrev pub occurs : ℕ → List ℕ → ℕ
occurs h [] = 0
occurs h (x ∷ xs) = once (x == h) + occurs h xs

abbrev pub in_slot : Option (Option Packet) → ℕ
in_slot (Some (Some k)) = 1
in_slot (Some None) = 0
in_slot None = 0

-- ---- what waits

-- the handles that wait, in each ring and in each transmit list
pub record Lists : Type 0 where
  pub rings : List (List ℕ)
  pub outboxes : List (List ℕ)

abbrev pub joined : List (List ℕ) → List ℕ
joined [] = []
joined (handles ∷ lists) = handles ++ joined lists

-- all handles that wait
abbrev pub waiting : Lists → List ℕ
waiting lists = joined lists.rings ++ joined lists.outboxes

-- the packets that they name
abbrev pub packets_listed : List (Option Packet) → List (List ℕ) → List (List Packet)
packets_listed slots lists = map (map (packet_at slots)) lists

-- where a machine's packets are: the zones of its pools, and its rings and transmit lists without their entries
pub record Frames : Type 0 where
  pub zones : List PoolZones
  pub rings : List RingView
  pub outboxes : List RingView

abbrev pub without_entries : RingView → RingView
without_entries r = record r { entries = [] }

abbrev pub entries_of : RingView → List ℕ
entries_of r = r.entries

abbrev pub frames_of : List PoolZones → List RingView → List RingView → Frames
frames_of zones rings outboxes = record { zones = zones; rings = map without_entries rings; outboxes = map without_entries outboxes }

abbrev pub lists_of : List RingView → List RingView → Lists
lists_of rings outboxes = record { rings = map entries_of rings; outboxes = map entries_of outboxes }

-- a machine: its pools, its rings and transmit lists without their entries, and a state
pub record Core : Type 0 where
  pub pools : List PoolSpec
  pub frames : Frames
  pub state : State

-- the same machine in another state
abbrev pub moved : State → Core → Core
moved s core = record core { state = s }

-- a register with a handle, if it holds one
abbrev pub register_of : ℕ → Bool → Option ℕ
register_of h true = Some h
register_of h false = None
