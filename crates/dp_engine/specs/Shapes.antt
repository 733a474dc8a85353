-- What views show of packets.
use Rattle.std.specs.Prelude.{◌≡◌, ℕ, List, length, Some, slice_get}
use Rattle.dp_model.specs.Packets.{Segment, Packet, headroom, tailroom, refs, packet_bytes, segment_bytes}
use Rattle.dp_model.specs.Machine.{live}
use Rattle.dp_engine.specs.declared.view.PacketShape.{PacketShape}
use Rattle.dp_engine.specs.Handles.{Core}

-- the shape of a packet of a machine
pub record IsShapeOf (core : Core) (packet : Packet) (shape : PacketShape) : Type 0 where
  pub segments : shape.segments ≡ length packet
  pub bytes : shape.length ≡ length (packet_bytes core.state.world.buffers packet)
  pub headroom_is : shape.headroom ≡ headroom packet
  pub tailroom_is : shape.tailroom ≡ tailroom core.pools packet

-- the bytes of a packet's segment, and how many segments refer to its buffer
abbrev pub IsSegmentOf : Core → Packet → ℕ → List ℕ → ℕ → Type 0
IsSegmentOf core k index bytes count =
    (s : Segment) × (slice_get k index ≡ Some s) × (bytes ≡ segment_bytes core.state.world.buffers s) × (count ≡ refs (live core.state) s.buffer)

-- this many packets are in the list with this number
abbrev pub AreWaiting : List (List Packet) → ℕ → ℕ → Type 0
AreWaiting lists number count = (packets : List Packet) × (slice_get lists number ≡ Some packets) × (count ≡ length packets)
