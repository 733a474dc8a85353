-- What a drain writes: one record for each packet of a transmit list.
use Rattle.std.specs.Prelude.{◌≡◌, ℕ, ◌+◌, ◌<◌, ◌≤◌, List, ◌++◌, length, map, take, Option, Some, slice_get, flat_map, Result, Ok, Err}
use Rattle.std.specs.Io.KnownBytes.{Appends}
use Rattle.dp_pcap.specs.declared.time.Time.{Time}
use Rattle.dp_pcap.specs.declared.time.Unit.{Unit as TimeUnit}
use Rattle.dp_pcap.specs.Capture as capture
use Rattle.dp_pcap.specs.Text.{record_text}
use Rattle.dp_model.specs.Buffers.{Buffers}
use Rattle.dp_model.specs.Packets.{Packet, packet_bytes}
use Rattle.dp_model.specs.Machine.{World}
use Rattle.dp_model.specs.Runs.{records_at}
use Rattle.dp_engine.specs.Handles.{Core}

-- the record of a packet, as it is written
abbrev pub record_of : TimeUnit → Time → Buffers → Packet → List ℕ
record_of unit time buffers k = record_text unit (record { time = time; bytes = packet_bytes buffers k })

-- this holds of the packet at an index of a transmit list
abbrev pub AtPacket : Core → ℕ → ℕ → (Packet → Type 0) → Type 0
AtPacket core port at P = (packets : List Packet) (packet : Packet) → slice_get core.state.world.outboxes port ≡ Some packets
    → slice_get packets at ≡ Some packet → P packet

-- records of a run as records of a capture
abbrev pub captured : Time × List ℕ → capture.PacketRecord
captured (time, bytes) = record { time = time; bytes = bytes }

-- this holds of what the drain of a port writes at this time
abbrev pub Written : TimeUnit → Time → ℕ → World → (List capture.PacketRecord → Type 0) → Type 0
Written unit time port w P = (records : List (Time × List ℕ)) × (slice_get (records_at time w) port ≡ Some records) × P (map captured records)

-- n records were written whole, and a proper part of the next
pub record WrotePart (old new : Option (List ℕ)) (unit : TimeUnit) (records : List capture.PacketRecord) (sent : ℕ) : Type 0 where
  pub next : capture.PacketRecord
  pub next_is : slice_get records sent ≡ Some next
  pub bytes : ℕ
  pub part : bytes < length (record_text unit next)
  pub wrote : Appends old new (flat_map (record_text unit) (take sent records) ++ take bytes (record_text unit next))

-- how many records were written whole
abbrev pub whole_of : Result ℕ ℕ → ℕ
whole_of (Ok sent) = sent
whole_of (Err sent) = sent

-- a writer was called at most once for each byte of these records
abbrev pub IsCalledFor : ℕ → ℕ → TimeUnit → List capture.PacketRecord → Type 0
IsCalledFor calls calls' unit records = calls' ≤ calls + length (flat_map (record_text unit) records)
