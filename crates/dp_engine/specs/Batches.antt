-- What a pass hands out: the records that the ports sent, in order, and how large a batch has to be.
use Rattle.std.specs.Prelude.{◌≡◌, ℕ, ◌+◌, ◌*◌, max, List, [], ◌∷◌, ◌++◌, length, map, take, drop, flat_map, sum_by}
use Rattle.dp_model.specs.declared.env.PoolSpec.{PoolSpec}
use Rattle.dp_model.specs.Environments.{Environment}
use Rattle.dp_model.specs.Buffers.{Buffers}
use Rattle.dp_model.specs.Packets.{Packet, packet_bytes}
use Rattle.dp_model.specs.Machine.{World}
use Rattle.dp_model.specs.Runs.{with_empty_outboxes}
use Rattle.dp_engine.specs.declared.batch.SentRecord.{SentRecord}
use Rattle.dp_engine.specs.declared.batch.BatchSize.{BatchSize}
use Rattle.dp_engine.specs.declared.engine.Turn.{Turn}
use Rattle.dp_engine.specs.declared.report.Tallies.{Tallies}
use Rattle.dp_engine.specs.Engines.{EngineState, TakesTurn}

-- ---- records that were sent

-- a frame that a port sent: the port, and the bytes
abbrev pub Frame : Type 0
Frame = ℕ × List ℕ

-- the frame of a packet in the transmit list of a port
abbrev pub frame_of : ℕ → Buffers → Packet → Frame
frame_of port buffers k = (port, packet_bytes buffers k)

-- the frames of the transmit lists from one port on: port by port, first packet first
abbrev pub frames_from : ℕ → Buffers → List (List Packet) → List Frame
frames_from port buffers [] = []
frames_from port buffers (packets ∷ lists) = map (frame_of port buffers) packets ++ frames_from (port + 1) buffers lists

-- the frames of all transmit lists
abbrev pub frames_in : World → List Frame
frames_in w = frames_from 0 w.buffers w.outboxes

-- ---- batches

-- the bytes of the frames, concatenated
abbrev pub bytes_of_all : List Frame → List ℕ
bytes_of_all frames = flat_map (λ (f : Frame). f.1) frames

-- the records of these frames, the first of which has its bytes at an offset: the time, the offset, the port and the length
abbrev pub records_for : ℕ → ℕ → List Frame → List SentRecord
records_for time offset [] = []
records_for time offset (f ∷ frames) =
    record { time = time; offset = offset; port = f.0; length = length f.1 } ∷ records_for time (offset + length f.1) frames

-- a batch has these frames so far
pub record Holds (time : ℕ) (frames : List Frame) (records : List SentRecord) (bytes : List ℕ) (filled : BatchSize) : Type 0 where
  pub count : filled.records ≡ length frames
  pub size : filled.bytes ≡ length (bytes_of_all frames)
  pub records_are : take filled.records records ≡ records_for time 0 frames
  pub bytes_are : take filled.bytes bytes ≡ bytes_of_all frames

-- the arrays of a batch are changed in what is filled alone
pub record KeepsRest (filled : BatchSize) (records records' : List SentRecord) (bytes bytes' : List ℕ) : Type 0 where
  pub records_rest : drop filled.records records' ≡ drop filled.records records
  pub bytes_rest : drop filled.bytes bytes' ≡ drop filled.bytes bytes

-- ---- the size of a batch

-- the number of all buffers
abbrev pub all_buffers : List PoolSpec → ℕ
all_buffers pools = sum_by (λ (p : PoolSpec). p.count) pools

-- the largest data room
abbrev pub widest : List PoolSpec → ℕ
widest [] = 0
widest (p ∷ pools) = max p.room (widest pools)

-- room for whatever a turn sends: a record for each buffer, each with the largest data room
abbrev pub max_batch : Environment → BatchSize
max_batch env = record { records = all_buffers env.pools; bytes = all_buffers env.pools * widest env.pools }

-- ---- a pass

-- the counts of each port, with this many more records written whole
abbrev pub with_sent : List Tallies → List ℕ → List Tallies
with_sent [] counts = []
with_sent (t ∷ tallies) [] = t ∷ tallies
with_sent (t ∷ tallies) (n ∷ counts) = record t { sent = t.sent + n } ∷ with_sent tallies counts

-- an engine after the drains of all ports, each of which handed out its whole list
abbrev pub all_drained : EngineState → EngineState
all_drained e = record e { world = with_empty_outboxes e.world; tallies = with_sent e.tallies (map length e.world.outboxes) }

-- A pass takes an engine from `old` to `new`: a turn of a port with a record, and then the drains of all ports, whose records the batch has.
pub record Passes (old new : EngineState) (port : ℕ) (bytes : List ℕ) (turn : Turn) (time : ℕ) (records : List SentRecord) (out : List ℕ)
    (filled : BatchSize) : Type 0 where
  pub mid : EngineState
  pub turn_is : TakesTurn old mid port bytes turn
  pub batch : Holds time (frames_in mid.world) records out filled
  pub new_is : new ≡ all_drained mid
