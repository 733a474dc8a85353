-- What a burst does: the passes of its frames, one after the other.
use Rattle.std.specs.Prelude.{◌≡◌, ℕ, ◌+◌, List, [], ◌∷◌, map, take, drop, Option}
use Rattle.dp_engine.specs.declared.batch.SentRecord.{SentRecord}
use Rattle.dp_engine.specs.Engines.{EngineState}
use Rattle.dp_host.specs.declared.numbers.Room.{Room}
use Rattle.dp_host.specs.declared.numbers.BurstFrame.{BurstFrame}
use Rattle.dp_host.specs.declared.refusal.Refusal.{Refusal}
use Rattle.dp_host.specs.Hosts.{Arrays, PassAnswers, empty_room}

-- a record whose bytes lie after this many others
abbrev pub shifted : ℕ → SentRecord → SentRecord
shifted before r = record r { offset = r.offset + before }

-- what of the arrays is left beyond a part that is filled
abbrev pub beyond : Room → Arrays → Arrays
beyond part arrays = record { records = drop part.records arrays.records; bytes = drop part.bytes arrays.bytes }

-- two parts of a batch, one after the other
abbrev pub joined : Room → Room → Room
joined before part = record { records = before.records + part.records; bytes = before.bytes + part.bytes }

-- One frame of a burst, with this much of the batch before it, had a pass of its own into what was left of the arrays. It has that pass's answer, and
-- says where its records are; the arrays have what the pass made, each offset counted from the beginning of all bytes. Its bytes and its time are as
-- they were.
pub record FramePassed (old : Option EngineState) (missing : Refusal) (new : Option EngineState) (port : ℕ) (frame frame' : BurstFrame) (before part : Room)
    (had has : Arrays) : Type 0 where
  pub made : Arrays
  pub pass : PassAnswers old missing new port frame.time frame.bytes.now had made part frame'.answer
  pub frame_is : frame' ≡ record frame { first = before.records; records = part.records; answer = frame'.answer }
  pub records_are : take part.records has.records ≡ map (shifted before.bytes) (take part.records made.records)
  pub bytes_are : take part.bytes has.bytes ≡ take part.bytes made.bytes

-- The passes of frames, in order, each into what those before it left of the arrays. With this much of the batch before the first of them, `filled` is
-- what is filled at the end. Beyond that nothing changes.
abbrev pub Bursts : Option EngineState → Refusal → Option EngineState → ℕ → List BurstFrame → List BurstFrame → Room → Arrays → Arrays → Room → Type 0
Bursts old missing new port [] [] before had has filled = (new ≡ old) × (has ≡ had) × (filled ≡ before)
Bursts old missing new port (f ∷ frames) (f' ∷ frames') before had has filled =
    (mid : Option EngineState) × (part : Room) × FramePassed old missing mid port f f' before part had has
    × Bursts mid missing new port frames frames' (joined before part) (beyond part had) (beyond part has) filled
Bursts old missing new port [] (f' ∷ frames') before had has filled = ⊥
Bursts old missing new port (f ∷ frames) [] before had has filled = ⊥

-- what a burst does to an engine, its frames and an empty batch
abbrev pub BurstAnswers : Option EngineState → Refusal → Option EngineState → ℕ → List BurstFrame → List BurstFrame → Arrays → Arrays → Room → Type 0
BurstAnswers old missing new port frames frames' had has filled = Bursts old missing new port frames frames' empty_room had has filled
