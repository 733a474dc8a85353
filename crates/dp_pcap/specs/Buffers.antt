-- What a clause reads of a writer with a buffer.
use Rattle.std.specs.Prelude.{ℕ, List, length, take, Option}
use Rattle.std.specs.Io.KnownBytes.{append_known}
use Rattle.dp_pcap.specs.declared.buffered.Buffered.{Buffered}
use Rattle.dp_pcap.specs.declared.pending.Pending.{Pending}

-- the bytes that a buffer holds
abbrev pub pending : Pending → List ℕ
pending p = take p.len p.bytes.items

-- how many bytes it has room for in all
abbrev pub places : Pending → ℕ
places p = length p.bytes.items

-- the bytes of a writer that are still to be written
abbrev pub writer_buffer : {W : Type 0} → Buffered W → List ℕ
writer_buffer w = pending w.pending

-- the size of its buffer
abbrev pub writer_capacity : {W : Type 0} → Buffered W → ℕ
writer_capacity w = places w.pending

-- the writer behind it
abbrev pub writer_inner : {W : Type 0} → Buffered W → W
writer_inner w = w.inner

-- that writer's bytes and then the buffer, where those are known
abbrev pub writer_contents : {W : Type 0} → (W → Option (List ℕ)) → Buffered W → Option (List ℕ)
writer_contents contents w = append_known (contents w.inner) (writer_buffer w)
