-- What clauses see of a capture that is written through a buffer.
use Rattle.std.specs.Prelude.{ℕ, List}
use Rattle.dp_pcap.specs.declared.buffered.Buffered.{Buffered}
use Rattle.dp_pcap.specs.Buffers.{writer_inner}
use Rattle.dp_captures.specs.declared.guarded.Guarded.{Guarded}
use Rattle.dp_captures.specs.Outlets.{joined}

-- the bytes that its file took
abbrev pub file_took : {W : Type 0} → Buffered (Guarded W) → List ℕ
file_took w = joined (writer_inner w).took.pieces
